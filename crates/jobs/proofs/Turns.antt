-- What the proofs of the loops share: no turn yet, and one turn more. Assumes nothing.
use Prim.Native.Nat.{ℕ, ◌+◌}
use native.Mathlib.Numerals.{add-one}
use mathlib.Core.Path.{◌≡◌, refl}
use mathlib.Core.Bool.{Bool, not, ◌&&◌, ◌||◌}
use Rattle.words.specs.Tests.{◌and◌, ◌or◌, ◌⇒◌, all_below, some_below}
use Rattle.words.proofs.Laws.{all_none, some_none}

-- all, with one number more
pub all_more : (n : ℕ) (f : ℕ → Bool) → all_below (n + 1) f ≡ (all_below n f && f n)
unfolding all_below ◌and◌
all_more n f = rw add-one

-- some, with one number more
pub some_more : (n : ℕ) (f : ℕ → Bool) → some_below (n + 1) f ≡ (some_below n f || f n)
unfolding some_below ◌or◌
some_more n f = rw add-one

-- where a holds, so does b: a flag of the two
pub if_is : (a b : Bool) → (a ⇒ b) ≡ (not a || b)
unfolding ◌⇒◌
if_is a b = refl

-- a flag that is the test of the numbers so far
pub ruleset turns = (all_none, all_more, some_none, some_more)
