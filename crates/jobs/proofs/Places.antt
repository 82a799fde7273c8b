-- Laws about a job's lock places. Assumes nothing.
use Prim.Native.Nat.{ℕ}
use native.Mathlib.Omega.{arith}
use mathlib.Core.Path.{◌≡◌, refl, sym, ap, ◌∙◌}
use mathlib.Core.Bool.{Bool, true, cond}
use mathlib.Core.List.{List, map, ◌∷◌}
use lib.Dec.{eqb, ltb}
use lib.ListN.{get_or, length, length-map}
use borrow.Author.Tests.{eq-eqb}
use Rattle.words.specs.Numbers.{lock_count}
use Rattle.std.specs.Prelude.{Option}
use Rattle.std.specs.List.{position, position_or_len}
use Rattle.std.proofs.lemmas.List.Recursion.{is_position_or_len}
use Rattle.words.specs.Tests.{non, least_below}
use Rattle.words.proofs.Laws.{least_front, some_least, some_non}
use Rattle.jobs.specs.declared.Lock.{Lock}
use Rattle.jobs.specs.declared.Job.{Job}
use Rattle.jobs.specs.Job.{no_lock, locks_series, lock_place, is_full, new_place, place_found}

-- a place of mode 0 is unused
pub unused_place : (mode : ℕ) → mode ≡ 0 → non (non (eqb mode 0)) ≡ true
unfolding non
unused_place mode e = rw (eq-eqb mode 0 e)

-- what owning an array of records tells of its length: `search length_mapped` finds it where a job is a parameter
pub length_mapped : {X Y : Type 0} (f : X → Y) (l : List X) (n : ℕ) → length (map f l) ≡ n → length l ≡ n
length_mapped f l n e = sym (length-map l f) ∙ e

-- ---- a place that is looked for
module _ (p : Lock → Bool) where
  -- the least place that passes, as std has it
  least_is : (ls : List Lock) → least_below (length ls) (λ i. p (get_or ls i no_lock)) ≡ position_or_len p ls
  unfolding least_below
  least_is =
      is_position_or_len (λ (ls : List Lock). least_below (length ls) (λ i. p (get_or ls i no_lock))) p refl
      (λ l ls. least_front (length ls) (λ i. p (get_or (l ∷ ls) i no_lock)) ∙ ap (cond (p l) 0) (omega arith))

  -- and so what a look for it finds
  pub found : (ls : List Lock) (r : Option ℕ) → length ls ≡ lock_count → r ≡ position p ls → r ≡ place_found (least_below lock_count (λ i. p (get_or ls i no_lock)))
  found ls r own e = rw (← own, least_is ls) e

-- a place is found where some locks the series
pub found_lock : (b : Job) (s : ℕ) → ltb (lock_place b s) lock_count ≡ locks_series b s
unfolding lock_place locks_series
found_lock b s = some_least lock_count _ _ refl

-- and where not all are used
pub found_new : (b : Job) → ltb (new_place b) lock_count ≡ non (is_full b)
unfolding new_place is_full
found_new b = some_least lock_count _ _ refl ∙ some_non lock_count _

-- whether a place is found
pub ruleset places = (found_lock, found_new)
