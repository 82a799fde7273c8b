-- The first slots of a row stored over those of another, one by one, as a loop does: a store more is a slot more, and at the end the first slots are
-- the row's and the others stay. Assumes nothing.
use mathlib.Core.Path.{◌≡◌, sym, ◌∙◌, ap}
use Prim.Native.Nat.{ℕ, suc, ◌≤◌, ◌<◌, ◌+◌}
use native.Mathlib.Omega.{arith}
use native.Mathlib.Nat.{add-zero, add-suc, suc-add, zero-add}
use mathlib.Core.List.{List, [], ◌∷◌, ◌++◌}
use lib.ListN.{length, get_or, set, take, drop}
use lib.Seq.{sets, sets-eq, take-suc, length-take-le}

module _ {A : Type 0} where
  -- the slots of `to` after the first n of `from` are stored there
  abbrev pub moved : List A → List A → ℕ → List A
  moved from to n = sets to 0 (take n from)

  -- one store more
  sets_more : (vs l : List A) (i : ℕ) (a : A) → set (sets l i vs) (i + length vs) a ≡ sets l i (vs ++ (a ∷ []))
  sets_more [] l i a = ap (λ (j : ℕ). set l j a) (add-zero i)
  sets_more (v ∷ vs) l i a =
      ap (λ (j : ℕ). set (sets (set l i v) (suc i) vs) j a) (add-suc i (length vs) ∙ sym (suc-add i (length vs))) ∙ sets_more vs (set l i v) (suc i) a

  -- a turn of the loop
  pub moved_next : (d : A) (from to : List A) (n : ℕ) → n < length from → set (moved from to n) n (get_or from n d) ≡ moved from to (suc n)
  moved_next d from to n h =
      ap (λ (j : ℕ). set (moved from to n) j (get_or from n d)) (sym (zero-add (length (take n from)) ∙ length-take-le n from (omega arith)))
      ∙ sets_more (take n from) to 0 (get_or from n d) ∙ ap (sets to 0) (sym (take-suc from n d h))

  -- the end of the loop
  pub moved_all : (from to : List A) (n : ℕ) → n ≤ length from → n ≤ length to → moved from to n ≡ take n from ++ drop n to
  moved_all from to n h g =
      sets-eq (take n from) to 0 (rw here g) ∙ ap (λ (j : ℕ). take n from ++ drop j to) here
    where
      here : 0 + length (take n from) ≡ n
      here = zero-add (length (take n from)) ∙ length-take-le n from h
