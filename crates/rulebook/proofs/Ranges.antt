-- The fields of an event that refusal 3 lets pass hold what they can hold, whatever the kind; a field that it doesn't have has 0.
-- Assumes nothing.
use Prim.Native.Nat.{ℕ, zero, suc, ◌≤◌}
use mathlib.Core.Path.{◌≡◌, refl, sym}
use mathlib.Core.Bool.{Bool, true, false, cond, ◌||◌, true≢false}
use mathlib.Core.List.{List, [], ◌∷◌}
use lib.Dec.{eqb}
use lib.ListN.{get_or}
use borrow.Author.Tests.{eqb-true, leb-true}
use Rattle.words.specs.Tests.{◌and◌}
use Rattle.words.proofs.Laws.{both_true}
use Rattle.rulebook.specs.declared.Event.{Event}
use Rattle.rulebook.specs.Events.{Field, field_table, fields_of, numbers, is_among, number_in, has, the, fit}

-- the number is one that the field can hold
abbrev pub InRange : Field → ℕ → Type 0
InRange x v = (x.least ≤ v) × (v ≤ x.greatest)

-- ---- fields of one name
-- of the fields in the list, those with the name of x have its bounds
abbrev same_bounds : Field → List Field → Bool
same_bounds x [] = true
same_bounds x (f ∷ fs) =
    cond (eqb x.name f.name) (eqb f.least x.least and eqb f.greatest x.greatest) true and same_bounds x fs

-- and in each list of the table
abbrev pub same_in_table : Field → List (List Field) → Bool
same_in_table x [] = true
same_in_table x (fs ∷ rest) = same_bounds x fs and same_in_table x rest

-- so of any kind's
same_of_kind : (x : Field) (rows : List (List Field)) (k : ℕ) → same_in_table x rows ≡ true → same_bounds x (get_or rows k []) ≡ true
same_of_kind x [] k e = refl
same_of_kind x (fs ∷ rest) zero e = (both_true _ _ e).0
same_of_kind x (fs ∷ rest) (suc k) e = same_of_kind x rest k (both_true _ _ e).1

-- ---- a field that is among those of a kind
-- the number in the first field, where it is the one that is asked for, or in a later one
found : (x f : Field) (v rest : ℕ) (named later : Bool)
    → cond named (eqb f.least x.least and eqb f.greatest x.greatest) true ≡ true
    → InRange f v
    → (named || later) ≡ true
    → (later ≡ true → InRange x rest)
    → InRange x (cond named v rest)
found x f v rest true later same w e h =
    let two = both_true _ _ same in
    let low = eqb-true f.least x.least two.0 in
    let high = eqb-true f.greatest x.greatest two.1 in
    (rw (← low) w.0, rw (← high) w.1)
found x f v rest false later same w e h = h e

-- the number in the field is one that it can hold
in_range_lem : (x : Field) (fs : List Field) (vs : List ℕ) → same_bounds x fs ≡ true → is_among x fs ≡ true → fit fs vs ≡ true
    → InRange x (number_in x fs vs)
in_range_lem x [] vs same e h = absurd (true≢false (sym e))
in_range_lem x (f ∷ fs) [] same e h = absurd (true≢false (sym h))
in_range_lem x (f ∷ fs) (v ∷ vs) same e h =
    let own = both_true _ _ same in
    let all = both_true _ _ h in
    let two = both_true _ _ all.0 in
    found x f v (number_in x fs vs) (eqb x.name f.name) (is_among x fs) own.0 (leb-true _ _ two.0, leb-true _ _ two.1) e
    (λ l. in_range_lem x fs vs own.1 l all.1)

-- ---- a field that isn't among those of a kind
-- not the first, and not a later one
absent : (named later : Bool) (v rest : ℕ) → (named || later) ≡ false → (later ≡ false → rest ≡ 0) → cond named v rest ≡ 0
absent true later v rest e h = absurd (true≢false e)
absent false later v rest e h = h e

-- the number in it is 0
none_in : (x : Field) (fs : List Field) (vs : List ℕ) → is_among x fs ≡ false → number_in x fs vs ≡ 0
none_in x [] vs e = refl
none_in x (f ∷ fs) [] e = refl
none_in x (f ∷ fs) (v ∷ vs) e = absent (eqb x.name f.name) (is_among x fs) v (number_in x fs vs) e (none_in x fs vs)

-- ---- the fields of an event
-- a field that the event has, of a name that stands in the table for one field only
pub field_range : (x : Field) (e : Event) → same_in_table x field_table ≡ true → has x e ≡ true → fit (fields_of e.kind) (numbers e) ≡ true
    → InRange x (the x e)
field_range x e same h good = in_range_lem x (fields_of e.kind) (numbers e) (same_of_kind x field_table e.kind same) h good

-- the number in a field that the event doesn't have
pub field_absent : (x : Field) (e : Event) → has x e ≡ false → the x e ≡ 0
field_absent x e h = none_in x (fields_of e.kind) (numbers e) h
