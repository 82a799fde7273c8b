-- W5 of a series that isn't open, row by row: each column's row of the series is zero.
-- Assumes nothing.
use Prim.Native.Nat.{ℕ, ◌+◌, ◌*◌, ◌-◌, ◌≤◌, ◌<◌}
use native.Mathlib.Omega.{arith}
use mathlib.Core.Path.{◌≡◌, refl, ap, ◌∙◌}
use mathlib.Core.Bool.{Bool, ◌&&◌}
use mathlib.Core.List.{List}
use lib.Dec.{eqb}
use lib.ListN.{get_or, length, take, drop}
use Rattle.std.proofs.lemmas.List.{get_or-take, get_or-drop, length-take-le, length-drop}
use Rattle.words.specs.Numbers.{station_count, series_count}
use Rattle.words.specs.Tests.{◌and◌, all_below}
use Rattle.words.proofs.Laws.{all_and, all_rows}
use Rattle.words.proofs.Changed.{all_same}
use Rattle.copies.specs.Tables.{Copies, series_at, received_place}
use Rattle.copies.specs.Tally.{Long}
use Rattle.copies.specs.Whole.{W5_kept, W5_received, W5_closed}

-- so many entries of a column are 0, from one on
abbrev zeros : List ℕ → (from count : ℕ) → Bool
zeros l from count = all_below count (λ i. eqb (get_or l (from + i) 0) 0)

-- the row of series s, of a column with an entry for each place
abbrev row : List ℕ → ℕ → Bool
row l s = zeros l (s * station_count) station_count

-- the same of the part of a column from one place to another, as the code cuts it
abbrev part_zeros : List ℕ → (from end : ℕ) → Bool
part_zeros l from end =
    all_below (length (take (end - from) (drop from l))) (λ i. eqb (get_or (take (end - from) (drop from l)) i 0) 0)

part_is : (l : List ℕ) (from end count : ℕ) → from + count ≡ end → end ≤ length l → part_zeros l from end ≡ zeros l from count
part_is l from end count e fits =
    let size : end - from ≡ count = omega arith in
    let long : length (take count (drop from l)) ≡ count = length-take-le count (drop from l) (omega (arith, length-drop {A = ℕ})) in
    rw (size, long)
    (all_same count _ _ (λ i below. ap (λ (x : ℕ). eqb x 0) (get_or-take count (drop from l) i 0 below ∙ get_or-drop from l i 0)))

module _ (t : Copies) (s : ℕ) where
  -- its received numbers, as one row of 64
  received_rows : zeros t.received (s * station_count * station_count) (station_count * station_count) ≡ all_below station_count (W5_received (series_at t s))
  unfolding W5_received
  received_rows =
      let place_is : (n m : ℕ) → s * 8 * 8 + (n * 8 + m) ≡ received_place s n m = λ n m. omega arith in
      all_rows station_count station_count (λ i. eqb (get_or t.received (s * station_count * station_count + i) 0) 0)
      ∙ (λ x. all_below station_count (λ n. all_below station_count (λ m. eqb (get_or t.received (place_is n m x) 0) 0)))

  -- what its stations keep, column by column
  kept_rows : all_below station_count (λ n. W5_kept ((series_at t s).kept n)) ≡ (row t.kinds s and row t.values s and row t.sent s and row t.rel_to s and row t.rel_kind s and row t.rel_value s)
  unfolding W5_kept
  kept_rows = simp all_and

  -- its last number and the rows, one after the other, are W5's test of a series that isn't open
  pub closed_rows : (q a b c d e f g : Bool) → a ≡ row t.kinds s → b ≡ row t.values s → c ≡ row t.sent s → d ≡ row t.rel_to s → e ≡ row t.rel_kind s → f ≡ row t.rel_value s → g ≡ zeros t.received (s * station_count * station_count) (station_count * station_count) → q ≡ (eqb (get_or t.lasts s 0) 0 && (a && b && c && d && e && f && g)) → q ≡ W5_closed (series_at t s)
  unfolding W5_closed ◌and◌
  closed_rows q a b c d e f g pa pb pc pd pe pf pg is =
      rw (all_and station_count (λ n. W5_kept ((series_at t s).kept n)) (W5_received (series_at t s)), kept_rows, ← received_rows, ← pa, ← pb, ← pc, ← pd, ← pe, ← pf, ← pg) is

  module _ (h : Long t) (hs : s < series_count) where
    -- a row of a column that is long enough, as the code cuts it
    row_is : (l : List ℕ) → series_count * station_count ≤ length l → part_zeros l (s * station_count) (s * station_count + station_count) ≡ row l s
    row_is l fits = part_is l (s * station_count) (s * station_count + station_count) station_count refl (omega arith)

    -- the same of the parts that the code cuts
    pub closed_parts : (q a b c d e f g : Bool) → a ≡ part_zeros t.kinds (s * station_count) (s * station_count + station_count) → b ≡ part_zeros t.values (s * station_count) (s * station_count + station_count) → c ≡ part_zeros t.sent (s * station_count) (s * station_count + station_count) → d ≡ part_zeros t.rel_to (s * station_count) (s * station_count + station_count) → e ≡ part_zeros t.rel_kind (s * station_count) (s * station_count + station_count) → f ≡ part_zeros t.rel_value (s * station_count) (s * station_count + station_count) → g ≡ part_zeros t.received (s * station_count * station_count) ((s * station_count + station_count) * station_count) → q ≡ (eqb (get_or t.lasts s 0) 0 && (a && b && c && d && e && f && g)) → q ≡ W5_closed (series_at t s)
    closed_parts q a b c d e f g pa pb pc pd pe pf pg is =
        let received = part_is t.received (s * station_count * station_count) ((s * station_count + station_count) * station_count) (station_count * station_count) (omega arith) (omega (arith, h.received)) in
        closed_rows q a b c d e f g (pa ∙ row_is t.kinds h.kinds) (pb ∙ row_is t.values h.values) (pc ∙ row_is t.sent h.sent) (pd ∙ row_is t.rel_to h.rel_to) (pe ∙ row_is t.rel_kind h.rel_kind) (pf ∙ row_is t.rel_value h.rel_value) (pg ∙ received) is
