-- Tables that aren't short (refusal 1), column by column.
-- Assumes nothing.
use Prim.Native.Nat.{ℕ, ◌≤◌}
use mathlib.Core.Path.{◌≡◌}
use mathlib.Core.Bool.{Bool, false}
use mathlib.Core.List.{List, [], ◌∷◌}
use lib.Dec.{ltb}
use lib.ListN.{length}
use borrow.Author.Tests.{le-ltb}
use Rattle.words.specs.Numbers.{station_count, series_count, place_count, received_count}
use Rattle.words.specs.Tests.{◌or◌}
use Rattle.copies.specs.Tables.{Copies, short_copies}
pub use Rattle.copies.specs.Tally.{Long}
use Rattle.words.proofs.Guards.{all_long}

-- no column before is short, nor is this one
none_short : (short : Bool) (l : List ℕ) (size : ℕ) → short ≡ false → size ≤ length l → (short or ltb (length l) size) ≡ false
unfolding ◌or◌
none_short short l size e h = rw e (le-ltb (length l) size h)

-- tables that aren't short have all sizes
pub long : {t : Copies} → short_copies t ≡ false → Long t
unfolding short_copies ◌or◌
long {t} e =
    let l = all_long (series_count, _) ((series_count, _) ∷ (place_count, _) ∷ (place_count, _) ∷ (place_count, _) ∷ (place_count, _) ∷ (place_count, _) ∷ (place_count, _) ∷ (received_count, _) ∷ (station_count, _) ∷ []) e in
    record {
      firsts = l.0;
      lasts = l.1.0;
      kinds = l.1.1.0;
      values = l.1.1.1.0;
      sent = l.1.1.1.1.0;
      rel_to = l.1.1.1.1.1.0;
      rel_kind = l.1.1.1.1.1.1.0;
      rel_value = l.1.1.1.1.1.1.1.0;
      received = l.1.1.1.1.1.1.1.1.0;
      up = l.1.1.1.1.1.1.1.1.1;
    }

-- tables with all sizes aren't short
pub long_short : {t : Copies} → Long t → short_copies t ≡ false
unfolding short_copies
long_short {t} h =
    let f = le-ltb (length t.firsts) series_count h.firsts in
    let l = none_short _ t.lasts series_count f h.lasts in
    let k = none_short _ t.kinds place_count l h.kinds in
    let v = none_short _ t.values place_count k h.values in
    let n = none_short _ t.sent place_count v h.sent in
    let rt = none_short _ t.rel_to place_count n h.rel_to in
    let rk = none_short _ t.rel_kind place_count rt h.rel_kind in
    let rv = none_short _ t.rel_value place_count rk h.rel_value in
    let g = none_short _ t.received received_count rv h.received in
    none_short _ t.up station_count g h.up
