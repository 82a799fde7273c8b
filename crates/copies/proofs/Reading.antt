-- What the reading calls return at each way out, and the bits of a station set. Assumes nothing.
use Prim.Native.Nat.{ℕ, ◌+◌, ◌*◌, ◌^◌, ◌≤◌, ◌<◌}
use native.Mathlib.Nat.{pow-suc, pow-le-pow_right}
use native.Mathlib.Numerals.{add-one}
use native.Mathlib.Omega.{arith}
use mathlib.Core.Path.{◌≡◌, refl, ap, ◌∙◌}
use mathlib.Core.Bool.{Bool, true, false, not, ◌||◌}
use mathlib.Core.List.{List}
use lib.Dec.{eqb, leb}
use borrow.Author.Tests.{lt-ltb, le-ltb, lt-leb}
use lib.ListN.{get_or, length}
use Rattle.std.proofs.lemmas.List.{get_or-take, get_or-drop}
use Rattle.words.specs.Numbers.{station_count, series_count, place_count}
use Rattle.words.specs.Tests.{non, ◌or◌, sum_below, some_below}
use Rattle.words.proofs.Laws.{or_true, some_none, some_end}
use Rattle.copies.proofs.Guards.{and_is, chain}
use Rattle.copies.specs.Tables.{Copies, series_at, place, is_open, is_up, kind, value}
use Rattle.copies.specs.Steps.{is_beyond}
use Rattle.copies.specs.Calls.{read, bad_copy, beyond}

module _ (size : ℕ) (column : List ℕ) (bad : Bool) (at : ℕ) where
  -- the column is short
  pub read_short : length column < size → 0 ≡ read size column bad at
  unfolding read ◌or◌
  read_short l = rw (lt-ltb _ _ l)

  -- the place is none of the table's
  pub read_bad : bad ≡ true → 0 ≡ read size column bad at
  unfolding read
  read_bad e = rw (e, or_true)

  -- the entry
  pub read_at : size ≤ length column → bad ≡ false → get_or column at 0 ≡ read size column bad at
  unfolding read ◌or◌
  read_at l e = rw (le-ltb _ _ l, e)

-- each way out of a reading call
pub ruleset ways = (read_short, read_bad, read_at, chain)

-- ---- what the reading calls say of a series and a station that there are, where no column is short
-- whether a series is open
pub read_open : (t : Copies) (s : ℕ) (r : Bool) → series_count ≤ length t.firsts → s < series_count → r ≡ non (eqb (read series_count t.firsts (leb series_count s) s) 0) → r ≡ is_open (series_at t s)
read_open t s r l h e = rw (read_at series_count t.firsts (leb series_count s) s l (lt-leb _ _ h)) e

-- whether a station is up
pub read_up : (t : Copies) (n : ℕ) (r : Bool) → station_count ≤ length t.up → n < station_count → r ≡ eqb (read station_count t.up (leb station_count n) n) 1 → r ≡ is_up t n
read_up t n r l h e = rw (read_at station_count t.up (leb station_count n) n l (lt-leb _ _ h)) e

-- there is such a copy: no refusal 3
pub copy_good : (s n : ℕ) → s < series_count → n < station_count → bad_copy s n ≡ false
unfolding bad_copy ◌or◌
copy_good s n h k = rw (lt-leb _ _ h, lt-leb _ _ k)

module _ (t : Copies) (s n : ℕ) (series : s < series_count) (station : n < station_count) where
  -- its kind
  pub read_kind : (r : ℕ) → place_count ≤ length t.kinds → r ≡ read place_count t.kinds (bad_copy s n) (place s n) → r ≡ kind (series_at t s) n
  read_kind r l e = rw (read_at place_count t.kinds (bad_copy s n) (place s n) l (copy_good s n series station)) e

  -- its value
  pub read_value : (r : ℕ) → place_count ≤ length t.values → r ≡ read place_count t.values (bad_copy s n) (place s n) → r ≡ value (series_at t s) n
  read_value r l e = rw (read_at place_count t.values (bad_copy s n) (place s n) l (copy_good s n series station)) e

  -- whether a count goes beyond what is left of it
  pub read_beyond : (r : Bool) (count : ℕ) → series_count ≤ length t.lasts → place_count ≤ length t.values → r ≡ beyond t.lasts t.values s n count → r ≡ is_beyond (series_at t s) n count
  unfolding beyond ◌or◌
  read_beyond r count l m e = rw (le-ltb _ _ l, le-ltb _ _ m, copy_good s n series station) at e

-- ---- sums and bits
-- a `not` of a test is the flag of it
pub non_is : (a : Bool) → non a ≡ not a
unfolding non
non_is a = refl

-- no turn yet
pub sum_none : (f : ℕ → ℕ) → sum_below 0 f ≡ 0
unfolding sum_below
sum_none f = refl

-- one turn more
pub sum_more : (f : ℕ → ℕ) (n : ℕ) → sum_below (n + 1) f ≡ sum_below n f + f n
unfolding sum_below
sum_more f n = rw (add-one n)

-- the same, of a search for one that holds
pub some_more : (f : ℕ → Bool) (n : ℕ) → some_below (n + 1) f ≡ (some_below n f || f n)
unfolding some_below ◌or◌
some_more f n = rw (add-one n)

-- a turn more of a sum, or of a search, over a part of a column
pub ruleset sum_part = (sum_none, sum_more, get_or-take, get_or-drop)

pub ruleset some_part = (some_none, some_more, some_end, and_is, non_is, get_or-take, get_or-drop)

-- the next station's bit
pub bit_more : (n : ℕ) → 2 ^ (n + 1) ≡ 2 ^ n * 2
bit_more n = rw (add-one n) (pow-suc 2 n)

-- the bit of a station fits a byte
pub bit_small : (n : ℕ) → n < 8 → 2 ^ n ≤ 128
bit_small n l = let few : n ≤ 7 = omega arith in pow-le-pow_right (omega arith) few

-- and past the last station a byte is full
pub bit_end : (n bit : ℕ) → bit ≡ 2 ^ n → n ≤ 8 → 8 ≤ n → bit ≡ 256
bit_end n bit p l m = let same : n ≡ 8 = omega arith in p ∙ ap (λ (k : ℕ). 2 ^ k) same
