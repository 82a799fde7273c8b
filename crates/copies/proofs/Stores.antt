-- Columns and stores: which places differ, a whole row stored, a column's length, and what stands past its stated size.
-- Assumes nothing.
use Prim.Native.Nat.{ℕ, zero, suc, ◌+◌, ◌≤◌, ◌<◌}
use native.Mathlib.Decide.{ℕ_discrete}
use native.Mathlib.Omega.{arith}
use mathlib.Core.Path.{◌≡◌, refl, ◌∙◌}
use mathlib.Core.Logic.{◌≢◌, dite}
use mathlib.Core.List.{List, [], ◌∷◌}
use lib.ListN.{get_or, set, length, length-set, replicate}
use lib.Seq.{sets, get_or-set_same, get_or-set_other, length-sets, lt-length-set, lt-length-sets}
use Rattle.words.specs.Numbers.{station_count}
use Rattle.copies.specs.Tables.{place, received_place}

-- ---- places
-- places of different series or stations differ
pub place_same : {s k i n : ℕ} → k < station_count → n < station_count → place i n ≡ place s k → (i ≡ s) × (n ≡ k)
place_same hk hn e = (omega arith, omega arith)

-- and so do those of received numbers, by sender too
pub received_same : {s k f i n m : ℕ} → k < station_count → f < station_count → n < station_count → m < station_count
    → received_place i n m ≡ received_place s k f → (i ≡ s) × (n ≡ k) × (m ≡ f)
received_same hk hf hn hm e =
    let low = place_same hf hm e in
    let high = place_same hk hn low.0 in
    (high.0, high.1, low.1)

-- ---- a row of entries
-- a run of stores leaves what lies outside of it
sets_outside : (vs l : List ℕ) (i j : ℕ) → (i ≤ j → j < i + length vs → ⊥) → get_or (sets l i vs) j 0 ≡ get_or l j 0
sets_outside [] l i j out = refl
sets_outside (a ∷ vs) l i j out =
    sets_outside vs (set l i a) (suc i) j (λ le lt. out (omega arith) (omega arith))
    ∙ get_or-set_other l i j a 0 (λ e. out (omega arith) (omega arith))

-- a run of c stores of v makes each entry in it v
sets_inside : (c : ℕ) (l : List ℕ) (i j v : ℕ) → i ≤ j → j < i + c → j < length l → get_or (sets l i (replicate c v)) j 0 ≡ v
sets_inside zero l i j v le lt h = absurd (omega arith)
sets_inside (suc c) l i j v le lt h =
    dite (ℕ_discrete j i)
    (λ e. sets_outside (replicate c v) (set l i v) (suc i) j (λ more _. omega arith) ∙ rw e (get_or-set_same l i v 0 (omega arith)))
    (λ ne. sets_inside c (set l i v) (suc i) j v (omega arith) (omega arith) (lt-length-set l i v h))

-- the column with v for all stations of series s
abbrev pub with_row : List ℕ → ℕ → ℕ → List ℕ
with_row l s v = sets l (place s 0) (replicate station_count v)

module _ (l : List ℕ) (s v : ℕ) where
  -- each station's entry of the series is v
  pub row_station : {n : ℕ} → n < station_count → place s n < length l → get_or (with_row l s v) (place s n) 0 ≡ v
  row_station {n} hn h = sets_inside station_count l (place s 0) (place s n) v (omega arith) (omega arith) h

  -- the entries of other series stay
  pub row_series : {i n : ℕ} → n < station_count → i ≢ s → get_or (with_row l s v) (place i n) 0 ≡ get_or l (place i n) 0
  row_series {i} {n} hn ne =
      sets_outside (replicate station_count v) l (place s 0) (place i n) (λ le lt. ne (omega arith))

-- the same with w for station n
abbrev pub with_row_but : List ℕ → ℕ → ℕ → ℕ → ℕ → List ℕ
with_row_but l s v n w = set (with_row l s v) (place s n) w

module _ (l : List ℕ) (s v n w : ℕ) where
  -- the station's entry is w
  pub row_but_same : place s n < length l → get_or (with_row_but l s v n w) (place s n) 0 ≡ w
  row_but_same h =
      get_or-set_same (with_row l s v) (place s n) w 0 (lt-length-sets l (place s 0) (replicate station_count v) h)

  -- those of the other stations are v
  pub row_but_station : {m : ℕ} → m < station_count → place s m < length l → m ≢ n → get_or (with_row_but l s v n w) (place s m) 0 ≡ v
  row_but_station {m} hm h ne =
      get_or-set_other (with_row l s v) (place s n) (place s m) w 0 (λ e. ne (omega arith)) ∙ row_station l s v hm h

  -- the entries of other series stay
  pub row_but_series : {i m : ℕ} → n < station_count → m < station_count → i ≢ s → get_or (with_row_but l s v n w) (place i m) 0 ≡ get_or l (place i m) 0
  row_but_series {i} {m} hn hm ne =
      get_or-set_other (with_row l s v) (place s n) (place i m) w 0 (λ e. ne (place_same hn hm e).0) ∙ row_series l s v hm ne

-- ---- length, and what stands past the stated size
-- Column l' is as long as l, and differs from it at most below the size.
pub record OnlyBelow (size : ℕ) (l l' : List ℕ) : Type 0 where
  pub same_length : length l' ≡ length l
  pub extra : (j : ℕ) → size ≤ j → get_or l' j 0 ≡ get_or l j 0

-- a column that isn't stored to
pub only_none : {size : ℕ} {l : List ℕ} → OnlyBelow size l l
only_none = record { same_length = refl; extra = λ j h. refl }

-- a store below the size
pub only_set : {size i : ℕ} (l : List ℕ) (v : ℕ) → i < size → OnlyBelow size l (set l i v)
only_set {size} {i} l v lt =
    record { same_length = length-set l i v; extra = λ j h. get_or-set_other l i j v 0 (λ e. omega arith) }

-- a row within the size
pub only_row : {size : ℕ} (l : List ℕ) (s v : ℕ) → place s station_count ≤ size → OnlyBelow size l (with_row l s v)
only_row {size} l s v le =
    record {
      same_length = length-sets l (place s 0) (replicate station_count v);
      extra = λ j h. sets_outside (replicate station_count v) l (place s 0) j (λ _ lt. omega arith);
    }

-- one change after another
pub only_then : {size : ℕ} {l l' l'' : List ℕ} → OnlyBelow size l l' → OnlyBelow size l' l'' → OnlyBelow size l l''
only_then p q = record { same_length = q.same_length ∙ p.same_length; extra = λ j h. q.extra j h ∙ p.extra j h }
