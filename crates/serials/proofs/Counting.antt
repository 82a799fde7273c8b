-- W2's count of tokens: what one station adds to it, how it changes with one station, and what it tells.
-- Assumes nothing.
use Prim.Native.Nat.{ℕ, zero, suc, ◌+◌, ◌≤◌, ◌<◌}
use native.Mathlib.Omega.{arith}
use mathlib.Core.Path.{◌≡◌, refl}
use mathlib.Core.Logic.{◌≢◌}
use mathlib.Core.Bool.{Bool, true, false}
use lib.Dec.{eqb}
use borrow.Author.Tests.{eq-eqb, ne_eqb}
use Rattle.words.specs.Numbers.{station_count}
use Rattle.words.specs.Tests.{◌and◌, one_if, sum_below}
use Rattle.words.proofs.Changed.{sum_changed, sum_one, sum_two}
use Rattle.copies.specs.Tables.{Series, kind, rel_kind, undelivered, tokens}
use Rattle.copies.specs.Facts.{Undelivered}
use Rattle.copies.proofs.Tokens.{undelivered_reflects, TokenOf, tokens_some}

-- ---- one station
-- a kind counts 1 for kind k where it is that kind, else 0
abbrev pub is_kind : (k kind : ℕ) → ℕ
is_kind k kind = one_if (eqb kind k)

-- station n's copy, counted for kind k
abbrev pub copy_at : Series → (k n : ℕ) → ℕ
copy_at r k n = is_kind k (kind r n)

-- its transfer, which counts while it is undelivered
abbrev pub way_at : Series → (k n : ℕ) → ℕ
way_at r k n = one_if (undelivered r n and eqb (rel_kind r n) k)

-- both
abbrev pub tokens_at : Series → (k n : ℕ) → ℕ
tokens_at r k n = copy_at r k n + way_at r k n

-- a kind that is k
pub kind_is : {j k : ℕ} → j ≡ k → is_kind k j ≡ 1
unfolding one_if
kind_is {j} {k} e = rw (eq-eqb j k e)

-- and one that isn't
pub kind_not : {j k : ℕ} → j ≢ k → is_kind k j ≡ 0
unfolding one_if
kind_not {j} {k} ne = rw (ne_eqb j k ne)

module _ (r : Series) (n k : ℕ) where
  -- an undelivered transfer counts by its kind
  pub way_is : Undelivered r n → way_at r k n ≡ is_kind k (rel_kind r n)
  unfolding ◌and◌
  way_is u = rw ((undelivered_reflects r n).1 u)

  -- any other counts for none
  pub way_not : (Undelivered r n → ⊥) → way_at r k n ≡ 0
  unfolding one_if ◌and◌
  way_not delivered = by (undelivered r n) refl
    where
      by : (b : Bool) → undelivered r n ≡ b → one_if (b and eqb (rel_kind r n) k) ≡ 0
      by true e = absurd (delivered ((undelivered_reflects r n).0 e))
      by false e = refl

-- ---- all stations
-- the count is that of the copies and that of the transfers
tokens_are : (r : Series) (k : ℕ) → tokens r k ≡ sum_below station_count (copy_at r k) + sum_below station_count (way_at r k)
unfolding tokens
tokens_are r k = refl

-- only station n's tokens have changed: the count moves by what they do
pub tokens_changed : (r r' : Series) {n : ℕ} → n < station_count
    → ((m : ℕ) → m < station_count → m ≢ n → (r.kept m ≡ r'.kept m) × (undelivered r m ≡ undelivered r' m))
    → (k : ℕ) → tokens r' k + tokens_at r k n ≡ tokens r k + tokens_at r' k n
tokens_changed r r' {n} hn same k =
    let copies = sum_changed station_count n (copy_at r k) (copy_at r' k) hn (λ m hm ne. cc (same m hm ne).0) in
    let transfers = sum_changed station_count n (way_at r k) (way_at r' k) hn (λ m hm ne. cc ((same m hm ne).0, (same m hm ne).1)) in
    omega (arith, tokens_are r k, tokens_are r' k, copies, transfers)

-- ---- what is counted
-- where there is none, none is counted
pub tokens_none : (r : Series) (k : ℕ) → (TokenOf r k → ⊥) → tokens r k ≡ 0
tokens_none r k none = by (tokens r k) (λ l. none (tokens_some r k l))
  where
    by : (c : ℕ) → (1 ≤ c → ⊥) → c ≡ 0
    by zero f = refl
    by (suc c) f = absurd (f (omega arith))

module _ (r : Series) {n k : ℕ} (hn : n < station_count) where
  -- a copy of kind k
  pub copy_counted : kind r n ≡ k → 1 ≤ tokens r k
  copy_counted e = omega (arith, tokens_are r k, sum_one station_count n (copy_at r k) hn, kind_is e)

  -- an undelivered transfer
  pub way_counted : Undelivered r n → rel_kind r n ≡ k → 1 ≤ tokens r k
  way_counted u e = omega (arith, tokens_are r k, sum_one station_count n (way_at r k) hn, way_is r n k u, kind_is e)

  -- two copies
  pub copies_counted : {m : ℕ} → m < station_count → m ≢ n → kind r n ≡ k → kind r m ≡ k → 2 ≤ tokens r k
  copies_counted {m} hm ne e d =
      omega (arith, tokens_are r k, sum_two station_count n m (copy_at r k) hn hm ne, kind_is e, kind_is d)

  -- a copy and an undelivered transfer
  pub both_counted : {m : ℕ} → m < station_count → kind r n ≡ k → Undelivered r m → rel_kind r m ≡ k → 2 ≤ tokens r k
  both_counted {m} hm e u d =
      let copy = sum_one station_count n (copy_at r k) hn in
      let transfer = sum_one station_count m (way_at r k) hm in
      omega (arith, tokens_are r k, copy, transfer, kind_is e, way_is r m k u, kind_is d)
