-- DEMOTE, DROP, PROMOTE and COMMIT: a copy of another kind, or of a higher value, leaves a whole series whole.
-- Assumes nothing.
use Prim.Native.Nat.{ℕ, ◌+◌, ◌-◌, ◌≤◌, ◌<◌}
use native.Mathlib.Omega.{arith}
use mathlib.Core.Path.{◌≡◌, ap}
use mathlib.Core.Logic.{inl, inr, ◌≢◌, ⊎_elim}
use Rattle.words.specs.Numbers.{station_count, void, share, exclusive}
use Rattle.words.specs.Tests.{one_if}
use Rattle.copies.specs.Tables.{Series, kind, value, tokens}
use Rattle.copies.specs.Facts.{Held, Undelivered, InBounds, OneToken}
use Rattle.copies.proofs.Reflect.{Each}
use Rattle.copies.proofs.After.{series_turned, series_raised}
use Rattle.serials.proofs.Wholes.{WholeAt, all_agree, but_tokens}
use Rattle.serials.proofs.Counting.{is_kind, tokens_none, copies_counted}
use Rattle.serials.proofs.Keeping.{everywhere, each_kept}
use Rattle.serials.proofs.Telling.{exclusive_counts, exclusive_only, way_no_exclusive, share_counts}
use Rattle.serials.proofs.Copying.{copy_tokens, copy_whole}

-- ---- another kind
module _ (r : Series) {n : ℕ} (hn : n < station_count) where
  -- of a copy that is held: what is left to show is W2's count
  turn_whole : {k v : ℕ} → k ≤ exclusive → Held r n → OneToken (series_turned r n k) → WholeAt r v → WholeAt (series_turned r n k) v
  turn_whole {k} hk held one w =
      let old = all_agree w in
      copy_whole r hn k (value r n) hk (w.rules.w1 n hn).copy_value one (λ m hm _. old m hm) (λ _. (old n hn).0 held) (old n hn).1 (but_tokens w)

  -- which moves from kind c to kind k
  turn_tokens : {c : ℕ} → kind r n ≡ c → (k j : ℕ) → tokens (series_turned r n k) j + is_kind j c ≡ tokens r j + is_kind j k
  turn_tokens here k j = rw (← here) (copy_tokens r hn k (value r n) j)

-- DEMOTE
pub demote_whole : {r : Series} {n v : ℕ} → n < station_count → kind r n ≡ exclusive → WholeAt r v → WholeAt (series_turned r n share) v
unfolding one_if
demote_whole {r} hn here w =
    let exclusives = turn_tokens r hn here share exclusive in
    let shares = turn_tokens r hn here share share in
    turn_whole r hn (omega arith) (λ z. omega (arith, here, z))
    (inr (omega (arith, exclusives, (exclusive_counts hn here w).0), omega (arith, shares))) w

-- DROP, while another station m holds a share copy
pub drop_whole : {r : Series} {n v : ℕ} → n < station_count → kind r n ≡ share
    → (m : ℕ) → m < station_count → m ≢ n → kind r m ≡ share
    → WholeAt r v → WholeAt (series_turned r n void) v
unfolding one_if
drop_whole {r} hn here m hm ne other w =
    let exclusives = turn_tokens r hn here void exclusive in
    let shares = turn_tokens r hn here void share in
    turn_whole r hn (omega arith) (λ z. omega (arith, here, z))
    (inr (omega (arith, exclusives, (share_counts hn here w).0), omega (arith, shares, copies_counted r hn hm ne here other))) w

-- PROMOTE, while no other station holds a share copy and no transfer is undelivered
pub promote_whole : {r : Series} {n v : ℕ} → n < station_count → kind r n ≡ share
    → ((m : ℕ) → m < station_count → m ≢ n → kind r m ≢ share) → ((m : ℕ) → m < station_count → Undelivered r m → ⊥)
    → WholeAt r v → WholeAt (series_turned r n exclusive) v
unfolding one_if
promote_whole {r} {n} hn here others none w =
    let exclusives = turn_tokens r hn here exclusive exclusive in
    turn_whole r hn (omega arith) (λ z. omega (arith, here, z))
    (inl (omega (arith, exclusives, (share_counts hn here w).0), shares)) w
  where
    copies : Each (λ m. kind (series_turned r n exclusive) m ≢ share)
    copies = each_kept r n _ (λ m b. b.kind ≢ share) others (λ z. omega (arith, z))

    transfers : Each (λ m. Undelivered (series_turned r n exclusive) m → ⊥)
    transfers = each_kept r n _ (λ m b. Undelivered (everywhere r b) m → ⊥) (λ m hm _. none m hm) (none n hn)

    shares : tokens (series_turned r n exclusive) share ≡ 0
    shares = tokens_none _ _ (⊎_elim (λ c. copies c.0 c.1 c.2) (λ t. transfers t.0 t.1 t.2))

-- ---- a higher value
-- COMMIT, one drawn count
pub raise_whole : {r : Series} {n count v : ℕ} → n < station_count → kind r n ≡ exclusive → count ≤ r.last + 1 - value r n
    → WholeAt r v → WholeAt (series_raised r n count) (v + count)
raise_whole {r} {n} {count} {v} hn here fits w =
    copy_whole r hn (kind r n) (value r n + count) (w.rules.w1 n hn).copy_kind within
    (inl (omega (arith, same exclusive, (exclusive_counts hn here w).0), omega (arith, same share, (exclusive_counts hn here w).1)))
    (λ m hm ne. (λ held. absurd (exclusive_only hn here w hm ne held), λ u. absurd (way_no_exclusive hm hn u here w)))
    (λ held. ap (λ (x : ℕ). x + count) ((all_agree w n hn).0 held))
    (λ u. absurd (way_no_exclusive hn hn u here w))
    (but_tokens w)
  where
    within : InBounds r (value r n + count)
    within = let old = (w.rules.w1 n hn).copy_value in (omega (arith, old.0), omega (arith, old.1, fits))

    same : (k : ℕ) → tokens (series_raised r n count) k ≡ tokens r k
    same k = omega (arith, copy_tokens r hn (kind r n) (value r n + count) k)
