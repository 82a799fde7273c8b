-- SEND, SHARE and ACK: a station's Release is written or deleted, and a whole series stays whole.
-- Assumes nothing.
use Prim.Native.Nat.{ℕ, ◌+◌, ◌≤◌, ◌<◌}
use native.Mathlib.Omega.{arith}
use mathlib.Core.Path.{◌≡◌, refl, sym}
use mathlib.Core.Logic.{inl, inr, ◌≢◌}
use Rattle.words.specs.Numbers.{station_count, greatest_sent, void, share, exclusive}
use Rattle.words.specs.Tests.{one_if}
use Rattle.copies.specs.declared.Kept.{Kept}
use Rattle.copies.specs.Tables.{Series, kind, value, sent_count, rel_kind, tokens}
use Rattle.copies.specs.Facts.{Held, Undelivered, OneToken}
use Rattle.copies.proofs.After.{keeping, with_copy, with_release, series_sent_off, series_released, series_deleted}
use Rattle.serials.proofs.Wholes.{WholeAt, WholeButTokens, all_agree, but_tokens, with_tokens}
use Rattle.serials.proofs.Counting.{is_kind, way_is, way_not}
use Rattle.serials.proofs.Keeping.{everywhere, MayKeep, keeping_rest, agree_keeping, tokens_keeping}
use Rattle.serials.proofs.Telling.{exclusive_counts, share_counts}

-- ---- a transfer of kind k, with a copy of kind c left
module _ (r : Series) {from to : ℕ} (hf : from < station_count) (ht : to < station_count) {k : ℕ} (token : k ≡ 0 → ⊥) (c : ℕ) where
  -- what the sender keeps
  abbrev sent : Kept
  sent = with_release (with_copy (r.kept from) c (value r from)) (sent_count r from + 1) to k (value r from)

  -- W1, W3 and W5 allow it to another station, before the sent count is at its end: none has received the new number
  may_send : from ≢ to → c ≤ exclusive → k ≤ exclusive → sent_count r from < greatest_sent → WholeButTokens r → MayKeep r from sent
  may_send apart hc hk unspent w =
      let old = w.w1 from hf in
      record {
        ranges = record {
          copy_kind = hc;
          copy_value = old.copy_value;
          sends = omega (arith, unspent);
          release_kind = hk;
          receiver = ht;
          not_own = λ _ e. apart (sym e);
          has_sent = λ _. omega arith;
          release_value = λ _. old.copy_value;
          receives = old.receives;
        };
        sends = omega arith;
        only = λ _ m hm e. absurd (omega (arith, e, (w.w3 m hm).at_most from hf));
        zero = λ z. absurd (token z);
      }

  -- W2's count: where no Release stood, the copy left and the transfer stand in for the copy
  sent_tokens : rel_kind r from ≡ 0 → WholeButTokens r → (j : ℕ)
      → tokens (keeping r from sent) j + is_kind j (kind r from) ≡ tokens r j + (is_kind j c + is_kind j k)
  sent_tokens none w j =
      let under : Undelivered (everywhere r sent) from = (token, ht, omega (arith, (w.w3 to ht).at_most from hf)) in
      omega (arith, tokens_keeping r from sent hf j, way_not r from j (λ u. u.0 none), way_is (everywhere r sent) from j under)

  -- so what is left to show is W2's count
  sent_whole : {v : ℕ} → from ≢ to → c ≤ exclusive → k ≤ exclusive → sent_count r from < greatest_sent → Held r from
      → OneToken (keeping r from sent) → WholeAt r v → WholeAt (keeping r from sent) v
  sent_whole apart hc hk unspent held one w =
      let old = all_agree w in
      with_tokens (keeping_rest r from sent hf (may_send apart hc hk unspent (but_tokens w)) (but_tokens w)) one
      (agree_keeping r from sent (λ m hm _. old m hm) (λ _. (old from hf).0 held, λ _. (old from hf).0 held))

-- SEND
pub send_whole : {r : Series} {from to v : ℕ} → from < station_count → to < station_count → from ≢ to → kind r from ≡ exclusive
    → rel_kind r from ≡ 0 → sent_count r from < greatest_sent → WholeAt r v → WholeAt (series_sent_off r from to) v
unfolding one_if
send_whole {r} {from} hf ht apart here none unspent w =
    let old = exclusive_counts hf here w in
    let token : exclusive ≡ 0 → ⊥ = λ z. omega (arith, z) in
    let count = sent_tokens r hf ht token void none (but_tokens w) in
    sent_whole r hf ht token void apart (omega arith) (omega arith) unspent (λ z. omega (arith, here, z))
    (inl (omega (arith, rw here at (count exclusive), old.0), omega (arith, rw here at (count share), old.1))) w

-- SHARE
pub share_whole : {r : Series} {from to v : ℕ} → from < station_count → to < station_count → from ≢ to → kind r from ≡ share
    → rel_kind r from ≡ 0 → sent_count r from < greatest_sent → WholeAt r v → WholeAt (series_released r from to share) v
unfolding one_if
share_whole {r} {from} hf ht apart here none unspent w =
    let old = share_counts hf here w in
    let token : share ≡ 0 → ⊥ = λ z. omega (arith, z) in
    let count = sent_tokens r hf ht token (kind r from) none (but_tokens w) in
    sent_whole r hf ht token (kind r from) apart (w.rules.w1 from hf).copy_kind (omega arith) unspent (λ z. omega (arith, here, z))
    (inr (omega (arith, count exclusive, old.0), omega (arith, count share))) w

-- ---- no Release
module _ (r : Series) {from : ℕ} (hf : from < station_count) where
  -- what the sender keeps
  abbrev deleted : Kept
  deleted = with_release (r.kept from) (sent_count r from) 0 0 0

  -- W1, W3 and W5 allow it
  may_delete : WholeButTokens r → MayKeep r from deleted
  may_delete w =
      let old = w.w1 from hf in
      record {
        ranges = record {
          copy_kind = old.copy_kind;
          copy_value = old.copy_value;
          sends = old.sends;
          release_kind = omega arith;
          receiver = omega arith;
          not_own = λ stands. absurd (stands refl);
          has_sent = λ stands. absurd (stands refl);
          release_value = λ stands. absurd (stands refl);
          receives = old.receives;
        };
        sends = omega arith;
        only = λ stands. absurd (stands refl);
        zero = λ _. (refl, refl);
      }

  -- W2's count stays, where the transfer was delivered
  deleted_tokens : (Undelivered r from → ⊥) → (j : ℕ) → tokens (series_deleted r from) j ≡ tokens r j
  deleted_tokens delivered j =
      omega (arith, tokens_keeping r from deleted hf j, way_not r from j delivered, way_not (everywhere r deleted) from j (λ u. u.0 refl))

-- ACK
pub ack_whole : {r : Series} {from v : ℕ} → from < station_count → (Undelivered r from → ⊥)
    → WholeAt r v → WholeAt (series_deleted r from) v
ack_whole {r} {from} hf delivered w =
    let old = all_agree w in
    let same = deleted_tokens r hf delivered in
    with_tokens (keeping_rest r from _ hf (may_delete r hf (but_tokens w)) (but_tokens w))
    (rw (same exclusive, same share) w.rules.token)
    (agree_keeping r from _ (λ m hm _. old m hm) ((old from hf).0, λ u. absurd (u.0 refl)))
