-- GRANT: a transfer arrives. The receiver notes its number, so it is delivered, and the receiver's copy takes its kind and value.
-- Assumes nothing.
use Prim.Native.Nat.{ℕ, ◌+◌, ◌≤◌, ◌<◌}
use native.Mathlib.Omega.{arith}
use native.Mathlib.Decide.{ℕ_discrete}
use mathlib.Core.Path.{◌≡◌, refl, sym, ap, ◌∙◌}
use mathlib.Core.Logic.{◌⊎◌, inl, inr, dite, ⊎_elim}
use Rattle.words.specs.Numbers.{station_count, greatest_sent, void, share, exclusive}
use Rattle.copies.specs.Tables.{Series, kind, sent_count, rel_to, rel_kind, rel_value, received, undelivered, tokens}
use Rattle.copies.specs.Facts.{Stands, Undelivered, W1At, W3At, OneToken, Agrees}
use Rattle.copies.proofs.Reflect.{Each}
use Rattle.copies.proofs.Tokens.{undelivered_reflects}
use Rattle.copies.proofs.There.{there, there_same, there_cases}
use Rattle.copies.proofs.After.{series_arrived}
use Rattle.serials.proofs.Wholes.{WholeAt, WholeButTokens, all_agree, but_tokens}
use Rattle.serials.proofs.Counting.{is_kind, copy_at, kind_is, kind_not, way_is, way_not, tokens_changed, both_counted}
use Rattle.serials.proofs.Keeping.{Others, w1_reads}
use Rattle.serials.proofs.Telling.{held_kind, way_no_exclusive, share_counts, way_share}
use Rattle.serials.proofs.Copying.{copy_tokens, copy_whole}

-- ---- the number is noted
-- a series of which station to has received the last number of station from
abbrev noting : Series → (from to : ℕ) → Series
noting r from to =
    record {
      first = r.first;
      last = r.last;
      kept = r.kept;
      received = there to (there from (sent_count r from) (r.received to)) r.received;
    }

module _ (r : Series) {from to : ℕ} where
  -- what is shown of that number there, and of all that was received, is shown of all that is received now
  noted : (P : ℕ → ℕ → ℕ → Type 0) → P to from (sent_count r from) → Each (λ n. Each (λ m. P n m (received r n m)))
      → Each (λ n. Each (λ m. P n m (received (noting r from to) n m)))
  noted P new old n hn m hm =
      there_cases (λ (got : ℕ → ℕ). P n m (got m)) to _ _ n
      (λ e. there_cases (P n m) from _ (r.received to) m (λ d. rw (e, d) new) (λ _. rw (← e) (old n hn m hm)))
      (λ _. old n hn m hm)

module _ (r : Series) {from to : ℕ} (hf : from < station_count) (stands : Stands r from) (goes : rel_to r from ≡ to) (w : WholeButTokens r) where
  -- W1 stays
  noting_w1 : Each (W1At (noting r from to))
  noting_w1 n hn =
      w1_reads refl (noted r (λ i j got. got ≤ greatest_sent) (w.w1 from hf).sends (λ i hi. (w.w1 i hi).receives) n hn) (w.w1 n hn)

  -- W3 stays: it is the receiver who has the number, and that isn't the sender
  noting_w3 : Each (W3At (noting r from to))
  noting_w3 n hn =
      let not_own : from ≡ to → ⊥ = λ e. (w.w1 from hf).not_own stands (goes ∙ sym e) in
      record {
        at_most = noted r (λ i j got. got ≤ sent_count r j) (omega arith) (λ i hi. (w.w3 i hi).at_most) n hn;
        self = noted r (λ i j got. j ≡ i → got ≡ 0) (λ e. absurd (not_own e)) (λ i hi j _ e. rw e (w.w3 i hi).self) n hn n hn refl;
        only = λ s m hm. noted r (λ i j got. Stands r j → got ≡ sent_count r j → rel_to r j ≡ i) (λ _ _. goes)
            (λ i hi j hj s. (w.w3 j hj).only s i hi) m hm n hn s;
      }

  -- so do all rules but W2
  noting_rest : WholeButTokens (noting r from to)
  noting_rest = record { opens = w.opens; bounds = w.bounds; w1 = noting_w1; w3 = noting_w3; w5 = w.w5 }

  -- the transfer is delivered
  noting_delivers : Undelivered (noting r from to) from → ⊥
  noting_delivers u =
      let got : received (noting r from to) to from ≡ sent_count r from = ap (λ (f : ℕ → ℕ). f from) (there_same to _ _) ∙ there_same from _ _ in
      omega (arith, rw goes at u.2, got)

  -- the others are undelivered where they were
  noting_others : Others from (λ m. undelivered r m ≡ undelivered (noting r from to) m)
  noting_others m hm ne = cc (same (rel_to r m) (w.w1 m hm).receiver m hm ne)
    where
      same : Each (λ n. Each (λ m. (m ≡ from → ⊥) → received r n m ≡ received (noting r from to) n m))
      same = noted r (λ i j got. (j ≡ from → ⊥) → received r i j ≡ got) (λ o. absurd (o refl)) (λ i hi j hj _. refl)

  -- and none is undelivered that wasn't
  way_before : {m : ℕ} → m < station_count → Undelivered (noting r from to) m → Undelivered r m
  way_before {m} hm u =
      dite (ℕ_discrete m from) (λ e. absurd (noting_delivers (rw e at u)))
      (λ ne. (undelivered_reflects r m).0 (noting_others m hm ne ∙ (undelivered_reflects (noting r from to) m).1 u))

  -- so W2 counts one less of its kind
  noting_tokens : Undelivered r from → (k : ℕ) → tokens (noting r from to) k + is_kind k (rel_kind r from) ≡ tokens r k
  noting_tokens u k =
      let moved = tokens_changed r (noting r from to) hf (λ m hm ne. (refl, noting_others m hm ne)) k in
      omega (arith, moved, way_is r from k u, way_not (noting r from to) from k noting_delivers)

-- ---- the copy is changed
module _ {r : Series} {from to v : ℕ} (hf : from < station_count) (ht : to < station_count) (goes : rel_to r from ≡ to)
    (under : Undelivered r from) (w : WholeAt r v) where
  -- the series then
  abbrev arrived : Series
  arrived = series_arrived r from to (sent_count r from)

  -- W2's count: the new copy stands in for the transfer, and the copy that it replaces is gone
  arrived_tokens : (k : ℕ) → tokens arrived k + copy_at r k to ≡ tokens r k
  arrived_tokens k =
      let copy = copy_tokens (noting r from to) ht (rel_kind r from) (rel_value r from) k in
      omega (arith, noting_tokens r hf under.0 goes (but_tokens w) under k, copy)

  -- that copy is void, or a share as the transfer is
  replaced : (kind r to ≡ void) ⊎ ((kind r to ≡ share) × (rel_kind r from ≡ share))
  replaced =
      dite (ℕ_discrete (kind r to) void) inl
      (λ held. ⊎_elim (λ e. inr (e, (way_share hf ht under e w).0)) (λ e. absurd (way_no_exclusive hf ht under e w)) (held_kind ht w held))

  -- void: the count stays
  over_void : kind r to ≡ void → OneToken arrived
  over_void e = rw (same exclusive (λ z. omega (arith, z)), same share (λ z. omega (arith, z))) w.rules.token
    where
      same : (k : ℕ) → (0 ≡ k → ⊥) → tokens arrived k ≡ tokens r k
      same k token = omega (arith, arrived_tokens k, kind_not (λ q. token (sym e ∙ q)))

  -- share: two shares were counted, and one is left
  over_share : kind r to ≡ share → rel_kind r from ≡ share → OneToken arrived
  over_share e d =
      inr (omega (arith, arrived_tokens exclusive, (share_counts ht e w).0), omega (arith, arrived_tokens share, kind_is e, both_counted r ht hf e under d))

-- GRANT
pub grant_whole : {r : Series} {from to number v : ℕ} → from < station_count → to < station_count → Stands r from → rel_to r from ≡ to
    → sent_count r from ≡ number → received r to from < number → WholeAt r v → WholeAt (series_arrived r from to number) v
grant_whole {r} {from} {to} {number} {v} hf ht stands goes numbered new w =
    rw (← numbered)
    (copy_whole (noting r from to) ht (rel_kind r from) (rel_value r from) own.release_kind (own.release_value stands)
    (⊎_elim (over_void hf ht goes under w) (λ e. over_share hf ht goes under w e.0 e.1) (replaced hf ht goes under w))
    (λ m hm _. ((old m hm).0, λ u. (old m hm).1 (before hm u)))
    (λ _. (old from hf).1 under)
    (λ u. (old to ht).1 (before ht u))
    (noting_rest r hf stands goes (but_tokens w)))
  where
    own : W1At r from
    own = w.rules.w1 from hf

    old : Each (Agrees r v)
    old = all_agree w

    under : Undelivered r from
    under = (stands, own.receiver, rw (goes, numbered) new)

    before : {m : ℕ} → m < station_count → Undelivered (noting r from to) m → Undelivered r m
    before = way_before r hf stands goes (but_tokens w)
