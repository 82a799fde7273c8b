-- What the kind of one copy of a whole series tells of its other copies and of its transfers under way.
-- Assumes nothing.
use Prim.Native.Nat.{ℕ, ◌≤◌, ◌<◌}
use native.Mathlib.Omega.{arith}
use native.Mathlib.Decide.{ℕ_discrete}
use mathlib.Core.Path.{◌≡◌, sym, ◌∙◌}
use mathlib.Core.Logic.{◌⊎◌, inl, inr, ◌≢◌, dite, ⊎_elim}
use Rattle.words.specs.Numbers.{station_count, share, exclusive}
use Rattle.copies.specs.Tables.{Series, kind, value, rel_kind, rel_value, tokens}
use Rattle.copies.specs.Facts.{Held, Undelivered}
use Rattle.serials.proofs.Wholes.{WholeAt, all_agree}
use Rattle.serials.proofs.Counting.{copy_counted, way_counted, copies_counted, both_counted}

-- a kind that isn't void is share or exclusive
token_kind : {k : ℕ} → k ≤ exclusive → (k ≡ 0 → ⊥) → (k ≡ share) ⊎ (k ≡ exclusive)
token_kind {k} most token = dite (ℕ_discrete k share) inl (λ ne. inr (omega (arith, most, token, ne)))

module _ {r : Series} {v n : ℕ} (hn : n < station_count) (w : WholeAt r v) where
  -- the kind of a copy that is held
  pub held_kind : Held r n → (kind r n ≡ share) ⊎ (kind r n ≡ exclusive)
  held_kind = token_kind (w.rules.w1 n hn).copy_kind

  -- the kind of a transfer under way
  pub way_kind : Undelivered r n → (rel_kind r n ≡ share) ⊎ (rel_kind r n ≡ exclusive)
  way_kind u = token_kind (w.rules.w1 n hn).release_kind u.0

-- ---- an exclusive copy
module _ {r : Series} {v n : ℕ} (hn : n < station_count) (here : kind r n ≡ exclusive) (w : WholeAt r v) where
  -- is the one token counted
  pub exclusive_counts : (tokens r exclusive ≡ 1) × (tokens r share ≡ 0)
  exclusive_counts = ⊎_elim (λ e. e) (λ e. absurd (omega (arith, e.0, copy_counted r hn here))) w.rules.token

  -- so no other copy is held
  pub exclusive_only : {m : ℕ} → m < station_count → m ≢ n → Held r m → ⊥
  exclusive_only hm ne held =
      ⊎_elim (λ e. omega (arith, copy_counted r hm e, exclusive_counts.1))
      (λ e. omega (arith, copies_counted r hn hm ne here e, exclusive_counts.0))
      (held_kind hm w held)

-- and no transfer is under way
pub way_no_exclusive : {r : Series} {v from n : ℕ} → from < station_count → n < station_count → Undelivered r from
    → kind r n ≡ exclusive → WholeAt r v → ⊥
way_no_exclusive {r} hf hn u here w =
    ⊎_elim (λ e. omega (arith, way_counted r hf u e, (exclusive_counts hn here w).1))
    (λ e. omega (arith, both_counted r hn hf here u e, (exclusive_counts hn here w).0))
    (way_kind hf w u)

-- ---- a share copy
-- no token is exclusive
pub share_counts : {r : Series} {v n : ℕ} → n < station_count → kind r n ≡ share → WholeAt r v
    → (tokens r exclusive ≡ 0) × (1 ≤ tokens r share)
share_counts {r} hn here w =
    ⊎_elim (λ e. absurd (omega (arith, e.1, copy_counted r hn here))) (λ e. e) w.rules.token

-- so a transfer under way is a share, and has the copy's value
pub way_share : {r : Series} {v from n : ℕ} → from < station_count → n < station_count → Undelivered r from
    → kind r n ≡ share → WholeAt r v → (rel_kind r from ≡ share) × (rel_value r from ≡ value r n)
way_share {r} {v} {from} {n} hf hn u here w =
    let says : value r n ≡ v = (all_agree w n hn).0 (λ z. omega (arith, here, z)) in (
      ⊎_elim (λ e. e) (λ e. absurd (omega (arith, way_counted r hf u e, (share_counts hn here w).0))) (way_kind hf w u),
      (all_agree w from hf).1 u ∙ sym says,
    )
