-- What is known of an event that no refusal is given to, refusal by refusal: at an event of a given kind each premise is `refl`.
-- Assumes nothing.
use Prim.Native.Nat.{ℕ, ◌+◌, ◌-◌, ◌≤◌, ◌<◌}
use mathlib.Core.Path.{◌≡◌, sym, ◌∙◌}
use mathlib.Core.Logic.{◌≢◌}
use mathlib.Core.Bool.{Bool, true, false, true≢false}
use mathlib.Core.List.{List, [], ◌∷◌}
use lib.Dec.{eqb}
use lib.ListN.{get_or}
use borrow.Author.Tests.{eqb-true, eq-eqb, leb-false, ltb-false, not-false}
use Rattle.words.specs.Numbers.{station_count, greatest_sent, share, exclusive}
use Rattle.words.specs.Tests.{non, ◌and◌, ◌or◌, is_in}
use Rattle.words.proofs.Laws.{both_true, neither, true_some, least_true}
use Rattle.words.proofs.Reflects.{reflects_eq, reflects_not, reflects_and}
use Rattle.copies.specs.Tables.{Series, kind, value, sent_count, rel_kind, rel_to, received}
use Rattle.copies.specs.Facts.{Open, Stands, Undelivered}
use Rattle.copies.specs.Steps.{is_spent, is_repeat, matches, no_grant, no_ack}
use Rattle.copies.proofs.Reflect.{is_open_reflects}
use Rattle.copies.proofs.Tokens.{stands_reflects, undelivered_reflects}
use Rattle.jobs.specs.Job.{locks_series, lock_on, is_full}
use Rattle.jobs.specs.Slots.{free}
use Rattle.jobs.specs.Facts.{OpenJob}
use Rattle.rulebook.specs.declared.Event.{Event}
use Rattle.rulebook.specs.Tables.{Plant}
use Rattle.rulebook.specs.Events.{OPEN, BEGIN, LOCKX, LOCKS, DRAW, READ, SEND, DEMOTE, SHARE, DROP, PROMOTE, GRANT, ACK, CRASH, a_series, a_from, a_to, a_job, a_first, a_last, a_count, a_number, the, names, the_series, the_job, the_station}
use Rattle.rulebook.specs.Refusals.{TAKEN, NONE, DOWN, HELD, FULL, COPY, LOCKED, NO_LOCK, RANGE, WAIT, SPENT, OTHERS, NO_MESSAGE}
use Rattle.rulebook.proofs.Admits.{Admitted}

-- the opposite of a test fails, so the test holds
holds : (b : Bool) → non b ≡ false → b ≡ true
unfolding non
holds b e = not-false b e

module _ {p : Plant} {out : List ℕ} {e : Event} (w : Admitted p out e) where
  -- 3: from and to differ
  pub transfer_apart : is_in e.kind (SEND ∷ SHARE ∷ GRANT ∷ ACK ∷ []) ≡ true → the a_from e ≢ the a_to e
  transfer_apart k q = absurd (true≢false (sym (eq-eqb _ _ q) ∙ (rw k at w.is_sound.apart)))

  -- 3: the bounds of an OPEN are in order
  pub bounds_ordered : is_in e.kind (OPEN ∷ []) ≡ true → the a_first e ≤ the a_last e
  bounds_ordered k = ltb-false _ _ (rw k at w.is_sound.bounds)

  -- 4: the series of an OPEN isn't open
  pub series_closed : eqb e.kind OPEN ≡ true → (the_series p e).first ≡ 0
  unfolding TAKEN non
  series_closed k = eqb-true _ _ (not-false _ (rw k at w.taken))

  -- 5: the series is open
  pub series_opened_lem : names a_series OPEN e ≡ true → Open (the_series p e)
  unfolding NONE
  series_opened_lem k = (is_open_reflects (the_series p e)).0 (holds _ (rw k at (neither _ _ w.none).0))

  -- 5: the job is open
  pub job_opened : names a_job BEGIN e ≡ true → OpenJob (the_job p e)
  unfolding NONE
  job_opened k = eqb-true _ _ (holds _ (rw k at (neither _ _ w.none).1))

  -- 6: the station is up
  pub station_up_lem : is_in e.kind (OPEN ∷ BEGIN ∷ DEMOTE ∷ DROP ∷ PROMOTE ∷ CRASH ∷ SEND ∷ SHARE ∷ ACK ∷ GRANT ∷ []) ≡ true
      → get_or p.copies.up (the_station p e) 0 ≡ 1
  unfolding DOWN
  station_up_lem k = eqb-true _ _ (holds _ (rw k at w.down))

  -- 8: the job doesn't lock the series
  pub not_held : is_in e.kind (LOCKX ∷ LOCKS ∷ []) ≡ true → locks_series (the_job p e) (the a_series e) ≡ false
  unfolding HELD
  not_held k = rw k at w.held

  -- 9: the job has a place left
  pub not_full : is_in e.kind (LOCKX ∷ LOCKS ∷ []) ≡ true → is_full (the_job p e) ≡ false
  unfolding FULL
  not_full k = rw k at w.full

  -- 10: the copy is exclusive
  pub copy_exclusive : is_in e.kind (LOCKX ∷ SEND ∷ DEMOTE ∷ []) ≡ true → kind (the_series p e) (the_station p e) ≡ exclusive
  unfolding COPY
  copy_exclusive k = eqb-true _ _ (holds _ (rw k at w.copy))

  -- 10: the copy is a share
  pub copy_share : is_in e.kind (LOCKX ∷ SEND ∷ DEMOTE ∷ []) ≡ false → is_in e.kind (LOCKS ∷ SHARE ∷ DROP ∷ PROMOTE ∷ []) ≡ true
      → kind (the_series p e) (the_station p e) ≡ share
  unfolding COPY
  copy_share other k = eqb-true _ _ (holds _ (rw (other, k) at w.copy))

  -- 11: the copy is free
  pub copy_free : is_in e.kind (LOCKX ∷ SEND ∷ DEMOTE ∷ DROP ∷ PROMOTE ∷ []) ≡ true
      → free p.jobs (the a_series e) (the_station p e) ≡ true
  unfolding LOCKED
  copy_free k = holds _ (rw k at w.locked)

  -- 12: DRAW has an exclusive lock of the job
  pub draw_locked : eqb e.kind DRAW ≡ true
      → (locks_series (the_job p e) (the a_series e) ≡ true) × ((lock_on (the_job p e) (the a_series e)).mode ≡ exclusive)
  unfolding NO_LOCK
  draw_locked k = let two = both_true _ _ (holds _ (rw k at w.no_lock)) in (two.0, eqb-true _ _ two.1)

  -- 12: READ has a lock of the job
  pub read_locked : eqb e.kind DRAW ≡ false → is_in e.kind (READ ∷ []) ≡ true → locks_series (the_job p e) (the a_series e) ≡ true
  unfolding NO_LOCK
  read_locked other k = holds _ (rw (other, k) at w.no_lock)

  -- 14: the count is left
  pub count_left : is_in e.kind (DRAW ∷ []) ≡ true → the a_count e ≤ (the_series p e).last + 1 - value (the_series p e) (the_station p e)
  unfolding RANGE
  count_left k = ltb-false _ _ (rw k at w.range)

  -- 15: no Release stands
  pub no_release : is_in e.kind (SEND ∷ SHARE ∷ []) ≡ true → rel_kind (the_series p e) (the a_from e) ≡ 0
  unfolding WAIT non
  no_release k = eqb-true _ _ (not-false _ (rw k at w.wait))

  -- 16: the sent count isn't at its end
  pub not_spent : is_in e.kind (SEND ∷ SHARE ∷ []) ≡ true → sent_count (the_series p e) (the a_from e) < greatest_sent
  unfolding SPENT is_spent
  not_spent k = leb-false _ _ (rw k at w.spent)

  -- 17: DROP leaves another share
  pub other_shares : eqb e.kind DROP ≡ true → (m : ℕ) × (m < station_count) × (m ≢ the_station p e) × (kind (the_series p e) m ≡ share)
  unfolding OTHERS
  other_shares k =
      let one = least_true station_count _ (holds _ (rw k at w.others)) in
      let two = both_true _ _ one.1 in
      (_, one.0, (reflects_not _ (reflects_eq _ (the_station p e))).0 two.0, eqb-true _ _ two.1)

  -- 17: PROMOTE of the only share
  pub only_share_lem : eqb e.kind DROP ≡ false → is_in e.kind (PROMOTE ∷ []) ≡ true → (m : ℕ) → m < station_count → m ≢ the_station p e
      → kind (the_series p e) m ≢ share
  unfolding OTHERS
  only_share_lem other k m l ne q =
      true≢false
      (sym (true_some station_count _ m l ((reflects_and _ _ (reflects_not _ (reflects_eq m (the_station p e))) (reflects_eq _ share)).1 (ne, q)))
      ∙ (neither _ _ (rw (other, k) at w.others)).0)

  -- 17: with no transfer under way
  pub none_under_way : eqb e.kind DROP ≡ false → is_in e.kind (PROMOTE ∷ []) ≡ true → (m : ℕ) → m < station_count
      → Undelivered (the_series p e) m → ⊥
  unfolding OTHERS
  none_under_way other k m l u =
      true≢false (sym (true_some station_count _ m l ((undelivered_reflects (the_series p e) m).1 u)) ∙ (neither _ _ (rw (other, k) at w.others)).1)

-- ---- messages
-- A message of from to to with this number: a Release of from stands, it is addressed to to, and the number is its own.
pub record Standing (r : Series) (from to number : ℕ) : Type 0 where
  pub is_standing : Stands r from
  pub addressed : rel_to r from ≡ to
  pub numbered : sent_count r from ≡ number

-- so it is where the test holds
standing : (r : Series) (from to number : ℕ) → matches r from to number ≡ true → Standing r from to number
unfolding matches
standing r from to number m =
    let two = both_true _ _ m in
    let one = both_true _ _ two.0 in
    record { is_standing = (stands_reflects r from).0 one.0; addressed = eqb-true _ _ one.1; numbered = eqb-true _ _ two.1 }

-- 18: a GRANT that is no repeat is of the Release that stands, and not yet received
pub grant_new : (r : Series) (from to number : ℕ) → no_grant r from to number ≡ false → is_repeat r from to number ≡ false
    → Standing r from to number × (received r to from < number)
unfolding no_grant is_repeat ◌or◌
grant_new r from to number known new = (standing r from to number (rw new at (holds _ known)), leb-false _ _ new)

-- 18: an ACK of the Release that stands is of a delivered one
pub ack_delivered : (r : Series) (from to number : ℕ) → no_ack r from to number ≡ false → matches r from to number ≡ true
    → Undelivered r from → ⊥
unfolding no_ack ◌and◌
ack_delivered r from to number known m u =
    true≢false (sym ((undelivered_reflects r from).1 u) ∙ (rw m at (neither _ _ known).1))

module _ {p : Plant} {out : List ℕ} {e : Event} (w : Admitted p out e) where
  -- 18 of a GRANT
  pub grant_message : eqb e.kind GRANT ≡ true → no_grant (the_series p e) (the a_from e) (the a_to e) (the a_number e) ≡ false
  unfolding NO_MESSAGE
  grant_message k = rw k at w.no_message

  -- 18 of an ACK
  pub ack_message : eqb e.kind GRANT ≡ false → is_in e.kind (ACK ∷ []) ≡ true
      → no_ack (the_series p e) (the a_from e) (the a_to e) (the a_number e) ≡ false
  unfolding NO_MESSAGE
  ack_message other k = rw (other, k) at w.no_message
