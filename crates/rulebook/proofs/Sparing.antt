-- Each accepted step, kind by kind: it touches no extra entry, and has at most four draws; then any step, and the empty plant.
-- Assumes nothing.
use Rattle.std.specs.Prelude.{Err}
use Prim.Native.Nat.{ℕ, ◌≤◌, ◌<◌}
use native.Mathlib.Omega.{arith}
use mathlib.Core.Path.{◌≡◌, refl}
use mathlib.Core.List.{List}
use lib.ListN.{length, drop, set}
use lib.Seq.{sets, length-sets}
use Rattle.words.specs.declared.Refusal.TheVariants.{Short}
use Rattle.words.specs.Numbers.{station_count, series_count, job_count, lock_count, place_count, received_count, out_count}
use Rattle.copies.specs.Tables.{Copies}
use Rattle.copies.proofs.Leaves.{OnlyStated}
use Rattle.copies.proofs.After.{after_opened, after_sent_off, after_demoted, after_shared, after_dropped, after_promoted, after_arrived, after_deleted, after_marked}
use Rattle.jobs.specs.declared.Job.{Job}
use Rattle.jobs.specs.Job.{no_job}
use Rattle.jobs.specs.Slots.{job_at}
use Rattle.jobs.specs.Draws.{Draw, draws_of, shown}
use Rattle.rulebook.specs.declared.Event.{Event}
use Rattle.rulebook.specs.Tables.{Plant, short_tables, with_copies, with_jobs}
use Rattle.rulebook.specs.Events.{OPEN, BEGIN, LOCKX, LOCKS, DRAW, READ, COMMIT, ABORT, SEND, DEMOTE, SHARE, DROP, PROMOTE, GRANT, ACK, CRASH, RESTART}
use Rattle.rulebook.specs.Edges.{event}
use Rattle.rulebook.specs.Refusals.{refusals}
use Rattle.rulebook.specs.Steps.{Effect, done, refused, do_open, do_begin, do_lockx, do_locks, do_draw, do_read, do_commit, do_abort, do_send, do_demote, do_share, do_drop, do_promote, do_grant, do_ack, do_crash, do_restart, accepted, effect, step_of}
use Rattle.rulebook.specs.Around.{emptied_copies, emptied, empty_of}
use Rattle.rulebook.specs.Keeps.{SameExtra, FourPlaces, StepExtraKept, ExtraKept}
use Rattle.rulebook.proofs.Judging.{cond_cases, judged_cases, AtKind, accepted_by_kind, ◌then◌, grant_cases, ack_cases}
use Rattle.rulebook.proofs.Admits.{Sound, admitted, series_in_lem, station_in, from_in, to_in, job_in}
use Rattle.rulebook.proofs.Untouched.{drop_sets, only_filled, SameCopies, copies_stay, copies_only, copies_committed, draws_few, shown_length, SameSlots, slots_stay, slots_put, slots_filled, slots_closed, plant_same}

-- No extra entry is touched, and there are at most four draws.
pub record Spares (p : Plant) (x : Effect) : Type 0 where
  pub copies : SameCopies p.copies x.plant.copies
  pub slots : SameSlots p.jobs x.plant.jobs
  pub draws : length x.draws ≤ lock_count

module _ (p : Plant) where
  -- nothing changes
  spares_same : (v : ℕ) → Spares p (done v p)
  spares_same v = record { copies = copies_stay; slots = slots_stay; draws = omega arith }

  -- the lower layer's tables change within their stated sizes
  spares_copies : (v : ℕ) {u : Copies} → OnlyStated p.copies u → Spares p (done v (with_copies p u))
  spares_copies v o = record { copies = copies_only o; slots = slots_stay; draws = omega arith }

  -- one of the sixteen slots changes
  spares_slot : (j : ℕ) (b : Job) → j < job_count → Spares p (done 0 (with_jobs p (set p.jobs j b)))
  spares_slot j b lt = record { copies = copies_stay; slots = slots_put p.jobs j b lt; draws = omega arith }

  module _ (out : List ℕ) (four : FourPlaces p.jobs) where
    -- so it is of a step, at its kind, where refusals 1 to 3 are not given
    abbrev SparesAt : ℕ → (Plant → Event → Effect) → Type 0
    SparesAt = AtKind (λ e x. Sound p out e → Spares p x) p

    -- ---- series and copies
    -- OPEN
    spares_OPEN : SparesAt OPEN do_open
    unfolding do_open
    spares_OPEN a b c d w = spares_copies 0 (after_opened w.long (series_in_lem w refl) (station_in w refl) b c).only

    -- DEMOTE
    spares_DEMOTE : SparesAt DEMOTE do_demote
    unfolding do_demote
    spares_DEMOTE a b c d w = spares_copies 0 (after_demoted w.long (series_in_lem w refl) (station_in w refl)).only

    -- DROP
    spares_DROP : SparesAt DROP do_drop
    unfolding do_drop
    spares_DROP a b c d w = spares_copies 0 (after_dropped w.long (series_in_lem w refl) (station_in w refl)).only

    -- PROMOTE
    spares_PROMOTE : SparesAt PROMOTE do_promote
    unfolding do_promote
    spares_PROMOTE a b c d w = spares_copies 0 (after_promoted w.long (series_in_lem w refl) (station_in w refl)).only

    -- ---- transfers
    -- SEND
    spares_SEND : SparesAt SEND do_send
    unfolding do_send
    spares_SEND a b c d w = spares_copies _ (after_sent_off w.long (series_in_lem w refl) (from_in w refl) c).only

    -- SHARE
    spares_SHARE : SparesAt SHARE do_share
    unfolding do_share
    spares_SHARE a b c d w = spares_copies _ (after_shared w.long (series_in_lem w refl) (from_in w refl) c).only

    -- GRANT
    spares_GRANT : SparesAt GRANT do_grant
    spares_GRANT a b c d w =
        grant_cases p (event GRANT a b c d) (Spares p) (λ _. spares_same 0)
        (λ _. spares_copies 1 (after_arrived w.long (series_in_lem w refl) (from_in w refl) (to_in w refl) d).only)

    -- ACK
    spares_ACK : SparesAt ACK do_ack
    spares_ACK a b c d w =
        ack_cases p (event ACK a b c d) (Spares p)
        (λ _. spares_copies 1 (after_deleted w.long (series_in_lem w refl) (from_in w refl)).only) (λ _. spares_same 0)

    -- ---- jobs
    -- BEGIN
    spares_BEGIN : SparesAt BEGIN do_begin
    unfolding do_begin
    spares_BEGIN a b c d w = spares_slot a _ (job_in w refl)

    -- LOCKX
    spares_LOCKX : SparesAt LOCKX do_lockx
    unfolding do_lockx
    spares_LOCKX a b c d w = spares_slot a _ (job_in w refl)

    -- LOCKS
    spares_LOCKS : SparesAt LOCKS do_locks
    unfolding do_locks
    spares_LOCKS a b c d w = spares_slot a _ (job_in w refl)

    -- DRAW
    spares_DRAW : SparesAt DRAW do_draw
    unfolding do_draw
    spares_DRAW a b c d w = spares_slot a _ (job_in w refl)

    -- READ
    spares_READ : SparesAt READ do_read
    unfolding do_read
    spares_READ a b c d w = spares_same _

    -- ABORT
    spares_ABORT : SparesAt ABORT do_abort
    unfolding do_abort
    spares_ABORT a b c d w = spares_slot a _ (job_in w refl)

    -- COMMIT: the draws are at a station and in series that there are (W1), and no more than the four lock places
    spares_COMMIT : SparesAt COMMIT do_commit
    unfolding do_commit draws_of
    spares_COMMIT a b c d w =
        let lt : a < job_count = job_in w refl in
        let places : length (job_at p.jobs a).locks ≡ lock_count = four a (omega (arith, w.slots)) in
        let range = (w.jobs a lt).range in
        let few = draws_few p.copies (job_at p.jobs a).station (job_at p.jobs a).locks in
        record {
          copies = copies_committed p.copies _ (job_at p.jobs a).locks p.copies w.long range.of_station
              (λ i l. (range.of_lock i (omega arith)).of_series);
          slots = slots_put p.jobs a no_job lt;
          draws = omega arith;
        }

    -- ---- stations
    -- CRASH
    spares_CRASH : SparesAt CRASH do_crash
    unfolding do_crash
    spares_CRASH a b c d w =
        record { copies = copies_only (after_marked w.long (station_in w refl) 0).only; slots = slots_closed a p.jobs; draws = omega arith }

    -- RESTART
    spares_RESTART : SparesAt RESTART do_restart
    unfolding do_restart
    spares_RESTART a b c d w = spares_copies _ (after_marked w.long (station_in w refl) 1).only

    -- ---- all of them
    -- an accepted step, in the order of the kinds
    spares_accepted : (e : Event) → Sound p out e → Spares p (accepted p e)
    spares_accepted =
        accepted_by_kind (λ e x. Sound p out e → Spares p x) p
        ((λ a b c d w. spares_same 0)
        then spares_OPEN
        then spares_BEGIN
        then spares_LOCKX
        then spares_LOCKS
        then spares_DRAW
        then spares_READ
        then spares_COMMIT
        then spares_ABORT
        then spares_SEND
        then spares_DEMOTE
        then spares_SHARE
        then spares_DROP
        then spares_PROMOTE
        then spares_GRANT
        then spares_ACK
        then spares_CRASH
        then spares_RESTART
        then tt)
        (λ e w. spares_same 0)

    -- any step
    pub spares_step : (e : Event) → Spares p (effect p out e)
    unfolding effect
    spares_step e =
        judged_cases (Spares p) (refusals out) p e
        (λ r. record { copies = copies_stay; slots = slots_stay; draws = omega arith })
        (λ none. spares_accepted e (admitted p out e none).is_sound)

-- the output: four draws fill its twelve places
out_kept : (out : List ℕ) (ds : List Draw) → length ds ≤ lock_count
    → (length (sets out 0 (shown ds)) ≡ length out) × (drop out_count (sets out 0 (shown ds)) ≡ drop out_count out)
out_kept out ds few =
    let three = shown_length ds in
    (length-sets out 0 (shown ds), drop_sets (shown ds) out 0 out_count (omega arith))

-- a step touches no extra entry
pub step_extra_kept : StepExtraKept
unfolding step_of
step_extra_kept p out e four =
    let w = spares_step p out four e in
    let shows = out_kept out (effect p out e).draws w.draws in
    (plant_same p (effect p out e).plant w.copies w.slots, shows.0, shows.1)

-- the empty plant is written within the stated sizes
emptied_only : (p : Plant) → OnlyStated p.copies (emptied p).copies
unfolding emptied emptied_copies
emptied_only p =
    record {
      firsts = only_filled series_count p.copies.firsts 0;
      lasts = only_filled series_count p.copies.lasts 0;
      kinds = only_filled place_count p.copies.kinds 0;
      values = only_filled place_count p.copies.values 0;
      sent = only_filled place_count p.copies.sent 0;
      rel_to = only_filled place_count p.copies.rel_to 0;
      rel_kind = only_filled place_count p.copies.rel_kind 0;
      rel_value = only_filled place_count p.copies.rel_value 0;
      received = only_filled received_count p.copies.received 0;
      up = only_filled station_count p.copies.up 1;
    }

-- so no extra entry is touched
emptied_extra : (p : Plant) → SameExtra p (emptied p)
unfolding emptied
emptied_extra p = plant_same p (emptied p) (copies_only (emptied_only p)) (slots_filled p.jobs no_job)

-- nor is one where it is refused
pub empty_extra_kept : (p : Plant) → SameExtra p (empty_of p).plant
unfolding empty_of
empty_extra_kept p =
    cond_cases (λ (x : Effect). SameExtra p x.plant) (short_tables p) (refused (Err Short) p) (done 0 (emptied p))
    (λ _. (refl, refl)) (λ _. emptied_extra p)

-- both
pub extra_kept : ExtraKept
extra_kept = (step_extra_kept, empty_extra_kept)
