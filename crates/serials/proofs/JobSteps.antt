-- The accepted steps of jobs and stations, kind by kind: each is proper.
-- Assumes nothing.
use Prim.Native.Nat.{ℕ, zero, suc, ◌≤◌, ◌<◌}
use native.Mathlib.Omega.{arith}
use native.Mathlib.Nat.{not-suc-le-zero}
use mathlib.Core.Path.{◌≡◌, refl}
use mathlib.Core.List.{List, [], ◌∷◌, map}
use lib.Dec.{eqb}
use lib.ListN.{get_or, length}
use Rattle.words.specs.Numbers.{series_count, job_count, lock_count}
use Rattle.copies.specs.Tables.{Copies}
use Rattle.copies.proofs.After.{after_marked}
use Rattle.jobs.specs.declared.Lock.{Lock}
use Rattle.jobs.specs.Job.{no_lock}
use Rattle.jobs.specs.Slots.{job_at}
use Rattle.jobs.specs.Draws.{Draw, draws_on, draws_of}
use Rattle.jobs.proofs.Stored.{draw_of}
use Rattle.rulebook.specs.Tables.{Plant}
use Rattle.rulebook.specs.Events.{BEGIN, LOCKX, LOCKS, DRAW, READ, COMMIT, ABORT, CRASH, RESTART}
use Rattle.rulebook.specs.Steps.{do_begin, do_lockx, do_locks, do_draw, do_read, do_commit, do_abort, do_crash, do_restart}
use Rattle.rulebook.specs.Keeps.{FourPlaces}
use Rattle.rulebook.proofs.Judging.{cond_cases}
use Rattle.rulebook.proofs.Admits.{series_in_lem, station_in, job_in, count_in_lem}
use Rattle.serials.proofs.Tiling.{plain}
use Rattle.serials.proofs.Leaving.{marks_whole, marks_moves}
use Rattle.serials.proofs.Proper.{Known, none_known, proper_same, proper_slots}
use Rattle.serials.proofs.Admitting.{series_opened_lem, job_opened, station_up_lem, not_held, not_full, copy_exclusive, copy_share, copy_free, draw_locked, count_left}
use Rattle.serials.proofs.CopySteps.{ProperAt}
use Rattle.serials.proofs.Locked.{same_copy_self}
use Rattle.serials.proofs.Slots.{close_above, begin_jobs}
use Rattle.serials.proofs.Stations.{crash_jobs, restart_jobs}
use Rattle.serials.proofs.Locking.{lockx_jobs, locks_jobs}
use Rattle.serials.proofs.Drawing.{draw_jobs}
use Rattle.serials.proofs.Committed.{commit_copies, commit_jobs, commit_moves}

-- one draw more
one_more : (d : Draw) (ds : List Draw) → d.series < series_count → Known (map plain ds) → Known (map plain (d ∷ ds))
one_more d ds h rest zero l = h
one_more d ds h rest (suc i) l = rest i (omega arith)

-- draws of locks on series that there are
draws_known : (t : Copies) (n : ℕ) (ls : List Lock) → ((i : ℕ) → i < length ls → (get_or ls i no_lock).series < series_count)
    → Known (map plain (draws_on t n ls))
unfolding draws_on
draws_known t n [] there = λ i l. absurd (not-suc-le-zero l)
draws_known t n (l ∷ ls) there =
    let rest = draws_known t n ls (λ i k. there (suc i) (omega arith)) in
    cond_cases (λ (ds : List Draw). Known (map plain ds)) (eqb l.drawn 0) _ _ (λ _. rest) (λ _. one_more (draw_of t n l) (draws_on t n ls) (there 0 (omega arith)) rest)

module _ (p : Plant) (out : List ℕ) (four : FourPlaces p.jobs) where
  -- ---- jobs
  -- BEGIN
  pub proper_BEGIN : ProperAt p out BEGIN do_begin
  unfolding do_begin
  proper_BEGIN a b c d w =
      let s = w.is_sound in
      proper_slots s.copies s.jobs (begin_jobs s.slots (job_in s refl) (station_in s refl) (station_up_lem w refl) s.jobs)

  -- a slot that a sound event names has its four lock places
  four_there : (j : ℕ) → j < job_count → job_count ≤ length p.jobs → length (job_at p.jobs j).locks ≡ lock_count
  four_there j l slots = four j (omega arith)

  -- LOCKX
  pub proper_LOCKX : ProperAt p out LOCKX do_lockx
  unfolding do_lockx
  proper_LOCKX a b c d w =
      let s = w.is_sound in
      let hj = job_in s refl in
      proper_slots s.copies s.jobs
      (lockx_jobs s.slots hj (four_there a hj s.slots) (job_opened w refl) (series_in_lem s refl) (series_opened_lem w refl) (not_held w refl) (not_full w refl)
      (copy_exclusive w refl) (copy_free w refl) s.jobs)

  -- LOCKS
  pub proper_LOCKS : ProperAt p out LOCKS do_locks
  unfolding do_locks
  proper_LOCKS a b c d w =
      let s = w.is_sound in
      let hj = job_in s refl in
      proper_slots s.copies s.jobs
      (locks_jobs s.slots hj (four_there a hj s.slots) (job_opened w refl) (series_in_lem s refl) (series_opened_lem w refl) (not_held w refl) (not_full w refl)
      (copy_share w refl refl) s.jobs)

  -- DRAW
  pub proper_DRAW : ProperAt p out DRAW do_draw
  unfolding do_draw
  proper_DRAW a b c d w =
      let s = w.is_sound in
      let hj = job_in s refl in
      let locked = draw_locked w refl in
      proper_slots s.copies s.jobs
      (draw_jobs b s.slots hj (four_there a hj s.slots) (job_opened w refl) locked.0 locked.1 (count_in_lem s refl).1 (count_left w refl) s.jobs)

  -- READ
  pub proper_READ : ProperAt p out READ do_read
  unfolding do_read
  proper_READ a b c d w = proper_same w.is_sound.copies w.is_sound.jobs refl refl

  -- ABORT
  pub proper_ABORT : ProperAt p out ABORT do_abort
  unfolding do_abort
  proper_ABORT a b c d w =
      let s = w.is_sound in
      proper_slots s.copies s.jobs (close_above p.copies p.copies p.jobs a s.slots (job_in s refl) refl (λ k i n _ _. same_copy_self) s.jobs)

  -- COMMIT
  pub proper_COMMIT : ProperAt p out COMMIT do_commit
  unfolding do_commit draws_of
  proper_COMMIT a b c d w =
      let s = w.is_sound in
      let hj = job_in s refl in
      let o = job_opened w refl in
      let places = four_there a hj s.slots in
      record {
        copies = commit_copies s.long s.copies s.jobs hj o places;
        jobs = commit_jobs s.long s.copies s.jobs hj o places s.slots;
        moves = commit_moves s.long s.copies s.jobs hj o places;
        known = draws_known p.copies _ (job_at p.jobs a).locks (λ i l. ((s.jobs a hj).range.of_lock i (omega arith)).of_series);
      }

  -- ---- stations
  -- CRASH
  pub proper_CRASH : ProperAt p out CRASH do_crash
  unfolding do_crash
  proper_CRASH a b c d w =
      let s = w.is_sound in
      let marks = after_marked s.long (station_in s refl) 0 in
      record { copies = marks_whole s.copies marks (omega arith); jobs = crash_jobs marks s.jobs; moves = marks_moves s.copies marks; known = none_known }

  -- RESTART
  pub proper_RESTART : ProperAt p out RESTART do_restart
  unfolding do_restart
  proper_RESTART a b c d w =
      let s = w.is_sound in
      let marks = after_marked s.long (station_in s refl) 1 in
      record { copies = marks_whole s.copies marks (omega arith); jobs = restart_jobs marks s.jobs; moves = marks_moves s.copies marks; known = none_known }
