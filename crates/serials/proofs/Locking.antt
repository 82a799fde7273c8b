-- LOCKX and LOCKS: a lock at the first unused place of a job.
-- Assumes nothing.
use Prim.Native.Nat.{ℕ, ◌≤◌, ◌<◌}
use native.Mathlib.Omega.{arith}
use mathlib.Core.Path.{◌≡◌, refl, ◌∙◌}
use mathlib.Core.Logic.{⊎_elim, ◌≢◌}
use mathlib.Core.Bool.{false, true}
use mathlib.Core.List.{List}
use lib.ListN.{set, length}
use Rattle.words.specs.Numbers.{series_count, job_count, lock_count, share, exclusive}
use Rattle.words.specs.Tests.{non}
use Rattle.words.proofs.Laws.{some_non, least_true, least_most}
use Rattle.words.proofs.Guards.{non_false}
use Rattle.copies.specs.Tables.{Copies, series_at, kind}
use Rattle.copies.specs.Facts.{Open}
use Rattle.jobs.specs.declared.Lock.{Lock}
use Rattle.jobs.specs.declared.Job.{Job}
use Rattle.jobs.specs.Job.{lock_at, is_used, locks_series, is_full, new_place, with_lock}
use Rattle.jobs.specs.Slots.{job_at, free}
use Rattle.jobs.specs.Facts.{OpenJob, Used, JobsWhole}
use Rattle.jobs.proofs.Places.{unused_place}
use Rattle.jobs.proofs.Reflect.{not_locked_reflects}
use Rattle.serials.proofs.Locked.{free_locked, locked_exclusive}
use Rattle.serials.proofs.Putting.{LockFits, Beside, put_jobs}

-- ---- the first unused place
module _ (b : Job) (room : is_full b ≡ false) where
  -- a job that isn't full has a first unused place
  new_place_lem : new_place b < lock_count
  unfolding new_place is_full
  new_place_lem = (least_true lock_count (λ i. non (is_used b i)) (some_non lock_count (is_used b) ∙ non_false _ room)).0

  -- the places before it are used
  new_before : (k : ℕ) → k < new_place b → Used b k
  unfolding new_place
  new_before k lt unused =
      let within = new_place_lem in
      let least : new_place b ≤ k = least_most lock_count (λ i. non (is_used b i)) k (omega arith) (unused_place (lock_at b k).mode unused) in
      omega arith

-- ---- the new lock
-- a lock on series s that has drawn nothing
abbrev new_lock : (s mode : ℕ) → Lock
new_lock s mode = record { series = s; mode = mode; drawn = 0 }

-- it is whole where the series is open and the copy fits its mode
new_fits : {t : Copies} {n s mode : ℕ} → s < series_count → Open (series_at t s) → mode ≢ 0 → mode ≤ exclusive
    → (mode ≡ exclusive → kind (series_at t s) n ≡ exclusive) → (mode ≡ share → kind (series_at t s) n ≡ share)
    → LockFits t n (new_lock s mode)
new_fits ls opened used few exclusive_copy share_copy =
    record {
      used = used;
      range = record { of_series = ls; of_mode = few; of_draw = omega arith };
      opened = opened;
      exclusive_copy = exclusive_copy;
      within = λ _. omega arith;
      share_copy = share_copy;
      no_draw = λ _. refl;
    }

-- an open job with room puts such a lock on a series that it doesn't lock
lock_jobs : {t : Copies} {bs : List Job} {j s mode : ℕ} → job_count ≤ length bs → j < job_count → length (job_at bs j).locks ≡ lock_count
    → OpenJob (job_at bs j) → locks_series (job_at bs j) s ≡ false → is_full (job_at bs j) ≡ false
    → LockFits t (job_at bs j).station (new_lock s mode) → Beside bs j (new_lock s mode) → JobsWhole t bs
    → JobsWhole t (set bs j (with_lock (job_at bs j) s mode))
unfolding with_lock
lock_jobs {bs} {j} {s} long lt four o none room fits beside =
    put_jobs long lt o
    (record {
      four = four;
      place = new_place_lem (job_at bs j) room;
      fits = fits;
      before = new_before (job_at bs j) room;
      differs = λ k l _. (not_locked_reflects (job_at bs j) s).0 (non_false _ none) k l;
    }) beside

-- LOCKX
pub lockx_jobs : {t : Copies} {bs : List Job} {j s : ℕ} → job_count ≤ length bs → j < job_count → length (job_at bs j).locks ≡ lock_count
    → OpenJob (job_at bs j) → s < series_count → Open (series_at t s) → locks_series (job_at bs j) s ≡ false → is_full (job_at bs j) ≡ false
    → kind (series_at t s) (job_at bs j).station ≡ exclusive → free bs s (job_at bs j).station ≡ true → JobsWhole t bs
    → JobsWhole t (set bs j (with_lock (job_at bs j) s exclusive))
lockx_jobs {bs} {s} long lt four o ls opened none room copy isFree =
    lock_jobs long lt four o none room (new_fits ls opened (λ e. omega arith) (omega arith) (λ _. copy) (λ e. absurd (omega arith)))
    (λ k ne w _. free_locked bs k s _ isFree w)

-- LOCKS: a share copy has no exclusive lock
pub locks_jobs : {t : Copies} {bs : List Job} {j s : ℕ} → job_count ≤ length bs → j < job_count → length (job_at bs j).locks ≡ lock_count
    → OpenJob (job_at bs j) → s < series_count → Open (series_at t s) → locks_series (job_at bs j) s ≡ false → is_full (job_at bs j) ≡ false
    → kind (series_at t s) (job_at bs j).station ≡ share → JobsWhole t bs → JobsWhole t (set bs j (with_lock (job_at bs j) s share))
locks_jobs long lt four o ls opened none room copy whole =
    lock_jobs long lt four o none room (new_fits ls opened (λ e. omega arith) (omega arith) (λ e. absurd (omega arith)) (λ _. copy))
    (λ k ne w. ⊎_elim (λ e. omega arith) (λ mode. omega (arith, copy, locked_exclusive whole w mode))) whole
