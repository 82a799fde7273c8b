-- The tests of specs/Whole.antt hold exactly where the statements of specs/Facts.antt do: of a lock place, of a slot, of all sixteen.
-- Assumes nothing.
use Prim.Native.Nat.{ℕ, ◌+◌, ◌-◌, ◌≤◌, ◌<◌}
use mathlib.Core.Path.{◌≡◌}
use mathlib.Core.Bool.{true}
use mathlib.Core.List.{List}
use lib.Dec.{eqb}
use lib.ListN.{get_or}
use Rattle.words.specs.Numbers.{station_count, series_count, job_count, lock_count, greatest_serial, share, exclusive}
use Rattle.words.specs.Tests.{non}
use Rattle.words.proofs.Laws.{all_true, true_all}
use Rattle.words.proofs.Reflects.{Reflects, reflects_le, reflects_lt, reflects_eq, reflects_as, reflects_not, reflects_and, reflects_if, reflects_unless, reflects_cond, reflects_all, reflects_not_lt, reflects_nand, reflects_none}
use Rattle.copies.specs.Tables.{Copies, Series, kind, value}
use Rattle.copies.proofs.Reflect.{is_zero, is_open_reflects}
use Rattle.jobs.specs.declared.Lock.{Lock}
use Rattle.jobs.specs.declared.Job.{Job}
use Rattle.jobs.specs.Job.{job_open, lock_at, is_used, locks_here, locks_series}
use Rattle.jobs.specs.Slots.{job_at}
use Rattle.jobs.specs.Whole.{W1_lock, W1_job, W4_exclusive, W4_share, W4_differs, W4_lock, W4_locks, meets, W4_alone, W4_job, W5_lock, W5_job, W1_jobs, W4_jobs, W5_jobs}
use Rattle.jobs.specs.Facts.{OpenJob, Used, Locks, locked_series, LockRange, JobRange, LockWhole, Apart, OpenJobWhole, PlaceWhole, Empty, JobWhole, JobsWhole}

-- ---- W1
-- of a lock place
pub W1_lock_reflects : (l : Lock) → Reflects (W1_lock l) (LockRange l)
unfolding W1_lock
W1_lock_reflects l =
    reflects_as (λ w. record { of_series = w.0.0; of_mode = w.0.1; of_draw = w.1 }) (λ w. ((w.of_series, w.of_mode), w.of_draw))
    (reflects_and _ _ (reflects_and _ _ (reflects_lt l.series series_count) (reflects_le l.mode exclusive)) (reflects_le l.drawn greatest_serial))

-- of a slot
pub W1_job_reflects : (b : Job) → Reflects (W1_job b) (JobRange b)
unfolding W1_job
W1_job_reflects b =
    reflects_as (λ w. record { of_mark = w.0.0; of_station = w.0.1; of_lock = w.1 }) (λ w. ((w.of_mark, w.of_station), w.of_lock))
    (reflects_and _ _ (reflects_and _ _ (reflects_le b.mark 1) (reflects_lt b.station station_count))
    (reflects_all (λ i. LockRange (lock_at b i)) lock_count _ (λ i l. W1_lock_reflects (lock_at b i))))

-- ---- W4
module _ (b : Job) where
  -- a lock place is used
  pub used_reflects : (i : ℕ) → Reflects (is_used b i) (Used b i)
  used_reflects i = reflects_not (eqb (lock_at b i).mode 0) (reflects_eq (lock_at b i).mode 0)

  -- it doesn't lock series s
  pub not_here_reflects : (s i : ℕ) → Reflects (non (locks_here b s i)) (Locks b s i → ⊥)
  not_here_reflects s i = reflects_not _ (reflects_and _ _ (used_reflects i) (reflects_eq (lock_at b i).series s))

  -- no lock place does
  pub not_locked_reflects : (s : ℕ) → Reflects (non (locks_series b s)) ((i : ℕ) → i < lock_count → Locks b s i → ⊥)
  unfolding locks_series
  not_locked_reflects s = reflects_none (λ i. Locks b s i → ⊥) lock_count _ (λ i l. not_here_reflects s i)

  -- no earlier lock is on the series of place i
  pub W4_differs_reflects : (i : ℕ) → Reflects (W4_differs b i) ((k : ℕ) → k < i → Locks b (lock_at b i).series k → ⊥)
  unfolding W4_differs
  W4_differs_reflects i = reflects_all (λ k. Locks b (lock_at b i).series k → ⊥) i _ (λ k l. not_here_reflects (lock_at b i).series k)

module _ (l : Lock) (r : Series) (n : ℕ) where
  -- an exclusive lock's copy and draw
  W4_exclusive_reflects : Reflects (W4_exclusive l r n) ((kind r n ≡ exclusive) × (l.drawn ≤ r.last + 1 - value r n))
  unfolding W4_exclusive
  W4_exclusive_reflects = reflects_and _ _ (reflects_eq (kind r n) exclusive) (reflects_not_lt (r.last + 1 - value r n) l.drawn)

  -- a share lock's
  W4_share_reflects : Reflects (W4_share l r n) ((kind r n ≡ share) × (l.drawn ≡ 0))
  unfolding W4_share
  W4_share_reflects = reflects_and _ _ (reflects_eq (kind r n) share) (reflects_eq l.drawn 0)

-- of a lock place by itself
pub W4_lock_reflects : (t : Copies) (b : Job) (i : ℕ) → Reflects (W4_lock t b i) (Used b i → LockWhole t b i)
unfolding W4_lock
W4_lock_reflects t b i =
    reflects_if (is_used b i) _ (used_reflects b i)
    (reflects_as
    (λ w. record { opened = w.0.0.0; differs = w.0.0.1; exclusive_copy = λ e. (w.0.1 e).0; within = λ e. (w.0.1 e).1; share_copy = λ e. (w.1 e).0; no_draw = λ e. (w.1 e).1 })
    (λ w. (((w.opened, w.differs), λ e. (w.exclusive_copy e, w.within e)), λ e. (w.share_copy e, w.no_draw e)))
    (reflects_and _ _ (reflects_and _ _ (reflects_and _ _ (is_open_reflects (locked_series t b i)) (W4_differs_reflects b i))
    (reflects_if _ _ (reflects_eq (lock_at b i).mode exclusive) (W4_exclusive_reflects (lock_at b i) (locked_series t b i) b.station)))
    (reflects_if _ _ (reflects_eq (lock_at b i).mode share) (W4_share_reflects (lock_at b i) (locked_series t b i) b.station))))

-- no lock of a job is on a copy that another locks exclusively
pub meets_reflects : (a b : Job) → Reflects (non (meets a b)) (Apart a b)
unfolding meets
meets_reflects a b =
    reflects_as (λ w o e i k l m x. w (o, e) i l x k m) (λ w p i l x k m. w p.0 p.1 i k l m x)
    (reflects_nand _ _ (reflects_and _ _ (reflects_eq b.mark 1) (reflects_eq b.station a.station))
    (reflects_none (λ i. (lock_at a i).mode ≡ exclusive → (k : ℕ) → k < lock_count → Locks b (lock_at a i).series k → ⊥) lock_count _
    (λ i l. reflects_nand _ _ (reflects_eq (lock_at a i).mode exclusive) (not_locked_reflects b (lock_at a i).series))))

-- of job j beside the other jobs
pub W4_alone_reflects : (bs : List Job) (j : ℕ) → Reflects (W4_alone bs j) ((k : ℕ) → k < job_count → (k ≡ j → ⊥) → Apart (job_at bs j) (job_at bs k))
unfolding W4_alone
W4_alone_reflects bs j =
    reflects_all (λ k. (k ≡ j → ⊥) → Apart (job_at bs j) (job_at bs k)) job_count _
    (λ k l. reflects_unless (eqb k j) _ (reflects_not _ (reflects_eq k j)) (meets_reflects (job_at bs j) (job_at bs k)))

-- of slot j
pub W4_job_reflects : (t : Copies) (bs : List Job) (j : ℕ) → Reflects (W4_job t bs j) (OpenJob (job_at bs j) → OpenJobWhole t bs j)
unfolding W4_job W4_locks
W4_job_reflects t bs j =
    reflects_if (job_open (job_at bs j)) _ (reflects_eq (job_at bs j).mark 1)
    (reflects_as (λ w. record { station_up = w.0.0; lock = w.0.1; alone = w.1 }) (λ w. ((w.station_up, w.lock), w.alone))
    (reflects_and _ _ (reflects_and _ _ (reflects_eq (get_or t.up (job_at bs j).station 0) 1)
    (reflects_all (λ i. Used (job_at bs j) i → LockWhole t (job_at bs j) i) lock_count _ (λ i l. W4_lock_reflects t (job_at bs j) i))) (W4_alone_reflects bs j)))

-- ---- W5
module _ (b : Job) where
  -- of a lock place
  pub W5_lock_reflects : (i : ℕ) → Reflects (W5_lock b i) (PlaceWhole b i)
  unfolding W5_lock
  W5_lock_reflects i =
      reflects_as (λ w. record { zero = w.0; after = w.1 }) (λ w. (w.zero, w.after))
      (reflects_cond _ _ _ (reflects_eq (lock_at b i).mode 0) (reflects_and _ _ (reflects_eq (lock_at b i).series 0) (reflects_eq (lock_at b i).drawn 0))
      (reflects_all (Used b) i (is_used b) (λ k l. used_reflects b k)))

  -- of a slot
  pub W5_job_reflects : Reflects (W5_job b) (((i : ℕ) → i < lock_count → PlaceWhole b i) × (b.mark ≡ 0 → Empty b))
  unfolding W5_job
  W5_job_reflects =
      reflects_and _ _ (reflects_all (PlaceWhole b) lock_count _ (λ i l. W5_lock_reflects i))
      (reflects_if _ _ (reflects_eq b.mark 0) (reflects_and _ _ (reflects_eq b.station 0)
      (reflects_all (λ i. (lock_at b i).mode ≡ 0) lock_count _
      (λ i l. reflects_as (is_zero (lock_at b i).mode) (λ e u. u e) (reflects_not _ (used_reflects b i))))))

-- ---- the sixteen slots
module _ (t : Copies) (bs : List Job) where
  -- the three rules of slot j, as they are tested
  abbrev pub Rules : ℕ → Type 0
  Rules j = JobRange (job_at bs j) × ((OpenJob (job_at bs j) → OpenJobWhole t bs j) × (((i : ℕ) → i < lock_count → PlaceWhole (job_at bs j) i) × ((job_at bs j).mark ≡ 0 → Empty (job_at bs j))))

  -- together
  pub to_whole : (j : ℕ) → Rules j → JobWhole t bs j
  to_whole j w = record { range = w.0; opened = w.1.0; place = w.1.1.0; unused = w.1.1.1 }

  -- and apart again
  pub from_whole : (j : ℕ) → JobWhole t bs j → Rules j
  from_whole j w = (w.range, (w.opened, (w.place, w.unused)))

  -- slots that pass the tests are whole
  pub jobs_facts : W1_jobs bs ≡ true → W4_jobs t bs ≡ true → W5_jobs bs ≡ true → JobsWhole t bs
  unfolding W1_jobs W4_jobs W5_jobs
  jobs_facts e f g j l = to_whole j ((W1_job_reflects (job_at bs j)).0 (all_true _ _ e j l), ((W4_job_reflects t bs j).0 (all_true _ _ f j l), (W5_job_reflects (job_at bs j)).0 (all_true _ _ g j l)))

  -- and whole slots pass them
  pub facts_jobs : JobsWhole t bs → (W1_jobs bs ≡ true) × (W4_jobs t bs ≡ true) × (W5_jobs bs ≡ true)
  unfolding W1_jobs W4_jobs W5_jobs
  facts_jobs w = (
    true_all _ _ (λ j l. (W1_job_reflects (job_at bs j)).1 (from_whole j (w j l)).0),
    true_all _ _ (λ j l. (W4_job_reflects t bs j).1 (from_whole j (w j l)).1.0),
    true_all _ _ (λ j l. (W5_job_reflects (job_at bs j)).1 (from_whole j (w j l)).1.1),
  )
