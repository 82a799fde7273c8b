-- One lock of an open job that is put at one of its places, as LOCKX, LOCKS and DRAW do.
-- Assumes nothing.
use Prim.Native.Nat.{ℕ, ◌+◌, ◌-◌, ◌≤◌, ◌<◌}
use native.Mathlib.Omega.{arith}
use mathlib.Core.Path.{◌≡◌, sym}
use mathlib.Core.Logic.{◌⊎◌, inl, inr, ◌≢◌}
use mathlib.Core.List.{List}
use lib.ListN.{set, length}
use Rattle.words.specs.Numbers.{job_count, lock_count, share, exclusive}
use Rattle.copies.specs.Tables.{Copies, series_at, kind, value}
use Rattle.copies.specs.Facts.{Open}
use Rattle.jobs.specs.declared.Lock.{Lock}
use Rattle.jobs.specs.declared.Job.{Job}
use Rattle.jobs.specs.Job.{no_lock, lock_at, put_lock}
use Rattle.jobs.specs.Slots.{job_at}
use Rattle.jobs.specs.Facts.{OpenJob, Used, Locks, LockRange, LockWhole, Apart, PlaceWhole, JobsWhole}
use Rattle.serials.proofs.Locked.{Locked}
use Rattle.serials.proofs.Slots.{put_cases, OwnWhole, slot_own, job_put}

-- ---- one lock
-- A used lock of an open job at station n is whole, whatever the job's other locks are.
pub record LockFits (t : Copies) (n : ℕ) (l : Lock) : Type 0 where
  pub used : l.mode ≢ 0
  pub range : LockRange l
  pub opened : Open (series_at t l.series)
  pub exclusive_copy : l.mode ≡ exclusive → kind (series_at t l.series) n ≡ exclusive
  pub within : l.mode ≡ exclusive → l.drawn ≤ (series_at t l.series).last + 1 - value (series_at t l.series) n
  pub share_copy : l.mode ≡ share → kind (series_at t l.series) n ≡ share
  pub no_draw : l.mode ≡ share → l.drawn ≡ 0

-- Lock l can be put at place i of job b: it is whole, the places before are used, and no other place is on its series.
pub record Puttable (t : Copies) (b : Job) (i : ℕ) (l : Lock) : Type 0 where
  pub four : length b.locks ≡ lock_count
  pub place : i < lock_count
  pub fits : LockFits t b.station l
  pub before : (k : ℕ) → k < i → Used b k
  pub differs : (k : ℕ) → k < lock_count → k ≢ i → Locks b l.series k → ⊥

module _ {t : Copies} {b : Job} {i : ℕ} {l : Lock} (put : Puttable t b i l) where
  -- at place i stands the lock, elsewhere what stood there
  place_cases : (P : Lock → Type 0) (k : ℕ) → (k ≡ i → P l) → (k ≢ i → P (lock_at b k)) → P (lock_at (put_lock b i l) k)
  place_cases P k = put_cases P b.locks i l no_lock k (omega (arith, put.four, put.place))

  module _ (o : OpenJob b) (own : OwnWhole t b) where
    -- a used place of the job as it was
    old_fits : (k : ℕ) → k < lock_count → Used b k → LockFits t b.station (lock_at b k)
    old_fits k lk used =
        let w = own.lock o k lk used in
        record {
          used = used;
          range = own.range.of_lock k lk;
          opened = w.opened;
          exclusive_copy = w.exclusive_copy;
          within = w.within;
          share_copy = w.share_copy;
          no_draw = w.no_draw;
        }

    -- no earlier place than k is on its series
    put_differs : (k m : ℕ) → k < lock_count → m < k → Used (put_lock b i l) k → Locks (put_lock b i l) (lock_at (put_lock b i l) k).series m
        → ⊥
    put_differs k m lk lt =
        place_cases (λ (x : Lock). x.mode ≢ 0 → ((lock_at (put_lock b i l) m).mode ≢ 0) × ((lock_at (put_lock b i l) m).series ≡ x.series) → ⊥) k
        (λ e _. place_cases (λ (y : Lock). (y.mode ≢ 0) × (y.series ≡ l.series) → ⊥) m
        (λ q _. omega arith) (λ ne locks. put.differs m (omega arith) ne locks))
        (λ nk used. place_cases (λ (y : Lock). (y.mode ≢ 0) × (y.series ≡ (lock_at b k).series) → ⊥) m
        (λ _ locks. put.differs k lk nk (used, sym locks.1)) (λ _. (own.lock o k lk used).differs m lt))

    -- W4 of a used place by itself
    put_lock_lem : (k : ℕ) → k < lock_count → Used (put_lock b i l) k → LockWhole t (put_lock b i l) k
    put_lock_lem k lk used =
        let w = place_cases (λ (x : Lock). x.mode ≢ 0 → LockFits t b.station x) k (λ _ _. put.fits) (λ _. old_fits k lk) used in
        record {
          opened = w.opened;
          differs = λ m lt. put_differs k m lk lt used;
          exclusive_copy = w.exclusive_copy;
          within = w.within;
          share_copy = w.share_copy;
          no_draw = w.no_draw;
        }

    -- W5 of a place
    put_place : (k : ℕ) → k < lock_count → PlaceWhole (put_lock b i l) k
    put_place k lk =
        record {
          zero = place_cases (λ (x : Lock). x.mode ≡ 0 → (x.series ≡ 0) × (x.drawn ≡ 0)) k
              (λ _ e. absurd (put.fits.used e)) (λ _. (own.place k lk).zero);
          after = λ used m lt. place_cases (λ (y : Lock). y.mode ≢ 0) m (λ _. put.fits.used)
              (λ _. place_cases (λ (x : Lock). x.mode ≢ 0 → Used b m) k
              (λ e _. put.before m (omega arith)) (λ _ old. (own.place k lk).after old m lt) used);
        }

    -- the job with it is whole by itself
    put_own : OwnWhole t (put_lock b i l)
    put_own =
        record {
          range = record {
            of_mark = own.range.of_mark;
            of_station = own.range.of_station;
            of_lock = λ k lk. place_cases LockRange k (λ _. put.fits.range) (λ _. own.range.of_lock k lk);
          };
          station_up = own.station_up;
          lock = λ _. put_lock_lem;
          place = put_place;
          unused = λ e. absurd (omega arith);
        }

-- ---- beside the other jobs
-- a lock put in slot j: no other job locks its copy, where either lock is exclusive
abbrev pub Beside : List Job → ℕ → Lock → Type 0
Beside bs j l =
    (k : ℕ) → k ≢ j → (w : Locked bs k l.series (job_at bs j).station) → (l.mode ≡ exclusive) ⊎ ((lock_at (job_at bs k) w.place).mode ≡ exclusive) → ⊥

-- THE LAW of a lock that an open job puts
pub put_jobs : {t : Copies} {bs : List Job} {j i : ℕ} {l : Lock} → job_count ≤ length bs → j < job_count → OpenJob (job_at bs j)
    → Puttable t (job_at bs j) i l → Beside bs j l → JobsWhole t bs → JobsWhole t (set bs j (put_lock (job_at bs j) i l))
put_jobs {t} {bs} {j} {i} {l} long lt o put beside whole =
    job_put long lt (put_own put o (slot_own (whole j lt))) (λ k lk ne _ ok. (new k lk ne ok, old k lk ne ok)) whole
  where
    new : (k : ℕ) → k < job_count → k ≢ j → OpenJob (job_at bs k) → Apart (put_lock (job_at bs j) i l) (job_at bs k)
    new k lk ne ok _ e x y lx ly =
        place_cases put (λ (z : Lock). z.mode ≡ exclusive → Locks (job_at bs k) z.series y → ⊥) x
        (λ _ mode locks. beside k ne (record { slot = lk; opened = ok; there = e; place = y; within = ly; locks = locks }) (inl mode))
        (λ _. ((whole j lt).opened o).alone k lk ne ok e x y lx ly)

    old : (k : ℕ) → k < job_count → k ≢ j → OpenJob (job_at bs k) → Apart (job_at bs k) (put_lock (job_at bs j) i l)
    old k lk ne ok _ e x y lx ly mode =
        place_cases put (λ (z : Lock). (z.mode ≢ 0) × (z.series ≡ (lock_at (job_at bs k) x).series) → ⊥) y
        (λ _ locks. beside k ne (record { slot = lk; opened = ok; there = sym e; place = x; within = lx; locks = (λ z. omega arith, sym locks.1) }) (inr mode))
        (λ _. ((whole k lk).opened ok).alone j lt (λ q. ne (sym q)) o e x y lx ly mode)
