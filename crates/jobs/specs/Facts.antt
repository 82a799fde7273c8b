-- W1, W4 and W5 of the job slots once more, as statements about every slot and lock place and not as tests: what a proof about whole
-- tables may use. `jobs_facts` and `facts_jobs` of proofs/Reflect.antt show that they hold exactly where the tests do.
-- Assumes nothing.
use Rattle.std.specs.Prelude.{ℕ, ◌+◌, ◌-◌, ◌≤◌, ◌<◌, ◌≡◌, List, get_or}
use Rattle.words.specs.Numbers.{station_count, series_count, job_count, lock_count, greatest_serial, share, exclusive}
use Rattle.copies.specs.Tables.{Copies, Series, series_at, kind, value}
use Rattle.copies.specs.Facts.{Open}
use Rattle.jobs.specs.declared.Lock.{Lock}
use Rattle.jobs.specs.declared.Job.{Job}
use Rattle.jobs.specs.Job.{lock_at}
use Rattle.jobs.specs.Slots.{job_at}

-- the job is open
abbrev pub OpenJob : Job → Type 0
OpenJob b = b.mark ≡ 1

-- lock place i is used
abbrev pub Used : Job → ℕ → Type 0
Used b i = (lock_at b i).mode ≡ 0 → ⊥

-- place i locks series s
abbrev pub Locks : Job → ℕ → ℕ → Type 0
Locks b s i = Used b i × ((lock_at b i).series ≡ s)

-- the series that place i is on
abbrev pub locked_series : Copies → Job → ℕ → Series
locked_series t b i = series_at t (lock_at b i).series

-- W1 of a lock place
pub record LockRange (l : Lock) : Type 0 where
  pub of_series : l.series < series_count
  pub of_mode : l.mode ≤ exclusive
  pub of_draw : l.drawn ≤ greatest_serial

-- W1 of a job slot
pub record JobRange (b : Job) : Type 0 where
  pub of_mark : b.mark ≤ 1
  pub of_station : b.station < station_count
  pub of_lock : (i : ℕ) → i < lock_count → LockRange (lock_at b i)

-- W4 of a used lock place of an open job, by itself
pub record LockWhole (t : Copies) (b : Job) (i : ℕ) : Type 0 where
  pub opened : Open (locked_series t b i)
  pub differs : (k : ℕ) → k < i → Locks b (lock_at b i).series k → ⊥
  pub exclusive_copy : (lock_at b i).mode ≡ exclusive → kind (locked_series t b i) b.station ≡ exclusive
  pub within : (lock_at b i).mode ≡ exclusive → (lock_at b i).drawn ≤ (locked_series t b i).last + 1 - value (locked_series t b i) b.station
  pub share_copy : (lock_at b i).mode ≡ share → kind (locked_series t b i) b.station ≡ share
  pub no_draw : (lock_at b i).mode ≡ share → (lock_at b i).drawn ≡ 0

-- W4: where job b is open at job a's station, it locks no series that a locks exclusively
abbrev pub Apart : (a b : Job) → Type 0
Apart a b =
    OpenJob b → b.station ≡ a.station → (i k : ℕ) → i < lock_count → k < lock_count → (lock_at a i).mode ≡ exclusive → Locks b (lock_at a i).series k → ⊥

-- W4 of job j, where it is open
pub record OpenJobWhole (t : Copies) (bs : List Job) (j : ℕ) : Type 0 where
  pub station_up : get_or t.up (job_at bs j).station 0 ≡ 1
  pub lock : (i : ℕ) → i < lock_count → Used (job_at bs j) i → LockWhole t (job_at bs j) i
  pub alone : (k : ℕ) → k < job_count → (k ≡ j → ⊥) → Apart (job_at bs j) (job_at bs k)

-- W5 of a lock place: an unused one is zero, and a used one comes after used ones
pub record PlaceWhole (b : Job) (i : ℕ) : Type 0 where
  pub zero : (lock_at b i).mode ≡ 0 → ((lock_at b i).series ≡ 0) × ((lock_at b i).drawn ≡ 0)
  pub after : Used b i → (k : ℕ) → k < i → Used b k

-- W5 of a slot whose mark is 0: no station, and no lock place is used
abbrev pub Empty : Job → Type 0
Empty b = (b.station ≡ 0) × ((i : ℕ) → i < lock_count → (lock_at b i).mode ≡ 0)

-- Slot j is whole: W1; W4 where the job is open; W5 of its lock places and, where its mark is 0, of the slot.
pub record JobWhole (t : Copies) (bs : List Job) (j : ℕ) : Type 0 where
  pub range : JobRange (job_at bs j)
  pub opened : OpenJob (job_at bs j) → OpenJobWhole t bs j
  pub place : (i : ℕ) → i < lock_count → PlaceWhole (job_at bs j) i
  pub unused : (job_at bs j).mark ≡ 0 → Empty (job_at bs j)

-- The sixteen slots are whole.
abbrev pub JobsWhole : Copies → List Job → Type 0
JobsWhole t bs = (j : ℕ) → j < job_count → JobWhole t bs j
