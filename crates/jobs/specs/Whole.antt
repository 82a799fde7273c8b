-- "When tables are whole", the jobs' share: W1, W4 and W5 of a job, and of all sixteen slots.
-- Assumes nothing.
use Rattle.std.specs.Prelude.{ℕ, Bool, cond, List, eqb, ltb, leb}
use Rattle.words.specs.Numbers.{station_count, series_count, job_count, lock_count, greatest_serial, share, exclusive}
use Rattle.words.specs.Tests.{non, ◌and◌, ◌or◌, ◌⇒◌, all_below, some_below}
use Rattle.copies.specs.Tables.{Copies, Series, series_at, is_open, is_up, kind}
use Rattle.copies.specs.Steps.{is_beyond}
use Rattle.jobs.specs.declared.Lock.{Lock}
use Rattle.jobs.specs.declared.Job.{Job}
use Rattle.jobs.specs.Job.{job_open, job_there, lock_at, is_used, locks_here, locks_series}
use Rattle.jobs.specs.Slots.{job_at}

-- W1 of a lock place: series, mode and drawn count are in their ranges
unfoldable pub W1_lock : Lock → Bool
W1_lock l = ltb l.series series_count and leb l.mode exclusive and leb l.drawn greatest_serial

-- W1 of a job slot: mark, station, and each lock place
unfoldable pub W1_job : Job → Bool
W1_job b = leb b.mark 1 and ltb b.station station_count and all_below lock_count (λ i. W1_lock (lock_at b i))

-- W4 of an exclusive lock at station n, by itself: an exclusive copy, and a drawn count of at most last + 1 − value
unfoldable pub W4_exclusive : Lock → Series → ℕ → Bool
W4_exclusive l r n = eqb (kind r n) exclusive and non (is_beyond r n l.drawn)

-- W4 of a share lock: a share copy, and no drawn count
unfoldable pub W4_share : Lock → Series → ℕ → Bool
W4_share l r n = eqb (kind r n) share and eqb l.drawn 0

-- W4: the locked series differ; no earlier lock of the job is on that of place i
unfoldable pub W4_differs : Job → ℕ → Bool
W4_differs b i = all_below i (λ k. non (locks_here b (lock_at b i).series k))

-- W4 of lock place i of a job: the locked series is open and differs, and the copy fits the mode
unfoldable pub W4_lock : Copies → Job → ℕ → Bool
W4_lock t b i =
    let l : Lock = lock_at b i in
    let r : Series = series_at t l.series in
    is_used b i
    ⇒ is_open r
    and W4_differs b i
    and (eqb l.mode exclusive ⇒ W4_exclusive l r b.station)
    and (eqb l.mode share ⇒ W4_share l r b.station)

-- W4 of the lock places of a job, each by itself
unfoldable pub W4_locks : Copies → Job → Bool
W4_locks t b = all_below lock_count (W4_lock t b)

-- job b locks a copy that job a locks exclusively
unfoldable pub meets : Job → Job → Bool
meets a b =
    job_there b a.station
    and some_below lock_count (λ i. eqb (lock_at a i).mode exclusive and locks_series b (lock_at a i).series)

-- W4: an exclusive lock of job j has no other job's lock on its copy
unfoldable pub W4_alone : List Job → ℕ → Bool
W4_alone bs j = all_below job_count (λ k. eqb k j or non (meets (job_at bs j) (job_at bs k)))

-- W4 of job j: an open job is at a station that is up; its locks, by themselves and beside the other jobs'
unfoldable pub W4_job : Copies → List Job → ℕ → Bool
W4_job t bs j =
    job_open (job_at bs j)
    ⇒ is_up t (job_at bs j).station
    and W4_locks t (job_at bs j)
    and W4_alone bs j

-- W5 of lock place i: an unused one is zeros; a used one comes after used ones only
unfoldable pub W5_lock : Job → ℕ → Bool
W5_lock b i =
    cond (eqb (lock_at b i).mode 0) (eqb (lock_at b i).series 0 and eqb (lock_at b i).drawn 0) (all_below i (is_used b))

-- W5 of a job slot: its lock places; an unused slot is zeros
unfoldable pub W5_job : Job → Bool
W5_job b =
    all_below lock_count (λ i. W5_lock b i)
    and (eqb b.mark 0 ⇒ eqb b.station 0 and all_below lock_count (λ i. non (is_used b i)))

-- W1 of the sixteen slots
unfoldable pub W1_jobs : List Job → Bool
W1_jobs bs = all_below job_count (λ j. W1_job (job_at bs j))

-- W4 of the sixteen slots
unfoldable pub W4_jobs : Copies → List Job → Bool
W4_jobs t bs = all_below job_count (λ j. W4_job t bs j)

-- W5 of the sixteen slots
unfoldable pub W5_jobs : List Job → Bool
W5_jobs bs = all_below job_count (λ j. W5_job (job_at bs j))
