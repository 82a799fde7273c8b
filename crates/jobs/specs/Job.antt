-- A job and its locks, from "What the machine covers" in 01: how a record is read, and what its methods give back.
-- Assumes nothing.
use Rattle.std.specs.Prelude.{ℕ, Bool, cond, Option, Some, None, eqb, ltb, get_or, set, replicate}
use Rattle.words.specs.Numbers.{lock_count}
use Rattle.words.specs.Tests.{non, ◌and◌, some_below, least_below, all_below}
use Rattle.jobs.specs.declared.Lock.{Lock}
use Rattle.jobs.specs.declared.Job.{Job}

-- an unused lock place is zeros
abbrev pub no_lock : Lock
no_lock = record { series = 0; mode = 0; drawn = 0 }

-- an unused job slot is zeros
abbrev pub no_job : Job
no_job = record { mark = 0; station = 0; locks = replicate lock_count no_lock }

-- the mark of an open job is 1
abbrev pub job_open : Job → Bool
job_open b = eqb b.mark 1

-- the job is open, at station n
abbrev pub job_there : Job → ℕ → Bool
job_there b n = job_open b and eqb b.station n

-- the lock at place i
abbrev pub lock_at : Job → ℕ → Lock
lock_at b i = get_or b.locks i no_lock

-- place i is used: its mode isn't 0
abbrev pub is_used : Job → ℕ → Bool
is_used b i = non (eqb (lock_at b i).mode 0)

-- place i locks series s
abbrev pub locks_here : Job → ℕ → ℕ → Bool
locks_here b s i = is_used b i and eqb (lock_at b i).series s

-- the job locks series s
unfoldable pub locks_series : Job → ℕ → Bool
locks_series b s = some_below lock_count (locks_here b s)

-- the place that locks series s, or 4
unfoldable pub lock_place : Job → ℕ → ℕ
lock_place b s = least_below lock_count (locks_here b s)

-- the lock on series s
abbrev pub lock_on : Job → ℕ → Lock
lock_on b s = lock_at b (lock_place b s)

-- the job has four locks
unfoldable pub is_full : Job → Bool
is_full b = all_below lock_count (is_used b)

-- the first unused place, or 4
unfoldable pub new_place : Job → ℕ
new_place b = least_below lock_count (λ i. non (is_used b i))

-- a place that is looked for; 4 says that there is none
abbrev pub place_found : ℕ → Option ℕ
place_found i = cond (ltb i lock_count) (Some i) None

-- ---- what its methods give back
-- the job with another lock at place i
abbrev pub put_lock : Job → ℕ → Lock → Job
put_lock b i l = record { mark = b.mark; station = b.station; locks = set b.locks i l }

-- BEGIN: open at station n, with no lock
unfoldable pub begun : ℕ → Job
begun n = record { mark = 1; station = n; locks = replicate lock_count no_lock }

-- LOCKX, LOCKS: a lock of series s and that mode in the first unused place (a full job stays)
unfoldable pub with_lock : Job → ℕ → ℕ → Job
with_lock b s mode = put_lock b (new_place b) (record { series = s; mode = mode; drawn = 0 })

-- DRAW: the lock on series s notes the count (a job without one stays)
unfoldable pub with_draw : Job → ℕ → ℕ → Job
with_draw b s count =
    put_lock b (lock_place b s) (record { series = (lock_on b s).series; mode = (lock_on b s).mode; drawn = count })
