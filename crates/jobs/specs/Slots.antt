-- The sixteen job slots: which jobs lock a copy, and what a crash closes.
-- Assumes nothing.
use Rattle.std.specs.Prelude.{ℕ, zero, suc, Bool, cond, List, [], ◌∷◌, ltb, get_or, length}
use Rattle.words.specs.Numbers.{job_count}
use Rattle.words.specs.Tests.{non, ◌and◌, all_below, count_below}
use Rattle.jobs.specs.Job.{no_job, job_there, locks_series}
use Rattle.jobs.specs.declared.Job.{Job}

-- refusal 1, of the job slots
unfoldable pub short_jobs : List Job → Bool
short_jobs bs = ltb (length bs) job_count

-- past the end of the slots, where no rule looks, stands a slot of zeros with no lock place
abbrev pub no_slot : Job
no_slot = record { mark = 0; station = 0; locks = [] }

-- slot j
abbrev pub job_at : List Job → ℕ → Job
job_at bs j = get_or bs j no_slot

-- the job locks the copy of series s at station n
abbrev pub locks_copy : Job → ℕ → ℕ → Bool
locks_copy b s n = job_there b n and locks_series b s

-- "Free": no job locks the copy of series s at station n
unfoldable pub free : List Job → ℕ → ℕ → Bool
free bs s n = all_below job_count (λ j. non (locks_copy (job_at bs j) s n))

-- of the first k slots those of station n are closed
unfoldable pub close_first : ℕ → ℕ → List Job → List Job
close_first n zero bs = bs
close_first n (suc k) [] = []
close_first n (suc k) (b ∷ bs) = cond (job_there b n) no_job b ∷ close_first n k bs

-- CRASH: of the sixteen slots those of station n are closed
unfoldable pub closed_at : ℕ → List Job → List Job
closed_at n bs = close_first n job_count bs

-- the value of CRASH: how many are closed
unfoldable pub count_at : ℕ → List Job → ℕ
count_at n bs = count_below job_count (λ j. job_there (job_at bs j) n)
