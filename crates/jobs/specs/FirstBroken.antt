-- The jobs' share of the walk: the rule that it finds broken first, slot by slot, after the series and the stations' marks.
-- Assumes nothing.
use Rattle.std.specs.Prelude.{ℕ, Bool, cond, List, Option, Result, Err}
use Rattle.words.specs.declared.Rule.{Rule}
use Rattle.words.specs.declared.Rule.TheVariants.{W1, W4, W5}
use Rattle.words.specs.declared.Flaw.{Flaw}
use Rattle.words.specs.declared.Flaw.TheVariants.{Short}
use Rattle.words.specs.Numbers.{station_count, series_count, job_count, place_count}
use Rattle.words.specs.Tests.{◌or◌, broken, ◌or_else◌, first_below}
use Rattle.copies.specs.Tables.{Copies}
use Rattle.copies.specs.FirstBroken.{found_by}
use Rattle.copies.specs.Calls.{lacks}
use Rattle.jobs.specs.declared.Job.{Job}
use Rattle.jobs.specs.Slots.{job_at}
use Rattle.jobs.specs.Whole.{W1_job, W4_job, W5_job}

-- slot j: its ranges, then its locks, then its zeros
unfoldable pub broken_job : Copies → List Job → ℕ → Option Rule
broken_job t bs j =
    broken W1 (W1_job (job_at bs j)) or_else broken W4 (W4_job t bs j) or_else broken W5 (W5_job (job_at bs j))

-- the sixteen slots in order
unfoldable pub first_broken_job : Copies → List Job → Option Rule
first_broken_job t bs = first_below job_count (broken_job t bs)

-- a column that the jobs' rules read is short
unfoldable pub short_for_jobs : Copies → Bool
short_for_jobs t =
    lacks series_count t.firsts
    or lacks series_count t.lasts
    or lacks place_count t.kinds
    or lacks place_count t.values
    or lacks station_count t.up

-- what the walk finds in the slots and in tables of any size
unfoldable pub check_jobs : Copies → List Job → Result (Unit {0}) Flaw
check_jobs t bs = cond (short_for_jobs t) (Err Short) (found_by (first_broken_job t bs))
