-- `jobs::slots::is_free` meets its contract: no slot passed locks the copy. Assumes nothing.
use mathlib.Core.Path.{◌≡◌}
use Rattle.words.specs.Tests.{non, all_below}
use Rattle.jobs.specs.Slots.{job_at, locks_copy}
use Rattle.jobs.proofs.slots.is_free.Given as goal

abbrev pub invariant-loop-job : goal.invariant-loop-job
invariant-loop-job l =
    l.all ≡ all_below l.job-index (λ j. non (locks_copy (job_at l.jobs j) l.series l.station))
