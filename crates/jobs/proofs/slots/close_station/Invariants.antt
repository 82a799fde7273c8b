-- `jobs::slots::close_station` meets its contract: the slots passed are closed and counted. Assumes nothing.
use Prim.Native.Nat.{◌≤◌}
use mathlib.Core.Path.{◌≡◌}
use Rattle.words.specs.Tests.{count_below}
use Rattle.jobs.specs.Job.{job_there}
use Rattle.jobs.specs.Slots.{job_at, close_first}
use Rattle.jobs.proofs.slots.close_station.Given as goal

abbrev pub invariant-loop-job : goal.invariant-loop-job
invariant-loop-job l =
    (l.job-items ≡ close_first l.station l.job-index l.initial.job-items) × (l.count ≤ l.job-index) × (l.count ≡ count_below l.job-index (λ j. job_there (job_at l.initial.job-items j) l.station))
