-- `differs` meets its contract: the earlier lock places passed have been tested. Assumes nothing.
use mathlib.Core.Path.{◌≡◌}
use lib.ListN.{take}
use Rattle.words.specs.Tests.{non, all_below}
use Rattle.jobs.specs.Job.{lock_at, locks_here}
use Rattle.jobs.proofs.walk.differs.Given as goal

abbrev pub invariant-loop-lock : goal.invariant-loop-lock
invariant-loop-lock l =
    (l.lock-items ≡ take l.i l.fn.job.locks) × (l.series ≡ (lock_at l.fn.job l.i).series) × (l.all ≡ all_below l.lock-index (λ m. non (locks_here l.fn.job l.series m)))
