-- `meets` meets its contract: the job's lock places passed have been tested. Assumes nothing.
use mathlib.Core.Path.{◌≡◌}
use lib.Dec.{eqb}
use Rattle.words.specs.Numbers.{exclusive}
use Rattle.words.specs.Tests.{◌and◌, some_below}
use Rattle.jobs.specs.Job.{lock_at, locks_series}
use Rattle.jobs.proofs.walk.meets.Given as goal

abbrev pub invariant-loop-lock : goal.invariant-loop-lock
invariant-loop-lock l =
    l.some ≡ some_below l.lock-index (λ i. eqb (lock_at l.fn.job i).mode exclusive and locks_series l.other (lock_at l.fn.job i).series)
