-- `in_range` meets its contract: the lock places passed have been tested. Assumes nothing.
use mathlib.Core.Path.{◌≡◌}
use Rattle.words.specs.Tests.{all_below}
use Rattle.jobs.specs.Job.{lock_at}
use Rattle.jobs.specs.Whole.{W1_lock}
use Rattle.jobs.proofs.walk.in_range.Given as goal

abbrev pub invariant-loop-lock : goal.invariant-loop-lock
invariant-loop-lock l = l.all ≡ all_below l.lock-index (λ i. W1_lock (lock_at l.job i))
