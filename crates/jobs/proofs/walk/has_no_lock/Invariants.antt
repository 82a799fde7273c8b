-- `has_no_lock` meets its contract: the lock places passed have been tested. Assumes nothing.
use mathlib.Core.Path.{◌≡◌}
use Rattle.words.specs.Tests.{non, all_below}
use Rattle.jobs.specs.Job.{is_used}
use Rattle.jobs.proofs.walk.has_no_lock.Given as goal

abbrev pub invariant-loop-lock : goal.invariant-loop-lock
invariant-loop-lock l = l.all ≡ all_below l.lock-index (λ i. non (is_used l.fn.job i))
