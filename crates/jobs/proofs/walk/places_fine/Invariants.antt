-- `places_fine` meets its contract: the lock places passed have been tested, and it is known whether all are used.
-- Assumes nothing.
use mathlib.Core.Path.{◌≡◌}
use Rattle.words.specs.Tests.{all_below}
use Rattle.jobs.specs.Job.{is_used}
use Rattle.jobs.specs.Whole.{W5_lock}
use Rattle.jobs.proofs.walk.places_fine.Given as goal

abbrev pub invariant-loop-lock : goal.invariant-loop-lock
invariant-loop-lock l =
    (l.before ≡ all_below l.lock-index (is_used l.fn.job)) × (l.all ≡ all_below l.lock-index (W5_lock l.fn.job))
