-- `locks_fine` meets its contract: the lock places below i have been tested. Assumes nothing.
use mathlib.Core.Path.{◌≡◌}
use Rattle.words.specs.Tests.{all_below}
use Rattle.copies.specs.Columns.{seen}
use Rattle.jobs.specs.Whole.{W4_lock}
use Rattle.jobs.proofs.walk.locks_fine.Given as goal

abbrev pub invariant-loop-i : goal.invariant-loop-i
invariant-loop-i l = l.all ≡ all_below l.i (W4_lock (seen l.columns) l.job)
