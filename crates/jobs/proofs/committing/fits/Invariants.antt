-- `jobs::committing::fits` meets its contract: the flag is the spec's walk so far. Assumes nothing.
use mathlib.Core.Path.{◌≡◌}
use Rattle.words.specs.Tests.{all_below}
use Rattle.jobs.specs.Draws.{draw_fits}
use Rattle.jobs.proofs.committing.fits.Given as goal

abbrev pub invariant-loop-i : goal.invariant-loop-i
invariant-loop-i l = l.all ≡ all_below l.i (draw_fits l.columns.lasts.now l.columns.values.now l.job)
