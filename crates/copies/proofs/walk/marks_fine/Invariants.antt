-- `marks_fine` meets its contract: the marks gone over so far have been tested.
-- Assumes nothing.
use mathlib.Core.Path.{◌≡◌}
use lib.ListN.{get_or}
use lib.Dec.{leb}
use Rattle.words.specs.Tests.{all_below}
use Rattle.copies.proofs.walk.marks_fine.Given as goal

abbrev pub invariant-loop-mark : goal.invariant-loop-mark
invariant-loop-mark l = l.all ≡ all_below l.mark-index (λ k. leb (get_or l.up k 0) 1)
