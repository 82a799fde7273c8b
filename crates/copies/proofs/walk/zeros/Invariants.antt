-- `zeros` meets its contract: the entries gone over so far have been tested.
-- Assumes nothing.
use mathlib.Core.Path.{◌≡◌}
use lib.ListN.{get_or}
use lib.Dec.{eqb}
use Rattle.words.specs.Tests.{all_below}
use Rattle.copies.proofs.walk.zeros.Given as goal

abbrev pub invariant-loop-entry : goal.invariant-loop-entry
invariant-loop-entry l = l.all ≡ all_below l.entry-index (λ k. eqb (get_or l.part k 0) 0)
