-- `at_most` meets its contract: after m turns, what station n has received from the stations below m has been tested.
-- Assumes nothing.
use mathlib.Core.Path.{◌≡◌}
use lib.ListN.{get_or}
use lib.Dec.{leb}
use Rattle.words.specs.Tests.{all_below}
use Rattle.copies.specs.Tables.{place, received_place}
use Rattle.copies.proofs.walk.at_most.Given as goal

abbrev pub invariant-loop-m : goal.invariant-loop-m
invariant-loop-m l =
    l.all ≡ all_below l.m (λ k. leb (get_or l.columns.received.now (received_place l.s l.n k) 0) (get_or l.columns.sent.now (place l.s k) 0))
