-- `only_receiver` meets its contract: after m turns, the stations below m have been tested.
-- Assumes nothing.
use mathlib.Core.Path.{◌≡◌}
use lib.ListN.{get_or}
use lib.Dec.{eqb}
use Rattle.words.specs.Tests.{all_below, ◌⇒◌}
use Rattle.copies.specs.Tables.{received_place}
use Rattle.copies.proofs.walk.only_receiver.Given as goal

abbrev pub invariant-loop-m : goal.invariant-loop-m
invariant-loop-m l =
    l.all ≡ all_below l.m (λ k. eqb (get_or l.received (received_place l.s k l.n) 0) l.number ⇒ eqb l.to k)
