-- `plant::slots::put_back` meets its contract: each turn puts one of the sixteen in its slot, so after sixteen turns those are the first slots, and
-- the others stay. Assumes nothing.
use mathlib.Core.Path.{◌≡◌}
use Rattle.plant.proofs.Moved.{moved}
use Rattle.plant.proofs.slots.put_back.Given as goal

abbrev pub invariant-loop-i : goal.invariant-loop-i
invariant-loop-i l = l.jobs ≡ moved l.all l.initial.jobs l.i
