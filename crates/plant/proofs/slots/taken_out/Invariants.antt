-- `plant::slots::taken_out` meets its contract: after i turns, the first i slots are there. Assumes nothing.
use mathlib.Core.Path.{◌≡◌}
use Rattle.plant.proofs.Moved.{moved}
use Rattle.plant.proofs.slots.taken_out.Given as goal

abbrev pub invariant-loop-i : goal.invariant-loop-i
invariant-loop-i l = l.all ≡ moved l.jobs l.initial.all l.i
