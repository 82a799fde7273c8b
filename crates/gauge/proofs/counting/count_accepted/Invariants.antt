-- `count_accepted` meets its contract: at every turn the total is what it was at first. Assumes nothing.
use Prim.Native.Nat.{◌≤◌}
use mathlib.Core.Path.{◌≡◌}
use Rattle.copies.specs.Columns.{lent}
use Rattle.rulebook.specs.Tables.{plant}
use Rattle.gauge.specs.Accepted.{event_count, accepted_from}
use Rattle.gauge.proofs.Totals.{total}
use Rattle.gauge.proofs.counting.count_accepted.Given as goal

abbrev pub invariant-loop-i : goal.invariant-loop-i
invariant-loop-i l =
    (total l.count l.numbers l.i (plant (lent l.columns) l.jobs) l.out
    ≡ accepted_from l.numbers (event_count l.numbers) 0 (plant (lent l.initial.columns) l.initial.jobs) l.initial.out)
    × (l.count ≤ l.i)
