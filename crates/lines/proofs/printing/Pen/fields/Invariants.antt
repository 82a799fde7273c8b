-- `fields`: with each turn less is left to write. Assumes nothing.
use Rattle.std.proofs.Common.{drop}
use Rattle.lines.specs.Printed.{ended}
use Rattle.lines.proofs.Puts.{Left}
use Rattle.lines.proofs.printing.Pen.fields.Given as goal

abbrev pub invariant-loop-number : goal.invariant-loop-number
invariant-loop-number l = Left l.fn.self (ended l.row) l.self (ended (drop l.number-index l.row))
