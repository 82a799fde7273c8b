-- `spell`: the digits still to come, and those that stand after them, are the number's. Assumes nothing.
use Rattle.std.proofs.Common.{◌≡◌, ◌++◌, ◌<◌, ◌^◌, drop}
use Rattle.digits.specs.Printing.{decimal}
use Rattle.digits.proofs.Laws.{some_figures}
use Rattle.digits.proofs.printing.spell.Given as goal

abbrev pub invariant-loop-i : goal.invariant-loop-i
invariant-loop-i l = (0 < l.i) × (l.rest < 10 ^ l.i) × (decimal l.n ≡ some_figures l.i l.rest ++ drop l.i l.row)
