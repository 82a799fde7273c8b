-- `broken_rule` meets its contract: a law of proofs/Passing.antt for each turn and each way out.
-- Assumes nothing.
use Prim.Native.Nat.{◌-◌}
use mathlib.Core.Path.{◌≡◌}
use Rattle.std.specs.Prelude.{None}
use Rattle.words.specs.Numbers.{series_count}
use Rattle.copies.proofs.Passing.{Passed, Within}
use Rattle.copies.specs.Columns.{seen}
use Rattle.copies.proofs.walk.broken_rule.Given as goal

abbrev pub invariant-loop-n : goal.invariant-loop-n
invariant-loop-n l = Within (seen l.columns) l.s l.n × (l.broken ≡ None)

abbrev pub invariant-walk : goal.invariant-walk
invariant-walk l = Passed (seen l.columns) l.s × (l.broken ≡ None)

abbrev pub decreases-walk : goal.decreases-walk
decreases-walk l = series_count - l.s
