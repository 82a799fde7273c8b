-- `broken_rule` meets its contract: the slots below j break no rule. Assumes nothing.
use mathlib.Core.Path.{◌≡◌}
use Rattle.std.specs.Prelude.{None}
use Rattle.words.specs.Tests.{first_below}
use Rattle.copies.specs.Columns.{seen}
use Rattle.jobs.specs.FirstBroken.{broken_job}
use Rattle.jobs.proofs.walk.broken_rule.Given as goal

abbrev pub invariant-loop-j : goal.invariant-loop-j
invariant-loop-j l = first_below l.j (broken_job (seen l.columns) l.jobs) ≡ None
