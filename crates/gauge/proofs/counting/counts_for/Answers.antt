-- `counts_for` meets its contract: its test is the paper's number of an accepted event. Assumes nothing.
use native.Mathlib.Omega.{arith}
use borrow.Author.Tests.{eq-eqb, ne_eqb}
use Rattle.words.specs.Tests.{one_if}
use Rattle.gauge.proofs.counting.counts_for.Goals as goal

pub returns-then-code-eq0 : goal.returns-then-code-eq0
unfolding one_if
returns-then-code-eq0 c = (rw (← c.code.ensures, eq-eqb _ _ c.if-code-eq0.true), omega arith)

pub returns-else-code-eq0 : goal.returns-else-code-eq0
unfolding one_if
returns-else-code-eq0 c = (rw (← c.code.ensures, ne_eqb _ _ c.if-code-eq0.false), omega arith)
