-- `count_accepted` meets its contract: at every turn the total is what it was at first. Assumes nothing.
use mathlib.Core.Path.{sym, ◌∙◌}
use native.Mathlib.Omega.{arith}
use Rattle.gauge.proofs.Totals.{total_first, total_next, total_last}
use Rattle.gauge.proofs.counting.count_accepted.Goals as goal

pub loop-i-init : goal.loop-i-init
loop-i-init c = (total_first _ _ _, omega arith)

pub overflow_add-count : goal.overflow_add-count
overflow_add-count c = omega (arith, c.loop-i-test.true, c.loop-i.invariant.1, c.counts_for-count.ensures.1)

pub loop-i-preserved : goal.loop-i-preserved
loop-i-preserved c =
    let one = c.counts_for-count.ensures in
    let next = total_next _ _ _ _ _ _ _ _ _ _ c.loop-i-test.true c.event_at-event.ensures c.step_unchecked.ensures.leaves one.0 in
    (next ∙ c.loop-i.invariant.0, omega (arith, c.loop-i.invariant.1, one.1))

pub returns : goal.returns
returns c = sym (total_last _ _ _ _ _ c.loop-i-test.false) ∙ c.loop-i.invariant.0
