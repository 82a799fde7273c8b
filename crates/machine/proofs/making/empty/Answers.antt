-- `machine::making::empty` meets its contract: it is short where the columns are, and else they are cleared and the slots are of zeros.
-- Assumes nothing.
use Rattle.machine.proofs.Emptied.{made_short, made_empty}
use Rattle.machine.proofs.making.empty.Goals as goal

pub returns-then-not-clear-clause-leaves : goal.returns-then-not-clear-clause-leaves
returns-then-not-clear-clause-leaves c = made_short _ _ _ _ c.clear.ensures.leaves c.if-not-clear.true

pub returns-clause-leaves : goal.returns-clause-leaves
returns-clause-leaves c = made_empty _ _ _ _ c.clear.ensures.leaves c.if-not-clear.false c.told-jobs c.close-jobs.ensures
