-- `plant::making::empty` meets its contract: a law for each way out. Assumes nothing.
use Rattle.plant.proofs.Lent.{empty_few, empty_unclear, empty_clear}
use Rattle.plant.proofs.making.empty.Goals as goal

pub returns-then-jobs-lt-JOBS-clause-leaves : goal.returns-then-jobs-lt-JOBS-clause-leaves
returns-then-jobs-lt-JOBS-clause-leaves c = empty_few _ _ c.if-jobs-lt-JOBS.true

pub returns-then-clear-clause-leaves : goal.returns-then-clear-clause-leaves
returns-then-clear-clause-leaves c = empty_clear _ _ _ _ c.if-jobs-lt-JOBS.false c.if-clear.ensures.leaves c.close_slots.ensures

pub returns-clause-leaves : goal.returns-clause-leaves
returns-clause-leaves c = empty_unclear _ _ _ c.if-clear.ensures.leaves
