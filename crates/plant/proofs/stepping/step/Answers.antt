-- `plant::stepping::step` meets its contract: a law for each way out. Assumes nothing.
use Rattle.plant.proofs.Lent.{step_few, step_taken}
use Rattle.plant.proofs.stepping.step.Goals as goal

pub returns-then-jobs-lt-JOBS-clause-leaves : goal.returns-then-jobs-lt-JOBS-clause-leaves
returns-then-jobs-lt-JOBS-clause-leaves c = step_few _ _ _ _ c.if-jobs-lt-JOBS.true

pub returns-clause-leaves : goal.returns-clause-leaves
returns-clause-leaves c =
    step_taken _ _ _ _ _ _ _ _ _ c.if-jobs-lt-JOBS.false c.taken_out-all.ensures c.step-answer.ensures.leaves c.put_back.ensures
