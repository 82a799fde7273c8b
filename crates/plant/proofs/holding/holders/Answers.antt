-- `plant::holding::holders` meets its contract: a law for each way out. Assumes nothing.
use Rattle.plant.proofs.Lent.{holders_few, holders_taken}
use Rattle.plant.proofs.holding.holders.Goals as goal

pub returns-then-jobs-lt-JOBS : goal.returns-then-jobs-lt-JOBS
returns-then-jobs-lt-JOBS c = holders_few _ _ _ _ c.if-jobs-lt-JOBS.true c.no_holders.ensures

pub returns : goal.returns
returns c = holders_taken _ _ _ _ _ c.if-jobs-lt-JOBS.false c.taken_out.ensures c.holders.ensures
