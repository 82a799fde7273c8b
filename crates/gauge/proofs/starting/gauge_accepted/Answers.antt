-- `gauge_accepted` meets its contract: its arrays are the tables of the empty plant. Assumes nothing.
use Rattle.gauge.proofs.starting.gauge_accepted.Goals as goal

pub returns : goal.returns
returns c = rw c.close-jobs.ensures at c.count_accepted.ensures
