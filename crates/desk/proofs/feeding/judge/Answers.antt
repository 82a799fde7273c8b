-- `judge` meets its contract: a line comes to what its event's step comes to. Assumes nothing.
use Rattle.desk.proofs.Ways.{judged_good}
use Rattle.desk.proofs.feeding.judge.Goals as goal

pub returns-clause-leaves : goal.returns-clause-leaves
returns-clause-leaves c = judged_good _ _ _ _ _ _ _ _ _ _ c.event_line.ensures c.in-Some.is c.step-answer.ensures.leaves c.shown.ensures
