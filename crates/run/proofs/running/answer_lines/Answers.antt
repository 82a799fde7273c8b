-- What is kept is within the bound that the loop keeps. Assumes nothing.
use Rattle.desk.proofs.Kept.{kept_within}
use Rattle.run.proofs.running.answer_lines.Goals as goal

pub loop-preserved : goal.loop-preserved
loop-preserved g c = kept_within _ _ _ c.keep-held.ensures.value
