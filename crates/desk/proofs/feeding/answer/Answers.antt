-- `answer` meets its contract: what the line comes to is said, and the desk goes on to the next number. Assumes nothing.
use Rattle.desk.proofs.Ways.{put_is}
use Rattle.desk.proofs.feeding.answer.Goals as goal

pub returns-clause-leaves : goal.returns-clause-leaves
returns-clause-leaves c =
    let heard = c.judge-said.ensures in
    let said = c.say-next.ensures in
    put_is _ _ _ _ _ _ _ _ _ c.judge-said.result heard.number heard.leaves said.position said.out_after
