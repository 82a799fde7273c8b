-- `machine::making::fill` meets its contract: the library fills the first entries. Assumes nothing.
use Rattle.machine.proofs.Emptied.{filled_part}
use Rattle.machine.proofs.making.fill.Goals as goal

pub returns : goal.returns
returns c = filled_part _ _ _ _ (c.fill.ensures.after (λ y e. e)) c.requires
