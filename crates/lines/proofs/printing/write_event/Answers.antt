-- `write_event`: the room that it asks for is enough. Assumes nothing.
use Rattle.std.proofs.Common.{arith}
use Rattle.lines.proofs.Long.{narrow_four, event_long}
use Rattle.lines.proofs.printing.write_event.Goals as goal

pub event-requires : goal.event-requires
event-requires c =
    omega (arith, event_long c.args.event (omega arith) (narrow_four _ _ _ _ (omega arith) (omega arith) (omega arith) (omega arith)))
