-- `fields`: there is room for each number in its turn, and at the end for LF. Assumes nothing.
use Rattle.lines.proofs.Puts.{field_room, field_next, row_left, end_room, end_wrote}
use Rattle.lines.proofs.printing.Pen.fields.Goals as goal

pub field-requires : goal.field-requires
field-requires c = field_room _ _ (row_left _ _ c.loop-number.invariant c.loop-number-test.true)

pub loop-number-preserved : goal.loop-number-preserved
loop-number-preserved c = field_next _ _ (row_left _ _ c.loop-number.invariant c.loop-number-test.true) _ c.field.ensures

pub bounds-self-self : goal.bounds-self-self
bounds-self-self c = end_room _ _ c.loop-number.invariant c.loop-number-test.false

pub returns : goal.returns
returns c = end_wrote _ _ c.loop-number.invariant c.loop-number-test.false
