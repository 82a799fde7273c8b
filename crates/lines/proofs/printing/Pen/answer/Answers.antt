-- `answer`: there is room for each part in its turn, and the last gives the whole line. Assumes nothing.
use Rattle.lines.proofs.Puts.{left_all, number_room, number_next, field_room, field_next}
use Rattle.lines.proofs.printing.Pen.answer.Goals as goal

pub number-requires : goal.number-requires
number-requires c = number_room _ _ (left_all c.args.self.now _ c.requires)

pub field-requires : goal.field-requires
field-requires c = field_room _ _ (number_next _ _ (left_all c.args.self.now _ c.requires) c.number.new.self c.number.ensures)

pub field-requires-2 : goal.field-requires-2
field-requires-2 c =
    let code = number_next _ _ (left_all c.args.self.now _ c.requires) c.number.new.self c.number.ensures in
    field_room _ _ (field_next _ _ code c.field.new.self c.field.ensures)

pub fields-requires : goal.fields-requires
fields-requires c =
    let code = number_next _ _ (left_all c.args.self.now _ c.requires) c.number.new.self c.number.ensures in
    let value = field_next _ _ code c.field.new.self c.field.ensures in
    (field_next _ _ value c.field-2.new.self c.field-2.ensures).room

pub returns : goal.returns
returns c =
    let code = number_next _ _ (left_all c.args.self.now _ c.requires) c.number.new.self c.number.ensures in
    let value = field_next _ _ code c.field.new.self c.field.ensures in
    (field_next _ _ value c.field-2.new.self c.field-2.ensures).done c.fields.new.self c.fields.ensures
