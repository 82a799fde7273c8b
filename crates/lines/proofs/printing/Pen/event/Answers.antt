-- `event`: there is room for the kind and then for the fields, which give the whole line. Assumes nothing.
use Rattle.std.proofs.Common.{arith, length-take}
use Rattle.rulebook.specs.Events.{numbers}
use Rattle.lines.proofs.Fields.{count_most}
use Rattle.lines.proofs.Puts.{number_room, number_next}
use Rattle.lines.proofs.Long.{event_left}
use Rattle.lines.proofs.printing.Pen.event.Goals as goal

pub number-requires : goal.number-requires
number-requires c = number_room _ _ (event_left c.args.self.now _ c.from.ensures c.fields_of-count.ensures c.requires)

pub slice_bounds-fields-end-2 : goal.slice_bounds-fields-end-2
slice_bounds-fields-end-2 c = omega (arith, count_most c.args.event.kind, length-take c.fields_of-count.result (numbers c.args.event))

pub fields-requires : goal.fields-requires
fields-requires c =
    let kind = event_left c.args.self.now _ c.from.ensures c.fields_of-count.ensures c.requires in
    (number_next _ _ kind c.number.new.self c.number.ensures).room

pub returns : goal.returns
returns c =
    let kind = event_left c.args.self.now _ c.from.ensures c.fields_of-count.ensures c.requires in
    (number_next _ _ kind c.number.new.self c.number.ensures).done c.fields.new.self c.fields.ensures
