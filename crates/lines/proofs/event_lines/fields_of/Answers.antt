-- `fields_of`: its table has the length of each kind's list of fields. Assumes nothing.
use Rattle.lines.proofs.Fields.{count_at}
use Rattle.lines.proofs.event_lines.fields_of.Goals as goal

pub returns : goal.returns
returns c = count_at _
