-- Where a desk stands, and what one line does to it.
-- Assumes nothing.
use Rattle.std.specs.Prelude.{ℕ, ◌≡◌, ◌+◌, List, Option, Some, None}
use Rattle.copies.specs.Columns.{lent, SameColumns}
use Rattle.rulebook.specs.declared.Event.{Event}
use Rattle.rulebook.specs.Tables.{Plant, plant}
use Rattle.rulebook.specs.Steps.{Outcome, step_of}
use Rattle.rulebook.specs.Run.{Reply, reply_to}
use Rattle.lines.specs.EventLines.{event_line}
use Rattle.lines.specs.Printed.{answer_text}
use Rattle.desk.specs.declared.OpenDesk.{OpenDesk}
use Rattle.desk.specs.Answers.{bad_reply}

-- The next line's number, the plant's tables, and the output that a COMMIT shows its draws in.
pub record Desk : Type 0 where
  pub number : ℕ
  pub plant : Plant
  pub out : List ℕ

-- the desk with these three
abbrev pub desk : ℕ → Plant → List ℕ → Desk
desk n p out = record { number = n; plant = p; out = out }

-- where an open desk stands
abbrev pub desk_of : OpenDesk → Desk
desk_of d = desk d.number (plant (lent d.columns) d.jobs) d.row.now

-- its columns and its output are still those that were lent: none was put in the place of another
abbrev pub SameDesk : OpenDesk → OpenDesk → Type 0
SameDesk before after = SameColumns before.columns after.columns × (after.row.ghost_name ≡ before.row.ghost_name)

-- What a line comes to: the reply, and the tables and the output afterwards.
pub record Heard : Type 0 where
  pub reply : Reply
  pub plant : Plant
  pub out : List ℕ

-- the outcome of an event's step, as a line's
abbrev pub heard_step : Event → Outcome → Heard
heard_step e o = record { reply = reply_to e o; plant = o.plant; out = o.out }

-- an event steps; a bad line gives code 3 and changes nothing
abbrev pub heard_by : Plant → List ℕ → Option Event → Heard
heard_by p out (Some e) = heard_step e (step_of p out e)
heard_by p out None = record { reply = bad_reply; plant = p; out = out }

-- what a line comes to
unfoldable pub heard : Plant → List ℕ → List ℕ → Heard
heard p out line = heard_by p out (event_line line)

-- the answer line to a line
unfoldable pub says : Desk → List ℕ → List ℕ
says d line = answer_text d.number (heard d.plant d.out line).reply

-- the desk after a line
unfoldable pub after : Desk → List ℕ → Desk
after d line = desk (d.number + 1) (heard d.plant d.out line).plant (heard d.plant d.out line).out
