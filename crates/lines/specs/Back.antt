-- Reading a printed event line gives the event back.
-- Assumes nothing.
use Rattle.std.specs.Prelude.{ℕ, ◌≤◌, ◌<◌, ◌≡◌, List, [], ◌∷◌, ◌++◌, get_or, Some}
use Rattle.digits.specs.Bytes.{LF}
use Rattle.digits.specs.Reading.{greatest_number}
use Rattle.rulebook.specs.declared.Event.{Event}
use Rattle.rulebook.specs.Events.{numbers}
use Rattle.lines.specs.EventLines.{field_count, event_line}
use Rattle.lines.specs.Printed.{event_text}

-- the event is of one of the kinds, its numbers are such as a line can hold, and zeros stand in the fields that it hasn't
pub record Plain (e : Event) : Type 0 where
  pub known : 0 < field_count e.kind
  pub small : (i : ℕ) → get_or (numbers e) i 0 ≤ greatest_number
  pub zeros : (i : ℕ) → field_count e.kind ≤ i → get_or (numbers e) i 0 ≡ 0

-- THE STATEMENT: its line, without the LF, says that event.
abbrev pub EventBack : Type 0
EventBack = (e : Event) (t : List ℕ) → Plain e → event_text e ≡ t ++ (LF ∷ []) → event_line t ≡ Some e
