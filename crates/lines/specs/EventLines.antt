-- What an event line says ("Around the step" in 01): kind and exactly that kind's fields, one space between.
-- Assumes nothing.
use Rattle.std.specs.Prelude.{ℕ, ◌+◌, Bool, true, false, cond, List, ltb, eqb, length, get_or, Option, Some, None}
use Rattle.digits.specs.Bytes.{space}
use Rattle.rulebook.specs.declared.Event.{Event}
use Rattle.rulebook.specs.Events.{fields_of}
use Rattle.lines.specs.Reader.{number_at}

-- the longest event line, its LF not counted
abbrev pub longest_line : ℕ
longest_line = 64

-- how many fields an event of a kind has; 0 where there is no such kind
unfoldable pub field_count : ℕ → ℕ
field_count kind = length (fields_of kind)

-- a number that was read goes on to what follows; without one the line says no event
abbrev pub and_then : Option (ℕ × ℕ) → (ℕ → ℕ → Option Event) → Option Event
and_then (Some (v, at)) next = next v at
and_then None next = None

-- a wanted field is a space and a number; one that the kind doesn't have is 0
unfoldable pub field_at : List ℕ → ℕ → Bool → Option (ℕ × ℕ)
field_at t at true = cond (ltb at (length t)) (cond (eqb (get_or t at 0) space) (number_at t (at + 1)) None) None
field_at t at false = Some (0, at)

-- count fields from a position on, and then the end of the line
unfoldable pub fields_from : List ℕ → ℕ → ℕ → ℕ → Option Event
fields_from t kind count at =
    and_then (field_at t at (ltb 0 count)) (λ a p.
    and_then (field_at t p (ltb 1 count)) (λ b q.
    and_then (field_at t q (ltb 2 count)) (λ c r.
    and_then (field_at t r (ltb 3 count)) (λ d e.
    cond (eqb e (length t)) (Some (record { kind = kind; a = a; b = b; c = c; d = d })) None))))

-- at most 64 bytes: a kind that there is, and exactly its fields
unfoldable pub event_line : List ℕ → Option Event
event_line t =
    cond (ltb longest_line (length t)) None
    (and_then (number_at t 0) (λ kind at.
    cond (eqb (field_count kind) 0) None
    (fields_from t kind (field_count kind) at)))
