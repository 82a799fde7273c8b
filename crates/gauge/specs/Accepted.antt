-- How many events of a list are accepted, stepped one after another from the empty plant without the whole check.
-- Assumes nothing.
use Rattle.std.specs.Prelude.{ℕ, zero, suc, ◌+◌, ◌*◌, ◌/◌, Bool, List, eqb, length, get_or, replicate}
use Rattle.words.specs.Answers.{Answer, code_of}
use Rattle.words.specs.Numbers.{out_count}
use Rattle.words.specs.Tests.{one_if}
use Rattle.rulebook.specs.declared.Event.{Event}
use Rattle.rulebook.specs.Tables.{Plant}
use Rattle.rulebook.specs.Steps.{Outcome}
use Rattle.rulebook.specs.Around.{empty_plant}
use Rattle.events.specs.Unchecked.{unchecked_step}

-- an event is five numbers: its kind and its four fields
abbrev pub event_size : ℕ
event_size = 5

-- how many whole events a list of numbers has
abbrev pub event_count : List ℕ → ℕ
event_count ns = length ns / event_size

-- the event that stands at a position
abbrev pub event_from : List ℕ → ℕ → Event
event_from ns at =
    record {
      kind = get_or ns at 0;
      a = get_or ns (at + 1) 0;
      b = get_or ns (at + 2) 0;
      c = get_or ns (at + 3) 0;
      d = get_or ns (at + 4) 0;
    }

-- event i
abbrev pub event_at : List ℕ → ℕ → Event
event_at ns i = event_from ns (event_size * i)

-- an answer to an accepted event
abbrev pub is_accepted : Answer → Bool
is_accepted a = eqb (code_of a) 0

-- one event's outcome is counted, and then those that follow it
abbrev pub counted : Outcome → (Plant → List ℕ → ℕ) → ℕ
counted o others = one_if (is_accepted o.answer) + others o.plant o.out

-- how many of n events from event i on are accepted, from given tables and output
unfoldable pub accepted_from : List ℕ → ℕ → ℕ → Plant → List ℕ → ℕ
accepted_from ns zero i p out = 0
accepted_from ns (suc n) i p out = counted (unchecked_step p out (event_at ns i)) (λ q next. accepted_from ns n (suc i) q next)

-- HOW MANY events of a list are accepted, from the empty plant
abbrev pub accepted_of : List ℕ → ℕ
accepted_of ns = accepted_from ns (event_count ns) 0 empty_plant (replicate out_count 0)
