-- No token is lost: each open series always has one, and a transfer under way can still be delivered.
-- (That each open series has one is also part of `Serials`, which has to name the next number by it.)
-- Assumes nothing.
use Rattle.std.specs.Prelude.{ℕ, ◌<◌, ◌≡◌, true, List, Ok}
use Rattle.words.specs.Numbers.{station_count, series_count}
use Rattle.copies.specs.Tables.{Series, series_at, is_up, kind, value, rel_to, rel_kind, rel_value, sent_count, received}
use Rattle.copies.specs.Facts.{Open, Undelivered}
use Rattle.rulebook.specs.declared.Event.{Event}
use Rattle.rulebook.specs.Events.{GRANT}
use Rattle.rulebook.specs.Edges.{event}
use Rattle.rulebook.specs.Run.{Machine, Run, from_empty}
use Rattle.serials.specs.Serials.{SomeToken, series_after}

-- of every open series there is a token, held or under way
abbrev pub TokenKept : Run → Type 0
TokenKept x = (s : ℕ) → s < series_count → Open (series_after x s) → SomeToken (series_after x s)

-- the message that brings station from's transfer of series s: a GRANT to its receiver, of its number
abbrev pub message : Series → (s from : ℕ) → Event
message r s from = event GRANT s from (rel_to r from) (sent_count r from)

-- From series r to after: station from's transfer has arrived. Its receiver's copy has its kind and its value, and the receiver has its number.
pub record Arrived (r : Series) (from : ℕ) (after : Series) : Type 0 where
  pub kind_there : kind after (rel_to r from) ≡ rel_kind r from
  pub value_there : value after (rel_to r from) ≡ rel_value r from
  pub number_there : received after (rel_to r from) from ≡ sent_count r from

-- an undelivered transfer whose receiver is up can arrive: its GRANT is accepted with value 1, and it has arrived
abbrev pub Deliverable : Machine → Run → Type 0
Deliverable m x =
    (s from : ℕ) → s < series_count → from < station_count → Undelivered (series_after x s) from
    → is_up x.plant.copies (rel_to (series_after x s) from) ≡ true
    → ((m x.plant x.out (message (series_after x s) s from)).answer ≡ Ok 1)
    × Arrived (series_after x s) from (series_at (m x.plant x.out (message (series_after x s) s from)).plant.copies s)

-- THE STATEMENT: so it is after any list of events from the empty plant.
abbrev pub NothingLost : Machine → Type 0
NothingLost m = (es : List Event) → TokenKept (from_empty m es) × Deliverable m (from_empty m es)
