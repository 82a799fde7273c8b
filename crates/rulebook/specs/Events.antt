-- "The seventeen events" in 01: the kinds and their fields in order.
-- Assumes nothing.
use Rattle.std.specs.Prelude.{ℕ, ◌-◌, Bool, true, false, cond, ◌||◌, List, [], ◌∷◌, eqb, leb, get_or}
use Rattle.words.specs.Numbers.{station_count, series_count, job_count, greatest_serial, greatest_sent}
use Rattle.words.specs.Tests.{◌and◌, is_in}
use Rattle.copies.specs.Tables.{Series, series_at}
use Rattle.jobs.specs.declared.Job.{Job}
use Rattle.jobs.specs.Slots.{job_at}
use Rattle.rulebook.specs.declared.Event.{Event}
use Rattle.rulebook.specs.Tables.{Plant}

-- kind 1: series first last station
abbrev pub OPEN : ℕ
OPEN = 1

-- kind 2: job station
abbrev pub BEGIN : ℕ
BEGIN = 2

-- kind 3: job series
abbrev pub LOCKX : ℕ
LOCKX = 3

-- kind 4: job series
abbrev pub LOCKS : ℕ
LOCKS = 4

-- kind 5: job series count
abbrev pub DRAW : ℕ
DRAW = 5

-- kind 6: job series
abbrev pub READ : ℕ
READ = 6

-- kind 7: job
abbrev pub COMMIT : ℕ
COMMIT = 7

-- kind 8: job
abbrev pub ABORT : ℕ
ABORT = 8

-- kind 9: series from to
abbrev pub SEND : ℕ
SEND = 9

-- kind 10: series station
abbrev pub DEMOTE : ℕ
DEMOTE = 10

-- kind 11: series from to
abbrev pub SHARE : ℕ
SHARE = 11

-- kind 12: series station
abbrev pub DROP : ℕ
DROP = 12

-- kind 13: series station
abbrev pub PROMOTE : ℕ
PROMOTE = 13

-- kind 14: series from to number
abbrev pub GRANT : ℕ
GRANT = 14

-- kind 15: series from to number
abbrev pub ACK : ℕ
ACK = 15

-- kind 16: station
abbrev pub CRASH : ℕ
CRASH = 16

-- kind 17: station
abbrev pub RESTART : ℕ
RESTART = 17

-- What a field can name (a number tells them apart), and the least and the greatest number that it can hold.
pub record Field : Type 0 where
  pub name : ℕ
  pub least : ℕ
  pub greatest : ℕ

-- a series, 0 to 63
abbrev pub a_series : Field
a_series = record { name = 0; least = 0; greatest = series_count - 1 }

-- a station, 0 to 7
abbrev pub a_station : Field
a_station = record { name = 1; least = 0; greatest = station_count - 1 }

-- the station that a transfer comes from
abbrev pub a_from : Field
a_from = record { name = 2; least = 0; greatest = station_count - 1 }

-- the station that a transfer goes to
abbrev pub a_to : Field
a_to = record { name = 3; least = 0; greatest = station_count - 1 }

-- a job, 0 to 15
abbrev pub a_job : Field
a_job = record { name = 4; least = 0; greatest = job_count - 1 }

-- the first number of a series
abbrev pub a_first : Field
a_first = record { name = 5; least = 1; greatest = greatest_serial }

-- the last number of a series
abbrev pub a_last : Field
a_last = record { name = 6; least = 1; greatest = greatest_serial }

-- the count of a DRAW
abbrev pub a_count : Field
a_count = record { name = 7; least = 1; greatest = greatest_serial }

-- the number of a transfer
abbrev pub a_number : Field
a_number = record { name = 8; least = 1; greatest = greatest_sent }

-- the fields of kinds 0 to 17, in order; there is no kind 0
abbrev pub field_table : List (List Field)
field_table =
    []
    ∷ (a_series ∷ a_first ∷ a_last ∷ a_station ∷ [])
    ∷ (a_job ∷ a_station ∷ [])
    ∷ (a_job ∷ a_series ∷ [])
    ∷ (a_job ∷ a_series ∷ [])
    ∷ (a_job ∷ a_series ∷ a_count ∷ [])
    ∷ (a_job ∷ a_series ∷ [])
    ∷ (a_job ∷ [])
    ∷ (a_job ∷ [])
    ∷ (a_series ∷ a_from ∷ a_to ∷ [])
    ∷ (a_series ∷ a_station ∷ [])
    ∷ (a_series ∷ a_from ∷ a_to ∷ [])
    ∷ (a_series ∷ a_station ∷ [])
    ∷ (a_series ∷ a_station ∷ [])
    ∷ (a_series ∷ a_from ∷ a_to ∷ a_number ∷ [])
    ∷ (a_series ∷ a_from ∷ a_to ∷ a_number ∷ [])
    ∷ (a_station ∷ [])
    ∷ (a_station ∷ [])
    ∷ []

-- the fields of a kind
abbrev pub fields_of : ℕ → List Field
fields_of k = get_or field_table k []

-- the numbers that stand in an event's four places
abbrev pub numbers : Event → List ℕ
numbers e = e.a ∷ e.b ∷ e.c ∷ e.d ∷ []

-- the field is among these
abbrev pub is_among : Field → List Field → Bool
is_among x [] = false
is_among x (f ∷ fs) = eqb x.name f.name || is_among x fs

-- the number that stands in a field, 0 if there is no such field
abbrev pub number_in : Field → List Field → List ℕ → ℕ
number_in x [] vs = 0
number_in x (f ∷ fs) [] = 0
number_in x (f ∷ fs) (v ∷ vs) = cond (eqb x.name f.name) v (number_in x fs vs)

-- the event has the field
abbrev pub has : Field → Event → Bool
has x e = is_among x (fields_of e.kind)

-- the number in the event's field
abbrev pub the : Field → Event → ℕ
the x e = number_in x (fields_of e.kind) (numbers e)

-- the event names such a thing, and isn't of the kind that opens one
abbrev pub names : Field → ℕ → Event → Bool
names x opener e = cond (eqb e.kind opener) false (has x e)

-- each field holds a number that it can hold, and zeros stand in the rest
abbrev pub fit : List Field → List ℕ → Bool
fit [] [] = true
fit [] (v ∷ vs) = eqb v 0 and fit [] vs
fit (f ∷ fs) [] = false
fit (f ∷ fs) (v ∷ vs) = leb f.least v and leb v f.greatest and fit fs vs

-- the event is of one of these kinds, and the test holds
abbrev pub for_kinds : List ℕ → Event → Bool → Bool
for_kinds ks e test = cond (is_in e.kind ks) test false

-- the series that an event names
abbrev pub the_series : Plant → Event → Series
the_series p e = series_at p.copies (the a_series e)

-- the job that an event names
abbrev pub the_job : Plant → Event → Job
the_job p e = job_at p.jobs (the a_job e)

-- the station where an event acts: its own, its job's, to of a GRANT, from of another transfer
abbrev pub the_station : Plant → Event → ℕ
the_station p e =
    cond (has a_station e) (the a_station e)
    (cond (has a_job e) (the_job p e).station (cond (eqb e.kind GRANT) (the a_to e) (the a_from e)))
