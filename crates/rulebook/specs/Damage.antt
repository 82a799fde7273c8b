-- W1 to W5 of 01 told apart: tables that were whole, each with one number changed, and the one rule that it then breaks.
-- Assumes nothing.
use Rattle.std.specs.Prelude.{ℕ, ◌≡◌, Bool, cond, List, [], ◌∷◌, ◌++◌, map, set}
use Rattle.words.specs.declared.Rule.{Rule}
use Rattle.words.specs.declared.Rule.TheVariants.{W1, W2, W3, W4, W5}
use Rattle.copies.specs.Tables.{Copies, with_bounds, with_copies, with_releases, with_received, place, received_place}
use Rattle.copies.specs.Steps.{put_kind, marked}
use Rattle.jobs.specs.declared.Job.{Job}
use Rattle.jobs.specs.Job.{lock_at, put_lock}
use Rattle.jobs.specs.Slots.{job_at}
use Rattle.rulebook.specs.declared.Event.{Event}
use Rattle.rulebook.specs.Tables.{Plant, with_jobs}
use Rattle.rulebook.specs.Tables as plant
use Rattle.rulebook.specs.Whole as tests
use Rattle.rulebook.specs.Events.{OPEN, BEGIN, LOCKX, LOCKS, DRAW, SEND, DEMOTE, SHARE, GRANT, ACK}
use Rattle.rulebook.specs.Steps.{accepted}
use Rattle.rulebook.specs.Around.{empty_plant}
use Rattle.rulebook.specs.Edges.{event}

-- the rule where its test fails
abbrev pub unless : Bool → Rule → List Rule
unless test rule = cond test [] (rule ∷ [])

-- the rules that tables break
unfoldable pub broken_rules : Plant → List Rule
broken_rules p =
    unless (tests.W1 p) W1 ++ unless (tests.W2 p) W2 ++ unless (tests.W3 p) W3 ++ unless (tests.W4 p) W4 ++ unless (tests.W5 p) W5

-- the plant after the accepted steps of some events
unfoldable pub after : Plant → List Event → Plant
after p [] = p
after p (e ∷ es) = after (accepted p e).plant es

-- The busy plant. Series 0, of 10 to 19, is exclusive at station 0, where job 0 locks it and has drawn 4. Series 1 is a share at
-- stations 0 and 1, where job 2 locks it at 1, and a third is under way from 0 to 2. Series 2 has gone from 0 to 1, and its Release still
-- stands. Series 3 and 4 are exclusive at station 0, where job 1 locks both.
unfoldable pub busy : Plant
busy =
    after empty_plant
    (event OPEN 0 10 19 0
    ∷ event BEGIN 0 0 0 0
    ∷ event LOCKX 0 0 0 0
    ∷ event DRAW 0 0 4 0
    ∷ event OPEN 1 5 9 1
    ∷ event DEMOTE 1 1 0 0
    ∷ event SHARE 1 1 0 0
    ∷ event GRANT 1 1 0 1
    ∷ event ACK 1 1 0 1
    ∷ event SHARE 1 0 2 0
    ∷ event OPEN 2 1 1 0
    ∷ event SEND 2 0 1 0
    ∷ event GRANT 2 0 1 1
    ∷ event OPEN 3 1 1 0
    ∷ event OPEN 4 1 1 0
    ∷ event BEGIN 1 0 0 0
    ∷ event LOCKX 1 3 0 0
    ∷ event LOCKX 1 4 0 0
    ∷ event BEGIN 2 1 0 0
    ∷ event LOCKS 2 1 0 0
    ∷ [])

-- a change of the lower layer's tables
abbrev pub in_copies : (Copies → Copies) → Plant → Plant
in_copies change p = plant.with_copies p (change p.copies)

-- another last number of a series
abbrev pub last_as : ℕ → ℕ → Copies → Copies
last_as s last t = with_bounds t t.firsts (set t.lasts s last)

-- another copy kind
abbrev pub kind_as : ℕ → ℕ → ℕ → Copies → Copies
kind_as s n k t = put_kind t s n k

-- another copy value
abbrev pub value_as : ℕ → ℕ → ℕ → Copies → Copies
value_as s n v t = with_copies t t.kinds (set t.values (place s n) v)

-- another sent count
abbrev pub sent_as : ℕ → ℕ → ℕ → Copies → Copies
sent_as s n k t = with_releases t (set t.sent (place s n) k) t.rel_to t.rel_kind t.rel_value

-- another receiver of a Release
abbrev pub receiver_as : ℕ → ℕ → ℕ → Copies → Copies
receiver_as s n to t = with_releases t t.sent (set t.rel_to (place s n) to) t.rel_kind t.rel_value

-- another kind of a Release
abbrev pub rel_kind_as : ℕ → ℕ → ℕ → Copies → Copies
rel_kind_as s n k t = with_releases t t.sent t.rel_to (set t.rel_kind (place s n) k) t.rel_value

-- another value of a Release
abbrev pub rel_value_as : ℕ → ℕ → ℕ → Copies → Copies
rel_value_as s n v t = with_releases t t.sent t.rel_to t.rel_kind (set t.rel_value (place s n) v)

-- another received number
abbrev pub received_as : ℕ → ℕ → ℕ → ℕ → Copies → Copies
received_as s n m k t = with_received t (set t.received (received_place s n m) k)

-- another mark of a station
abbrev pub mark_as : ℕ → ℕ → Copies → Copies
mark_as n mark t = marked t n mark

-- a change of job slot j
abbrev pub in_job : ℕ → (Job → Job) → Plant → Plant
in_job j change p = with_jobs p (set p.jobs j (change (job_at p.jobs j)))

-- another mark of a job
abbrev pub open_as : ℕ → Job → Job
open_as mark b = record { mark = mark; station = b.station; locks = b.locks }

-- another station of a job
abbrev pub station_as : ℕ → Job → Job
station_as n b = record { mark = b.mark; station = n; locks = b.locks }

-- another series of a lock
abbrev pub series_as : ℕ → ℕ → Job → Job
series_as i s b = put_lock b i (record { series = s; mode = (lock_at b i).mode; drawn = (lock_at b i).drawn })

-- another mode of a lock
abbrev pub mode_as : ℕ → ℕ → Job → Job
mode_as i mode b = put_lock b i (record { series = (lock_at b i).series; mode = mode; drawn = (lock_at b i).drawn })

-- another drawn count of a lock
abbrev pub drawn_as : ℕ → ℕ → Job → Job
drawn_as i count b = put_lock b i (record { series = (lock_at b i).series; mode = (lock_at b i).mode; drawn = count })

-- a change, and the rules that it breaks
pub record Damage : Type 0 where
  pub change : Plant → Plant
  pub rules : List Rule

-- a change that breaks one rule
abbrev pub breaks : Rule → (Plant → Plant) → Damage
breaks rule change = record { change = change; rules = rule ∷ [] }

-- no change, and then changes of one number, each of which breaks one rule without another. Some parts of a rule can't be broken so: a job's station, a
-- lock's series or a drawn count out of its range (W1) breaks W4 or W5 too.
unfoldable pub damages : List Damage
damages =
    record { change = λ p. p; rules = [] }
    -- a last number above the greatest, or below the first; a kind that there isn't; a void copy's value above last + 1, or below first; a sent count above 9,999
    ∷ breaks W1 (in_copies (last_as 0 1_000_000_000))
    ∷ breaks W1 (in_copies (last_as 2 0))
    ∷ breaks W1 (in_copies (kind_as 0 5 3))
    ∷ breaks W1 (in_copies (value_as 0 5 21))
    ∷ breaks W1 (in_copies (value_as 0 5 9))
    ∷ breaks W1 (in_copies (sent_as 0 5 10_000))
    -- a Release to its own station, or to none; a delivered one's kind that there isn't, or value out of bounds; a station's mark
    ∷ breaks W1 (in_copies (receiver_as 1 0 0))
    ∷ breaks W1 (in_copies (receiver_as 1 0 8))
    ∷ breaks W1 (in_copies (rel_kind_as 2 0 3))
    ∷ breaks W1 (in_copies (rel_value_as 2 0 3))
    ∷ breaks W1 (in_copies (mark_as 6 2))
    -- a job's mark, a lock's mode
    ∷ breaks W1 (in_job 0 (open_as 2))
    ∷ breaks W1 (in_job 0 (mode_as 0 3))
    -- a second exclusive copy; no token at all; an exclusive beside shares; a share, a share under way that says another number
    ∷ breaks W2 (in_copies (kind_as 0 3 2))
    ∷ breaks W2 (in_copies (kind_as 2 1 0))
    ∷ breaks W2 (in_copies (kind_as 1 4 2))
    ∷ breaks W2 (in_copies (value_as 1 1 6))
    ∷ breaks W2 (in_copies (rel_value_as 1 0 6))
    -- received more than was sent; the standing Release's number at another station; received from itself
    ∷ breaks W3 (in_copies (received_as 0 4 3 1))
    ∷ breaks W3 (in_copies (received_as 2 5 0 1))
    ∷ breaks W3 (in_copies (received_as 1 1 1 1))
    -- an open job at a station that is down; a lock of a series not open, or of a copy not held; drawn more than is left; a share
    -- lock of an exclusive copy; an exclusive lock of a share copy; a share lock with a drawn count
    ∷ breaks W4 (in_copies (mark_as 0 0))
    ∷ breaks W4 (in_job 1 (series_as 0 9))
    ∷ breaks W4 (in_job 1 (series_as 0 2))
    ∷ breaks W4 (in_job 0 (drawn_as 0 11))
    ∷ breaks W4 (in_job 1 (mode_as 0 1))
    ∷ breaks W4 (in_job 2 (mode_as 0 2))
    ∷ breaks W4 (in_job 2 (drawn_as 0 1))
    -- two jobs' exclusive locks of one copy; two locks of one series
    ∷ breaks W4 (in_job 1 (series_as 0 0))
    ∷ breaks W4 (in_job 1 (series_as 1 3))
    -- a series that isn't open, a Release that doesn't stand, an unused slot, an unused lock place keep something; a used place comes after one
    -- that isn't
    ∷ breaks W5 (in_copies (last_as 9 5))
    ∷ breaks W5 (in_copies (value_as 9 0 5))
    ∷ breaks W5 (in_copies (received_as 63 7 0 1))
    ∷ breaks W5 (in_copies (receiver_as 0 0 2))
    ∷ breaks W5 (in_copies (rel_value_as 0 0 5))
    ∷ breaks W5 (in_job 15 (station_as 3))
    ∷ breaks W5 (in_job 0 (series_as 3 2))
    ∷ breaks W5 (in_job 1 (mode_as 0 0))
    ∷ []

-- THE STATEMENT: the busy plant is whole, and each change of it breaks the rule named, and no other.
unfoldable pub DamageTold : Type 0
DamageTold = map (λ d. broken_rules (d.change busy)) damages ≡ map (λ d. d.rules) damages
