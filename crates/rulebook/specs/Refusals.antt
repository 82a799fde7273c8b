-- "What a refusal says" in 01: when each of the eighteen is given, and the order of the checks.
-- Assumes nothing.
use Rattle.std.specs.Prelude.{ℕ, Bool, false, cond, List, [], ◌∷◌, eqb, ltb, leb, length, Err}
use Rattle.words.specs.declared.Refusal.{Refusal}
use Rattle.words.specs.Answers.{Answer}
use Rattle.words.specs.declared.Refusal.TheVariants.{Short, NotWhole, BadEvent, Taken, None, Down, Up, Held, Full, Copy, Locked, NoLock, Drawn, Range, Wait, Spent, Others, NoMessage}
use Rattle.words.specs.Numbers.{out_count, share, exclusive}
use Rattle.words.specs.Tests.{non, ◌and◌, ◌or◌, is_in}
use Rattle.copies.specs.Tables.{is_open, is_up, kind, stands}
use Rattle.copies.specs.Steps.{is_beyond, other_share, under_way, is_spent, no_grant, no_ack}
use Rattle.jobs.specs.Job.{job_open, locks_series, lock_on, is_full}
use Rattle.jobs.specs.Slots.{free}
use Rattle.rulebook.specs.declared.Event.{Event}
use Rattle.rulebook.specs.Tables.{Plant, short_tables}
use Rattle.rulebook.specs.Whole.{whole}
use Rattle.rulebook.specs.Events.{OPEN, BEGIN, LOCKX, LOCKS, DRAW, READ, SEND, DEMOTE, SHARE, DROP, PROMOTE, GRANT, ACK, CRASH, RESTART, a_series, a_from, a_to, a_job, a_first, a_last, a_count, a_number, fields_of, numbers, names, the, fit, for_kinds, the_series, the_job, the_station}

-- 1. a table or the output has fewer entries than its stated size
unfoldable pub SHORT : List ℕ → Plant → Event → Bool
SHORT out p e = short_tables p or ltb (length out) out_count

-- 2. W1 to W5 don't all hold
unfoldable pub NOT_WHOLE : Plant → Event → Bool
NOT_WHOLE p e = non (whole p)

-- 3. unknown kind; a field out of its range, or one that is not used not 0; OPEN bounds broken; from = to
unfoldable pub BAD_EVENT : Plant → Event → Bool
BAD_EVENT p e =
    non (leb OPEN e.kind and leb e.kind RESTART)
    or non (fit (fields_of e.kind) (numbers e))
    or for_kinds (OPEN ∷ []) e (ltb (the a_last e) (the a_first e))
    or for_kinds (SEND ∷ SHARE ∷ GRANT ∷ ACK ∷ []) e (eqb (the a_from e) (the a_to e))

-- 4. OPEN of an open series, BEGIN of an open job
unfoldable pub TAKEN : Plant → Event → Bool
TAKEN p e =
    cond (eqb e.kind OPEN) (is_open (the_series p e)) (cond (eqb e.kind BEGIN) (job_open (the_job p e)) false)

-- 5. the named series or job isn't open (except the one being opened)
unfoldable pub NONE : Plant → Event → Bool
NONE p e =
    cond (names a_series OPEN e) (non (is_open (the_series p e))) false
    or cond (names a_job BEGIN e) (non (job_open (the_job p e))) false

-- 6. the station is down; from of SEND, SHARE and ACK, to of GRANT
unfoldable pub DOWN : Plant → Event → Bool
DOWN p e =
    for_kinds (OPEN ∷ BEGIN ∷ DEMOTE ∷ DROP ∷ PROMOTE ∷ CRASH ∷ SEND ∷ SHARE ∷ ACK ∷ GRANT ∷ []) e
    (non (is_up p.copies (the_station p e)))

-- 7. RESTART of a station that is up
unfoldable pub UP : Plant → Event → Bool
UP p e = for_kinds (RESTART ∷ []) e (is_up p.copies (the_station p e))

-- 8. the job already locks that series
unfoldable pub HELD : Plant → Event → Bool
HELD p e = for_kinds (LOCKX ∷ LOCKS ∷ []) e (locks_series (the_job p e) (the a_series e))

-- 9. the job has four locks
unfoldable pub FULL : Plant → Event → Bool
FULL p e = for_kinds (LOCKX ∷ LOCKS ∷ []) e (is_full (the_job p e))

-- the copy at the event's station is of kind k
abbrev pub copy_is : ℕ → Plant → Event → Bool
copy_is k p e = eqb (kind (the_series p e) (the_station p e)) k

-- 10. the copy isn't of the kind needed: 2 for LOCKX, SEND, DEMOTE; 1 for LOCKS, SHARE, DROP, PROMOTE
unfoldable pub COPY : Plant → Event → Bool
COPY p e =
    cond (is_in e.kind (LOCKX ∷ SEND ∷ DEMOTE ∷ [])) (non (copy_is exclusive p e))
    (for_kinds (LOCKS ∷ SHARE ∷ DROP ∷ PROMOTE ∷ []) e (non (copy_is share p e)))

-- 11. the copy isn't free
unfoldable pub LOCKED : Plant → Event → Bool
LOCKED p e =
    for_kinds (LOCKX ∷ SEND ∷ DEMOTE ∷ DROP ∷ PROMOTE ∷ []) e (non (free p.jobs (the a_series e) (the_station p e)))

-- 12. DRAW without an exclusive lock of this job, READ without any
unfoldable pub NO_LOCK : Plant → Event → Bool
NO_LOCK p e =
    cond (eqb e.kind DRAW) (non (locks_series (the_job p e) (the a_series e) and eqb (lock_on (the_job p e) (the a_series e)).mode exclusive))
    (for_kinds (READ ∷ []) e (non (locks_series (the_job p e) (the a_series e))))

-- 13. this job has drawn in this series
unfoldable pub DRAWN : Plant → Event → Bool
DRAWN p e = for_kinds (DRAW ∷ []) e (non (eqb (lock_on (the_job p e) (the a_series e)).drawn 0))

-- 14. count > last + 1 − value
unfoldable pub RANGE : Plant → Event → Bool
RANGE p e = for_kinds (DRAW ∷ []) e (is_beyond (the_series p e) (the_station p e) (the a_count e))

-- 15. from has a standing Release for the series
unfoldable pub WAIT : Plant → Event → Bool
WAIT p e = for_kinds (SEND ∷ SHARE ∷ []) e (stands (the_series p e) (the a_from e))

-- 16. the sent count is 9,999
unfoldable pub SPENT : Plant → Event → Bool
SPENT p e = for_kinds (SEND ∷ SHARE ∷ []) e (is_spent (the_series p e) (the a_from e))

-- 17. DROP: no other station holds a share copy. PROMOTE: another does, or a transfer is undelivered
unfoldable pub OTHERS : Plant → Event → Bool
OTHERS p e =
    cond (eqb e.kind DROP) (non (other_share (the_series p e) (the_station p e)))
    (for_kinds (PROMOTE ∷ []) e (other_share (the_series p e) (the_station p e) or under_way (the_series p e)))

-- 18. GRANT, ACK: no such message exists
unfoldable pub NO_MESSAGE : Plant → Event → Bool
NO_MESSAGE p e =
    cond (eqb e.kind GRANT) (no_grant (the_series p e) (the a_from e) (the a_to e) (the a_number e))
    (for_kinds (ACK ∷ []) e (no_ack (the_series p e) (the a_from e) (the a_to e) (the a_number e)))

-- A case of refusal: the answer, and when it is given.
pub record Case : Type 0 where
  pub answer : Answer
  pub given : Plant → Event → Bool

-- a refusal, given so
abbrev pub says : Refusal → (Plant → Event → Bool) → Case
says r given = record { answer = Err r; given = given }

-- refusals 3 to 18, of the event, in the order of the checks
abbrev pub event_refusals : List Case
event_refusals =
    says BadEvent BAD_EVENT
    ∷ says Taken TAKEN
    ∷ says None NONE
    ∷ says Down DOWN
    ∷ says Up UP
    ∷ says Held HELD
    ∷ says Full FULL
    ∷ says Copy COPY
    ∷ says Locked LOCKED
    ∷ says NoLock NO_LOCK
    ∷ says Drawn DRAWN
    ∷ says Range RANGE
    ∷ says Wait WAIT
    ∷ says Spent SPENT
    ∷ says Others OTHERS
    ∷ says NoMessage NO_MESSAGE
    ∷ []

-- all eighteen in the order of the checks: before those of the event, those of what was lent
abbrev pub refusals : List ℕ → List Case
refusals out = says Short (SHORT out) ∷ says NotWhole NOT_WHOLE ∷ event_refusals
