-- The step without the whole check: what the calls of the two layers come to, in any tables. A call asks SHORT only of the columns that it uses.
-- In whole tables this is the step of the rulebook (`SameInWhole`).
-- Assumes nothing.
use Rattle.std.specs.Prelude.{ℕ, ◌≡◌, Bool, true, false, cond, ◌&&◌, ◌||◌, List, eqb, ltb, leb, Err}
use Rattle.words.specs.declared.Refusal.TheVariants.{BadEvent}
use Rattle.words.specs.Numbers.{job_count}
use Rattle.words.specs.Tests.{refuse_if}
use Rattle.copies.specs.Tables.{Copies}
use Rattle.copies.specs.Calls as copies
use Rattle.jobs.specs.declared.Job.{Job}
use Rattle.jobs.specs.Calls.{Stepped}
use Rattle.jobs.specs.Slots.{job_at, free}
use Rattle.jobs.specs.Calls as jobs
use Rattle.rulebook.specs.declared.Event.{Event}
use Rattle.rulebook.specs.Tables.{Plant, with_copies}
use Rattle.rulebook.specs.Events.{OPEN, BEGIN, LOCKX, LOCKS, DRAW, READ, COMMIT, ABORT, SEND, DEMOTE, SHARE, DROP, PROMOTE, GRANT, ACK, CRASH, RESTART}
use Rattle.rulebook.specs.Whole.{whole}
use Rattle.rulebook.specs.Refusals.{SHORT, BAD_EVENT}
use Rattle.rulebook.specs.Steps.{Outcome, step_of}
use Rattle.events.specs.Calls.{left}

-- an event that no job takes part in; `free` says that no job locks the copy
unfoldable pub copy_event : Copies → Bool → Event → copies.Outcome
copy_event t free e =
    cond (eqb e.kind OPEN) (copies.open_series t e.a e.b e.c e.d)
    (cond (eqb e.kind SEND) (copies.send t free e.a e.b e.c)
    (cond (eqb e.kind DEMOTE) (copies.demote t free e.a e.b)
    (cond (eqb e.kind SHARE) (copies.send_share t e.a e.b e.c)
    (cond (eqb e.kind DROP) (copies.drop t free e.a e.b)
    (cond (eqb e.kind PROMOTE) (copies.promote t free e.a e.b)
    (cond (eqb e.kind GRANT) (copies.grant t e.a e.b e.c e.d)
    (cond (eqb e.kind ACK) (copies.ack t e.a e.b e.c e.d)
    (cond (eqb e.kind RESTART) (copies.restart t e.a) (copies.outcome (Err BadEvent) t)))))))))

-- the slots' part of an event that changes nothing else
abbrev slots_only : Copies → List ℕ → Stepped → jobs.Outcome
slots_only t out r = jobs.outcome r t out

-- an event that a job takes part in, but CRASH; `free` says for LOCKX that no job locks the copy
unfoldable pub job_turn : Copies → List Job → Bool → List ℕ → Event → jobs.Outcome
job_turn t bs free out e =
    cond (eqb e.kind BEGIN) (slots_only t out (jobs.begin t bs e.a e.b))
    (cond (eqb e.kind LOCKX) (slots_only t out (jobs.lockx t bs free e.a e.b))
    (cond (eqb e.kind LOCKS) (slots_only t out (jobs.locks t bs e.a e.b))
    (cond (eqb e.kind DRAW) (slots_only t out (jobs.draw t bs e.a e.b e.c))
    (cond (eqb e.kind READ) (slots_only t out (jobs.stepped (jobs.read t bs e.a e.b) bs))
    (cond (eqb e.kind COMMIT) (jobs.commit t bs out e.a)
    (cond (eqb e.kind ABORT) (slots_only t out (jobs.abort bs e.a)) (jobs.refused t bs out BadEvent)))))))

-- an event that a job takes part in
unfoldable pub job_event : Copies → List Job → List ℕ → Event → jobs.Outcome
job_event t bs out e =
    cond (eqb e.kind CRASH) (jobs.crash t bs out e.a) (job_turn t bs (free bs e.b (job_at bs e.a).station) out e)

-- a job takes part in events of this kind: BEGIN to ABORT, and CRASH
abbrev pub takes_job : ℕ → Bool
takes_job k = leb BEGIN k && leb k ABORT || eqb k CRASH

-- the slot that an event may name: its first field, where there is such a slot
unfoldable pub slot_of : Event → ℕ
slot_of e = cond (ltb e.a job_count) e.a 0

-- refusal 11 is asked of these kinds: that a copy is free
abbrev pub asks_free : ℕ → Bool
asks_free k = eqb k LOCKX || eqb k SEND || eqb k DEMOTE || eqb k DROP || eqb k PROMOTE

-- whether the copy that an event is about is free, as far as its kind asks: of LOCKX the one at the job's station
unfoldable pub free_for : List Job → Job → Event → Bool
free_for bs b e =
    cond (asks_free e.kind) (cond (eqb e.kind LOCKX) (free bs e.b b.station) (free bs e.a e.b)) true

-- what an event of the lower layer leaves of a plant and an output
abbrev pub of_copies : Plant → List ℕ → copies.Outcome → Outcome
of_copies p out x = record { answer = x.answer; plant = with_copies p x.copies; out = out }

-- what an event of the upper layer leaves
abbrev pub of_jobs : jobs.Outcome → Outcome
of_jobs x = left x.stepped x.copies x.out

-- the call of the layer that an event belongs to
abbrev pub called : Plant → List ℕ → Event → Outcome
called p out e =
    cond (takes_job e.kind) (of_jobs (job_event p.copies p.jobs out e))
    (of_copies p out (copy_event p.copies (free p.jobs e.a e.b) e))

-- THE STEP WITHOUT THE CHECK: BAD EVENT, or that call
unfoldable pub unchecked_step : Plant → List ℕ → Event → Outcome
unchecked_step p out e = refuse_if (BAD_EVENT p e) (record { answer = Err BadEvent; plant = p; out = out }) (called p out e)

-- the same over one slot, of any kind but CRASH, which closes many jobs and gets BAD EVENT here; `free` says, where the kind asks, that no job locks
-- the copy
unfoldable pub unchecked_turn : Plant → Bool → List ℕ → Event → Outcome
unchecked_turn p free out e =
    refuse_if (BAD_EVENT p e) (record { answer = Err BadEvent; plant = p; out = out })
    (cond (takes_job e.kind && ltb e.a job_count) (of_jobs (job_turn p.copies p.jobs free out e)) (of_copies p out (copy_event p.copies free e)))

-- THE STATEMENT: given whole tables, and room for the output, the same outcome as the step's.
abbrev pub SameInWhole : Type 0
SameInWhole =
    (p : Plant) (out : List ℕ) (e : Event) → SHORT out p e ≡ false → whole p ≡ true → unchecked_step p out e ≡ step_of p out e
