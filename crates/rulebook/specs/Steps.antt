-- "The seventeen events" in 01, their accepted steps; and a step: the first refusal that is given, or the accepted step.
-- What a row doesn't name stays.
-- Assumes nothing.
use Rattle.std.specs.Prelude.{ℕ, ◌+◌, cond, List, [], ◌∷◌, get_or, set, length, Ok}
use Rattle.std.proofs.lemmas.List.Edits.{sets}
use Rattle.words.specs.Answers.{Answer}
use Rattle.words.specs.Numbers.{share, exclusive}
use Rattle.copies.specs.Tables.{value, sent_count}
use Rattle.copies.specs.Steps.{opened, sent_off, demoted, shared, dropped, promoted, arrived, deleted, marked, held_count, is_repeat, matches}
use Rattle.jobs.specs.declared.Job.{Job}
use Rattle.jobs.specs.Job.{no_job, begun, with_lock, with_draw, lock_on}
use Rattle.jobs.specs.Slots.{closed_at, count_at}
use Rattle.jobs.specs.Draws.{Draw, draws_of, committed, shown}
use Rattle.rulebook.specs.declared.Event.{Event}
use Rattle.rulebook.specs.Tables.{Plant, with_copies, with_jobs}
use Rattle.rulebook.specs.Events.{a_series, a_station, a_from, a_to, a_job, a_first, a_last, a_count, a_number, the, the_series, the_job, the_station}
use Rattle.rulebook.specs.Refusals.{Case, refusals}

-- What an event does: the answer, the plant after it, and the draws that it commits.
pub record Effect : Type 0 where
  pub answer : Answer
  pub plant : Plant
  pub draws : List Draw

-- accepted, with value v
abbrev pub done : ℕ → Plant → Effect
done v p = record { answer = Ok v; plant = p; draws = [] }

-- every refusal changes no table and commits nothing
abbrev pub refused : Answer → Plant → Effect
refused a p = record { answer = a; plant = p; draws = [] }

-- the event's job slot holds b
abbrev pub put_job : Plant → Event → Job → Plant
put_job p e b = with_jobs p (set p.jobs (the a_job e) b)

-- 1. exclusive at station, void elsewhere, all values = first; 0
unfoldable pub do_open : Plant → Event → Effect
do_open p e = done 0 (with_copies p (opened p.copies (the a_series e) (the a_first e) (the a_last e) (the a_station e)))

-- 2. the job opens with no lock; 0
unfoldable pub do_begin : Plant → Event → Effect
do_begin p e = done 0 (put_job p e (begun (the a_station e)))

-- 3. an exclusive lock; 0
unfoldable pub do_lockx : Plant → Event → Effect
do_lockx p e = done 0 (put_job p e (with_lock (the_job p e) (the a_series e) exclusive))

-- 4. a share lock; 0
unfoldable pub do_locks : Plant → Event → Effect
do_locks p e = done 0 (put_job p e (with_lock (the_job p e) (the a_series e) share))

-- 5. notes the count; 0
unfoldable pub do_draw : Plant → Event → Effect
do_draw p e = done 0 (put_job p e (with_draw (the_job p e) (the a_series e) (the a_count e)))

-- 6. nothing changes; the value of the station's copy + the job's own drawn count
unfoldable pub do_read : Plant → Event → Effect
do_read p e = done (value (the_series p e) (the_station p e) + (lock_on (the_job p e) (the a_series e)).drawn) p

-- the draws ds are committed and the job closes
abbrev pub commits : Plant → Event → List Draw → Effect
commits p e ds =
    record { answer = Ok (length ds); plant = put_job (with_copies p (committed p.copies ds)) e no_job; draws = ds }

-- 7. each drawn count is added to its copy's value, the job closes; the number of draws
unfoldable pub do_commit : Plant → Event → Effect
do_commit p e = commits p e (draws_of p.copies (the_job p e))

-- 8. the job closes, copies unchanged; 0
unfoldable pub do_abort : Plant → Event → Effect
do_abort p e = done 0 (put_job p e no_job)

-- 9. the copy becomes void, Release kind 2; the transfer number
unfoldable pub do_send : Plant → Event → Effect
do_send p e =
    done (sent_count (the_series p e) (the a_from e) + 1) (with_copies p (sent_off p.copies (the a_series e) (the a_from e) (the a_to e)))

-- 10. exclusive becomes share; 0
unfoldable pub do_demote : Plant → Event → Effect
do_demote p e = done 0 (with_copies p (demoted p.copies (the a_series e) (the a_station e)))

-- 11. from keeps its share copy, Release kind 1; the transfer number
unfoldable pub do_share : Plant → Event → Effect
do_share p e =
    done (sent_count (the_series p e) (the a_from e) + 1) (with_copies p (shared p.copies (the a_series e) (the a_from e) (the a_to e)))

-- 12. share becomes void; 0
unfoldable pub do_drop : Plant → Event → Effect
do_drop p e = done 0 (with_copies p (dropped p.copies (the a_series e) (the a_station e)))

-- 13. the only share becomes exclusive; 0
unfoldable pub do_promote : Plant → Event → Effect
do_promote p e = done 0 (with_copies p (promoted p.copies (the a_series e) (the a_station e)))

-- 14. the transfer arrives at to; 1, or 0 for a repeat, which changes nothing
unfoldable pub do_grant : Plant → Event → Effect
do_grant p e =
    cond (is_repeat (the_series p e) (the a_from e) (the a_to e) (the a_number e)) (done 0 p)
    (done 1 (with_copies p (arrived p.copies (the a_series e) (the a_from e) (the a_to e) (the a_number e))))

-- 15. 1 if the Release is deleted; else 0, late and ignored (X7)
unfoldable pub do_ack : Plant → Event → Effect
do_ack p e =
    cond (matches (the_series p e) (the a_from e) (the a_to e) (the a_number e))
    (done 1 (with_copies p (deleted p.copies (the a_series e) (the a_from e))))
    (done 0 p)

-- 16. station down, its jobs closed; the number of jobs closed
unfoldable pub do_crash : Plant → Event → Effect
do_crash p e =
    done (count_at (the a_station e) p.jobs)
    (record { copies = marked p.copies (the a_station e) 0; jobs = closed_at (the a_station e) p.jobs })

-- 17. station up; the number of non-void copies there
unfoldable pub do_restart : Plant → Event → Effect
do_restart p e = done (held_count p.copies (the a_station e)) (with_copies p (marked p.copies (the a_station e) 1))

-- a kind that there isn't is never accepted
abbrev pub nothing : Plant → Event → Effect
nothing p e = done 0 p

-- the accepted steps of kinds 0 to 17
abbrev pub accepted_steps : List (Plant → Event → Effect)
accepted_steps =
    nothing
    ∷ do_open
    ∷ do_begin
    ∷ do_lockx
    ∷ do_locks
    ∷ do_draw
    ∷ do_read
    ∷ do_commit
    ∷ do_abort
    ∷ do_send
    ∷ do_demote
    ∷ do_share
    ∷ do_drop
    ∷ do_promote
    ∷ do_grant
    ∷ do_ack
    ∷ do_crash
    ∷ do_restart
    ∷ []

-- the accepted step of an event
unfoldable pub accepted : Plant → Event → Effect
accepted p e = get_or accepted_steps e.kind nothing p e

-- the first refusal of the list that is given, or the accepted step
unfoldable pub judged : List Case → Plant → Event → Effect
judged [] p e = accepted p e
judged (r ∷ rs) p e = cond (r.given p e) (refused r.answer p) (judged rs p e)

-- a step's effect: the checks run in their order
unfoldable pub effect : Plant → List ℕ → Event → Effect
effect p out e = judged (refusals out) p e

-- The outcome of a step: the answer, the plant's tables and the output, whose first places show the draws; later places stay.
pub record Outcome : Type 0 where
  pub answer : Answer
  pub plant : Plant
  pub out : List ℕ

-- the output shows the draws in its first places; later places are untouched
abbrev pub outcome : List ℕ → Effect → Outcome
outcome out x = record { answer = x.answer; plant = x.plant; out = sets out 0 (shown x.draws) }

-- THE STEP: what an event does to the tables and the output lent with it
unfoldable pub step_of : Plant → List ℕ → Event → Outcome
step_of p out e = outcome out (effect p out e)
