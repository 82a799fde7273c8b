-- The promise of `turn_unchecked` allows one result ("What the contracts are held to" in 01): the answer, the slot's job, every table entry and every
-- output place. Those of the other calls are equations.
-- Assumes nothing.
use Rattle.std.specs.Prelude.{ℕ, ◌≡◌, Bool, List}
use Rattle.words.specs.Results.{OneResult}
use Rattle.copies.specs.Tables.{Copies}
use Rattle.jobs.specs.declared.Job.{Job}
use Rattle.jobs.specs.Slots.{job_at}
use Rattle.jobs.specs.Calls.{turned}
use Rattle.jobs.specs.Once.{TurnLeft}
use Rattle.rulebook.specs.declared.Event.{Event}
use Rattle.rulebook.specs.Tables.{plant}
use Rattle.events.specs.Calls.{left}
use Rattle.events.specs.Unchecked.{slot_of, unchecked_turn}

-- THE STATEMENT
abbrev pub TurnOnce : Type 0
TurnOnce =
    (t : Copies) (job : Job) (free : Bool) (out : List ℕ) (e : Event)
    → OneResult (λ (x : TurnLeft). (bs : List Job) → job ≡ job_at bs (slot_of e)
    → left (turned bs (slot_of e) x.turn) x.copies x.out ≡ unchecked_turn (plant t bs) free out e)
