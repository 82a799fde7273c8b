-- Demand 3, the reads: an accepted READ returns first number + all committed counts + the job's own draw.
-- Assumes nothing.
use Rattle.std.specs.Prelude.{ℕ, ◌+◌, ◌≡◌, List, Ok}
use Rattle.jobs.specs.Job.{lock_on}
use Rattle.rulebook.specs.declared.Event.{Event}
use Rattle.rulebook.specs.Events.{READ, a_series, the, the_series, the_job}
use Rattle.rulebook.specs.Run.{Run, Machine, from_empty}
use Rattle.serials.specs.Draws.{draws_after, count_in}

-- what a READ is to return at the end of a run
abbrev pub read_of : Run → Event → ℕ
read_of x e =
    (the_series x.plant e).first
    + count_in (the a_series e) (draws_after x)
    + (lock_on (the_job x.plant e) (the a_series e)).drawn

-- THE STATEMENT: after any list of events from the empty plant, a READ that is accepted with value v has that value.
abbrev pub Reads : Machine → Type 0
Reads m =
    (es : List Event) (e : Event) (v : ℕ) → e.kind ≡ READ
    → (m (from_empty m es).plant (from_empty m es).out e).answer ≡ Ok v
    → v ≡ read_of (from_empty m es) e
