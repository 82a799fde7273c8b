-- The promise of each call of the layer allows one result ("What the contracts are held to" in 01), whatever its definition makes of the tables.
-- Assumes nothing.
use Rattle.std.specs.Prelude.{ℕ, ◌≡◌, List}
use Rattle.words.specs.Answers.{Answer}
use Rattle.words.specs.Results.{OneResult}
use Rattle.copies.specs.Tables.{Copies}
use Rattle.jobs.specs.declared.Job.{Job}
use Rattle.jobs.specs.Slots.{job_at}
use Rattle.jobs.specs.Calls.{Stepped, Turn, Outcome, outcome, turned}

-- of BEGIN, LOCKX, LOCKS, DRAW and ABORT: the answer and the slot's job
abbrev pub TurnOnce : Type 0
TurnOnce = (job : Job) (j : ℕ) (F : List Job → Stepped) → OneResult (λ (r : Turn). (bs : List Job) → job ≡ job_at bs j → turned bs j r ≡ F bs)

-- of READ: the answer
abbrev pub ReadOnce : Type 0
ReadOnce = (job : Job) (j : ℕ) (F : List Job → Answer) → OneResult (λ (a : Answer). (bs : List Job) → job ≡ job_at bs j → a ≡ F bs)

-- What a call that changes more than its slot gives back and leaves.
pub record TurnLeft : Type 0 where
  pub turn : Turn
  pub copies : Copies
  pub out : List ℕ

-- of COMMIT: the answer, the slot's job, every table entry and every output place
abbrev pub CommitOnce : Type 0
CommitOnce =
    (job : Job) (j : ℕ) (F : List Job → Outcome)
    → OneResult (λ (x : TurnLeft). (bs : List Job) → job ≡ job_at bs j → outcome (turned bs j x.turn) x.copies x.out ≡ F bs)

-- of CRASH, over the sixteen slots: the answer, the slots, every table entry and every output place
abbrev pub CrashOnce : Type 0
CrashOnce = (o : Outcome) → OneResult (λ (x : Outcome). outcome x.stepped x.copies x.out ≡ o)

-- THE STATEMENT: of all eight. (What only reads promises that its result equals a definition, and so does each method.)
abbrev pub EachOnce : Type 0
EachOnce = TurnOnce × ReadOnce × CommitOnce × CrashOnce
