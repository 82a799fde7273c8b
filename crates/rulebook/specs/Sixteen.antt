-- A table may have more job slots than sixteen ("extra entries are never touched" in 01): the first sixteen decide, and the extra ones stay.
-- Assumes nothing.
use Rattle.std.specs.Prelude.{ℕ, ◌≡◌, false, List, ◌++◌, take, drop}
use Rattle.words.specs.Numbers.{job_count}
use Rattle.jobs.specs.Slots.{short_jobs}
use Rattle.rulebook.specs.declared.Event.{Event}
use Rattle.rulebook.specs.Tables.{Plant, with_jobs}
use Rattle.rulebook.specs.Steps.{Outcome, step_of}
use Rattle.rulebook.specs.Around.{holders_of}

-- the plant with its first sixteen slots alone
abbrev pub first_slots : Plant → Plant
first_slots p = with_jobs p (take job_count p.jobs)

-- plant q with the extra slots of p behind its own
abbrev pub with_extra_of : Plant → Plant → Plant
with_extra_of p q = with_jobs q (q.jobs ++ drop job_count p.jobs)

-- an outcome with them behind those of its plant
abbrev pub outcome_with_extra_of : Plant → Outcome → Outcome
outcome_with_extra_of p o = record { answer = o.answer; plant = with_extra_of p o.plant; out = o.out }

-- of a step
abbrev pub StepBySixteen : Type 0
StepBySixteen =
    (p : Plant) (out : List ℕ) (e : Event) → short_jobs p.jobs ≡ false
    → step_of p out e ≡ outcome_with_extra_of p (step_of (first_slots p) out e)

-- of the holders of a series
abbrev pub HoldersBySixteen : Type 0
HoldersBySixteen = (p : Plant) (s : ℕ) → short_jobs p.jobs ≡ false → holders_of p s ≡ holders_of (first_slots p) s

-- THE STATEMENT: the first sixteen slots decide, and the extra ones stay behind them.
abbrev pub BySixteen : Type 0
BySixteen = StepBySixteen × HoldersBySixteen
