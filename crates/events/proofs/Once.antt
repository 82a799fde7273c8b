-- A turn's promise allows one result, as that of a COMMIT does. Assumes nothing.
use mathlib.Core.Path.{ap}
use mathlib.Core.List.{List}
use Rattle.jobs.specs.declared.Job.{Job}
use Rattle.jobs.specs.Calls as jobs
use Rattle.jobs.proofs.Once.{each_once}
use Rattle.rulebook.specs.Steps.{Outcome}
use Rattle.rulebook.specs.Tables.{plant}
use Rattle.events.specs.Unchecked.{slot_of, unchecked_turn}
use Rattle.events.specs.Once.{TurnOnce}

-- an outcome by what the upper layer's calls leave
abbrev seen : Outcome → jobs.Outcome
seen o = jobs.outcome (jobs.stepped o.answer o.plant.jobs) o.plant.copies o.out

pub turn_once : TurnOnce
turn_once t job free out e x y px py =
    each_once.2 job (slot_of e) (λ (bs : List Job). seen (unchecked_turn (plant t bs) free out e)) x y (λ bs same. ap seen (px bs same)) (λ bs same. ap seen (py bs same))
