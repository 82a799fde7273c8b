-- Each public call's promise allows one result: it is an equation that shows all of it. Assumes nothing.
use mathlib.Core.Path.{refl}
use Rattle.words.proofs.Results.{one_result}
use Rattle.rulebook.specs.declared.Holders.{Holders}
use Rattle.rulebook.specs.Steps.{Effect, Outcome, step_of}
use Rattle.rulebook.specs.Around.{empty_of, holders_of}
use Rattle.events.specs.Calls.{left}
use Rattle.events.specs.Unchecked.{unchecked_step}
use Rattle.machine.specs.Calls.{made, Cleared, cleared, clear_of}
use Rattle.machine.specs.Once.{Left, Made, EachOnce}

-- what a step left, from its outcome
abbrev left_of : Outcome → Left
left_of o = record { stepped = record { answer = o.answer; jobs = o.plant.jobs }; copies = o.plant.copies; out = o.out }

-- what `empty` left, from its effect
abbrev made_of : Effect → Made
made_of x = record { stepped = record { answer = x.answer; jobs = x.plant.jobs }; copies = x.plant.copies }

pub each_once : EachOnce
each_once = (
  λ p out e. one_result (λ (x : Left). left x.stepped x.copies x.out) left_of (λ x. refl) (step_of p out e),
  λ p out e. one_result (λ (x : Left). left x.stepped x.copies x.out) left_of (λ x. refl) (unchecked_step p out e),
  λ p. one_result (λ (x : Made). made x.stepped x.copies) made_of (λ x. refl) (empty_of p),
  λ t. one_result (λ (x : Cleared). cleared x.done x.copies) (λ (x : Cleared). x) (λ x. refl) (clear_of t),
  λ p s. one_result (λ (x : Holders). x) (λ (x : Holders). x) (λ x. refl) (holders_of p s),
)
