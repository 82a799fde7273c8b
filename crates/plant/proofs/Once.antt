-- Each public call's promise allows one result: it is an equation that shows all of it. Assumes nothing.
use mathlib.Core.Path.{refl}
use Rattle.words.proofs.Results.{one_result}
use Rattle.rulebook.specs.declared.Holders.{Holders}
use Rattle.rulebook.specs.Steps.{Outcome, Effect, step_of}
use Rattle.rulebook.specs.Around.{empty_of, holders_of}
use Rattle.plant.specs.Calls.{Made, left, made}
use Rattle.plant.specs.Once.{EachOnce}

-- what `empty` left, from its effect
abbrev made_of : Effect → Made
made_of x = record { answer = x.answer; plant = x.plant }

pub each_once : EachOnce
each_once = (
  λ p out e. one_result (λ (x : Outcome). left x.answer x.plant x.out) (λ (x : Outcome). x) (λ x. refl) (step_of p out e),
  λ p. one_result (λ (x : Made). made x.answer x.plant) made_of (λ x. refl) (empty_of p),
  λ p s. one_result (λ (x : Holders). x) (λ (x : Holders). x) (λ x. refl) (holders_of p s),
)
