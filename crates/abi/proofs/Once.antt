-- Each exported call's promise allows one result: it is an equation that shows all of it. Assumes nothing.
use mathlib.Core.Path.{refl}
use Rattle.words.proofs.Results.{one_result}
use Rattle.rulebook.specs.Steps.{step_of}
use Rattle.rulebook.specs.Around.{empty_of, holders_of}
use Rattle.abi.specs.declared.HoldersSaid.{HoldersSaid}
use Rattle.abi.specs.Calls.{Left, Made, left, left_of, made, made_of, holders_said_of}
use Rattle.abi.specs.Once.{EachOnce}

pub each_once : EachOnce
each_once = (
  λ p out e. one_result (λ (x : Left). left x.said x.plant x.out) (λ (x : Left). x) (λ x. refl) (left_of (step_of p out e)),
  λ p. one_result (λ (x : Made). made x.said x.plant) (λ (x : Made). x) (λ x. refl) (made_of (empty_of p)),
  λ p s. one_result (λ (x : HoldersSaid). x) (λ (x : HoldersSaid). x) (λ x. refl) (holders_said_of (holders_of p s)),
)
