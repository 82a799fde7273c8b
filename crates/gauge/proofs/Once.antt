-- The public call's promise allows one result: it is an equation that shows all of it. Assumes nothing.
use Prim.Native.Nat.{ℕ}
use mathlib.Core.Path.{refl}
use Rattle.words.proofs.Results.{one_result}
use Rattle.gauge.specs.Accepted.{accepted_of}
use Rattle.gauge.specs.Once.{AcceptedOnce}

pub accepted_once : AcceptedOnce
accepted_once numbers = one_result (λ (r : ℕ). r) (λ (r : ℕ). r) (λ r. refl) (accepted_of numbers)
