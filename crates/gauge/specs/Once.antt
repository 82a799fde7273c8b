-- The promise of this crate's public call allows one result ("What the contracts are held to" in 01).
-- Assumes nothing.
use Rattle.std.specs.Prelude.{ℕ, ◌≡◌, List}
use Rattle.words.specs.Results.{OneResult}
use Rattle.gauge.specs.Accepted.{accepted_of}

-- THE STATEMENT: of `gauge_accepted`.
abbrev pub AcceptedOnce : Type 0
AcceptedOnce = (numbers : List ℕ) → OneResult (λ (r : ℕ). r ≡ accepted_of numbers)
