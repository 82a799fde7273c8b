-- What a step leaves, as the rulebook's outcome.
-- Assumes nothing.
use Rattle.std.specs.Prelude.{ℕ, List}
use Rattle.copies.specs.Tables.{Copies}
use Rattle.jobs.specs.Calls.{Stepped}
use Rattle.rulebook.specs.Tables.{plant}
use Rattle.rulebook.specs.Steps.{Outcome}

-- the answer that it gives back, and the slots, the columns and the output that it leaves
abbrev pub left : Stepped → Copies → List ℕ → Outcome
left r t out = record { answer = r.answer; plant = plant t r.jobs; out = out }
