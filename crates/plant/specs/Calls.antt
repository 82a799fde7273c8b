-- What the calls over lent tables leave, as the rulebook's outcome and effect.
-- Assumes nothing.
use Rattle.std.specs.Prelude.{ℕ, List, []}
use Rattle.words.specs.Answers.{Answer}
use Rattle.rulebook.specs.Tables.{Plant}
use Rattle.rulebook.specs.Steps.{Outcome, Effect}

-- a step's: the answer that it gives back, the tables and the output
abbrev pub left : Answer → Plant → List ℕ → Outcome
left a p out = record { answer = a; plant = p; out = out }

-- What the making of an empty plant gives back and leaves: the answer and the tables.
pub record Made : Type 0 where
  pub answer : Answer
  pub plant : Plant

-- as an effect: it commits no draws
abbrev pub made : Answer → Plant → Effect
made a p = record { answer = a; plant = p; draws = [] }
