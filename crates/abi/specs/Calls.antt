-- What the exported calls give back and leave: the public calls' answers as numbers.
-- Assumes nothing.
use Rattle.std.specs.Prelude.{ℕ, List}
use Rattle.words.specs.Answers.{Answer, code_of, value_of}
use Rattle.rulebook.specs.declared.Holders.{Holders}
use Rattle.rulebook.specs.Tables.{Plant}
use Rattle.rulebook.specs.Steps.{Outcome, Effect}
use Rattle.abi.specs.declared.Said.{Said}
use Rattle.abi.specs.declared.HoldersSaid.{HoldersSaid}

-- an answer by its number and its value
abbrev pub said_of : Answer → Said
said_of a = record { code = code_of a; value = value_of a }

-- who holds a series, the answer by its number
abbrev pub holders_said_of : Holders → HoldersSaid
holders_said_of h = record { code = code_of h.answer; set = h.set; count = h.count; lowest = h.lowest }

-- What a step gives back and leaves: the answer, the tables and the output.
pub record Left : Type 0 where
  pub said : Said
  pub plant : Plant
  pub out : List ℕ

-- the three as one value
abbrev pub left : Said → Plant → List ℕ → Left
left s p out = record { said = s; plant = p; out = out }

-- that of the rulebook's outcome
abbrev pub left_of : Outcome → Left
left_of x = left (said_of x.answer) x.plant x.out

-- What the making of an empty plant gives back and leaves: the answer and the tables.
pub record Made : Type 0 where
  pub said : Said
  pub plant : Plant

-- the two as one value
abbrev pub made : Said → Plant → Made
made s p = record { said = s; plant = p }

-- that of the rulebook's effect
abbrev pub made_of : Effect → Made
made_of x = made (said_of x.answer) x.plant
