-- A run: the steps of a list of events, one after the other, from given tables or from the empty plant.
-- Assumes nothing.
use Rattle.std.specs.Prelude.{ℕ, ◌*◌, cond, List, [], ◌∷◌, eqb, take, replicate}
use Rattle.words.specs.Answers.{Answer, value_of}
use Rattle.words.specs.Numbers.{out_count}
use Rattle.rulebook.specs.declared.Event.{Event}
use Rattle.rulebook.specs.Tables.{Plant}
use Rattle.rulebook.specs.Events.{COMMIT}
use Rattle.rulebook.specs.Steps.{Effect, Outcome, outcome, effect}
use Rattle.rulebook.specs.Around.{empty_plant}

-- What an answer line shows: the answer, and after a COMMIT three numbers of the output for each of its draws.
pub record Reply : Type 0 where
  pub answer : Answer
  pub numbers : List ℕ

-- the reply to an event
abbrev pub reply_to : Event → Outcome → Reply
reply_to e o =
    record { answer = o.answer; numbers = cond (eqb e.kind COMMIT) (take (3 * value_of o.answer) o.out) [] }

-- the replies in order; the tables and the output at the end
pub record Run : Type 0 where
  pub replies : List Reply
  pub plant : Plant
  pub out : List ℕ

-- a reply before those of a run
abbrev pub before : Reply → Run → Run
before a r = record { replies = a ∷ r.replies; plant = r.plant; out = r.out }

-- the effect of an event, and the run that goes on from it
abbrev pub and_then : Event → List ℕ → Effect → (Plant → List ℕ → Run) → Run
and_then e out x go = before (reply_to e (outcome out x)) (go x.plant (outcome out x).out)

-- A machine: what it does with an event, given the tables and the output. The rulebook's is `effect`.
abbrev pub Machine : Type 0
Machine = Plant → List ℕ → Event → Effect

-- the run of a machine from given tables and output
unfoldable pub run_by : Machine → Plant → List ℕ → List Event → Run
run_by m p out [] = record { replies = []; plant = p; out = out }
run_by m p out (e ∷ es) = and_then e out (m p out e) (λ q next. run_by m q next es)

-- and from the empty plant
unfoldable pub from_empty : Machine → List Event → Run
from_empty m es = run_by m empty_plant (replicate out_count 0) es

-- the rulebook's run from given tables and output
unfoldable pub run_from : Plant → List ℕ → List Event → Run
run_from p out es = run_by effect p out es

-- and from the empty plant
unfoldable pub run_of : List Event → Run
run_of es = from_empty effect es
