-- The promise of each public call allows one result ("What the contracts are held to" in 01): the answer, every table entry and every output place,
-- and of the holders each number given back.
-- Assumes nothing.
use Rattle.std.specs.Prelude.{ℕ, ◌≡◌, List}
use Rattle.words.specs.Results.{OneResult}
use Rattle.rulebook.specs.declared.Event.{Event}
use Rattle.rulebook.specs.declared.Holders.{Holders}
use Rattle.rulebook.specs.Tables.{Plant}
use Rattle.rulebook.specs.Steps.{Outcome, step_of}
use Rattle.rulebook.specs.Around.{empty_of, holders_of}
use Rattle.plant.specs.Calls.{Made, left, made}

-- of `step`
abbrev pub StepOnce : Type 0
StepOnce = (p : Plant) (out : List ℕ) (e : Event) → OneResult (λ (x : Outcome). left x.answer x.plant x.out ≡ step_of p out e)

-- of `empty`
abbrev pub EmptyOnce : Type 0
EmptyOnce = (p : Plant) → OneResult (λ (x : Made). made x.answer x.plant ≡ empty_of p)

-- of `holders`
abbrev pub HoldersOnce : Type 0
HoldersOnce = (p : Plant) (s : ℕ) → OneResult (λ (x : Holders). x ≡ holders_of p s)

-- THE STATEMENT: of all three.
abbrev pub EachOnce : Type 0
EachOnce = StepOnce × EmptyOnce × HoldersOnce
