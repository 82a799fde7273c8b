-- The promise of each exported call allows one result ("What the contracts are held to" in 01): the answer's two numbers, every table entry and every
-- output place, and of the holders each number given back.
-- Assumes nothing.
use Rattle.std.specs.Prelude.{ℕ, ◌≡◌, List}
use Rattle.words.specs.Results.{OneResult}
use Rattle.rulebook.specs.declared.Event.{Event}
use Rattle.rulebook.specs.Tables.{Plant}
use Rattle.rulebook.specs.Steps.{step_of}
use Rattle.rulebook.specs.Around.{empty_of, holders_of}
use Rattle.abi.specs.declared.HoldersSaid.{HoldersSaid}
use Rattle.abi.specs.Calls.{Left, Made, left, left_of, made, made_of, holders_said_of}

-- of `druvisha_step`
abbrev pub StepOnce : Type 0
StepOnce = (p : Plant) (out : List ℕ) (e : Event) → OneResult (λ (x : Left). left x.said x.plant x.out ≡ left_of (step_of p out e))

-- of `druvisha_empty`
abbrev pub EmptyOnce : Type 0
EmptyOnce = (p : Plant) → OneResult (λ (x : Made). made x.said x.plant ≡ made_of (empty_of p))

-- of `druvisha_holders`
abbrev pub HoldersOnce : Type 0
HoldersOnce = (p : Plant) (s : ℕ) → OneResult (λ (x : HoldersSaid). x ≡ holders_said_of (holders_of p s))

-- THE STATEMENT: of all three.
abbrev pub EachOnce : Type 0
EachOnce = StepOnce × EmptyOnce × HoldersOnce
