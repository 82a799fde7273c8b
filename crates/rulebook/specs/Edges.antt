-- The worked run and the starred "Edges to try" of 01: each a list of events and the answers that it must get.
-- Assumes nothing.
use Rattle.std.specs.Prelude.{ℕ, ◌≡◌, List, [], ◌∷◌, map}
use Rattle.words.specs.Answers.{code_of, value_of}
use Rattle.rulebook.specs.declared.Event.{Event}
use Rattle.rulebook.specs.Events.{OPEN, BEGIN, LOCKX, DRAW, READ, COMMIT, SEND, DEMOTE, SHARE, DROP, PROMOTE, GRANT, ACK, CRASH, RESTART}
use Rattle.rulebook.specs.Run.{Run, run_of}

-- an event: its kind and four fields
abbrev pub event : ℕ → ℕ → ℕ → ℕ → ℕ → Event
event kind a b c d = record { kind = kind; a = a; b = b; c = c; d = d }

-- events, and what the answer lines to them show: code, value, draws
pub record Edge : Type 0 where
  pub events : List Event
  pub answers : List (List ℕ)

-- a list of events with its answers
abbrev pub edge : List Event → List (List ℕ) → Edge
edge es answers = record { events = es; answers = answers }

-- code and value, with no draw
abbrev pub gives : ℕ → ℕ → List ℕ
gives code value = code ∷ value ∷ []

-- the answer lines of a run, without their line numbers
abbrev pub lines_of : Run → List (List ℕ)
lines_of r = map (λ a. code_of a.answer ∷ value_of a.answer ∷ a.numbers) r.replies

-- the worked run at the end of "Around the step"
unfoldable pub worked_run : Edge
worked_run =
    edge
    (event OPEN 5 1001 1100 0
    ∷ event BEGIN 0 0 0 0
    ∷ event LOCKX 0 5 0 0
    ∷ event DRAW 0 5 40 0
    ∷ event COMMIT 0 0 0 0
    ∷ event SEND 5 0 3 0
    ∷ event CRASH 3 0 0 0
    ∷ event GRANT 5 0 3 1
    ∷ event RESTART 3 0 0 0
    ∷ event GRANT 5 0 3 1
    ∷ event GRANT 5 0 3 1
    ∷ event ACK 5 0 3 1
    ∷ event BEGIN 0 3 0 0
    ∷ event LOCKX 0 5 0 0
    ∷ event READ 0 5 0 0
    ∷ event DRAW 0 5 61 0
    ∷ event DRAW 0 5 60 0
    ∷ event COMMIT 0 0 0 0
    ∷ [])
    (gives 0 0
    ∷ gives 0 0
    ∷ gives 0 0
    ∷ gives 0 0
    ∷ (0 ∷ 1 ∷ 5 ∷ 1001 ∷ 40 ∷ [])
    ∷ gives 0 1
    ∷ gives 0 0
    ∷ gives 6 0
    ∷ gives 0 0
    ∷ gives 0 1
    ∷ gives 0 0
    ∷ gives 0 1
    ∷ gives 0 0
    ∷ gives 0 0
    ∷ gives 0 1041
    ∷ gives 14 0
    ∷ gives 0 0
    ∷ (0 ∷ 1 ∷ 5 ∷ 1041 ∷ 60 ∷ [])
    ∷ [])

-- the worked run, and the starred edges in 01's order
unfoldable pub edges : List Edge
edges =
    worked_run
    -- OPEN 1..1
    ∷ edge (event OPEN 0 1 1 0 ∷ []) (gives 0 0 ∷ [])
    -- first 0
    ∷ edge (event OPEN 0 0 1 0 ∷ []) (gives 3 0 ∷ [])
    -- last 1,000,000,000
    ∷ edge (event OPEN 0 1 1_000_000_000 0 ∷ []) (gives 3 0 ∷ [])
    -- first above last
    ∷ edge (event OPEN 0 2 1 0 ∷ []) (gives 3 0 ∷ [])
    -- in 1..1, DRAW 1
    ∷ edge (event OPEN 0 1 1 0 ∷ event BEGIN 0 0 0 0 ∷ event LOCKX 0 0 0 0 ∷ event DRAW 0 0 1 0 ∷ event COMMIT 0 0 0 0 ∷ [])
    (gives 0 0 ∷ gives 0 0 ∷ gives 0 0 ∷ gives 0 0 ∷ (0 ∷ 1 ∷ 0 ∷ 1 ∷ 1 ∷ []) ∷ [])
    -- in 1..1, DRAW 2
    ∷ edge (event OPEN 0 1 1 0 ∷ event BEGIN 0 0 0 0 ∷ event LOCKX 0 0 0 0 ∷ event DRAW 0 0 2 0 ∷ [])
    (gives 0 0 ∷ gives 0 0 ∷ gives 0 0 ∷ gives 14 0 ∷ [])
    -- COMMIT with no draw
    ∷ edge (event BEGIN 0 0 0 0 ∷ event COMMIT 0 0 0 0 ∷ []) (gives 0 0 ∷ gives 0 0 ∷ [])
    -- ACK before its GRANT
    ∷ edge (event OPEN 0 1 9 0 ∷ event SEND 0 0 1 0 ∷ event ACK 0 0 1 1 ∷ []) (gives 0 0 ∷ gives 0 1 ∷ gives 18 0 ∷ [])
    -- second GRANT
    ∷ edge (event OPEN 0 1 9 0 ∷ event SEND 0 0 1 0 ∷ event GRANT 0 0 1 1 ∷ event GRANT 0 0 1 1 ∷ [])
    (gives 0 0 ∷ gives 0 1 ∷ gives 0 1 ∷ gives 0 0 ∷ [])
    -- PROMOTE with a share under way
    ∷ edge (event OPEN 0 1 9 0 ∷ event DEMOTE 0 0 0 0 ∷ event SHARE 0 0 1 0 ∷ event PROMOTE 0 0 0 0 ∷ [])
    (gives 0 0 ∷ gives 0 0 ∷ gives 0 1 ∷ gives 17 0 ∷ [])
    -- DROP of the only share
    ∷ edge (event OPEN 0 1 9 0 ∷ event DEMOTE 0 0 0 0 ∷ event DROP 0 0 0 0 ∷ []) (gives 0 0 ∷ gives 0 0 ∷ gives 17 0 ∷ [])
    -- SEND from 0 to 0
    ∷ edge (event OPEN 0 1 9 0 ∷ event SEND 0 0 0 0 ∷ []) (gives 0 0 ∷ gives 3 0 ∷ [])
    ∷ []

-- THE STATEMENT: the machine gives every list the answers that 01 names.
unfoldable pub EdgesRight : Type 0
EdgesRight = map (λ x. lines_of (run_of x.events)) edges ≡ map (λ x. x.answers) edges
