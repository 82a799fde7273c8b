-- A text comes in pieces of any size: whatever a program does with them, the answers are those to the whole text.
-- Assumes nothing.
use Rattle.std.specs.Prelude.{ℕ, suc, ◌<◌, ◌≡◌, true, cond, List, [], ◌∷◌, ◌++◌, eqb, take, drop, replicate}
use Rattle.words.specs.Numbers.{out_count}
use Rattle.digits.specs.Bytes.{LF}
use Rattle.rulebook.specs.Around.{empty_plant}
use Rattle.desk.specs.Answers.{answers_from, answers_to}
use Rattle.desk.specs.Desk.{Desk, desk}
use Rattle.desk.specs.Calls.{goes_on, Walked, walked, kept_bytes}

-- What a program does at the desk.
pub data Act : Type 0 where
  -- a piece of the text comes in, of any size
  arrives : List ℕ → Act
  -- one call of `feed`, with so much room for answers, on the bytes that are held
  answers : ℕ → Act
  -- one call of `keep`: of a line that has not ended, only so many bytes are held on to
  shortens : Act

-- Where the program stands: what it has said, the bytes that it holds, and the desk.
pub record Stand : Type 0 where
  pub said : List ℕ
  pub held : List ℕ
  pub desk : Desk

-- nothing is said, nothing is held, the plant is empty and the next line is line 1
abbrev pub start : Stand
start = record { said = []; held = []; desk = desk 1 empty_plant (replicate out_count 0) }

-- how many lines have their LF in a text
unfoldable pub whole_lines : List ℕ → ℕ
whole_lines [] = 0
whole_lines (b ∷ t) = cond (eqb b LF) (suc (whole_lines t)) (whole_lines t)

-- what a call used is let go
abbrev pub fed : Stand → Walked → Stand
fed s w = record { said = s.said ++ w.said; held = drop w.used s.held; desk = w.desk }

-- after an act
abbrev pub act : Act → Stand → Stand
act (arrives piece) s = record { said = s.said; held = s.held ++ piece; desk = s.desk }
act (answers room) s = fed s (walked room s.desk s.held)
act shortens s =
    record { said = s.said; held = cond (eqb (whole_lines s.held) 0) (take kept_bytes s.held) s.held; desk = s.desk }

-- after a list of acts
unfoldable pub acted : List Act → Stand → Stand
acted [] s = s
acted (a ∷ rest) s = acted rest (act a s)

-- what came in by an act, before what came in by others
abbrev pub arriving : Act → List ℕ → List ℕ
arriving (arrives piece) t = piece ++ t
arriving (answers room) t = t
arriving shortens t = t

-- the text that came in by a list of acts
unfoldable pub arrived : List Act → List ℕ
arrived [] = []
arrived (a ∷ rest) = arriving a (arrived rest)

-- the answers to the bytes that are still held
abbrev pub answers_held : Stand → List ℕ
answers_held s = answers_from s.desk.number s.desk.plant s.desk.out s.held

-- THE STATEMENT: however the text was cut into pieces, what was said so far and then the answers to what is held are the answers to the
-- whole text. So where nothing is held, all of it is answered as it would be at once.
abbrev pub AnyCutting : Type 0
AnyCutting = (acts : List Act) → (acted acts start).said ++ answers_held (acted acts start) ≡ answers_to (arrived acts)

-- A last line that lacks its LF is answered as if it had it.
abbrev pub EndAdded : Type 0
EndAdded = (t : List ℕ) (b : ℕ) → (b ≡ LF → ⊥) → answers_to ((t ++ (b ∷ [])) ++ (LF ∷ [])) ≡ answers_to (t ++ (b ∷ []))

-- A call on a text with a whole line answers at least one, where it goes on.
abbrev pub NeverIdle : Type 0
NeverIdle =
    (room : ℕ) (d : Desk) (t : List ℕ) → goes_on room d.number ≡ true → 0 < whole_lines t → 0 < (walked room d t).used
