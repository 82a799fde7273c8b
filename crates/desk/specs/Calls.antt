-- What one call does: the whole lines at the front of a text are answered, as long as there is room for an answer of any length.
-- Assumes nothing.
use Rattle.std.specs.Prelude.{ℕ, ◌+◌, ◌-◌, Bool, cond, ◌&&◌, List, [], ◌∷◌, ◌++◌, leb, ltb, eqb, length, take, drop, Option, Some, None}
use Rattle.std.proofs.lemmas.List.Edits.{sets}
use Rattle.digits.specs.Bytes.{LF}
use Rattle.lines.specs.declared.Line.{Line}
use Rattle.lines.specs.Texts.{line_at}
use Rattle.lines.specs.EventLines.{longest_line}
use Rattle.lines.specs.Printed.{reply, answer_room}
use Rattle.desk.specs.declared.Fed.{Fed}
use Rattle.desk.specs.declared.feeding.Judged.{Judged}
use Rattle.desk.specs.Desk.{Desk, Heard, says, after}

-- line numbers go on up to this one, so that the number after it still fits 64 bits
abbrev pub greatest_line : ℕ
greatest_line = 18_446_744_073_709_551_614

-- there is room for an answer of any length, and the line number isn't past the greatest
abbrev pub goes_on : ℕ → ℕ → Bool
goes_on room n = leb answer_room room && leb n greatest_line

-- What a call did: how many bytes it used of the text, what it said, and the desk afterwards.
pub record Walked : Type 0 where
  pub used : ℕ
  pub said : List ℕ
  pub desk : Desk

-- nothing more is used or said
abbrev pub halt : ℕ → Desk → Walked
halt used d = record { used = used; said = []; desk = d }

-- something is said before the rest
abbrev pub saying : List ℕ → Walked → Walked
saying a w = record { used = w.used; said = a ++ w.said; desk = w.desk }

-- from the desk d on, with so much room: some bytes of the first line stand already, after those that were used
unfoldable pub walk : ℕ → List ℕ → ℕ → Desk → List ℕ → Walked
walk room line used d [] = halt used d
walk room line used d (b ∷ t) =
    cond (eqb b LF)
    (cond (goes_on room d.number)
    (saying (says d line) (walk (room - length (says d line)) [] (used + length line + 1) (after d line) t))
    (halt used d))
    (walk room (line ++ (b ∷ [])) used d t)

-- a call with so much room on a text
abbrev pub walked : ℕ → Desk → List ℕ → Walked
walked room d t = walk room [] 0 d t

-- ---- what `feed` gives and leaves
-- What it used and wrote, the desk afterwards, and the lent bytes.
pub record Call : Type 0 where
  pub used : ℕ
  pub written : ℕ
  pub desk : Desk
  pub bytes : List ℕ

-- what it gave back, with the desk and the bytes that it left
abbrev pub given : Fed → Desk → List ℕ → Call
given f d bytes = record { used = f.used; written = f.written; desk = d; bytes = bytes }

-- the answers stand in the bytes from their start on
abbrev pub writes : Walked → List ℕ → Call
writes w bytes = record { used = w.used; written = length w.said; desk = w.desk; bytes = sets bytes 0 w.said }

-- what it is to give and leave, lent these bytes
unfoldable pub called : Desk → List ℕ → List ℕ → Call
called d t bytes = writes (walked (length bytes) d t) bytes

-- ---- what its parts give and leave
-- what a line came to
abbrev pub judged : Judged → Desk → Heard
judged r d = record { reply = reply r.answer (take r.shown d.out); plant = d.plant; out = d.out }

-- The position after an answer line, the desk afterwards, and the lent bytes.
pub record Put : Type 0 where
  pub at : ℕ
  pub desk : Desk
  pub bytes : List ℕ

-- what the answering of one line gave and left
abbrev pub answered : ℕ → Desk → List ℕ → Put
answered at d bytes = record { at = at; desk = d; bytes = bytes }

-- what it is to give and leave
unfoldable pub put : Desk → List ℕ → List ℕ → ℕ → Put
put d line bytes at =
    record { at = at + length (says d line); desk = after d line; bytes = sets bytes at (says d line) }

-- the line that starts at a position, where it has its LF and the call goes on
abbrev pub only_whole : Option Line → Option Line
only_whole (Some line) = cond (ltb line.end line.next) (Some line) None
only_whole None = None

-- what the search for the next line to answer finds
unfoldable pub whole_line : List ℕ → ℕ → ℕ → ℕ → Option Line
whole_line t at room n = cond (goes_on room n) (only_whole (line_at t at)) None

-- ---- what is kept between two pieces
-- of a line that has not ended, so many bytes: one that is longer than 64 is bad, whatever follows
abbrev pub kept_bytes : ℕ
kept_bytes = longest_line + 1

-- what `keep` keeps of a part of the lent bytes
unfoldable pub kept : List ℕ → ℕ → ℕ → List ℕ
kept bytes from end = take kept_bytes (drop from (take end bytes))
