-- The line reader: it keeps the text and its place in it.
-- Assumes nothing.
use Rattle.std.specs.Prelude.{ℕ, List, length, Option, Some, None}
use Rattle.std.specs.Borrow.{Bor}
use Rattle.digits.specs.Reading.{read_number}
use Rattle.lines.specs.declared.readers.LineReader.{LineReader}
use Rattle.lines.specs.declared.readers.NumberRead.{NumberRead}

-- the reader of a text at a place
abbrev pub reader_at : Bor (List ℕ) → ℕ → LineReader
reader_at text at = record { text = text; at = at }

-- the number that starts at a position of a text
abbrev pub number_at : List ℕ → ℕ → Option (ℕ × ℕ)
number_at t at = read_number t at (length t)

-- the position after a number that was looked for at a position; that position itself where there is none
abbrev pub past : Option (ℕ × ℕ) → ℕ → ℕ
past (Some (v, next)) at = next
past None at = at

-- the number at a reader's place, and the reader moved past it
abbrev pub number_read : LineReader → NumberRead
number_read r =
    let number = number_at r.text.now r.at in
    record { number = number; reader = reader_at r.text (past number r.at) }
