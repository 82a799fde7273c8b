-- The lines of a text by their places.
-- Assumes nothing.
use Rattle.std.specs.Prelude.{ℕ, suc, ◌+◌, cond, List, [], ◌∷◌, ltb, eqb, length, drop, Option, Some, None}
use Rattle.digits.specs.Bytes.{LF}
use Rattle.lines.specs.declared.Line.{Line}

-- how many bytes stand before the first LF, or in all where there is none
abbrev pub until_end : List ℕ → ℕ
until_end [] = 0
until_end (b ∷ t) = cond (eqb b LF) 0 (suc (until_end t))

-- where the line ends that goes on at a position
unfoldable pub line_end : List ℕ → ℕ → ℕ
line_end t at = at + until_end (drop at t)

-- where the line after one starts that ends at a position: past its LF, or there where a last line lacks it
abbrev pub next_start : List ℕ → ℕ → ℕ
next_start t end = cond (ltb end (length t)) (end + 1) end

-- the line that starts at a position
unfoldable pub line_at : List ℕ → ℕ → Option Line
line_at t at =
    cond (ltb at (length t))
    (Some (record { start = at; end = line_end t at; next = next_start t (line_end t at) }))
    None
