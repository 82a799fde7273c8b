-- The lines of a text in parts, and of one whose last line has its LF or lacks it. Assumes nothing.
use Prim.Native.Nat.{ℕ, suc, ◌+◌}
use mathlib.Core.Path.{◌≡◌, refl, ap}
use mathlib.Core.Bool.{Bool, true, false, cond}
use mathlib.Core.List.{List, [], ◌∷◌, ◌++◌, append_assoc, append-nil}
use native.Mathlib.Omega.{arith}
use lib.Dec.{eqb}
use lib.ListN.{take, drop, take-append-drop}
use borrow.Author.Tests.{ne_eqb}
use Rattle.digits.specs.Bytes.{LF}
use Rattle.desk.specs.Answers.{last_line, lines_after}
use Rattle.desk.specs.Pieces.{whole_lines}

-- ---- how many lines have their LF
-- in a text of two parts
whole_append : (a b : List ℕ) → whole_lines (a ++ b) ≡ whole_lines a + whole_lines b
unfolding whole_lines
whole_append [] b = omega arith
whole_append (x ∷ a) b = by (eqb x LF) (whole_append a b)
  where
    by : (q : Bool) → whole_lines (a ++ b) ≡ whole_lines a + whole_lines b
        → cond q (suc (whole_lines (a ++ b))) (whole_lines (a ++ b)) ≡ cond q (suc (whole_lines a)) (whole_lines a) + whole_lines b
    by true e = omega arith
    by false e = e

-- none in a part of a text that has none
pub none_front : (k : ℕ) (h : List ℕ) → whole_lines h ≡ 0 → whole_lines (take k h) ≡ 0
none_front k h z = omega (arith, whole_append (take k h) (drop k h), ap whole_lines (take-append-drop k h))

-- none in a text of no bytes
pub none_empty : whole_lines [] ≡ 0
unfolding whole_lines
none_empty = refl

-- none after one more byte that is no LF
pub none_more : (line : List ℕ) (b : ℕ) → whole_lines line ≡ 0 → (b ≡ LF → ⊥) → whole_lines (line ++ (b ∷ [])) ≡ 0
unfolding whole_lines
none_more line b z other = rw (whole_append line (b ∷ []), ne_eqb b LF other) (omega arith)

-- ---- the lines
-- bytes with no LF belong to the first line
pub lines_held : (line h t : List ℕ) → whole_lines h ≡ 0 → lines_after line (h ++ t) ≡ lines_after (line ++ h) t
unfolding lines_after whole_lines
lines_held line [] t z = rw (append-nil line)
lines_held line (b ∷ h) t z = by (eqb b LF) z (lines_held (line ++ (b ∷ [])) h t)
  where
    by : (q : Bool) → cond q (suc (whole_lines h)) (whole_lines h) ≡ 0
        → (whole_lines h ≡ 0 → lines_after (line ++ (b ∷ [])) (h ++ t) ≡ lines_after ((line ++ (b ∷ [])) ++ h) t)
        → cond q (line ∷ lines_after [] (h ++ t)) (lines_after (line ++ (b ∷ [])) (h ++ t)) ≡ lines_after (line ++ (b ∷ h)) t
    by true z more = absurd (omega arith)
    by false z more = rw append_assoc at (more z)

-- a line with its LF stands before those after it
pub lines_next : (line t : List ℕ) → whole_lines line ≡ 0 → lines_after [] (line ++ (LF ∷ t)) ≡ line ∷ lines_after [] t
unfolding lines_after
lines_next line t z = lines_held [] line (LF ∷ t) z

-- a last line that isn't empty is one line
one_last : (line : List ℕ) (b : ℕ) → (line ++ (b ∷ [])) ∷ [] ≡ last_line (line ++ (b ∷ []))
one_last [] b = refl
one_last (a ∷ line) b = refl

-- with its LF or without, the lines are the same
pub lines_ended : (line t : List ℕ) (b : ℕ) → (b ≡ LF → ⊥)
    → lines_after line ((t ++ (b ∷ [])) ++ (LF ∷ [])) ≡ lines_after line (t ++ (b ∷ []))
unfolding lines_after
lines_ended line [] b other = rw (ne_eqb b LF other) (one_last line b)
lines_ended line (a ∷ t) b other = rw (lines_ended [] t b other, lines_ended (line ++ (a ∷ [])) t b other)
