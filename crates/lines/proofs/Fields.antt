-- Laws of event lines: how many fields a kind has, and a field at a position. Assumes nothing.
use Prim.Native.Nat.{ℕ, zero, suc, ◌+◌, ◌≤◌, ◌<◌, max, zero-le}
use mathlib.Core.Path.{◌≡◌, refl, ap, sym, ◌∙◌}
use mathlib.Core.Bool.{Bool, true, false, cond}
use mathlib.Core.List.{List, [], ◌∷◌, map}
use native.Mathlib.Omega.{arith}
use native.Mathlib.Nat.{le-max_left, le-max_right, le_trans}
use lib.ListN.{length, get_or, take, get_or-eq_default, get_or-map}
use lib.Seq.{take_all, length-take-le}
use lib.Dec.{leb}
use borrow.Author.Tests.{lt-ltb, leb-true, leb-false}
use Rattle.std.specs.Prelude.{Option, None}
use Rattle.rulebook.specs.declared.Event.{Event}
use Rattle.rulebook.specs.Events.{field_table, RESTART}
use Rattle.lines.specs.EventLines.{longest_line, field_count, event_line}

-- the constant table of how many fields each kind has is right, entry by entry
pub count_at : (kind : ℕ) → get_or (map length field_table) kind 0 ≡ field_count kind
unfolding field_count
count_at kind = get_or-map length field_table kind []

-- there is no kind after RESTART
pub count_none : (kind : ℕ) → RESTART < kind → 0 ≡ field_count kind
unfolding field_count
count_none kind h = sym (ap length (get_or-eq_default field_table [] {n = kind} (omega arith)))

-- the greatest of some numbers, and that each is at most that
abbrev most : List ℕ → ℕ
most [] = 0
most (n ∷ ns) = max n (most ns)

most_is : (ns : List ℕ) (i : ℕ) → get_or ns i 0 ≤ most ns
most_is [] i = zero-le
most_is (n ∷ ns) zero = le-max_left n (most ns)
most_is (n ∷ ns) (suc i) = le_trans (most_is ns i) (le-max_right n (most ns))

-- no kind has more than four fields
pub count_most : (kind : ℕ) → field_count kind ≤ 4
count_most kind = rw (← count_at kind) (most_is (map length field_table) kind)

-- a line over 64 bytes says no event
pub line_long : (line : List ℕ) → longest_line < length line → None ≡ event_line line
unfolding event_line
line_long line h = rw (lt-ltb longest_line (length line) h)

-- no event, whether or not it is too long
either_bad : (b : Bool) → None ≡ cond {A = Option Event} b None None
either_bad true = refl
either_bad false = refl

-- so of a line only the first 65 bytes tell what it says
pub event_front : (line : List ℕ) → event_line (take (longest_line + 1) line) ≡ event_line line
event_front line = by (leb (length line) (longest_line + 1)) refl
  where
    by : (x : Bool) → leb (length line) (longest_line + 1) ≡ x → event_line (take (longest_line + 1) line) ≡ event_line line
    by true e = ap event_line (take_all (longest_line + 1) line (leb-true _ _ e))
    by false e =
        let h : longest_line + 1 < length line = leb-false _ _ e in
        let k = length-take-le (longest_line + 1) line (omega arith) in
        sym (line_long (take (longest_line + 1) line) (omega arith)) ∙ line_long line (omega arith)
