-- The statements about a text that comes in pieces. Assumes nothing.
use Prim.Native.Nat.{ℕ, ◌+◌, ◌-◌, ◌<◌}
use mathlib.Core.Path.{◌≡◌, sym, ◌∙◌}
use mathlib.Core.Bool.{true, false≢true}
use mathlib.Core.List.{List, [], ◌∷◌, ◌++◌}
use native.Mathlib.Omega.{arith}
use lib.ListN.{length}
use borrow.Author.Tests.{ne_eqb}
use Rattle.digits.specs.Bytes.{LF}
use Rattle.desk.specs.Answers.{answers_from}
use Rattle.desk.specs.Desk.{Desk, says, after}
use Rattle.desk.specs.Calls.{goes_on, walk}
use Rattle.desk.specs.Pieces.{start, whole_lines, acted, arrived, AnyCutting, EndAdded, NeverIdle}
use Rattle.desk.proofs.Walks.{walk_cases, walk_bounds}
use Rattle.desk.proofs.Answering.{answers_said}
use Rattle.desk.proofs.TextLines.{lines_ended}
use Rattle.desk.proofs.Cutting.{acts_said}

-- however the text was cut, the answers are those to the whole text: no act changes what there is to say
pub any_cutting : AnyCutting
any_cutting acts =
    rw (answers_said (acted acts start).desk (acted acts start).held, answers_said start.desk (arrived acts)) (acts_said acts start)

-- a last line without its LF is answered as if it had it: the lines are the same
pub end_added : EndAdded
unfolding answers_from
end_added t b other = rw (lines_ended [] t b other)

-- a walk that goes on uses a whole line
busy : (room : ℕ) (line : List ℕ) (used : ℕ) (d : Desk) (t : List ℕ) → goes_on room d.number ≡ true → 0 < whole_lines t
    → used < (walk room line used d t).used
unfolding whole_lines
busy room line used d [] on some = absurd (omega arith)
busy room line used d (b ∷ t) on some =
    walk_cases (λ w. used < w.used) room line used d b t (λ q g. absurd (false≢true (sym g ∙ on)))
    (λ q g. omega (arith, (walk_bounds (room - length (says d line)) [] (used + length line + 1) (after d line) t).0))
    (λ q. busy room (line ++ (b ∷ [])) used d t on (rw (ne_eqb b LF q) at some))

-- so a call on a text with a whole line answers at least one, where it goes on
pub never_idle : NeverIdle
never_idle room d t on some = busy room [] 0 d t on some
