-- A desk that answers lines one after the other gives the run's answers to them. Assumes nothing.
use Prim.Native.Nat.{ℕ, ◌+◌}
use mathlib.Core.Path.{◌≡◌, refl, ap}
use mathlib.Core.List.{List, [], ◌∷◌, ◌++◌}
use Rattle.rulebook.specs.Tables.{Plant}
use Rattle.rulebook.specs.Steps.{step_of}
use Rattle.rulebook.specs.Run.{reply_to, run_by, run_from}
use Rattle.rulebook.specs.declared.Event.{Event}
use Rattle.std.specs.Prelude.{Option, Some, None}
use Rattle.lines.specs.EventLines.{event_line}
use Rattle.lines.specs.Printed.{answer_text}
use Rattle.desk.specs.Answers.{bad_reply, lines_of, events_of, saying_first, replies_to, reply_first, answer_lines, answers_from}
use Rattle.desk.specs.Desk.{Desk, desk, heard_by, heard, says, after}

-- the answers of a desk to lines, one after the other
unfoldable pub lines_said : Desk → List (List ℕ) → List ℕ
lines_said d [] = []
lines_said d (l ∷ ls) = says d l ++ lines_said (after d l) ls

-- they are the run's replies to the events that the lines say, as answer lines
run_said : (ls : List (List ℕ)) (n : ℕ) (p : Plant) (out : List ℕ)
    → answer_lines n (replies_to ls (run_from p out (events_of ls)).replies) ≡ lines_said (desk n p out) ls
unfolding lines_said events_of replies_to answer_lines run_from run_by step_of says after heard
run_said [] n p out = refl
run_said (l ∷ ls) n p out = by (event_line l) (run_said ls (n + 1))
  where
    by : (q : Option Event)
        → ((p : Plant) (out : List ℕ)
        → answer_lines (n + 1) (replies_to ls (run_from p out (events_of ls)).replies) ≡ lines_said (desk (n + 1) p out) ls)
        → answer_lines n (reply_first q (run_from p out (saying_first q (events_of ls))).replies (replies_to ls))
        ≡ answer_text n (heard_by p out q).reply
        ++ lines_said (desk (n + 1) (heard_by p out q).plant (heard_by p out q).out) ls
    by (Some e) more =
        ap (λ (x : List ℕ). answer_text n (reply_to e (step_of p out e)) ++ x) (more (step_of p out e).plant (step_of p out e).out)
    by None more = ap (λ (x : List ℕ). answer_text n bad_reply ++ x) (more p out)

-- the answers to a text are those to its lines
pub answers_said : (d : Desk) (t : List ℕ) → answers_from d.number d.plant d.out t ≡ lines_said d (lines_of t)
unfolding answers_from
answers_said d t = run_said (lines_of t) d.number d.plant d.out
