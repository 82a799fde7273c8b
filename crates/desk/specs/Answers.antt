-- The answers to a text of event lines: those of the rulebook's run, line by line ("Around the step" in 01).
-- Assumes nothing.
use Rattle.std.specs.Prelude.{ℕ, ◌+◌, cond, List, [], ◌∷◌, ◌++◌, eqb, replicate, Option, Some, None, Err}
use Rattle.words.specs.declared.Refusal.TheVariants.{BadEvent}
use Rattle.words.specs.Numbers.{out_count}
use Rattle.digits.specs.Bytes.{LF}
use Rattle.rulebook.specs.declared.Event.{Event}
use Rattle.rulebook.specs.Tables.{Plant}
use Rattle.rulebook.specs.Around.{empty_plant}
use Rattle.rulebook.specs.Run.{Reply, run_from}
use Rattle.lines.specs.EventLines.{event_line}
use Rattle.lines.specs.Printed.{reply, answer_text}

-- what stands after the last LF is a line too, unless it is empty
abbrev pub last_line : List ℕ → List (List ℕ)
last_line [] = []
last_line (b ∷ line) = (b ∷ line) ∷ []

-- the lines of a text without their LF, where some bytes of the first stand already
unfoldable pub lines_after : List ℕ → List ℕ → List (List ℕ)
lines_after line [] = last_line line
lines_after line (b ∷ t) = cond (eqb b LF) (line ∷ lines_after [] t) (lines_after (line ++ (b ∷ [])) t)

-- the lines of a text
abbrev pub lines_of : List ℕ → List (List ℕ)
lines_of t = lines_after [] t

-- what a line says, before the events of those after it
abbrev pub saying_first : Option Event → List Event → List Event
saying_first (Some e) es = e ∷ es
saying_first None es = es

-- the events that lines say, in order; a bad line says none
unfoldable pub events_of : List (List ℕ) → List Event
events_of [] = []
events_of (l ∷ ls) = saying_first (event_line l) (events_of ls)

-- a bad line gives code 3
abbrev pub bad_reply : Reply
bad_reply = reply (Err BadEvent) []

-- the reply to a line, before those to the lines after it: an event takes the next one of the run's, a bad line takes none of them
abbrev pub reply_first : Option Event → List Reply → (List Reply → List Reply) → List Reply
reply_first (Some e) [] others = []
reply_first (Some e) (r ∷ rs) others = r ∷ others rs
reply_first None rs others = bad_reply ∷ others rs

-- the replies to lines, given those of the run to the events that they say
unfoldable pub replies_to : List (List ℕ) → List Reply → List Reply
replies_to [] rs = []
replies_to (l ∷ ls) rs = reply_first (event_line l) rs (replies_to ls)

-- replies as answer lines, numbered from n on
unfoldable pub answer_lines : ℕ → List Reply → List ℕ
answer_lines n [] = []
answer_lines n (r ∷ rs) = answer_text n r ++ answer_lines (n + 1) rs

-- the answers to a text, numbered from n on, by a plant with given tables and output
unfoldable pub answers_from : ℕ → Plant → List ℕ → List ℕ → List ℕ
answers_from n p out t = answer_lines n (replies_to (lines_of t) (run_from p out (events_of (lines_of t))).replies)

-- THE ANSWERS to a text: from the empty plant, numbered from 1 on
abbrev pub answers_to : List ℕ → List ℕ
answers_to t = answers_from 1 empty_plant (replicate out_count 0) t
