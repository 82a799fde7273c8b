-- The ways out of `judge`, `say` and `answer`: what a line came to and what was written are what the definitions say.
-- Assumes nothing.
use Rattle.std.specs.Prelude.{Err, is_some}
use Prim.Native.Nat.{ℕ, min, ◌+◌, ◌*◌, ◌≤◌}
use mathlib.Core.Path.{◌≡◌, refl, ap, sym, ◌∙◌}
use mathlib.Core.Bool.{Bool, true, false, cond}
use mathlib.Core.List.{List, []}
use native.Mathlib.Omega.{arith}
use lib.Dec.{eqb}
use lib.ListN.{length, take}
use lib.Seq.{sets}
use Rattle.words.specs.declared.Refusal.TheVariants.{BadEvent}
use Rattle.words.specs.Answers.{Answer, value_of}
use Rattle.copies.specs.Tables.{Copies}
use Rattle.jobs.specs.declared.Job.{Job}
use Rattle.jobs.specs.Calls.{stepped}
use Rattle.digits.specs.Printing.{wrote_at, written_at}
use Rattle.digits.proofs.Laws.{room_found}
use Rattle.rulebook.specs.declared.Event.{Event}
use Rattle.rulebook.specs.Tables.{Plant, plant}
use Rattle.rulebook.specs.Events.{COMMIT}
use Rattle.rulebook.specs.Steps.{Outcome, step_of}
use Rattle.events.specs.Calls.{left}
use Rattle.std.specs.Prelude.{Option, Some, None}
use Rattle.std.proofs.lemmas.List.{take_min}
use Rattle.std.proofs.lemmas.Option.{same_Some}
use Rattle.lines.specs.EventLines.{event_line}
use Rattle.lines.specs.Printed.{reply, answer_text, answer_room}
use Rattle.desk.specs.declared.feeding.Judged.{Judged}
use Rattle.desk.specs.Desk.{Desk, desk, Heard, heard_step, heard, says, after}
use Rattle.desk.specs.Calls.{judged, answered, put}

-- so many numbers, or none
take_if : (q : Bool) (n : ℕ) (ns : List ℕ) → take (cond q n 0) ns ≡ cond q (take n ns) []
take_if true n ns = refl
take_if false n ns = refl

-- what a line came to, by its answer, how many numbers it shows, and the tables and the output afterwards
abbrev came_to : Answer → ℕ → Plant → List ℕ → Heard
came_to answer n p out = record { reply = reply answer (take n out); plant = p; out = out }

-- what a step left, with the numbers that its answer shows
heard_step_lem : (e : Event) (o : Outcome) (n : ℕ) → n ≡ cond (eqb e.kind COMMIT) (3 * value_of o.answer) 0
    → came_to o.answer n o.plant o.out ≡ heard_step e o
heard_step_lem e o n h = rw (h, take_if (eqb e.kind COMMIT) (3 * value_of o.answer) o.out)

-- an event stepped
pub judged_good : (line : List ℕ) (r : Option Event) (e : Event) (p : Plant) (out : List ℕ) (a : Answer) (bs : List Job) (t : Copies) (row : List ℕ) (n : ℕ)
    → r ≡ event_line line → r ≡ Some e → left (stepped a bs) t row ≡ step_of p out e
    → n ≡ cond (eqb e.kind COMMIT) (3 * value_of a) 0
    → came_to a n (plant t bs) row ≡ heard p out line
unfolding heard
judged_good line r e p out a bs t row n f g h k =
    rw (sym f ∙ g) (heard_step_lem e (left (stepped a bs) t row) n k ∙ ap (heard_step e) h)

-- the line said none
pub judged_bad : (line : List ℕ) (r : Option Event) (p : Plant) (out : List ℕ) → r ≡ event_line line → r ≡ None
    → came_to (Err BadEvent) 0 p out ≡ heard p out line
unfolding heard
judged_bad line r p out f g = rw (sym f ∙ g)

-- ---- the answering of a line
-- where there is room for any answer, the answer line is written, with no more numbers of the output than there are
module _ (bytes : List ℕ) (at n : ℕ) (a : Answer) (k : ℕ) (row : List ℕ) {w : Option ℕ} {shown : ℕ} (room : at + answer_room ≤ length bytes)
    (m : shown ≡ min k (length row)) (f : w ≡ wrote_at answer_room (length bytes) at (answer_text n (reply a (take shown row)))) where
  abbrev text : List ℕ
  text = answer_text n (reply a (take k row))

  same : answer_text n (reply a (take shown row)) ≡ text
  same = rw (m, take_min k row)

  wrote : w ≡ Some (at + length text)
  wrote = (rw same at f) ∙ sym (room_found answer_room bytes at text (omega arith) (omega arith)).0

  -- there was room
  pub said_some : is_some w ≡ true
  said_some = ap is_some wrote

  -- this is the position after it
  pub said_position : {next : ℕ} → w ≡ Some next → next ≡ at + length text
  said_position {next} g = same_Some _ _ (sym g ∙ wrote)

  -- and it stands there
  pub said_bytes : {last : List ℕ} → last ≡ written_at answer_room bytes at (answer_text n (reply a (take shown row))) → last ≡ sets bytes at text
  said_bytes g = (rw same at g) ∙ sym (room_found answer_room bytes at text (omega arith) (omega arith)).1

-- what is known of an answer that was written
pub ruleset say_ways = (said_some, said_position, said_bytes)

-- a line's answer was said, and the next line has the next number
pub put_is : (d : Desk) (line bytes : List ℕ) (at n : ℕ) (p : Plant) (out last : List ℕ) (next : ℕ) (r : Judged)
    → n ≡ d.number → judged r (desk n p out) ≡ heard d.plant d.out line
    → next ≡ at + length (answer_text n (reply r.answer (take r.shown out)))
    → last ≡ sets bytes at (answer_text n (reply r.answer (take r.shown out)))
    → answered next (desk (n + 1) p out) last ≡ put d line bytes at
unfolding put says after
put_is d line bytes at n p out last next r m e f g = rw (f, g, sym e, m)
