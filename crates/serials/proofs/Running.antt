-- What holds at every point of a run from the empty plant.
-- Assumes nothing.
use Rattle.std.specs.Prelude.{Err}
use Prim.Native.Nat.{ℕ, zero, suc, ◌≤◌, ◌<◌}
use native.Mathlib.Omega.{arith}
use mathlib.Core.Path.{◌≡◌, refl, sym, ap, subst, ◌∙◌}
use mathlib.Core.Logic.{◌≢◌}
use mathlib.Core.Bool.{true, false}
use mathlib.Core.List.{List, [], ◌∷◌, ◌++◌, append-nil, append_assoc}
use lib.ListN.{length, replicate, get_or-replicate}
use borrow.Author.Tests.{le-ltb}
use Rattle.words.specs.Answers.{Answer, code_of}
use Rattle.words.specs.declared.Refusal.TheVariants.{Short, NotWhole}
use Rattle.words.specs.Numbers.{series_count, out_count}
use Rattle.words.specs.Tests.{non, ◌or◌}
use Rattle.copies.specs.Tables.{series_at}
use Rattle.rulebook.specs.declared.Event.{Event}
use Rattle.rulebook.specs.Tables.{Plant, short_tables}
use Rattle.rulebook.specs.Whole.{whole}
use Rattle.rulebook.specs.Refusals.{SHORT, NOT_WHOLE, event_refusals}
use Rattle.rulebook.specs.Steps.{Effect, outcome, judged, effect, step_of}
use Rattle.rulebook.specs.Around.{empty_plant}
use Rattle.rulebook.specs.Run.{reply_to, Run, run_by, from_empty}
use Rattle.rulebook.specs.Keeps.{FourPlaces}
use Rattle.rulebook.proofs.Judging.{judged_answers}
use Rattle.rulebook.proofs.Keeps.{Accepts, accepted_code}
use Rattle.rulebook.proofs.Walked.{whole_walked_lem}
use Rattle.rulebook.proofs.Computes.{computes}
use Rattle.rulebook.proofs.Untouched.{short_same}
use Rattle.rulebook.proofs.Sparing.{step_extra_kept}
use Rattle.rulebook.proofs.FourStay.{stays_four}
use Rattle.serials.specs.Draws.{Drawn, draws_in, draws_shown}
use Rattle.serials.specs.StaysWhole.{Never}
use Rattle.serials.proofs.Moving.{Issued, issued_none, issued_next}
use Rattle.serials.proofs.Proper.{Known, none_known}
use Rattle.serials.proofs.Stepping.{step_proper, keeps_whole}
use Rattle.serials.proofs.Showing.{tells}

-- At a point of a run, with the draws that its answer lines have shown: tables and output have their sizes, each job its four lock places, and
-- the tables are whole; the draws lead each open series from its first number to its next, and are of series that there are.
pub record Sure (p : Plant) (out : List ℕ) (ds : List Drawn) : Type 0 where
  pub long : short_tables p ≡ false
  pub room : out_count ≤ length out
  pub four : FourPlaces p.jobs
  pub is_whole : whole p ≡ true
  pub issued : (s : ℕ) → s < series_count → Issued s (series_at p.copies s) ds
  pub known : Known ds

-- ---- one step
-- the draws of one list, and then of another, are of series that there are
known_then : (ds es : List Drawn) → Known ds → Known es → Known (ds ++ es)
known_then [] es p q i l = q i l
known_then (d ∷ ds) es p q zero l = p 0 (omega arith)
known_then (d ∷ ds) es p q (suc i) l = known_then ds es (λ k h. p (suc k) (omega arith)) q i (omega arith)

-- the answer is neither refusal 1 nor refusal 2
abbrev Neither : Answer → Type 0
Neither a = (code_of a ≡ 1 → ⊥) × (code_of a ≡ 2 → ⊥)

module _ {p : Plant} {out : List ℕ} {ds : List Drawn} (sure : Sure p out ds) (e : Event) where
  -- the step
  abbrev step : Effect
  step = effect p out e

  -- after it
  pub sure_step : Sure step.plant (outcome out step).out (ds ++ draws_in (reply_to e (outcome out step)).numbers)
  unfolding step_of
  sure_step =
      let kept = step_extra_kept p out e sure.four in
      let x = step_proper p out sure.four e sure.is_whole in
      rw (tells out p e sure.four)
      (record {
        long = short_same p step.plant kept.0.0 ∙ sure.long;
        room = rw kept.1 sure.room;
        four = stays_four.1 p out e sure.four;
        is_whole = keeps_whole p out e sure.four sure.is_whole;
        issued = λ s l. issued_next (sure.issued s l) (x.moves s l);
        known = known_then ds _ sure.known x.known;
      })

  -- refusals 1 and 2 are not given
  past_two : step ≡ judged event_refusals p e
  unfolding effect judged SHORT NOT_WHOLE non ◌or◌
  past_two = rw (sure.long, le-ltb (length out) out_count sure.room, sure.is_whole)

  -- so the answer has neither code
  never_given : Neither step.answer
  unfolding Accepts
  never_given =
      rw past_two
      (judged_answers (λ x. Neither x.answer) Neither event_refusals p e (omega arith) (λ a other. other)
      (λ _. let none = accepted_code p e in (omega arith, omega arith)))

  -- the reply is neither
  pub never_short : (reply_to e (outcome out step)).answer ≢ Err Short
  never_short q = never_given.0 (ap code_of q)

  pub never_broken : (reply_to e (outcome out step)).answer ≢ Err NotWhole
  never_broken q = never_given.1 (ap code_of q)

-- ---- a run
-- Where it is sure at the start: at the end it is, with the draws that the replies show; and no event was refused with 1 or 2.
pub record Ran (x : Run) (ds : List Drawn) : Type 0 where
  pub sure : Sure x.plant x.out (ds ++ draws_shown x.replies)
  pub not_short : Never (Err Short) x.replies
  pub not_broken : Never (Err NotWhole) x.replies

-- so it is of any list of events
pub sure_run : (es : List Event) {p : Plant} {out : List ℕ} {ds : List Drawn} → Sure p out ds → Ran (run_by effect p out es) ds
unfolding run_by draws_shown
sure_run [] {p} {out} {ds} sure = record { sure = subst (Sure p out) (sym (append-nil ds)) sure; not_short = tt; not_broken = tt }
sure_run (e ∷ es) {p} {out} {ds} sure =
    let rest = sure_run es (sure_step sure e) in
    record {
      sure = subst (Sure _ _) (append_assoc ds _ _) rest.sure;
      not_short = (never_short sure e, rest.not_short);
      not_broken = (never_broken sure e, rest.not_broken);
    }

-- ---- the empty plant
-- whole, by computation
empty_whole : whole empty_plant ≡ true
unfolding computes
empty_whole = whole_walked_lem empty_plant ∙ refl

-- before the first event
pub sure_empty : Sure empty_plant (replicate out_count 0) []
unfolding computes
sure_empty =
    record {
      long = refl;
      room = omega arith;
      four = stays_four.0;
      is_whole = empty_whole;
      issued = λ s l. issued_none (get_or-replicate series_count s 0 0 l);
      known = none_known;
    }

-- after any list of events from the empty plant
pub ran : (es : List Event) → Ran (from_empty effect es) []
unfolding from_empty
ran es = sure_run es sure_empty
