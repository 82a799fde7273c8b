-- The ways out of the step: a law for each. Assumes nothing.
use Prim.Native.Nat.{ℕ, ◌≤◌, ◌<◌}
use mathlib.Core.Path.{◌≡◌, sym, ap, ◌∙◌}
use mathlib.Core.Bool.{false}
use mathlib.Core.List.{List}
use lib.ListN.{length}
use borrow.Author.Tests.{lt-ltb, le-ltb}
use Rattle.words.specs.Answers.{refusal_of}
use Rattle.words.specs.declared.Refusal.TheVariants.{Short}
use Rattle.std.specs.Prelude.{Result, Ok, Err}
use Rattle.words.specs.declared.Flaw.{Flaw}
use Rattle.words.specs.declared.Flaw.TheVariants.{Short as TooShort, Broken}
use Rattle.words.specs.Numbers.{out_count}
use Rattle.words.specs.Tests.{non, ◌or◌}
use Rattle.words.proofs.Laws.{or_true}
use Rattle.copies.specs.Tables.{Copies}
use Rattle.jobs.specs.declared.Job.{Job}
use Rattle.jobs.specs.Calls.{Stepped}
use Rattle.jobs.specs.Draws.{shown}
use Rattle.jobs.specs.Calls.{stepped}
use Rattle.rulebook.specs.declared.Event.{Event}
use Rattle.rulebook.specs.Tables.{Plant, plant, short_tables}
use Rattle.rulebook.specs.Whole.{check}
use Rattle.rulebook.specs.Refusals.{SHORT, NOT_WHOLE}
use Rattle.rulebook.specs.Steps.{judged, effect, step_of}
use Rattle.rulebook.proofs.Checked.{check_short, check_broken, check_whole}
use Rattle.events.specs.Calls.{left}
use Rattle.events.specs.Unchecked.{unchecked_step}
use Rattle.events.proofs.Unchecked.{unchecked_whole}

module _ (t : Copies) (bs : List Job) (out : List ℕ) (e : Event) where
  -- the plant that was lent
  abbrev lent : Plant
  lent = plant t bs

  -- the output is short
  pub way_room : length out < out_count → left (stepped (Err Short) bs) t out ≡ step_of lent out e
  unfolding step_of effect judged SHORT shown
  way_room l = rw (lt-ltb _ _ l, or_true (short_tables lent))

  -- refusal 1 is not given
  long_enough : out_count ≤ length out → short_tables lent ≡ false → SHORT out lent e ≡ false
  unfolding SHORT ◌or◌
  long_enough l h = rw (h, le-ltb _ _ l)

  -- the check finds something wrong: a table is short, or a rule is broken
  pub way_wrong : (found : Result (Unit {0}) Flaw) (flaw : Flaw) → out_count ≤ length out → found ≡ check lent → found ≡ Err flaw
      → left (stepped (Err (refusal_of flaw)) bs) t out ≡ step_of lent out e
  unfolding step_of effect judged SHORT NOT_WHOLE non shown ◌or◌
  way_wrong found TooShort l p h = rw (check_short lent (sym p ∙ h))
  way_wrong found (Broken rule) l p h =
      let broken = check_broken lent rule (sym p ∙ h) in
      rw (long_enough l broken.0, broken.1)

  -- whole tables
  pub way_whole : (r : Stepped) (t' : Copies) (out' : List ℕ) (found : Result (Unit {0}) Flaw) → out_count ≤ length out → found ≡ check lent → found ≡ Ok tt
      → left r t' out' ≡ unchecked_step lent out e
      → left r t' out' ≡ step_of lent out e
  way_whole r t' out' found l p h made =
      let all = check_whole lent (sym p ∙ h) in
      made ∙ unchecked_whole lent out e (long_enough l all.0) all.1
