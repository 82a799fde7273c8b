-- What the check of specs/Whole.antt finds is what the tests W1 to W5 say, and whole tables are whole in both layers.
-- Assumes nothing.
use mathlib.Core.Path.{◌≡◌, refl}
use mathlib.Core.Bool.{Bool, true, false, cond}
use Rattle.std.specs.Prelude.{Option, Some, None, Ok, Err}
use Rattle.words.specs.declared.Rule.{Rule}
use Rattle.words.specs.declared.Flaw.TheVariants.{Short, Broken}
use Rattle.words.specs.Tests.{◌and◌, ◌or_else◌}
use Rattle.words.proofs.Laws.{both_true}
use Rattle.words.proofs.Reflects.{Reflects, Clears, reflects_as, reflects_self, reflects_and, clears_or}
use Rattle.copies.specs.Whole.{W1_copies, W2_copies, W3_copies, W5_copies}
use Rattle.copies.specs.FirstBroken.{first_broken, found_by}
use Rattle.copies.specs.Facts.{CopiesWhole}
use Rattle.copies.proofs.Reflect.{copies_facts, facts_copies}
use Rattle.copies.proofs.Unbroken.{found_whole, walk_clears}
use Rattle.jobs.specs.Whole.{W1_jobs, W4_jobs, W5_jobs}
use Rattle.jobs.specs.FirstBroken.{first_broken_job}
use Rattle.jobs.specs.Facts.{JobsWhole}
use Rattle.jobs.proofs.Reflect.{jobs_facts, facts_jobs}
use Rattle.jobs.proofs.Unbroken.{jobs_clear}
use Rattle.rulebook.specs.Tables.{Plant, short_tables}
use Rattle.rulebook.specs.Whole.{W1, W2, W3, W4, W5, whole, check}

-- ---- what an answer tells
-- a test that can't hold fails
fails : (b : Bool) → (b ≡ true → ⊥) → b ≡ false
fails true h = absurd (h refl)
fails false h = refl

-- a table is found short where one is
found_short : (b : Bool) (k : Option Rule) → cond b (Err Short) (found_by k) ≡ Err Short → b ≡ true
unfolding found_by
found_short true k e = refl
found_short false None e = cc
found_short false (Some rule) e = cc

-- a rule is found broken where none is short and the walk found one
found_broken : (b : Bool) (k : Option Rule) (rule : Rule) → cond b (Err Short) (found_by k) ≡ Err (Broken rule) → (b ≡ false) × (k ≡ None → ⊥)
unfolding found_by
found_broken true k rule e = (cc, λ z. cc)
found_broken false None rule e = (refl, λ z. cc)
found_broken false (Some first) rule e = (refl, λ z. cc)

module _ (p : Plant) where
  -- both layers' tables are whole
  abbrev pub PlantWhole : Type 0
  PlantWhole = CopiesWhole p.copies × JobsWhole p.copies p.jobs

  -- W1 to W5 one by one, each of both layers
  abbrev Tests : Type 0
  Tests =
      (((((W1_copies p.copies ≡ true) × (W1_jobs p.jobs ≡ true)) × (W2_copies p.copies ≡ true)) × (W3_copies p.copies ≡ true))
      × (W4_jobs p.copies p.jobs ≡ true))
      × ((W5_copies p.copies ≡ true) × (W5_jobs p.jobs ≡ true))

  -- and as one test
  tests_reflect : Reflects (whole p) Tests
  unfolding whole W1 W2 W3 W4 W5
  tests_reflect =
      reflects_and _ _
      (reflects_and _ _ (reflects_and _ _ (reflects_and _ _ (reflects_and _ _ self self) self) self) self)
      (reflects_and _ _ self self)
    where
      self : {b : Bool} → Reflects b (b ≡ true)
      self {b} = reflects_self b

  -- passed, they make both layers whole
  tests_facts : Tests → PlantWhole
  unfolding ◌and◌
  tests_facts w = (
    copies_facts p.copies (rw (w.0.0.0.0.0, w.0.0.0.1, w.0.0.1) w.1.0),
    jobs_facts p.copies p.jobs w.0.0.0.0.1 w.0.1 w.1.1,
  )

  -- and what is whole in both layers passes them
  facts_tests : PlantWhole → Tests
  facts_tests w =
      let c = both_true _ _ (facts_copies p.copies w.0) in
      let three = both_true _ _ c.0 in
      let two = both_true _ _ three.0 in
      let j = facts_jobs p.copies p.jobs w.1 in
      (((((two.0, j.0), two.1), three.1), j.1), (c.1, j.2))

  -- W1 to W5 hold exactly where both layers' tables are whole
  pub whole_reflects : Reflects (whole p) PlantWhole
  whole_reflects = reflects_as tests_facts facts_tests tests_reflect

  -- whole tables are whole in both layers
  pub whole_facts : whole p ≡ true → PlantWhole
  whole_facts = whole_reflects.0

  -- and what is whole in both layers is whole
  pub facts_whole : PlantWhole → whole p ≡ true
  facts_whole = whole_reflects.1

  -- the walks find nothing broken exactly where both layers' tables are whole
  walks_clear : Clears (first_broken p.copies or_else first_broken_job p.copies p.jobs) PlantWhole
  walks_clear = clears_or _ _ (walk_clears p.copies) (jobs_clear p.copies p.jobs)

  -- nothing is found wrong in whole tables none of which is short
  pub check_whole : check p ≡ Ok tt → (short_tables p ≡ false) × (whole p ≡ true)
  unfolding check
  check_whole e = let found = found_whole (short_tables p) _ e in (found.0, facts_whole (walks_clear.0 found.1))

  -- a table is found short where one is
  pub check_short : check p ≡ Err Short → short_tables p ≡ true
  unfolding check
  check_short e = found_short (short_tables p) _ e

  -- a broken rule is found in tables that aren't whole, none of which is short
  pub check_broken : (rule : Rule) → check p ≡ Err (Broken rule) → (short_tables p ≡ false) × (whole p ≡ false)
  unfolding check
  check_broken rule e =
      let found = found_broken (short_tables p) _ rule e in (found.0, fails (whole p) (λ w. found.1 (walks_clear.1 (whole_facts w))))
