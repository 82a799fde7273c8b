-- What `first_broken` cites: tables that aren't short have their sizes, and for each way out, what the walk finds.
-- Assumes nothing.
use mathlib.Core.Path.{◌≡◌, sym, ◌∙◌}
use mathlib.Core.Bool.{Bool, true, false}
use Rattle.std.specs.Prelude.{Option, Some, None, Ok, Err}
use Rattle.words.specs.declared.Rule.{Rule}
use Rattle.words.specs.declared.Rule.TheVariants.{W1}
use Rattle.words.specs.declared.Flaw.TheVariants.{Short, Broken}
use Rattle.words.specs.Tests.{broken, ◌or_else◌}
use Rattle.copies.specs.Tables.{Copies, short_copies}
use Rattle.copies.specs.Whole.{W1_marks}
use Rattle.copies.specs.FirstBroken.{first_broken, found_by, check_copies}
use Rattle.copies.specs.Tally.{Long, broken_in}
use Rattle.copies.proofs.Long.{long}

module _ (t : Copies) (short : Bool) (is : short ≡ short_copies t) where
  -- refusal 1
  pub found_short : short ≡ true → Err Short ≡ check_copies t
  unfolding check_copies
  found_short e = rw (← is, e)

  module _ (no : short ≡ false) where
    -- each column has its stated size
    pub found_long : Long t
    found_long = long (sym is ∙ no)

    module _ (r : Option Rule) (p : r ≡ broken_in t) where
      -- a rule that a series breaks
      pub found_broken : (rule : Rule) → r ≡ Some rule → Err (Broken rule) ≡ check_copies t
      unfolding check_copies first_broken broken_in found_by ◌or_else◌
      found_broken rule e = rw (← is, no, ← p, e)

      module _ (none : r ≡ None) (b : Bool) (q : b ≡ W1_marks t.up) where
        -- W1 of the marks
        pub found_marks : b ≡ false → Err (Broken W1) ≡ check_copies t
        unfolding check_copies first_broken broken_in found_by broken ◌or_else◌
        found_marks e = rw (← is, no, ← p, none, ← q, e)

        -- nothing
        pub found_whole : b ≡ true → Ok tt ≡ check_copies t
        unfolding check_copies first_broken broken_in found_by broken ◌or_else◌
        found_whole e = rw (← is, no, ← p, none, ← q, e)

-- the ways out
pub ruleset ways = (found_short, found_broken, found_marks, found_whole)
