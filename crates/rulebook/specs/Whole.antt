-- "When tables are whole" in 01: W1 to W5, each from the shares of the two layers.
-- Assumes nothing.
use Rattle.std.specs.Prelude.{Bool, cond, Result, Err}
use Rattle.words.specs.declared.Flaw.{Flaw}
use Rattle.words.specs.declared.Flaw.TheVariants.{Short}
use Rattle.words.specs.Tests.{◌and◌, ◌or_else◌}
use Rattle.copies.specs.Whole.{W1_copies, W2_copies, W3_copies, W5_copies}
use Rattle.copies.specs.FirstBroken.{first_broken, found_by}
use Rattle.jobs.specs.Whole.{W1_jobs, W4_jobs, W5_jobs}
use Rattle.jobs.specs.FirstBroken.{first_broken_job}
use Rattle.rulebook.specs.Tables.{Plant, short_tables}

-- W1. every number is in its range; a Release goes to another station and has been sent
unfoldable pub W1 : Plant → Bool
W1 p = W1_copies p.copies and W1_jobs p.jobs

-- W2. an open series has one exclusive token, or shares; all say its next number
unfoldable pub W2 : Plant → Bool
W2 p = W2_copies p.copies

-- W3. received numbers keep to the sent counts and to the Releases' receivers
unfoldable pub W3 : Plant → Bool
W3 p = W3_copies p.copies

-- W4. an open job is at a station that is up, and its locks fit the copies there
unfoldable pub W4 : Plant → Bool
W4 p = W4_jobs p.copies p.jobs

-- W5. what is not used is zero
unfoldable pub W5 : Plant → Bool
W5 p = W5_copies p.copies and W5_jobs p.jobs

-- tables are whole when W1 to W5 all hold
unfoldable pub whole : Plant → Bool
whole p = W1 p and W2 p and W3 p and W4 p and W5 p

-- what the check finds wrong in tables of any size: one is short, or the rule that the walk finds broken first
unfoldable pub check : Plant → Result (Unit {0}) Flaw
check p =
    cond (short_tables p) (Err Short) (found_by (first_broken p.copies or_else first_broken_job p.copies p.jobs))
