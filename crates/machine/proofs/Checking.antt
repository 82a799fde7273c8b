-- The check of all tables from the two layers' walks: a law for each way out of `check`. Assumes nothing.
use mathlib.Core.Path.{◌≡◌, sym, ◌∙◌}
use mathlib.Core.Bool.{Bool, true, false, cond}
use mathlib.Core.List.{List}
use lib.ListN.{length}
use borrow.Author.Tests.{le-ltb}
use Rattle.std.specs.Prelude.{Option, Some, None, Result, Ok, Err}
use Rattle.words.specs.declared.Rule.{Rule}
use Rattle.words.specs.declared.Flaw.{Flaw}
use Rattle.words.specs.declared.Flaw.TheVariants.{Short}
use Rattle.words.specs.Numbers.{station_count, series_count, job_count, place_count}
use Rattle.words.specs.Tests.{◌or◌, ◌or_else◌}
use Rattle.copies.specs.Tables.{Copies, short_copies}
use Rattle.copies.specs.FirstBroken.{first_broken, found_by, check_copies}
use Rattle.copies.proofs.Long.{long}
use Rattle.copies.proofs.Unbroken.{found_whole}
use Rattle.jobs.specs.declared.Job.{Job}
use Rattle.jobs.specs.Slots.{short_jobs}
use Rattle.jobs.specs.FirstBroken.{first_broken_job, short_for_jobs, check_jobs}
use Rattle.rulebook.specs.Tables.{plant, short_tables}
use Rattle.rulebook.specs.Whole.{check}

-- what the first walk found wrong is what both find, where the slots aren't short
wrong_first : (a : Bool) (k j : Option Rule) (flaw : Flaw) → Err flaw ≡ cond a (Err Short) (found_by k) → Err flaw ≡ cond (a or false) (Err Short) (found_by (k or_else j))
unfolding found_by ◌or◌ ◌or_else◌
wrong_first true k j flaw e = e
wrong_first false None j flaw e = cc
wrong_first false (Some rule) j flaw e = e

-- a walk that found a short column: both find one, whatever the slots are
short_first : (a b : Bool) (k j : Option Rule) → Err Short ≡ cond a (Err Short) (found_by k) → Err Short ≡ cond (a or b) (Err Short) (found_by (k or_else j))
unfolding found_by ◌or◌
short_first true b k j e = e
short_first false b None j e = cc
short_first false b (Some rule) j e = cc

-- where it found nothing, the second's answer is that of both
whole_first : (a : Bool) (k j : Option Rule) (r : Result (Unit {0}) Flaw) → cond a (Err Short) (found_by k) ≡ Ok tt → r ≡ found_by j → r ≡ cond (a or false) (Err Short) (found_by (k or_else j))
unfolding ◌or◌ ◌or_else◌
whole_first a k j r e h = let found = found_whole a k e in rw (found.0, found.1) h

-- where no column is short, none that the jobs' rules read is
long_for_jobs : (t : Copies) → short_copies t ≡ false → short_for_jobs t ≡ false
unfolding short_for_jobs ◌or◌
long_for_jobs t e =
    let l = long e in
    rw (le-ltb _ series_count l.firsts, le-ltb _ series_count l.lasts, le-ltb _ place_count l.kinds, le-ltb _ place_count l.values)
    (le-ltb _ station_count l.up)

-- refusal 1, of any number of slots
pub finds_short : (t : Copies) (bs : List Job) (found : Result (Unit {0}) Flaw) → found ≡ check_copies t → found ≡ Err Short → Err Short ≡ check (plant t bs)
unfolding check_copies check short_tables
finds_short t bs found e h = short_first (short_copies t) (short_jobs bs) _ _ (sym h ∙ e)

module _ (t : Copies) (bs : List Job) (sixteen : length bs ≡ job_count) where
  -- the slots stand in an array of sixteen
  slots_there : short_jobs bs ≡ false
  unfolding short_jobs
  slots_there = rw sixteen

  module _ (found : Result (Unit {0}) Flaw) (e : found ≡ check_copies t) where
    -- something is wrong with the lower layer's tables
    pub finds_wrong : (flaw : Flaw) → found ≡ Err flaw → Err flaw ≡ check (plant t bs)
    unfolding check_copies check short_tables
    finds_wrong flaw h = rw slots_there (wrong_first (short_copies t) _ _ flaw (sym h ∙ e))

    -- nothing: the slots' walk answers
    pub finds_of_jobs : (r : Result (Unit {0}) Flaw) → found ≡ Ok tt → r ≡ check_jobs t bs → r ≡ check (plant t bs)
    unfolding check_copies check_jobs check short_tables
    finds_of_jobs r h j =
        let whole : cond (short_copies t) (Err Short) (found_by (first_broken t)) ≡ Ok tt = sym e ∙ h in
        let fine = long_for_jobs t (found_whole (short_copies t) (first_broken t) whole).0 in
        rw slots_there (whole_first (short_copies t) (first_broken t) (first_broken_job t bs) r whole (rw fine at j))
