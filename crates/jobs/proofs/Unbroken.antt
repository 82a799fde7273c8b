-- The walk over the slots, specs/FirstBroken.antt, finds no rule broken exactly where specs/Facts.antt holds, and so where the tests do.
-- Assumes nothing.
use Prim.Native.Nat.{ℕ}
use mathlib.Core.Path.{◌≡◌}
use mathlib.Core.Bool.{true, false}
use mathlib.Core.List.{List}
use Rattle.std.specs.Prelude.{None, Ok}
use Rattle.words.specs.declared.Rule.TheVariants.{W1, W4, W5}
use Rattle.words.specs.Numbers.{job_count}
use Rattle.words.proofs.Reflects.{Clears, clears_as, clears_broken, clears_or, clears_first}
use Rattle.copies.specs.Tables.{Copies}
use Rattle.copies.specs.FirstBroken.{found_by}
use Rattle.copies.proofs.Unbroken.{found_whole}
use Rattle.jobs.specs.declared.Job.{Job}
use Rattle.jobs.specs.Slots.{job_at}
use Rattle.jobs.specs.Whole.{W1_jobs, W4_jobs, W5_jobs}
use Rattle.jobs.specs.FirstBroken.{broken_job, first_broken_job, short_for_jobs, check_jobs}
use Rattle.jobs.specs.Facts.{JobWhole, JobsWhole}
use Rattle.jobs.proofs.Reflect.{W1_job_reflects, W4_job_reflects, W5_job_reflects, to_whole, from_whole, jobs_facts, facts_jobs}

module _ (t : Copies) (bs : List Job) where
  -- the walk passes slot j exactly where it is whole
  pub job_clears : (j : ℕ) → Clears (broken_job t bs j) (JobWhole t bs j)
  unfolding broken_job
  job_clears j =
      clears_as (to_whole t bs j) (from_whole t bs j)
      (clears_or _ _ (clears_broken W1 _ (W1_job_reflects (job_at bs j)))
      (clears_or _ _ (clears_broken W4 _ (W4_job_reflects t bs j)) (clears_broken W5 _ (W5_job_reflects (job_at bs j)))))

  -- and the sixteen slots
  pub jobs_clear : Clears (first_broken_job t bs) (JobsWhole t bs)
  unfolding first_broken_job
  jobs_clear = clears_first (JobWhole t bs) job_count (broken_job t bs) (λ j l. job_clears j)

  -- where it finds nothing broken, the tests hold
  pub walk_job_tests : first_broken_job t bs ≡ None → (W1_jobs bs ≡ true) × (W4_jobs t bs ≡ true) × (W5_jobs bs ≡ true)
  walk_job_tests e = facts_jobs t bs (jobs_clear.0 e)

  -- and where they hold, it finds nothing broken
  pub job_tests_walk : W1_jobs bs ≡ true → W4_jobs t bs ≡ true → W5_jobs bs ≡ true → first_broken_job t bs ≡ None
  job_tests_walk e f g = jobs_clear.1 (jobs_facts t bs e f g)

  -- nothing is found wrong with whole slots above columns of which none is short
  pub check_jobs_whole : check_jobs t bs ≡ Ok tt → (short_for_jobs t ≡ false) × JobsWhole t bs
  unfolding check_jobs
  check_jobs_whole e = let found = found_whole (short_for_jobs t) (first_broken_job t bs) e in (found.0, jobs_clear.0 found.1)

  -- and with all such
  pub whole_check_jobs : short_for_jobs t ≡ false → JobsWhole t bs → check_jobs t bs ≡ Ok tt
  unfolding check_jobs found_by
  whole_check_jobs e w = rw (e, jobs_clear.1 w)
