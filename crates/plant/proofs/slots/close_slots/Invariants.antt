-- `plant::slots::close_slots` meets its contract: each turn closes one slot more. Assumes nothing.
use mathlib.Core.Path.{◌≡◌}
use lib.ListN.{replicate}
use Rattle.words.specs.Numbers.{job_count}
use Rattle.jobs.specs.Job.{no_job}
use Rattle.plant.proofs.Moved.{moved}
use Rattle.plant.proofs.slots.close_slots.Given as goal

abbrev pub invariant-loop-i : goal.invariant-loop-i
invariant-loop-i l = l.jobs ≡ moved (replicate job_count no_job) l.initial.jobs l.i
