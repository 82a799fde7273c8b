-- `alone` meets its contract: the slots below k have been tested. Assumes nothing.
use mathlib.Core.Path.{◌≡◌}
use lib.Dec.{eqb}
use Rattle.words.specs.Tests.{non, ◌or◌, all_below}
use Rattle.jobs.specs.Slots.{job_at}
use Rattle.jobs.specs.Whole.{meets}
use Rattle.jobs.proofs.walk.alone.Given as goal

abbrev pub invariant-loop-k : goal.invariant-loop-k
invariant-loop-k l =
    l.all ≡ all_below l.k (λ m. eqb m l.j or non (meets (job_at l.jobs l.j) (job_at l.jobs m)))
