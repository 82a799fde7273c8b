-- `plant::slots::close_slots` meets its contract: a turn closes one slot more, and after sixteen all are closed. Assumes nothing.
use native.Mathlib.Omega.{arith}
use native.Mathlib.Numerals.{add-one}
use mathlib.Core.Path.{sym, ap, ◌∙◌}
use lib.ListN.{set, replicate, get_or-replicate}
use Rattle.words.specs.Numbers.{job_count}
use Rattle.jobs.specs.Job.{no_job}
use Rattle.plant.proofs.Moved.{moved, moved_next}
use Rattle.plant.proofs.slots.close_slots.Goals as goal

pub loop-i-preserved : goal.loop-i-preserved
loop-i-preserved c =
    let unused = replicate job_count no_job in
    let i = c.loop-i.i in
    let closed = ap (set (moved unused c.args.jobs.now i) i) (sym (get_or-replicate job_count i no_job no_job c.loop-i-test.true)) in
    rw (c.close_slot.ensures, c.loop-i.invariant, add-one) (closed ∙ moved_next no_job unused c.args.jobs.now i c.loop-i-test.true)
