-- `plant::slots::taken_out` meets its contract: a turn takes one slot out more, and after sixteen they are all there. Assumes nothing.
use native.Mathlib.Omega.{arith}
use native.Mathlib.Numerals.{add-one}
use mathlib.Core.Path.{◌≡◌, refl, ap, ◌∙◌}
use lib.ListN.{length, take}
use mathlib.Core.List.{append-nil}
use Rattle.words.specs.Numbers.{job_count}
use Rattle.jobs.specs.Slots.{no_slot}
use Rattle.plant.proofs.Moved.{moved, moved_next, moved_all}
use Rattle.plant.proofs.slots.taken_out.Goals as goal

pub loop-i-preserved : goal.loop-i-preserved
loop-i-preserved c =
    let next = moved_next no_slot c.args.jobs.now c.unused-all.result c.loop-i.i (omega (arith, c.requires)) in
    rw (c.slot.ensures, c.loop-i.invariant, add-one) next

pub returns : goal.returns
returns c =
    let sixteen : length c.unused-all.result ≡ job_count = rw c.unused-all.ensures refl in
    let done : c.loop-i.i ≡ job_count = omega (arith, c.loop-i-test.false) in
    c.loop-i.invariant ∙ ap (moved c.args.jobs.now c.unused-all.result) done
    ∙ moved_all c.args.jobs.now c.unused-all.result job_count c.requires (omega arith)
    ∙ rw c.unused-all.ensures (append-nil (take job_count c.args.jobs.now))
