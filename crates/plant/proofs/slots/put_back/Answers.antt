-- `plant::slots::put_back` meets its contract: a turn puts one slot more, and after sixteen the slots are those of the row. Assumes nothing.
use borrow.Author.Rules.{rules}
use native.Mathlib.Omega.{arith}
use native.Mathlib.Numerals.{add-one}
use mathlib.Core.Path.{◌≡◌, ap, ◌∙◌}
use mathlib.Core.List.{List, ◌++◌}
use lib.ListN.{length, drop}
use lib.Seq.{take_all}
use Rattle.words.specs.Numbers.{job_count}
use Rattle.jobs.specs.declared.Job.{Job}
use Rattle.jobs.specs.Slots.{no_slot}
use Rattle.plant.proofs.Moved.{moved, moved_next, moved_all}
use Rattle.plant.proofs.slots.put_back.Goals as goal

pub loop-i-preserved : goal.loop-i-preserved
loop-i-preserved c =
    let sixteen : length c.args.all ≡ job_count = search rules in
    let next = moved_next no_slot c.args.all c.args.jobs.now c.loop-i.i (omega arith) in
    rw (c.put.ensures, c.loop-i.invariant, add-one) next

pub returns : goal.returns
returns c =
    let sixteen : length c.args.all ≡ job_count = search rules in
    let done : c.loop-i.i ≡ job_count = omega (arith, c.loop-i-test.false) in
    c.loop-i.invariant ∙ ap (moved c.args.all c.args.jobs.now) done
    ∙ moved_all c.args.all c.args.jobs.now job_count (omega arith) c.requires
    ∙ ap (λ (l : List Job). l ++ drop job_count c.args.jobs.now) (take_all job_count c.args.all (omega arith))
