-- `feed` meets its contract: what was done and what is still to be done give together what the whole call gives. Assumes nothing.
use mathlib.Core.Path.{sym, ◌∙◌}
use native.Mathlib.Omega.{arith}
use Rattle.desk.proofs.SameDesk.{desk_first, desk_then}
use Rattle.desk.proofs.Walks.{whole_found}
use Rattle.desk.proofs.Still.{still_first, still_none, still_answered}
use Rattle.desk.proofs.feeding.feed.Goals as goal

pub loop-line-init : goal.loop-line-init
loop-line-init c = (still_first _ _ _, omega arith, omega arith, desk_first c.args.desk.now)

pub loop-line-preserved : goal.loop-line-preserved
loop-line-preserved c =
    let l = c.loop-line in
    let found = rw l.auto.out at (sym c.whole_line.ensures ∙ c.in-Some.is) in
    let w = whole_found _ _ _ _ found in
    let e = c.answer-at.ensures in (
      still_answered _ _ _ _ _ _ l.invariant.0 _ found e.leaves,
      omega (arith, w.inside, w.goes),
      omega (arith, e.at_bound, w.fits, l.invariant.2),
      desk_then c.args.desk.now l.desk c.answer-at.new.desk l.invariant.3 e.same,
    )

pub returns-clause-leaves : goal.returns-clause-leaves
returns-clause-leaves c =
    let l = c.loop-line in
    still_none _ _ _ _ _ _ l.invariant.0 (rw l.auto.out at (sym c.whole_line.ensures ∙ c.in_default.is))
