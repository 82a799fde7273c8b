-- `step` meets its contract: a law for each way out. Assumes nothing.
use Rattle.std.proofs.lemmas.Result.{err_from_is_err_and}
use Rattle.machine.proofs.Ways.{way_room, way_wrong, way_whole}
use Rattle.machine.proofs.stepping.step.Goals as goal

pub returns-then-out-lt-OUTPUT-clause-leaves : goal.returns-then-out-lt-OUTPUT-clause-leaves
returns-then-out-lt-OUTPUT-clause-leaves c = way_room _ _ _ _ c.if-out-lt-OUTPUT.true

pub returns-in_err-check-clause-leaves : goal.returns-in_err-check-clause-leaves
returns-in_err-check-clause-leaves c =
    let is = err_from_is_err_and c.from_residual.result c.from_residual.ensures.1 in
    rw (is.1, is.2) (way_wrong _ _ _ _ _ _ c.if-out-lt-OUTPUT.false (rw c.seen.ensures at c.check.ensures) c.in_err-check.was)

pub returns-clause-leaves : goal.returns-clause-leaves
returns-clause-leaves c =
    way_whole _ _ _ _ _ _ _ _ c.if-out-lt-OUTPUT.false (rw c.seen.ensures at c.check.ensures) c.in_ok-check.was
    c.step_unchecked.ensures.leaves
