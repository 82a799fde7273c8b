-- `crash_event` meets its contract: refused with 3, or the crash. Assumes nothing.
use mathlib.Core.Bool.{not}
use mathlib.Core.Path.{ap}
use borrow.Author.Tests.{not-true, not-false}
use Rattle.events.proofs.Ways.{step_crash, crash_bad}
use Rattle.events.proofs.dispatch.crash_event.Goals as goal

pub returns-then-not-is_bad-clause-leaves : goal.returns-then-not-is_bad-clause-leaves
returns-then-not-is_bad-clause-leaves c out crash =
    step_crash _ _ _ _ _ _ _ (c.is_bad.ensures _) (not-true _ (ap not c.if-not-is_bad.true)) crash
    (c.crash.ensures _ _ _ _ _ _ _ _ _ _)

pub returns-clause-leaves : goal.returns-clause-leaves
returns-clause-leaves c out crash = crash_bad _ _ _ _ _ (c.is_bad.ensures _) (not-false _ (ap not c.if-not-is_bad.false))
