-- `step_unchecked` meets its contract: CRASH by itself, and every other kind as a turn over one slot. Assumes nothing.
use mathlib.Core.Path.{refl}
use borrow.Author.Tests.{eq-eqb, ne_eqb}
use Rattle.events.proofs.Ways.{step_stored}
use Rattle.events.proofs.dispatch.step_unchecked.Goals as goal

pub returns-then-event-eq-CRASH-clause-leaves : goal.returns-then-event-eq-CRASH-clause-leaves
returns-then-event-eq-CRASH-clause-leaves c = c.crash_event.ensures.leaves _ (eq-eqb _ _ c.if-event-eq-CRASH.true)

pub returns-clause-leaves : goal.returns-clause-leaves
returns-clause-leaves c =
    step_stored _ _ _ _ _ _ _ _ _ _ c.slot_of-at.ensures.0 c.free_for-free.ensures (ne_eqb _ _ c.if-event-eq-CRASH.false)
    (λ here. c.turn_unchecked-answer.ensures.leaves _ here) refl
