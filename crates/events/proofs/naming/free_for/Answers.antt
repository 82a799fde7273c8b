-- `free_for` meets its contract: by whether the kind asks, and whether it is LOCKX. Assumes nothing.
use mathlib.Core.Bool.{not}
use mathlib.Core.Path.{ap}
use mathlib.Core.Path.{sym}
use Rattle.events.proofs.Named.{free_unasked, free_lockx, free_copy}
use Rattle.events.proofs.naming.free_for.Goals as goal

pub returns-then-not-asks_free : goal.returns-then-not-asks_free
returns-then-not-asks_free c = sym (free_unasked _ _ _ _ c.asks_free.ensures (ap not c.if-not-asks_free.true))

pub returns-then-event-eq-LOCKX : goal.returns-then-event-eq-LOCKX
returns-then-event-eq-LOCKX c =
    free_lockx _ _ _ _ _ c.asks_free.ensures (ap not c.if-not-asks_free.false) c.if-event-eq-LOCKX.true c.is_free.ensures

pub returns : goal.returns
returns c =
    free_copy _ _ _ _ _ c.asks_free.ensures (ap not c.if-not-asks_free.false) c.if-event-eq-LOCKX.false c.is_free-2.ensures
