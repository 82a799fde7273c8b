-- `copy_event` meets its contract: at each kind the call's own promise. Assumes nothing.
use Rattle.std.proofs.Common.{rules, tests}
use Rattle.events.specs.Unchecked.{copy_event}
use Rattle.events.proofs.dispatch.copy_event.Goals as goal

pub returns-in-1-clause-leaves : goal.returns-in-1-clause-leaves
unfolding copy_event
returns-in-1-clause-leaves c = rw c.in-1.is (c.open_series.ensures _ _ _ _ _)

pub returns-in-9-clause-leaves : goal.returns-in-9-clause-leaves
unfolding copy_event
returns-in-9-clause-leaves c = rw c.in-9.is (c.send.ensures _ _)

pub returns-in-10-clause-leaves : goal.returns-in-10-clause-leaves
unfolding copy_event
returns-in-10-clause-leaves c = rw c.in-10.is (c.demote.ensures _ _ _ _ _ _ _)

pub returns-in-11-clause-leaves : goal.returns-in-11-clause-leaves
unfolding copy_event
returns-in-11-clause-leaves c = rw c.in-11.is (c.share.ensures _ _)

pub returns-in-12-clause-leaves : goal.returns-in-12-clause-leaves
unfolding copy_event
returns-in-12-clause-leaves c = rw c.in-12.is (c.drop.ensures _ _ _ _ _ _ _)

pub returns-in-13-clause-leaves : goal.returns-in-13-clause-leaves
unfolding copy_event
returns-in-13-clause-leaves c = rw c.in-13.is (c.promote.ensures _ _ _)

pub returns-in-14-clause-leaves : goal.returns-in-14-clause-leaves
unfolding copy_event
returns-in-14-clause-leaves c = rw c.in-14.is (c.grant.ensures _)

pub returns-in-15-clause-leaves : goal.returns-in-15-clause-leaves
unfolding copy_event
returns-in-15-clause-leaves c = rw c.in-15.is (c.ack.ensures _ _ _)

pub returns-in-17-clause-leaves : goal.returns-in-17-clause-leaves
unfolding copy_event
returns-in-17-clause-leaves c = rw c.in-17.is (c.restart.ensures _ _ _ _ _ _ _ _)

pub returns-in_default-clause-leaves : goal.returns-in_default-clause-leaves
unfolding copy_event
returns-in_default-clause-leaves c = search (tests, rules)
