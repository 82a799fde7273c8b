-- `job_event` meets its contract: at each kind the call's own promise. Assumes nothing.
use Rattle.std.proofs.Common.{rules, tests}
use Rattle.jobs.proofs.OneSlot.{kept_slot}
use Rattle.events.specs.Unchecked.{job_turn}
use Rattle.events.proofs.Slots.{slots_only_lem, answer_only}
use Rattle.events.proofs.dispatch.job_event.Goals as goal

pub returns-in-2-clause-leaves : goal.returns-in-2-clause-leaves
unfolding job_turn
returns-in-2-clause-leaves c bs same = rw c.in-2.is (slots_only_lem _ _ _ _ (rw c.seen.ensures at (c.begin.ensures bs same)))

pub returns-in-3-clause-leaves : goal.returns-in-3-clause-leaves
unfolding job_turn
returns-in-3-clause-leaves c bs same = rw c.in-3.is (slots_only_lem _ _ _ _ (rw c.seen-in-3.ensures at (c.lock_exclusive.ensures bs same)))

pub returns-in-4-clause-leaves : goal.returns-in-4-clause-leaves
unfolding job_turn
returns-in-4-clause-leaves c bs same = rw c.in-4.is (slots_only_lem _ _ _ _ (rw c.seen-in-4.ensures at (c.lock_share.ensures bs same)))

pub returns-in-5-clause-leaves : goal.returns-in-5-clause-leaves
unfolding job_turn
returns-in-5-clause-leaves c bs same = rw c.in-5.is (slots_only_lem _ _ _ _ (rw c.seen-in-5.ensures at (c.draw.ensures bs same)))

pub returns-in-6-clause-leaves : goal.returns-in-6-clause-leaves
unfolding job_turn
returns-in-6-clause-leaves c bs same = rw (c.in-6.is, kept_slot bs _ _ same) (answer_only _ _ _ _ _ (rw c.seen-in-6.ensures at (c.read.ensures bs same)))

pub returns-in-7-clause-leaves : goal.returns-in-7-clause-leaves
unfolding job_turn
returns-in-7-clause-leaves c bs same = rw c.in-7.is (c.commit.ensures _ _ _ _ _ _ _ _ bs same)

pub returns-in-8-clause-leaves : goal.returns-in-8-clause-leaves
unfolding job_turn
returns-in-8-clause-leaves c bs same = rw c.in-8.is (slots_only_lem _ _ _ _ (c.abort.ensures bs same))

pub returns-in_default-clause-leaves : goal.returns-in_default-clause-leaves
unfolding job_turn
returns-in_default-clause-leaves c bs same = rw (kept_slot bs _ _ same) (search (tests, rules))
