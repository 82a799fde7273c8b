-- `turn_unchecked` meets its contract: a law for each way out. Assumes nothing.
use Rattle.events.proofs.Ways.{way_bad, way_job, way_copy}
use Rattle.events.proofs.dispatch.turn_unchecked.Goals as goal

pub returns-then-is_bad-clause-leaves : goal.returns-then-is_bad-clause-leaves
returns-then-is_bad-clause-leaves c bs same = way_bad _ bs _ _ _ _ same _ (c.is_bad.ensures _) c.if-is_bad.true

pub returns-then-takes_job-event-clause-leaves : goal.returns-then-takes_job-event-clause-leaves
returns-then-takes_job-event-clause-leaves c bs same =
    way_job _ bs _ _ _ _ same _ (c.is_bad.ensures _) c.if-is_bad.false _ c.takes_job.ensures _ _ _ c.if-takes_job-event.true
    (λ here. c.job_event.ensures.leaves bs here)

pub returns-clause-leaves : goal.returns-clause-leaves
returns-clause-leaves c bs same =
    way_copy _ bs _ _ _ _ same _ (c.is_bad.ensures _) c.if-is_bad.false _ c.takes_job.ensures _ _ c.if-takes_job-event.false
    c.copy_event.ensures.leaves
