-- `slot_of` meets its contract: by whether there is such a slot. Assumes nothing.
use native.Mathlib.Omega.{arith}
use borrow.Author.Tests.{lt-ltb, le-ltb}
use Rattle.events.specs.Unchecked.{slot_of}
use Rattle.events.proofs.naming.slot_of.Goals as goal

pub returns-then-a-lt-JOBS : goal.returns-then-a-lt-JOBS
unfolding slot_of
returns-then-a-lt-JOBS c = (rw (lt-ltb _ _ c.if-a-lt-JOBS.true), c.if-a-lt-JOBS.true)

pub returns : goal.returns
unfolding slot_of
returns c = (rw (le-ltb _ _ c.if-a-lt-JOBS.false), omega arith)
