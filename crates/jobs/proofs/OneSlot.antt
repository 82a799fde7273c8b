-- A call over one slot, read as a call over the slots: where the job is the one that stood there, a refusal leaves them as they were.
-- Assumes nothing.
use Prim.Native.Nat.{ℕ}
use mathlib.Core.Path.{◌≡◌}
use mathlib.Core.List.{List}
use lib.ListN.{set}
use lib.Seq.{set-get_or}
use Rattle.copies.proofs.Guards.{chain}
use Rattle.copies.proofs.Reading.{read_at}
use Rattle.jobs.specs.declared.Job.{Job}
use Rattle.jobs.specs.Slots.{job_at}

-- a slot that is given back its own job
pub kept_slot : (bs : List Job) (j : ℕ) (b : Job) → b ≡ job_at bs j → set bs j b ≡ bs
kept_slot bs j b e = rw (e, set-get_or)

-- each way out of a call over one slot: refused, the slots stand as they were; done, the job stands in its slot
pub ruleset turns = (kept_slot, read_at, chain)
