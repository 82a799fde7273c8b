-- "What the machine covers" in 01: the plant's tables, as the lower layer's and the job slots above them.
-- Assumes nothing.
use Rattle.std.specs.Prelude.{Bool, List}
use Rattle.words.specs.Tests.{◌or◌}
use Rattle.copies.specs.Tables.{Copies, short_copies}
use Rattle.jobs.specs.declared.Job.{Job}
use Rattle.jobs.specs.Slots.{short_jobs}

-- the tables of both layers
pub record Plant : Type 0 where
  pub copies : Copies
  pub jobs : List Job

-- both as one value
abbrev pub plant : Copies → List Job → Plant
plant t bs = record { copies = t; jobs = bs }

-- the plant with other tables of the lower layer
abbrev pub with_copies : Plant → Copies → Plant
with_copies p t = plant t p.jobs

-- the plant with other job slots
abbrev pub with_jobs : Plant → List Job → Plant
with_jobs p bs = plant p.copies bs

-- refusal 1, of the tables: one has fewer entries than its stated size
unfoldable pub short_tables : Plant → Bool
short_tables p = short_copies p.copies or short_jobs p.jobs
