-- `jobs::Job::new_place` meets its contract: `position` finds the least unused place. Assumes nothing.
use Rattle.std.proofs.Common.{rules, tests, eqb}
use Rattle.std.proofs.lemmas.Iterator.{YieldsList-from_slice}
use Rattle.std.proofs.lemmas.Iterator.Search.{position_from_yields_List}
use Rattle.jobs.specs.declared.Lock.{Lock}
use Rattle.words.specs.Tests.{non}
use Rattle.jobs.specs.Job.{new_place}
use Rattle.jobs.proofs.Places.{found, length_mapped}
use Rattle.jobs.proofs.Job.new_place.Goals as goal

pub returns : goal.returns
unfolding new_place non
returns c =
    found (λ (l : Lock). non (non (eqb l.mode 0))) _ _ (search length_mapped)
    (position_from_yields_List _ _ _ _ c.position.ensures.ran (YieldsList-from_slice c.args.self.locks cc) (λ x b q k. search (rules, tests)))
