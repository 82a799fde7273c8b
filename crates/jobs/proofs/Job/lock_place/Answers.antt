-- `jobs::Job::lock_place` meets its contract: `position` finds the least place that locks the series. Assumes nothing.
use Rattle.std.proofs.Common.{rules, tests, eqb}
use Rattle.std.proofs.lemmas.Iterator.{YieldsList-from_slice}
use Rattle.std.proofs.lemmas.Iterator.Search.{position_from_yields_List}
use Rattle.jobs.specs.declared.Lock.{Lock}
use Rattle.words.specs.Tests.{non, ◌and◌}
use Rattle.jobs.specs.Job.{lock_place}
use Rattle.jobs.proofs.Places.{found, length_mapped}
use Rattle.jobs.proofs.Job.lock_place.Goals as goal

pub returns : goal.returns
unfolding lock_place
returns c =
    found (λ (l : Lock). non (eqb l.mode 0) and eqb l.series c.args.series) _ _ (search length_mapped)
    (position_from_yields_List _ _ _ _ c.position.ensures.ran (YieldsList-from_slice c.args.self.locks cc) (λ x b q k. search (rules, tests)))
