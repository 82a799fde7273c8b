-- `jobs::committing::commit` meets its contract: what is stored, in the tables of which two columns are lent. Assumes nothing.
use native.Mathlib.Omega.{arith}
use Rattle.words.specs.Tests.{non, refuse_if}
use Rattle.jobs.specs.Calls.{commit, commit_in}
use Rattle.jobs.proofs.Stored.{outcomes}
use Rattle.jobs.proofs.committing.commit.Goals as goal

pub returns : goal.returns
unfolding commit commit_in refuse_if non
returns c fs ks ns rt rk rv gs us bs same =
    let left = c.store_all-count.ensures.leaves fs ks ns rt rk rv gs us in
    grind (arith, outcomes)
