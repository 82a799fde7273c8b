-- `check` meets its contract: a law for each way out. Assumes nothing.
use Rattle.std.proofs.lemmas.Result.{err_from_is_err_and}
use Rattle.machine.proofs.Checking.{finds_wrong, finds_of_jobs}
use Rattle.machine.proofs.whole.check.Goals as goal

pub returns-in_err-first_broken : goal.returns-in_err-first_broken
returns-in_err-first_broken c =
    let is = err_from_is_err_and c.from_residual.result c.from_residual.ensures.1 in
    rw (is.1, is.2) (search (finds_wrong, c.in_err-first_broken.was))

pub returns : goal.returns
returns c = search (finds_of_jobs, c.in_ok-first_broken.was, c.first_broken_job.ensures)
