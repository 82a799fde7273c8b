-- `holders_in` meets its contract: a law for each way out. Assumes nothing.
use Rattle.copies.specs.Columns.{seen}
use Rattle.machine.proofs.Held.{there_bad, there_closed, there_held}
use Rattle.machine.proofs.holding.holders_in.Goals as goal

pub returns-then-series-ge-SERIES : goal.returns-then-series-ge-SERIES
returns-then-series-ge-SERIES c = search there_bad

pub returns-then-not-is_open : goal.returns-then-not-is_open
returns-then-not-is_open c = let t = seen c.args.columns.now in search (there_closed t)

pub returns : goal.returns
returns c = let t = seen c.args.columns.now in search (there_held t)
