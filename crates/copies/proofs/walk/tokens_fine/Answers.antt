-- `tokens_fine` meets its contract: after n turns, the tokens of the stations below n are counted, at most two a station.
-- Assumes nothing.
use native.Mathlib.Omega.{arith}
use Rattle.copies.proofs.Tokens.{tally_next}
use Rattle.copies.proofs.walk.tokens_fine.Goals as goal

pub loop-n-preserved : goal.loop-n-preserved
loop-n-preserved c = (search tally_next, omega arith, omega arith)
