-- `closed_fine` meets its contract: its rows together are W5.
-- Assumes nothing.
use Rattle.copies.proofs.ZeroRows.{closed_parts}
use Rattle.copies.proofs.walk.closed_fine.Goals as goal

pub returns : goal.returns
returns c = search closed_parts
