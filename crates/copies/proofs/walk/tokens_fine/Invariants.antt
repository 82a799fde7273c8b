-- `tokens_fine` meets its contract: after n turns, the tokens of the stations below n are counted, at most two a station.
-- Assumes nothing.
use Prim.Native.Nat.{◌≤◌, ◌*◌}
use mathlib.Core.Path.{◌≡◌}
use Rattle.copies.specs.Tally.{tally}
use Rattle.copies.specs.Tables.{series_at}
use Rattle.copies.specs.Columns.{seen}
use Rattle.copies.proofs.walk.tokens_fine.Given as goal

abbrev pub invariant-loop-n : goal.invariant-loop-n
invariant-loop-n l =
    (l.t ≡ tally (series_at (seen l.columns) l.s) l.n) × (l.t.exclusives ≤ 2 * l.n) × (l.t.shares ≤ 2 * l.n)
