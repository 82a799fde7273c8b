-- `copies::station::held_count` meets its contract: the count is the spec's sum so far, and at most one a series. Assumes nothing.
use Prim.Native.Nat.{◌≤◌}
use mathlib.Core.Path.{◌≡◌}
use mathlib.Core.List.{[]}
use Rattle.words.specs.Tests.{count_below}
use Rattle.copies.specs.Tables.{series_in, held}
use Rattle.copies.proofs.station.held_count.Given as goal

abbrev pub invariant-loop-s : goal.invariant-loop-s
invariant-loop-s l = (l.count ≤ l.s) × (l.count ≡ count_below l.s (λ s. held (series_in [] [] l.kinds [] [] [] [] [] [] s) l.station))
