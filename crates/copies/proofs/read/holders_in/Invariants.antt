-- `copies::read::holders_in` meets its contract: the set is the spec's sum so far, and below the next station's bit. Assumes nothing.
use Prim.Native.Nat.{◌*◌, ◌^◌, ◌<◌}
use mathlib.Core.Path.{◌≡◌}
use Rattle.words.specs.Tests.{sum_below, one_if}
use Rattle.copies.specs.Columns.{seen}
use Rattle.copies.specs.Tables.{series_at, held}
use Rattle.copies.proofs.read.holders_in.Given as goal

abbrev pub invariant-loop-kind : goal.invariant-loop-kind
invariant-loop-kind l =
    (l.bit ≡ 2 ^ l.kind-index) × (l.set < l.bit) × (l.set ≡ sum_below l.kind-index (λ m. one_if (held (series_at (seen l.columns) l.series) m) * 2 ^ m))
