-- `copies::series::open_series` meets its contract: what `fill` writes is the row's stores. Assumes nothing.
use Prim.Native.Nat.{◌*◌}
use native.Mathlib.Omega.{arith}
use Rattle.words.specs.Tests.{non, refuse_if}
use Rattle.copies.specs.Steps.{opened}
use Rattle.copies.specs.Calls.{bad_copy, bad_opening, short_opener, open_in, open_series}
use Rattle.copies.proofs.Guards.{chain}
use Rattle.copies.proofs.Filled.{row_filled}
use Rattle.copies.proofs.series.open_series.Goals as goal

pub returns : goal.returns
unfolding open_series open_in opened bad_opening bad_copy short_opener refuse_if non
returns c ns rt rk rv gs =
    let row = c.args.series * 8 in
    let kinds = row_filled 8 c.args.kinds.now _ row _ (c.fill.ensures.after (λ y e. e)) (grind (arith, chain)) in
    let values = row_filled 8 c.args.values.now _ row c.args.first (c.fill-2.ensures.after (λ y e. e)) (grind (arith, chain)) in
    grind (arith, chain)
