-- `copies::token::other_share` meets its contract: the flag is the spec's walk so far. Assumes nothing.
use mathlib.Core.Path.{◌≡◌}
use mathlib.Core.List.{[]}
use lib.Dec.{eqb}
use Rattle.words.specs.Numbers.{share}
use Rattle.words.specs.Tests.{non, ◌and◌, some_below}
use Rattle.copies.specs.Tables.{series_in, kind}
use Rattle.copies.proofs.token.other_share.Given as goal

abbrev pub invariant-loop-n : goal.invariant-loop-n
invariant-loop-n l =
    l.some ≡ some_below l.n (λ m. non (eqb m l.station) and eqb (kind (series_in [] [] l.kinds [] [] [] [] [] [] l.series) m) share)
