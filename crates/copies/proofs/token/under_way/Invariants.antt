-- `copies::token::under_way` meets its contract: the flag is the spec's walk so far. Assumes nothing.
use mathlib.Core.Path.{◌≡◌}
use mathlib.Core.List.{[]}
use Rattle.words.specs.Tests.{some_below}
use Rattle.copies.specs.Tables.{series_in, undelivered}
use Rattle.copies.proofs.token.under_way.Given as goal

abbrev pub invariant-loop-n : goal.invariant-loop-n
invariant-loop-n l = l.some ≡ some_below l.n (undelivered (series_in [] [] [] [] l.sent l.relto l.relkind [] l.received l.series))
