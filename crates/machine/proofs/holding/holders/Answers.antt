-- `holders` meets its contract: it goes by what the check finds, a law for each. Assumes nothing.
use Rattle.std.specs.Prelude.{Err}
use mathlib.Core.Path.{ap, ◌∙◌}
use Rattle.words.specs.declared.Refusal.{Refusal}
use Rattle.rulebook.specs.Around.{no_holders}
use Rattle.machine.proofs.Held.{whole_long, holders_wrong, holders_whole}
use Rattle.machine.proofs.holding.holders.Goals as goal

pub holders_in-requires : goal.holders_in-requires
holders_in-requires c = whole_long _ _ _ c.check.ensures c.in-Ok.is

pub returns-in-Err : goal.returns-in-Err
returns-in-Err c = holders_wrong _ _ _ c.check.ensures _ _ _ c.in-Err.is (c.no_holders.ensures ∙ ap (λ (r : Refusal). no_holders (Err r)) c.from.ensures)

pub returns-in-Ok : goal.returns-in-Ok
returns-in-Ok c = holders_whole _ _ _ c.check.ensures _ _ c.in-Ok.is c.holders_in.ensures
