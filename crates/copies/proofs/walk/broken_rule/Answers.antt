-- `broken_rule` meets its contract: a law of proofs/Passing.antt for each turn and each way out.
-- Assumes nothing.
use borrow.Author.Rules.{rules}
use Rattle.copies.proofs.Passing.{kept_stops, received_stops, step}
use Rattle.copies.proofs.walk.broken_rule.Goals as goal

pub loop-n-preserved : goal.loop-n-preserved
loop-n-preserved c = search (step, rules)

pub returns-in-Some : goal.returns-in-Some
returns-in-Some c = search kept_stops

pub returns-then-not-received_fine : goal.returns-then-not-received_fine
returns-then-not-received_fine c = search received_stops
