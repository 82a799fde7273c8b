-- `first_broken` meets its contract: tables that aren't short have their sizes.
-- Assumes nothing.
use Rattle.copies.proofs.Findings.{found_long}
use Rattle.copies.proofs.walk.first_broken.Goals as goal

pub broken_rule-requires : goal.broken_rule-requires
broken_rule-requires c = search found_long

pub marks_fine-requires : goal.marks_fine-requires
marks_fine-requires c = (found_long _ _ c.is_short.ensures c.if-is_short.false).up
