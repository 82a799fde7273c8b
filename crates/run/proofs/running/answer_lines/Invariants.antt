-- What is kept of a piece is no more than a line that can still be good, and one byte. Assumes nothing.
use Rattle.std.proofs.Common.{◌≤◌}
use Rattle.desk.specs.Calls.{kept_bytes}
use Rattle.run.proofs.running.answer_lines.Given as goal

abbrev pub invariant-loop : goal.invariant-loop
invariant-loop g l = l.held ≤ kept_bytes
