-- `read_front`: at a byte that is no digit, the number ends. Assumes nothing.
use Rattle.digits.proofs.Laws.{turn_ends}
use Rattle.digits.proofs.reading.read_front.Goals as goal

pub returns-then-not-is_ascii_digit : goal.returns-then-not-is_ascii_digit
returns-then-not-is_ascii_digit c = search turn_ends
