-- `read_front`: the digits that were passed, and what they make, are those of the text. Assumes nothing.
use Rattle.std.proofs.Common.{◌≡◌, ◌+◌, ◌<◌, ◌≤◌, ◌^◌, drop}
use Rattle.digits.specs.Reading.{most_digits, digit_count, digit_value}
use Rattle.digits.proofs.reading.read_front.Given as goal

abbrev pub invariant-loop-i : goal.invariant-loop-i
invariant-loop-i l =
    (l.i ≤ most_digits) × (l.value < 10 ^ l.i) × (digit_count l.text ≡ l.i + digit_count (drop l.i l.text))
    × (digit_value 0 l.text ≡ digit_value l.value (drop l.i l.text))
