-- `write_answer`: the room that it asks for is enough, and the line that it writes is the answer's. Assumes nothing.
use Rattle.std.proofs.Common.{arith}
use Rattle.lines.proofs.Long.{answer_long}
use Rattle.lines.proofs.printing.write_answer.Goals as goal

pub answer-requires : goal.answer-requires
answer-requires c =
    omega (arith, answer_long c.args.number _ c.value.result c.args.answer c.args.row.now c.min.result c.code.ensures (omega arith) (omega arith) (λ i. omega (arith, c.type_inv.row i)) (omega arith))

pub returns-clause-ends_by : goal.returns-clause-ends_by
returns-clause-ends_by c =
    omega (
      arith,
      c.answer.ensures.1,
      answer_long c.args.number _ c.value.result c.args.answer c.args.row.now c.min.result c.code.ensures (omega arith) (omega arith) (λ i. omega (arith, c.type_inv.row i)) (omega arith),
    )
