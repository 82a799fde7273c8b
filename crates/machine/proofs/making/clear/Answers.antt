-- `machine::making::clear` meets its contract: short columns are its one test, and each column is `fill`'s. Assumes nothing.
use Rattle.words.specs.Tests.{◌or◌}
use Rattle.copies.specs.Tables.{short_copies}
use Rattle.machine.proofs.Emptied.{clear_short, clear_done}
use Rattle.machine.proofs.making.clear.Goals as goal

pub returns-then-columns-clause-leaves : goal.returns-then-columns-clause-leaves
unfolding short_copies ◌or◌
returns-then-columns-clause-leaves c = search clear_short

pub returns-clause-leaves : goal.returns-clause-leaves
unfolding short_copies ◌or◌
returns-clause-leaves c =
    clear_done _ c.if-columns.false
    c.fill.ensures c.fill-2.ensures c.fill-3.ensures c.fill-4.ensures c.fill-5.ensures
    c.fill-6.ensures c.fill-7.ensures c.fill-8.ensures c.fill-9.ensures c.fill-10.ensures
