-- The columns that a caller lends, as the layer's tables.
-- Assumes nothing.
use Rattle.std.specs.Prelude.{ℕ, ◌≡◌, List}
use Rattle.std.specs.Borrow.{Bor, MutBor}
use Rattle.copies.specs.declared.Columns.{Columns}
use Rattle.copies.specs.Tables.{Copies, tables}

-- columns lent for changes, as tables
abbrev pub lent : Columns (MutBor (List ℕ)) → Copies
lent c =
    tables c.firsts.now c.lasts.now c.kinds.now c.values.now c.sent.now c.relto.now c.relkind.now c.relvalue.now c.received.now c.up.now

-- columns that are read, as tables
abbrev pub seen : Columns (Bor (List ℕ)) → Copies
seen c =
    tables c.firsts.now c.lasts.now c.kinds.now c.values.now c.sent.now c.relto.now c.relkind.now c.relvalue.now c.received.now c.up.now

-- they are still the columns that were lent: none was put in the place of another
abbrev pub SameColumns : Columns (MutBor (List ℕ)) → Columns (MutBor (List ℕ)) → Type 0
SameColumns before after =
    (after.firsts.ghost_name ≡ before.firsts.ghost_name)
    × (after.lasts.ghost_name ≡ before.lasts.ghost_name)
    × (after.kinds.ghost_name ≡ before.kinds.ghost_name)
    × (after.values.ghost_name ≡ before.values.ghost_name)
    × (after.sent.ghost_name ≡ before.sent.ghost_name)
    × (after.relto.ghost_name ≡ before.relto.ghost_name)
    × (after.relkind.ghost_name ≡ before.relkind.ghost_name)
    × (after.relvalue.ghost_name ≡ before.relvalue.ghost_name)
    × (after.received.ghost_name ≡ before.received.ghost_name)
    × (after.up.ghost_name ≡ before.up.ghost_name)
