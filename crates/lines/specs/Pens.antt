-- Lent bytes that are written from a position on.
-- Assumes nothing.
use Rattle.std.specs.Prelude.{ℕ, ◌+◌, ◌≤◌, ◌≡◌, List, length}
use Rattle.std.proofs.lemmas.List.Edits.{sets}
use Rattle.lines.specs.declared.printing.Pen.{Pen}

-- there is room for a text where a pen stands
abbrev pub fits : Pen → List ℕ → Type 0
fits pen text = pen.at + length text ≤ length pen.out.now

-- a text was written there, in the same lent bytes, and the pen stands after it
abbrev pub Wrote : Pen → List ℕ → Pen → Type 0
Wrote before text after =
    (after.out.ghost_name ≡ before.out.ghost_name)
    × (after.at ≡ before.at + length text)
    × (after.out.now ≡ sets before.out.now before.at text)
