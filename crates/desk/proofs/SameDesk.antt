-- A desk whose lent parts stay the same ones. Assumes nothing.
use mathlib.Core.Path.{refl, ◌∙◌}
use Rattle.copies.proofs.SameColumns.{same_first, same_then}
use Rattle.desk.specs.declared.OpenDesk.{OpenDesk}
use Rattle.desk.specs.Desk.{SameDesk}

-- at first
pub desk_first : (d : OpenDesk) → SameDesk d d
desk_first d = (same_first d.columns, refl)

-- through one line more
pub desk_then : (a b c : OpenDesk) → SameDesk a b → SameDesk b c → SameDesk a c
desk_then a b c p q = (same_then a.columns b.columns c.columns p.0 q.0, q.1 ∙ p.1)
