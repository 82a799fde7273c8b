-- Columns that stay the same ones through a loop. Assumes nothing.
use mathlib.Core.Path.{refl, ◌∙◌}
use mathlib.Core.List.{List}
use Prim.Native.Nat.{ℕ}
use Rattle.std.specs.Borrow.{MutBor}
use Rattle.copies.specs.declared.Columns.{Columns}
use Rattle.copies.specs.Columns.{SameColumns}

-- before the first turn
pub same_first : (c : Columns (MutBor (List ℕ))) → SameColumns c c
same_first c = (refl, refl, refl, refl, refl, refl, refl, refl, refl, refl)

-- through one turn more
pub same_then : (a b c : Columns (MutBor (List ℕ))) → SameColumns a b → SameColumns b c → SameColumns a c
same_then a b c p q = (q.0 ∙ p.0, q.1 ∙ p.1, q.2 ∙ p.2, q.3 ∙ p.3, q.4 ∙ p.4, q.5 ∙ p.5, q.6 ∙ p.6, q.7 ∙ p.7, q.8 ∙ p.8, q.9 ∙ p.9)
