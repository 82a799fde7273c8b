-- The edges have the answers that 01 names, by computation.
-- Assumes nothing.
use mathlib.Core.Path.{◌≡◌, refl, ap, ◌∙◌}
use mathlib.Core.List.{List, map}
use Rattle.rulebook.specs.declared.Event.{Event}
use Rattle.rulebook.specs.Run.{Run, from_empty}
use Rattle.rulebook.specs.Edges.{lines_of, worked_run, edges, EdgesRight}
use Rattle.rulebook.proofs.Walked.{effect_walked, run_of_lem}
use Rattle.rulebook.proofs.Computes.{computes}

computed : map (λ x. lines_of (from_empty effect_walked x.events)) edges ≡ map (λ x. x.answers) edges
unfolding computes worked_run edges
computed = refl

pub edges_right : EdgesRight
unfolding EdgesRight
edges_right = ap (λ (run : List Event → Run). map (λ x. lines_of (run x.events)) edges) (λ x es. run_of_lem es x) ∙ computed
