-- Each change of the busy plant breaks one rule, by computation.
-- Assumes nothing.
use mathlib.Core.Path.{◌≡◌, refl, ap, ◌∙◌}
use mathlib.Core.List.{List, ◌++◌, map}
use Rattle.words.specs.declared.Rule.{Rule}
use Rattle.words.specs.declared.Rule.TheVariants.{W1, W2, W3, W4, W5}
use Rattle.rulebook.specs.Tables.{Plant}
use Rattle.rulebook.specs.Whole as tests
use Rattle.rulebook.specs.Damage.{unless, broken_rules, after, busy, damages, DamageTold}
use Rattle.rulebook.proofs.Walked.{W1_walked, W2_walked, W3_walked, W5_walked, W1_walked_lem, W2_walked_lem, W3_walked_lem, W5_walked_lem}
use Rattle.rulebook.proofs.Computes.{computes}

broken_walked : Plant → List Rule
broken_walked p =
    unless (W1_walked p) W1 ++ unless (W2_walked p) W2 ++ unless (W3_walked p) W3 ++ unless (tests.W4 p) W4 ++ unless (W5_walked p) W5

broken_walked_lem : (p : Plant) → broken_rules p ≡ broken_walked p
unfolding broken_rules broken_walked
broken_walked_lem p = rw (W1_walked_lem, W2_walked_lem, W3_walked_lem, W5_walked_lem)

computed : map (λ d. broken_walked (d.change busy)) damages ≡ map (λ d. d.rules) damages
unfolding computes after busy damages broken_walked
computed = refl

pub damage_told : DamageTold
unfolding DamageTold
damage_told = ap (λ (broken : Plant → List Rule). map (λ d. broken (d.change busy)) damages) (λ x p. broken_walked_lem p x) ∙ computed
