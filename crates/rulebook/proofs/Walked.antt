-- A run that antt can compute: its whole check passes each entry of the tables once. It gives what the run of the rulebook gives.
-- Assumes nothing.
use Prim.Native.Nat.{ℕ}
use mathlib.Core.Path.{◌≡◌, ap}
use mathlib.Core.Bool.{Bool}
use mathlib.Core.List.{List, ◌∷◌}
use Rattle.words.specs.declared.Refusal.TheVariants.{Short, NotWhole}
use Rattle.words.specs.Numbers.{series_count}
use Rattle.words.specs.Tests.{non, ◌and◌}
use Rattle.copies.specs.Whole.{W1_series, W2_series, W3_series, W5_series, W1_marks, W1_copies, W2_copies, W3_copies, W5_copies}
use Rattle.copies.proofs.Walked.{walked, every_walked}
use Rattle.jobs.specs.Whole.{W1_jobs, W5_jobs}
use Rattle.rulebook.specs.declared.Event.{Event}
use Rattle.rulebook.specs.Tables.{Plant}
use Rattle.rulebook.specs.Whole.{W1, W2, W3, W4, W5, whole}
use Rattle.rulebook.specs.Refusals.{SHORT, NOT_WHOLE, says, event_refusals}
use Rattle.rulebook.specs.Steps.{Effect, judged, effect}
use Rattle.rulebook.specs.Run.{Machine, from_empty, run_of}

-- ---- the rules, and the whole check
unfoldable pub W1_walked : Plant → Bool
W1_walked p = walked series_count W1_series p.copies and W1_marks p.copies.up and W1_jobs p.jobs

unfoldable pub W2_walked : Plant → Bool
W2_walked p = walked series_count W2_series p.copies

unfoldable pub W3_walked : Plant → Bool
W3_walked p = walked series_count W3_series p.copies

unfoldable pub W5_walked : Plant → Bool
W5_walked p = walked series_count W5_series p.copies and W5_jobs p.jobs

pub W1_walked_lem : (p : Plant) → W1 p ≡ W1_walked p
unfolding W1 W1_copies W1_walked
W1_walked_lem p = rw every_walked

pub W2_walked_lem : (p : Plant) → W2 p ≡ W2_walked p
unfolding W2 W2_copies W2_walked
W2_walked_lem p = rw every_walked

pub W3_walked_lem : (p : Plant) → W3 p ≡ W3_walked p
unfolding W3 W3_copies W3_walked
W3_walked_lem p = rw every_walked

pub W5_walked_lem : (p : Plant) → W5 p ≡ W5_walked p
unfolding W5 W5_copies W5_walked
W5_walked_lem p = rw every_walked

unfoldable pub whole_walked : Plant → Bool
whole_walked p = W1_walked p and W2_walked p and W3_walked p and W4 p and W5_walked p

pub whole_walked_lem : (p : Plant) → whole p ≡ whole_walked p
unfolding whole whole_walked
whole_walked_lem p = rw (W1_walked_lem, W2_walked_lem, W3_walked_lem, W5_walked_lem)

-- ---- a step, and a run
unfoldable pub effect_walked : Plant → List ℕ → Event → Effect
effect_walked p out e = judged (says Short (SHORT out) ∷ says NotWhole (λ q _. non (whole_walked q)) ∷ event_refusals) p e

pub effect_walked_lem : (p : Plant) (out : List ℕ) (e : Event) → effect p out e ≡ effect_walked p out e
unfolding effect effect_walked NOT_WHOLE
effect_walked_lem p out e =
    ap (λ (given : Plant → Event → Bool). judged (says Short (SHORT out) ∷ says NotWhole given ∷ event_refusals) p e)
    (λ x q _. non (whole_walked_lem q x))

pub same_machine : ◌≡◌ {A = Machine} effect effect_walked
same_machine = λ x p out e. effect_walked_lem p out e x

pub run_of_lem : (es : List Event) → run_of es ≡ from_empty effect_walked es
unfolding run_of
run_of_lem es = ap (λ (m : Machine). from_empty m es) same_machine
