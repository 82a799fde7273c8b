-- The machine's answers to the lists that are tried, by computation.
-- The definitions of Machines.antt are opened too, so that of a wrong machine it is the answers that differ.
-- Assumes nothing.
use mathlib.Core.Path.{◌≡◌, refl, sym, ap, ◌∙◌}
use mathlib.Core.Bool.{Bool, true, false, true≢false}
use mathlib.Core.List.{List, [], ◌∷◌}
use lib.Dec.{eqb}
use borrow.Author.Tests.{eqb-true}
use Rattle.words.specs.Tests.{◌and◌}
use Rattle.words.proofs.Laws.{both_true}
use Rattle.rulebook.specs.Edges.{lines_of}
use Rattle.rulebook.specs.Run.{Machine, from_empty}
use Rattle.rulebook.proofs.Walked.{effect_walked, same_machine}
use Rattle.rulebook.proofs.Computes.{computes}
use Rattle.wrong.specs.Machines.{instead, changed_at}
use Rattle.wrong.specs.Tried.{two_jobs, two_draws, drawn_in_vain, drawn_after_crash, comes_again, own_draw, drawn_there, share_under_way, crashes, locked_there, only_share, back_before_ack, share_back, Try, Right, two_jobs_tried, two_draws_tried, drawn_in_vain_tried, drawn_after_crash_tried, comes_again_tried, own_draw_tried, drawn_there_tried, share_under_way_tried, crashes_tried, locked_there_tried, only_share_tried, back_before_ack_tried, share_back_tried, TriesRight}

-- ---- equality as a test, so that a difference is told at once
-- two lists have the same entries, as the test of entries says
unfoldable same_list : {A : Type 0} → (A → A → Bool) → List A → List A → Bool
same_list same [] [] = true
same_list same [] (y ∷ b) = false
same_list same (x ∷ a) [] = false
same_list same (x ∷ a) (y ∷ b) = same x y and same_list same a b

-- and so they are equal
same_list_lem : {A : Type 0} (same : A → A → Bool) → ((x y : A) → same x y ≡ true → x ≡ y) → (a b : List A) → same_list same a b ≡ true → a ≡ b
unfolding same_list
same_list_lem same is [] [] e = refl
same_list_lem same is [] (y ∷ b) e = absurd (true≢false (sym e))
same_list_lem same is (x ∷ a) [] e = absurd (true≢false (sym e))
same_list_lem same is (x ∷ a) (y ∷ b) e =
    let two = both_true (same x y) (same_list same a b) e in λ i. is x y two.0 i ∷ same_list_lem same is a b two.1 i

-- the machine that antt can compute gives these answers, as a test
abbrev answered : Try → Bool
answered x = same_list (same_list eqb) (lines_of (from_empty (x.change effect_walked) x.events)) x.lines

-- then the machine gives them
by_walking : (x : Try) → answered x ≡ true → Right x
by_walking x e =
    ap (λ (m : Machine). lines_of (from_empty (x.change m) x.events)) same_machine
    ∙ same_list_lem (same_list eqb) (same_list_lem eqb eqb-true) _ x.lines e

-- ---- list by list
two_jobs_lem : Right two_jobs_tried
unfolding computes instead changed_at same_list two_jobs two_jobs_tried
two_jobs_lem = by_walking two_jobs_tried refl

two_draws_lem : Right two_draws_tried
unfolding computes instead changed_at same_list two_draws two_draws_tried
two_draws_lem = by_walking two_draws_tried refl

drawn_in_vain_lem : Right drawn_in_vain_tried
unfolding computes instead changed_at same_list drawn_in_vain drawn_in_vain_tried
drawn_in_vain_lem = by_walking drawn_in_vain_tried refl

drawn_after_crash_lem : Right drawn_after_crash_tried
unfolding computes instead changed_at same_list drawn_after_crash drawn_after_crash_tried
drawn_after_crash_lem = by_walking drawn_after_crash_tried refl

comes_again_lem : Right comes_again_tried
unfolding computes instead changed_at same_list comes_again comes_again_tried
comes_again_lem = by_walking comes_again_tried refl

own_draw_lem : Right own_draw_tried
unfolding computes instead changed_at same_list own_draw own_draw_tried
own_draw_lem = by_walking own_draw_tried refl

drawn_there_lem : Right drawn_there_tried
unfolding computes instead changed_at same_list drawn_there drawn_there_tried
drawn_there_lem = by_walking drawn_there_tried refl

share_under_way_lem : Right share_under_way_tried
unfolding computes instead changed_at same_list share_under_way share_under_way_tried
share_under_way_lem = by_walking share_under_way_tried refl

crashed : Right crashes_tried
unfolding computes instead changed_at same_list crashes crashes_tried
crashed = by_walking crashes_tried refl

locked_there_lem : Right locked_there_tried
unfolding computes instead changed_at same_list locked_there locked_there_tried
locked_there_lem = by_walking locked_there_tried refl

only_share_lem : Right only_share_tried
unfolding computes instead changed_at same_list only_share only_share_tried
only_share_lem = by_walking only_share_tried refl

back_before_ack_lem : Right back_before_ack_tried
unfolding computes instead changed_at same_list back_before_ack back_before_ack_tried
back_before_ack_lem = by_walking back_before_ack_tried refl

share_back_lem : Right share_back_tried
unfolding computes instead changed_at same_list share_back share_back_tried
share_back_lem = by_walking share_back_tried refl

-- all of them
pub tries_right : TriesRight
tries_right = (
  two_jobs_lem,
  two_draws_lem,
  drawn_in_vain_lem,
  drawn_after_crash_lem,
  comes_again_lem,
  own_draw_lem,
  drawn_there_lem,
  share_under_way_lem,
  crashed,
  locked_there_lem,
  only_share_lem,
  back_before_ack_lem,
  share_back_lem,
)
