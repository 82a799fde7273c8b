-- The answer line of a step shows exactly the draws that the step commits.
-- Assumes nothing.
use Prim.Native.Nat.{ℕ, ◌*◌, ◌≤◌}
use native.Mathlib.Omega.{arith}
use mathlib.Core.Path.{◌≡◌, refl, ap, ◌∙◌}
use mathlib.Core.Bool.{Bool, true, false, cond}
use mathlib.Core.List.{List, [], ◌∷◌, map}
use lib.Dec.{eqb}
use borrow.Author.Tests.{ne_eqb}
use lib.ListN.{length, take}
use lib.Seq.{sets, sets-eq, take_at}
use Rattle.words.specs.Answers.{Answer}
use Rattle.words.specs.Numbers.{lock_count, out_count}
use Rattle.jobs.specs.Draws.{Draw, shown}
use Rattle.rulebook.specs.declared.Event.{Event}
use Rattle.rulebook.specs.Tables.{Plant}
use Rattle.rulebook.specs.Events.{COMMIT, GRANT, ACK}
use Rattle.rulebook.specs.Edges.{event}
use Rattle.rulebook.specs.Refusals.{refusals}
use Rattle.rulebook.specs.Steps.{Effect, refused, outcome, do_open, do_begin, do_lockx, do_locks, do_draw, do_read, do_commit, do_abort, do_send, do_demote, do_share, do_drop, do_promote, do_crash, do_restart, accepted, effect}
use Rattle.rulebook.specs.Keeps.{Refused, FourPlaces}
use Rattle.rulebook.specs.Run.{reply_to}
use Rattle.rulebook.proofs.Judging.{EachAnswer, judged_answers, accepted_by_kind, ◌then◌, grant_cases, ack_cases}
use Rattle.rulebook.proofs.Keeps.{no_value}
use Rattle.rulebook.proofs.Admits.{Sound, admitted}
use Rattle.rulebook.proofs.Untouched.{shown_length}
use Rattle.rulebook.proofs.Sparing.{spares_step}
use Rattle.serials.specs.Draws.{draws_in}
use Rattle.serials.proofs.Tiling.{plain}

-- ---- the numbers of the output
-- the draws in what is shown of them
draws_in_shown : (ds : List Draw) → draws_in (shown ds) ≡ map plain ds
unfolding draws_in shown
draws_in_shown [] = refl
draws_in_shown (d ∷ ds) = ap (λ rest. plain d ∷ rest) (draws_in_shown ds)

-- the draws in the first places of an output that shows them: there is room for four
draws_in_output : (out : List ℕ) (ds : List Draw) → length ds ≤ lock_count → out_count ≤ length out
    → draws_in (take (3 * length ds) (sets out 0 (shown ds))) ≡ map plain ds
draws_in_output out ds few room =
    let three = shown_length ds in
    ap (λ (l : List ℕ). draws_in (take (3 * length ds) l)) (sets-eq (shown ds) out 0 (omega arith))
    ∙ ap draws_in (take_at (shown ds) _ (3 * length ds) three)
    ∙ draws_in_shown ds

-- draws of which nothing is shown are none
no_draws : (ds : List Draw) → [] ≡ map plain ds → ds ≡ []
no_draws [] e = refl
no_draws (d ∷ ds) e = absurd (omega (arith, ap length e))

-- ---- the answer line
-- no numbers, whatever the kind
none_told : (b : Bool) → draws_in (cond b [] []) ≡ []
unfolding draws_in
none_told true = refl
none_told false = refl

module _ (out : List ℕ) where
  -- it shows the draws
  unfoldable Tells : Event → Effect → Type 0
  Tells e x = draws_in (reply_to e (outcome out x)).numbers ≡ map plain x.draws

  -- that of a refusal shows none, and there is none
  tells_refused : (p : Plant) (e : Event) (a : Answer) → Refused a → Tells e (refused a p)
  unfolding Tells draws_in
  tells_refused p e a h = rw (no_value a h) (none_told (eqb e.kind COMMIT))

  -- that of an accepted step does, kind by kind: only COMMIT has draws
  tells_accepted : (p : Plant) (e : Event) → Sound p out e → length (accepted p e).draws ≤ lock_count → Tells e (accepted p e)
  unfolding Tells draws_in do_open do_begin do_lockx do_locks do_draw do_read do_commit do_abort do_send do_demote do_share do_drop do_promote do_crash do_restart
  tells_accepted p =
      accepted_by_kind (λ e x. Sound p out e → length x.draws ≤ lock_count → Tells e x) p
      ((λ a b c d w few. refl)
      then (λ a b c d w few. refl)
      then (λ a b c d w few. refl)
      then (λ a b c d w few. refl)
      then (λ a b c d w few. refl)
      then (λ a b c d w few. refl)
      then (λ a b c d w few. refl)
      then (λ a b c d w few. draws_in_output out (do_commit p (event COMMIT a b c d)).draws few w.room)
      then (λ a b c d w few. refl)
      then (λ a b c d w few. refl)
      then (λ a b c d w few. refl)
      then (λ a b c d w few. refl)
      then (λ a b c d w few. refl)
      then (λ a b c d w few. refl)
      then (λ a b c d w few. grant_cases p (event GRANT a b c d) (Tells (event GRANT a b c d)) (λ _. refl) (λ _. refl))
      then (λ a b c d w few. ack_cases p (event ACK a b c d) (Tells (event ACK a b c d)) (λ _. refl) (λ _. refl))
      then (λ a b c d w few. refl)
      then (λ a b c d w few. refl)
      then tt)
      (λ e w few. none_told (eqb e.kind COMMIT))

  -- none of the refusals is an acceptance
  pub each_refused : EachAnswer Refused (refusals out)
  each_refused = omega arith

  -- any step's answer line shows its draws
  pub tells : (p : Plant) (e : Event) → FourPlaces p.jobs
      → draws_in (reply_to e (outcome out (effect p out e))).numbers ≡ map plain (effect p out e).draws
  unfolding Tells effect
  tells p e four =
      judged_answers (λ x. length x.draws ≤ lock_count → Tells e x) Refused (refusals out) p e each_refused
      (λ a h few. tells_refused p e a h)
      (λ none. tells_accepted p e (admitted p out e none).is_sound)
      (spares_step p out four e).draws

  -- so a step of another kind than COMMIT commits none
  pub only_commit : (p : Plant) (e : Event) → FourPlaces p.jobs → (e.kind ≡ COMMIT → ⊥) → (effect p out e).draws ≡ []
  unfolding draws_in
  only_commit p e four other = no_draws (effect p out e).draws (rw (ne_eqb e.kind COMMIT other) at (tells p e four))
