-- Every step from whole tables is proper: a refused one changes nothing, and an accepted one is, kind by kind.
-- Assumes nothing.
use Prim.Native.Nat.{ℕ}
use mathlib.Core.Path.{◌≡◌, refl}
use mathlib.Core.Bool.{true}
use mathlib.Core.List.{List}
use Rattle.rulebook.specs.declared.Event.{Event}
use Rattle.rulebook.specs.Tables.{Plant}
use Rattle.rulebook.specs.Whole.{whole}
use Rattle.rulebook.specs.Refusals.{refusals}
use Rattle.rulebook.specs.Steps.{accepted, effect}
use Rattle.rulebook.specs.Keeps.{FourPlaces}
use Rattle.rulebook.proofs.Judging.{judged_cases, accepted_by_kind, ◌then◌}
use Rattle.rulebook.proofs.Checked.{whole_facts, facts_whole}
use Rattle.rulebook.proofs.Admits.{Admitted, admitted}
use Rattle.serials.specs.StaysWhole.{KeepsWhole}
use Rattle.serials.proofs.Proper.{Proper, proper_same}
use Rattle.serials.proofs.CopySteps.{proper_OPEN, proper_SEND, proper_DEMOTE, proper_SHARE, proper_DROP, proper_PROMOTE, proper_GRANT, proper_ACK}
use Rattle.serials.proofs.JobSteps.{proper_BEGIN, proper_LOCKX, proper_LOCKS, proper_DRAW, proper_READ, proper_COMMIT, proper_ABORT, proper_CRASH, proper_RESTART}

module _ (p : Plant) (out : List ℕ) (four : FourPlaces p.jobs) where
  -- an accepted step, in the order of the kinds
  accepted_proper : (e : Event) → Admitted p out e → Proper p (accepted p e)
  accepted_proper =
      accepted_by_kind (λ e x. Admitted p out e → Proper p x) p
      ((λ a b c d w. proper_same w.is_sound.copies w.is_sound.jobs refl refl)
      then proper_OPEN p out
      then proper_BEGIN p out four
      then proper_LOCKX p out four
      then proper_LOCKS p out four
      then proper_DRAW p out four
      then proper_READ p out four
      then proper_COMMIT p out four
      then proper_ABORT p out four
      then proper_SEND p out
      then proper_DEMOTE p out
      then proper_SHARE p out
      then proper_DROP p out
      then proper_PROMOTE p out
      then proper_GRANT p out
      then proper_ACK p out
      then proper_CRASH p out four
      then proper_RESTART p out four
      then tt)
      (λ e w. proper_same w.is_sound.copies w.is_sound.jobs refl refl)

  -- any step from whole tables
  pub step_proper : (e : Event) → whole p ≡ true → Proper p (effect p out e)
  unfolding effect
  step_proper e w =
      let facts = whole_facts p w in
      judged_cases (Proper p) (refusals out) p e (λ a. proper_same facts.0 facts.1 refl refl)
      (λ none. accepted_proper e (admitted p out e none))

-- whole tables stay whole
pub keeps_whole : KeepsWhole effect
keeps_whole p out e four w = let x = step_proper p out four e w in facts_whole (effect p out e).plant (x.copies, x.jobs)
