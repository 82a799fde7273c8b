-- In whole tables the step without the check is the step of the rulebook. Assumes nothing.
use Rattle.std.specs.Prelude.{Err}
use Prim.Native.Nat.{ℕ, zero, suc, ◌+◌, ◌≤◌, ◌<◌}
use native.Mathlib.Decide.{ℕ_discrete}
use native.Mathlib.Omega.{arith}
use mathlib.Core.Path.{◌≡◌, refl, sym, subst, ◌∙◌}
use mathlib.Core.Logic.{dite}
use mathlib.Core.Bool.{Bool, true, false}
use mathlib.Core.List.{List}
use Rattle.words.specs.declared.Refusal.TheVariants.{BadEvent}
use Rattle.words.specs.Tests.{non, refuse_if}
use Rattle.jobs.specs.Draws.{shown}
use Rattle.rulebook.specs.declared.Event.{Event}
use Rattle.rulebook.specs.Tables.{Plant}
use Rattle.rulebook.specs.Whole.{whole}
use Rattle.rulebook.specs.Edges.{event}
use Rattle.rulebook.specs.Refusals.{SHORT, NOT_WHOLE, BAD_EVENT}
use Rattle.rulebook.specs.Steps.{Outcome, judged, effect, step_of}
use Rattle.rulebook.specs.Events.{OPEN}
use Rattle.rulebook.proofs.Judging.{◌then◌}
use Rattle.rulebook.proofs.Admits.{Sound, sound}
use Rattle.events.specs.Unchecked.{copy_event, job_event, job_turn, called, unchecked_step, SameInWhole}
use Rattle.events.proofs.Judged.{judges, after3, past3}
use Rattle.events.proofs.CopyEvents.{whole_OPEN, whole_SEND, whole_DEMOTE, whole_SHARE, whole_DROP, whole_PROMOTE, whole_GRANT, whole_ACK, whole_RESTART}
use Rattle.events.proofs.JobEvents.{whole_BEGIN, whole_LOCKX, whole_LOCKS, whole_DRAW, whole_READ, whole_COMMIT, whole_ABORT, whole_CRASH}

-- ---- a statement of every kind
-- of n kinds from k on
abbrev pub Kinds : (P : ℕ → Type 0) (k n : ℕ) → Type 0
Kinds P k zero = Unit {0}
Kinds P k (suc n) = P k × Kinds P (suc k) n

-- holds of each of them
pub of_kind : (P : ℕ → Type 0) (k n i : ℕ) → Kinds P k n → k ≤ i → i < k + n → P i
of_kind P k zero i all l m = absurd (omega arith)
of_kind P k (suc n) i all l m =
    dite (ℕ_discrete i k) (λ e. subst P (sym e) all.0) (λ ne. of_kind P (suc k) n i all.1 (omega (arith, ne)) (omega arith))

module _ (p : Plant) (out : List ℕ) where
  -- refused with 3
  abbrev bad : Outcome
  bad = record { answer = Err BadEvent; plant = p; out = out }

  -- at kind k it is the rulebook's step
  abbrev SameAt : ℕ → Type 0
  SameAt k = (a b c d : ℕ) → Sound p out (event k a b c d) → called p out (event k a b c d) ≡ after3 p out (event k a b c d)

  -- so it is at each of the seventeen
  same_kinds : Kinds SameAt OPEN 17
  unfolding copy_event job_event job_turn judges
  same_kinds =
      whole_OPEN p out
      then whole_BEGIN p out
      then whole_LOCKX p out
      then whole_LOCKS p out
      then whole_DRAW p out
      then whole_READ p out
      then whole_COMMIT p out
      then whole_ABORT p out
      then whole_SEND p out
      then whole_DEMOTE p out
      then whole_SHARE p out
      then whole_DROP p out
      then whole_PROMOTE p out
      then whole_GRANT p out
      then whole_ACK p out
      then whole_CRASH p out
      then whole_RESTART p out
      then tt

  -- and so of every event that refusals 1 to 3 let pass
  same_sound : (e : Event) → Sound p out e → called p out e ≡ after3 p out e
  same_sound e w = of_kind SameAt OPEN 17 e.kind same_kinds w.known.0 (let last = w.known.1 in omega arith) e.a e.b e.c e.d w

  -- whole tables aren't refused with 2
  not_whole : (e : Event) → whole p ≡ true → NOT_WHOLE p e ≡ false
  unfolding NOT_WHOLE non
  not_whole e all = rw all

  -- BAD EVENT comes after SHORT and NOT WHOLE
  bad_step : (e : Event) → SHORT out p e ≡ false → NOT_WHOLE p e ≡ false → BAD_EVENT p e ≡ true → bad ≡ step_of p out e
  unfolding step_of effect judged shown
  bad_step e short all e3 = rw (short, all, e3)

-- given whole tables, the same outcome
pub unchecked_whole : SameInWhole
unfolding unchecked_step refuse_if
unchecked_whole p out e short all = by_test (BAD_EVENT p e) refl
  where
    by_test : (b : Bool) → b ≡ BAD_EVENT p e → unchecked_step p out e ≡ step_of p out e
    by_test true e3 = rw (← e3) (bad_step p out e short (not_whole p out e all) (sym e3))
    by_test false good =
        let lent = not_whole p out e all in
        rw (← good) (same_sound p out e (sound p out e short lent (sym good)) ∙ past3 p out e short lent (sym good))
