-- A call's refusals beside the rulebook's: where the tests are the same, so are the outcomes. Assumes nothing.
use Rattle.std.specs.Prelude.{Err}
use Prim.Native.Nat.{ℕ}
use mathlib.Core.Path.{◌≡◌, refl}
use mathlib.Core.Bool.{Bool, true, false, cond}
use mathlib.Core.List.{List}
use lib.ListN.{drop}
use Rattle.words.specs.declared.Refusal.{Refusal}
use Rattle.words.specs.Tests.{◌or◌, refuse_if}
use Rattle.jobs.specs.Draws.{shown}
use Rattle.rulebook.specs.declared.Event.{Event}
use Rattle.rulebook.specs.Tables.{Plant}
use Rattle.rulebook.specs.Refusals.{refusals, SHORT, NOT_WHOLE, BAD_EVENT, TAKEN, NONE, DOWN, UP, HELD, FULL, COPY, LOCKED, NO_LOCK, DRAWN, RANGE, WAIT, SPENT, OTHERS, NO_MESSAGE}
use Rattle.rulebook.specs.Steps.{Effect, Outcome, outcome, refused, judged, accepted, effect, step_of}

-- ---- one refusal
-- How the result of a call is seen: what it leaves of a plant and an output, and a refusal, which leaves both as they stood.
pub record Seen (A : Type 0) (p : Plant) (out : List ℕ) : Type 0 where
  pub leaves : A → Outcome
  pub refusal : Refusal → A
  pub keeps : (r : Refusal) → leaves (refusal r) ≡ outcome out (refused (Err r) p)

module _ {A : Type 0} {p : Plant} {out : List ℕ} (s : Seen A p out) where
  -- a call's refusal is the rulebook's, by a test that comes to the same, and what follows it is what follows there
  pub alike : (a : Refusal) (b b' : Bool) (y : A) (v : Effect) → b ≡ b' → (b ≡ false → s.leaves y ≡ outcome out v)
      → s.leaves (refuse_if b (s.refusal a) y) ≡ outcome out (cond b' (refused (Err a) p) v)
  unfolding refuse_if
  alike a true b' y v e k = rw (← e) (s.keeps a)
  alike a false b' y v e k = rw (← e) (k refl)

  -- by the same test
  pub same : (a : Refusal) (b : Bool) (y : A) (v : Effect) → (b ≡ false → s.leaves y ≡ outcome out v)
      → s.leaves (refuse_if b (s.refusal a) y) ≡ outcome out (cond b (refused (Err a) p) v)
  same a b y v k = alike a b b y v refl k

  -- a call's refusal that is not given, and that the rulebook doesn't ask there
  pub pass : (a : Refusal) (b : Bool) (y : A) (o : Outcome) → b ≡ false → s.leaves y ≡ o → s.leaves (refuse_if b (s.refusal a) y) ≡ o
  unfolding refuse_if
  pass a b y o e k = rw e k

  -- an accepted step that has two cases
  pub either : (b : Bool) (x y : A) (u v : Effect) → s.leaves x ≡ outcome out u → s.leaves y ≡ outcome out v
      → s.leaves (cond b x y) ≡ outcome out (cond b u v)
  either true x y u v h k = h
  either false x y u v h k = k

-- ---- all refusals
-- what a refusal or an accepted step computes through at a given kind
unfoldable pub judges : Unit {0}
unfolding judged shown accepted TAKEN NONE DOWN UP HELD FULL COPY LOCKED NO_LOCK DRAWN RANGE WAIT SPENT OTHERS NO_MESSAGE ◌or◌
judges = tt

-- refusals 4 to 18, and the accepted step
abbrev pub after3 : Plant → List ℕ → Event → Outcome
after3 p out e = outcome out (judged (drop 3 (refusals out)) p e)

-- where refusals 1 to 3 are not given, the step is what follows them
pub past3 : (p : Plant) (out : List ℕ) (e : Event) → SHORT out p e ≡ false → NOT_WHOLE p e ≡ false → BAD_EVENT p e ≡ false → after3 p out e ≡ step_of p out e
unfolding step_of effect judged
past3 p out e short notWhole bad = rw (short, notWhole, bad)
