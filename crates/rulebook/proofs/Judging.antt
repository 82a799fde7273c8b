-- How a step is judged: by the first refusal given or, where none is, by the accepted step of the event's kind.
-- Assumes nothing.
use Prim.Native.Nat.{ℕ, zero, suc}
use mathlib.Core.Path.{◌≡◌, refl}
use mathlib.Core.Bool.{Bool, true, false, cond}
use mathlib.Core.List.{List, [], ◌∷◌}
use lib.ListN.{get_or}
use Rattle.words.specs.Answers.{Answer}
use Rattle.copies.specs.Steps.{arrived, deleted, is_repeat, matches}
use Rattle.rulebook.specs.declared.Event.{Event}
use Rattle.rulebook.specs.Tables.{Plant, with_copies}
use Rattle.rulebook.specs.Events.{a_series, a_from, a_to, a_number, the, the_series}
use Rattle.rulebook.specs.Edges.{event}
use Rattle.rulebook.specs.Refusals.{Case}
use Rattle.rulebook.specs.Steps.{Effect, done, refused, do_grant, do_ack, nothing, accepted_steps, accepted, judged}

infixr 10 ◌then◌
-- ---- one of two
-- what is shown of each where a test chooses it is shown of the one that it chooses
pub cond_cases : {A : Type 0} (P : A → Type 0) (b : Bool) (x y : A) → (b ≡ true → P x) → (b ≡ false → P y) → P (cond b x y)
cond_cases P true x y f g = f refl
cond_cases P false x y f g = g refl

-- ---- the refusals
-- none of them is given
abbrev pub NoneGiven : List Case → Plant → Event → Type 0
NoneGiven [] p e = Unit {0}
NoneGiven (r ∷ rs) p e = (r.given p e ≡ false) × NoneGiven rs p e

-- where none of the refusals is given, an event has its accepted step
pub judged_accepted : (rs : List Case) (p : Plant) (e : Event) → NoneGiven rs p e → judged rs p e ≡ accepted p e
unfolding judged
judged_accepted [] p e none = refl
judged_accepted (r ∷ rs) p e none = rw none.0 (judged_accepted rs p e none.1)

-- a statement of each answer that they give
abbrev pub EachAnswer : (Q : Answer → Type 0) → List Case → Type 0
EachAnswer Q [] = Unit {0}
EachAnswer Q (r ∷ rs) = Q r.answer × EachAnswer Q rs

-- what is shown of a refusal with each of these answers, and of the accepted step where none is given, is shown of what is judged
pub judged_answers : (P : Effect → Type 0) (Q : Answer → Type 0) (rs : List Case) (p : Plant) (e : Event)
    → EachAnswer Q rs
    → ((a : Answer) → Q a → P (refused a p))
    → (NoneGiven rs p e → P (accepted p e))
    → P (judged rs p e)
unfolding judged
judged_answers P Q [] p e each stop go = go tt
judged_answers P Q (r ∷ rs) p e each stop go =
    cond_cases P (r.given p e) _ _ (λ h. stop r.answer each.0)
    (λ h. judged_answers P Q rs p e each.1 stop (λ more. go (h, more)))

-- nothing needs to be known of the answers where it is shown of every refusal
pub judged_cases : (P : Effect → Type 0) (rs : List Case) (p : Plant) (e : Event)
    → ((a : Answer) → P (refused a p))
    → (NoneGiven rs p e → P (accepted p e))
    → P (judged rs p e)
judged_cases P rs p e stop go = judged_answers P (λ a. Unit {0}) rs p e (any rs) (λ a _. stop a) go
  where
    any : (rs : List Case) → EachAnswer (λ a. Unit {0}) rs
    any [] = tt
    any (r ∷ rs) = (tt, any rs)

-- ---- the kinds
-- a statement of each accepted step of a list, at its own kind
abbrev pub EachKind : (P : ℕ → (Plant → Event → Effect) → Type 0) → List (Plant → Event → Effect) → Type 0
EachKind P [] = Unit {0}
EachKind P (f ∷ fs) = P 0 f × EachKind (λ k. P (suc k)) fs

-- it holds of the step of any kind, where it holds of none too
pub each_kind : (P : ℕ → (Plant → Event → Effect) → Type 0) (fs : List (Plant → Event → Effect)) → EachKind P fs → ((k : ℕ) → P k nothing)
    → (k : ℕ) → P k (get_or fs k nothing)
each_kind P [] all none k = none k
each_kind P (f ∷ fs) all none zero = all.0
each_kind P (f ∷ fs) all none (suc k) = each_kind (λ i. P (suc i)) fs all.1 (λ i. none (suc i)) k

-- a statement of an event and its accepted step, of the events of one kind
abbrev pub AtKind : (P : Event → Effect → Type 0) → Plant → ℕ → (Plant → Event → Effect) → Type 0
AtKind P p k step = (a b c d : ℕ) → P (event k a b c d) (step p (event k a b c d))

-- what is shown kind by kind holds of every event
pub accepted_by_kind : (P : Event → Effect → Type 0) (p : Plant) → EachKind (AtKind P p) accepted_steps → ((e : Event) → P e (nothing p e))
    → (e : Event) → P e (accepted p e)
unfolding accepted
accepted_by_kind P p all none e =
    each_kind (AtKind P p) accepted_steps all (λ k a b c d. none (event k a b c d)) e.kind e.a e.b e.c e.d

-- one kind's proof, and those of the kinds after it: `x then y then tt` is a proof of `EachKind`
abbrev pub ◌then◌ : {A B : Type 0} → A → B → A × B
a then b = (a, b)

module _ (p : Plant) (e : Event) where
  -- the GRANT is a repeat
  abbrev repeats : Bool
  repeats = is_repeat (the_series p e) (the a_from e) (the a_to e) (the a_number e)

  -- the ACK is of the standing Release
  abbrev standing : Bool
  standing = matches (the_series p e) (the a_from e) (the a_to e) (the a_number e)

  -- GRANT: nothing, or the transfer arrives
  pub grant_cases : (P : Effect → Type 0) → (repeats ≡ true → P (done 0 p))
      → (repeats ≡ false → P (done 1 (with_copies p (arrived p.copies (the a_series e) (the a_from e) (the a_to e) (the a_number e)))))
      → P (do_grant p e)
  unfolding do_grant
  grant_cases P same new = cond_cases P repeats _ _ same new

  -- ACK: the Release is deleted, or nothing
  pub ack_cases : (P : Effect → Type 0) → (standing ≡ true → P (done 1 (with_copies p (deleted p.copies (the a_series e) (the a_from e)))))
      → (standing ≡ false → P (done 0 p))
      → P (do_ack p e)
  unfolding do_ack
  ack_cases P gone same = cond_cases P standing _ _ gone same
