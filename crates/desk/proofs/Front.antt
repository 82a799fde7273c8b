-- Of a line that has not ended, the bytes that are kept tell all that its answer goes by. Assumes nothing.
use Prim.Native.Nat.{ℕ, zero, suc}
use mathlib.Core.Path.{◌≡◌, refl, ap, sym, ◌∙◌}
use mathlib.Core.Bool.{Bool, true, false, cond}
use mathlib.Core.List.{List, [], ◌∷◌, ◌++◌}
use native.Mathlib.Omega.{arith}
use lib.Dec.{eqb}
use lib.ListN.{length, take}
use Rattle.digits.specs.Bytes.{LF}
use Rattle.lines.specs.EventLines.{event_line}
use Rattle.lines.proofs.Fields.{event_front}
use Rattle.desk.specs.Answers.{last_line, lines_after}
use Rattle.desk.specs.Desk.{Desk, heard, says, after}
use Rattle.desk.specs.Calls.{kept_bytes}
use Rattle.desk.proofs.Answering.{lines_said}

-- two lines of which the same bytes are kept
abbrev pub AsKept : List ℕ → List ℕ → Type 0
AsKept l k = take kept_bytes l ≡ take kept_bytes k

-- the front of a list is that of its front
front_front : (n : ℕ) (l x : List ℕ) → take n (take n l ++ x) ≡ take n (l ++ x)
front_front zero l x = refl
front_front (suc n) [] x = refl
front_front (suc n) (a ∷ l) x = ap (λ (y : List ℕ). a ∷ y) (front_front n l x)

-- they stay so when both go on in the same way
kept_more : (l k x : List ℕ) → AsKept l k → AsKept (l ++ x) (k ++ x)
kept_more l k x e =
    sym (front_front kept_bytes l x) ∙ ap (λ (y : List ℕ). take kept_bytes (y ++ x)) e ∙ front_front kept_bytes k x

-- they say the same
kept_event : (l k : List ℕ) → AsKept l k → event_line l ≡ event_line k
kept_event l k e = sym (event_front l) ∙ ap event_line e ∙ event_front k

module _ (d : Desk) (l k : List ℕ) (e : AsKept l k) where
  -- get the same answer
  kept_says : says d l ≡ says d k
  unfolding says heard
  kept_says = rw (kept_event l k e)

  -- and leave the same desk
  kept_after : after d l ≡ after d k
  unfolding after heard
  kept_after = rw (kept_event l k e)

  -- so that all answers are the same, whatever lines follow
  kept_first : (ls : List (List ℕ)) → lines_said d (l ∷ ls) ≡ lines_said d (k ∷ ls)
  unfolding lines_said
  kept_first ls = rw (kept_says, kept_after)

-- as the last line too
kept_last : (d : Desk) (l k : List ℕ) → AsKept l k → lines_said d (last_line l) ≡ lines_said d (last_line k)
kept_last d [] [] e = refl
kept_last d [] (b ∷ k) e = absurd (omega (arith, ap length e))
kept_last d (a ∷ l) [] e = absurd (omega (arith, ap length e))
kept_last d (a ∷ l) (b ∷ k) e = kept_first d (a ∷ l) (b ∷ k) e []

-- whatever bytes follow, the answers are the same
pub kept_said : (d : Desk) (l k t : List ℕ) → AsKept l k → lines_said d (lines_after l t) ≡ lines_said d (lines_after k t)
unfolding lines_after
kept_said d l k [] e = kept_last d l k e
kept_said d l k (b ∷ t) e = by (eqb b LF) (kept_said d (l ++ (b ∷ [])) (k ++ (b ∷ [])) t (kept_more l k (b ∷ []) e))
  where
    by : (q : Bool) → lines_said d (lines_after (l ++ (b ∷ [])) t) ≡ lines_said d (lines_after (k ++ (b ∷ [])) t)
        → lines_said d (cond q (l ∷ lines_after [] t) (lines_after (l ++ (b ∷ [])) t))
        ≡ lines_said d (cond q (k ∷ lines_after [] t) (lines_after (k ++ (b ∷ [])) t))
    by true more = kept_first d l k e (lines_after [] t)
    by false more = more
