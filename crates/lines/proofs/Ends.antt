-- Laws of a text's lines: where one ends, and what was found of one. Assumes nothing.
use Prim.Native.Nat.{ℕ, suc, ◌+◌, ◌-◌, ◌≤◌, ◌<◌}
use mathlib.Core.Path.{◌≡◌, refl, ap, sym, ◌∙◌}
use mathlib.Core.Bool.{Bool, true, false, not, cond}
use mathlib.Core.List.{List}
use native.Mathlib.Omega.{arith}
use native.Mathlib.Numerals.{add-one}
use lib.Dec.{ltb}
use lib.ListN.{length, get_or, take, drop, length-drop}
use lib.Seq.{take_all, drop-cons}
use borrow.Author.Tests.{ne_eqb, lt-ltb, le-ltb, ltb-true, ltb-false}
use Rattle.std.specs.Prelude.{Option, Some, None, position, ◌==◌}
use Rattle.std.specs.List.{position_or_len}
use Rattle.std.proofs.lemmas.Option.{none-some, same_Some}
use Rattle.std.proofs.lemmas.List.Recursion.{is_position_or_len}
use Rattle.std.proofs.lemmas.List.Sums.{prefix_len-le-length}
use Rattle.digits.specs.Bytes.{LF}
use Rattle.lines.specs.Texts.{until_end, line_end, line_at}

-- where the line ends that goes on at a position, as the definition says
pub end_start : (t : List ℕ) (at : ℕ) → line_end t at ≡ at + until_end (drop at t)
unfolding line_end
end_start t at = refl

-- at a position that the line goes on at, X is its end; a byte that is no LF: the line goes on after it
pub end_on : (t : List ℕ) (i : ℕ) {X : ℕ} → X ≡ i + until_end (drop i t) → i < length t → (get_or t i 0 ≡ LF → ⊥) → (j : ℕ) → j ≡ i + 1 → X ≡ j + until_end (drop j t)
end_on t i e h b j q =
    let z : until_end (drop i t) ≡ suc (until_end (drop (suc i) t)) = rw (drop-cons t i 0 h, ne_eqb (get_or t i 0) LF b) in
    rw (q, add-one) (omega arith)

-- an LF, as the library looks for the first
abbrev pub is_end : ℕ → Bool
is_end b = b == LF

-- as many bytes stand before it as before the first LF, or in all
until_place : (t : List ℕ) → until_end t ≡ position_or_len is_end t
until_place t = is_position_or_len until_end is_end refl (λ x xs. ap (cond (is_end x) 0) (omega arith)) t

until_found : (t : List ℕ) (n : ℕ) → position is_end t ≡ Some n → (until_end t ≡ n) × (n < length t)
until_found t n = by (ltb (position_or_len is_end t) (length t)) refl
  where
    by : (x : Bool) → ltb (position_or_len is_end t) (length t) ≡ x → cond x (Some (position_or_len is_end t)) None ≡ Some n
        → (until_end t ≡ n) × (n < length t)
    by true q e = let s = same_Some (position_or_len is_end t) n e in (until_place t ∙ s, omega (arith, ltb-true _ _ q))
    by false q e = absurd (none-some n e)

until_none : (t : List ℕ) → position is_end t ≡ None → until_end t ≡ length t
until_none t = by (ltb (position_or_len is_end t) (length t)) refl
  where
    by : (x : Bool) → ltb (position_or_len is_end t) (length t) ≡ x → cond x (Some (position_or_len is_end t)) None ≡ None
        → until_end t ≡ length t
    by true q e = absurd (none-some (position_or_len is_end t) (sym e))
    by false q e = omega (arith, until_place t, prefix_len-le-length (λ b. not (is_end b)) t, ltb-false _ _ q)

-- the line that starts at a position
module _ (t : List ℕ) (at : ℕ) where
  -- none past the text's end
  pub line_none : length t ≤ at → None ≡ line_at t at
  unfolding line_at
  line_none h = rw (le-ltb at (length t) h)

  module _ (h : at < length t) {found : Option ℕ} (f : found ≡ position is_end (take (length t - at) (drop at t))) where
    first : found ≡ position is_end (drop at t)
    first = f ∙ ap (position is_end) (take_all (length t - at) (drop at t) (omega (arith, length-drop at t)))

    -- one with its LF
    pub line_ended : {n : ℕ} → found ≡ Some n → Some (record { start = at; end = at + n; next = at + n + 1 }) ≡ line_at t at
    unfolding line_at line_end
    line_ended {n} e =
        let u = until_found (drop at t) n (sym first ∙ e) in
        rw (lt-ltb at (length t) h, u.0, lt-ltb (at + n) (length t) (omega (arith, u.1, length-drop at t)))

    -- one that lacks it
    pub line_last : found ≡ None → Some (record { start = at; end = length t; next = length t }) ≡ line_at t at
    unfolding line_at line_end
    line_last e =
        let u : at + until_end (drop at t) ≡ length t = omega (arith, until_none (drop at t) (sym first ∙ e), length-drop at t) in
        rw (lt-ltb at (length t) h, u, le-ltb (length t) (length t) (omega arith))

-- what was found of a line, by the way that it went
pub ruleset line_ways = (line_none, line_ended, line_last)
