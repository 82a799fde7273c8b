-- A station set's ones count its stations, and its trailing zeros are the lowest of them: for sets of any number of stations.
-- Assumes nothing.
use Prim.Native.Nat.{ℕ, zero, suc, ◌+◌, ◌*◌, ◌^◌, ◌<◌}
use native.Mathlib.Nat.{mul-one, mul_assoc, pow-suc}
use native.Mathlib.Omega.{arith}
use mathlib.Core.Path.{◌≡◌, refl, sym, ap, ◌∙◌}
use mathlib.Core.Bool.{Bool, true, false, cond}
use lib.Arith.{digits_div, digits_mod}
use lib.Count.{ones, ones_in, ones_cat, under, count_trailing_zeros}
use Rattle.words.specs.Tests.{least_below, sum_below, one_if, count_below}
use Rattle.words.proofs.Laws.{sum_front, least_front}

-- the set of the stations below n at which the test holds: bit i for station i
abbrev pub set_below : ℕ → (ℕ → Bool) → ℕ
set_below n f = sum_below n (λ i. one_if (f i) * 2 ^ i)

-- station 0, and then the others
set_front : (n : ℕ) (f : ℕ → Bool) → set_below (suc n) f ≡ set_below n (λ i. f (suc i)) * 2 + one_if (f 0)
unfolding sum_below
set_front zero f = rw mul-one
set_front (suc n) f = rw (set_front n f) (last (set_below n (λ i. f (suc i))) (one_if (f 0)) (one_if (f (suc n))) n)
  where
    last : (s b o n : ℕ) → s * 2 + b + o * 2 ^ suc n ≡ (s + o * 2 ^ n) * 2 + b
    last s b o n = rw (pow-suc, ← (mul_assoc o (2 ^ n) 2)) (omega arith)

-- ---- the laws
-- a bit is one digit
one_small : (a : Bool) → one_if a < 2
unfolding one_if
one_small true = omega arith
one_small false = omega arith

-- and its own count
one_ones : (a : Bool) → ones (one_if a) ≡ one_if a
unfolding one_if ones ones_in
one_ones true = refl
one_ones false = refl

-- the ones of a set are as many as its stations
pub ones_set : (n : ℕ) (f : ℕ → Bool) → ones (set_below n f) ≡ count_below n f
unfolding sum_below ones ones_in
ones_set zero f = refl
ones_set (suc n) f =
    ap ones (set_front n f)
    ∙ ones_cat 1 (set_below n (λ i. f (suc i))) (one_if (f 0)) (one_small (f 0))
    ∙ rw (ones_set n (λ i. f (suc i)), one_ones (f 0)) (sym (sum_front n (λ i. one_if (f i))))

-- no zero stands below a bit that is set, and below one that isn't, one more
one_under : (a : Bool) (t : ℕ) → under (one_if a) t ≡ cond a 0 (suc t)
unfolding one_if
one_under true t = refl
one_under false t = refl

-- its trailing zeros are its lowest station, or all its digits
pub zeros_set : (n : ℕ) (f : ℕ → Bool) → count_trailing_zeros n (set_below n f) ≡ least_below n f
unfolding count_trailing_zeros least_below
zeros_set zero f = refl
zeros_set (suc n) f =
    let rest = set_below n (λ i. f (suc i)) in
    rw (set_front n f, digits_mod rest (one_small (f 0)), digits_div rest (one_small (f 0)), zeros_set n (λ i. f (suc i)))
    (one_under (f 0) (least_below n (λ i. f (suc i))) ∙ sym (least_front n f))
