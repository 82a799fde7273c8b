-- Draws of a series that follow one another, from its first number to its next: they hold each serial between at one place.
-- Assumes nothing.
use Prim.Native.Nat.{ℕ, zero, suc, ◌+◌, ◌-◌, ◌≤◌, ◌<◌}
use native.Mathlib.Nat.{not-suc-le-zero}
use native.Mathlib.Decide.{dec_lt}
use native.Mathlib.Omega.{arith}
use mathlib.Core.Path.{◌≡◌, refl, sym, ap, subst, ◌∙◌}
use mathlib.Core.Logic.{◌≢◌, dite}
use mathlib.Core.List.{List, [], ◌∷◌, ◌++◌}
use lib.ListN.{length}
use borrow.Author.Tests.{eq-eqb, ne_eqb}
use Rattle.jobs.specs.Draws.{Draw}
use Rattle.serials.specs.Draws.{Drawn, draw_at, Belongs, count_in}
use Rattle.serials.specs.Serials.{SerialsOnce}

-- a draw of the rulebook, as an answer line shows it
abbrev pub plain : Draw → Drawn
plain d = record { series = d.series; first = d.first; count = d.count }

-- The draws of series s among ds, one after the other, lead from serial a to just before b.
pub data Chain (s : ℕ) : ℕ → List Drawn → ℕ → Type 0 where
  stop : {a b : ℕ} → a ≡ b → Chain s a [] b
  mine : {a b : ℕ} {d : Drawn} {ds : List Drawn} → d.series ≡ s → d.first ≡ a → Chain s (a + d.count) ds b → Chain s a (d ∷ ds) b
  other : {a b : ℕ} {d : Drawn} {ds : List Drawn} → d.series ≢ s → Chain s a ds b → Chain s a (d ∷ ds) b

-- none of the draws is of series s
abbrev pub Idle : ℕ → List Drawn → Type 0
Idle s ds = (a : ℕ) → Chain s a ds a

-- one list of draws after another
pub chain_append : {s a b c : ℕ} {ds es : List Drawn} → Chain s a ds b → Chain s b es c → Chain s a (ds ++ es) c
chain_append {s} {c} {es} (stop e) k = subst (λ (x : ℕ). Chain s x es c) (sym e) k
chain_append (mine x y c) k = mine x y (chain_append c k)
chain_append (other x c) k = other x (chain_append c k)

-- they never lead back
chain_forward : {s a b : ℕ} {ds : List Drawn} → Chain s a ds b → a ≤ b
chain_forward (stop e) = omega arith
chain_forward (mine x y c) = omega (arith, chain_forward c)
chain_forward (other x c) = chain_forward c

-- ---- the serials that they hold
-- a serial of the draws after the first belongs to the same draw one further
belongs_later : {d : Drawn} {ds : List Drawn} {s n i k : ℕ} → Belongs ds s n i k → Belongs (d ∷ ds) s n (suc i) k
belongs_later w = record { is_draw = omega (arith, w.is_draw); of_series = w.of_series; is_place = w.is_place; stands = w.stands }

-- and back
belongs_earlier : {d : Drawn} {ds : List Drawn} {s n i k : ℕ} → Belongs (d ∷ ds) s n (suc i) k → Belongs ds s n i k
belongs_earlier w = record { is_draw = omega (arith, w.is_draw); of_series = w.of_series; is_place = w.is_place; stands = w.stands }

-- each serial between belongs to a draw
belongs : {s a b : ℕ} {ds : List Drawn} → Chain s a ds b → (n : ℕ) → a ≤ n → n < b → (i : ℕ) × (k : ℕ) × Belongs ds s n i k
belongs (stop e) n l h = absurd (omega arith)
belongs {s} {a} {b} (mine {d} {ds} x y c) n l h = dite (dec_lt n (a + d.count)) here (λ past. later (belongs c n (omega arith) h))
  where
    here : n < a + d.count → (i : ℕ) × (k : ℕ) × Belongs (d ∷ ds) s n i k
    here q = (0, n - a, record { is_draw = omega arith; of_series = x; is_place = omega arith; stands = omega arith })

    later : (i : ℕ) × (k : ℕ) × Belongs ds s n i k → (i : ℕ) × (k : ℕ) × Belongs (d ∷ ds) s n i k
    later w = (suc w.0, w.1, belongs_later w.2)
belongs (other x c) n l h = let w = belongs c n l h in (suc w.0, w.1, belongs_later w.2)

-- a draw of the series holds no other
no_other : {s a b : ℕ} {ds : List Drawn} → Chain s a ds b → (n i k : ℕ) → Belongs ds s n i k → (a ≤ n) × (n < b)
no_other (stop e) n i k w = absurd (not-suc-le-zero w.is_draw)
no_other (mine x y c) n zero k w =
    let forward = chain_forward c in
    let place = w.is_place in
    let is = w.stands in
    (omega arith, omega arith)
no_other (mine x y c) n (suc i) k w = let later = no_other c n i k (belongs_earlier w) in (omega arith, later.1)
no_other (other x c) n zero k w = absurd (x w.of_series)
no_other (other x c) n (suc i) k w = no_other c n i k (belongs_earlier w)

-- a serial of the first draw belongs to no later one
first_only : {s a b n k j m : ℕ} {d : Drawn} {ds : List Drawn} → d.first ≡ a → Chain s (a + d.count) ds b → Belongs (d ∷ ds) s n 0 k
    → Belongs ds s n j m → ⊥
first_only {n} {j} {m} e c v w =
    let place = v.is_place in
    let is = v.stands in
    let past = (no_other c n j m w).0 in
    absurd (omega arith)

-- each belongs to one draw and one place
once : {s a b : ℕ} {ds : List Drawn} → Chain s a ds b → (n i k j m : ℕ) → Belongs ds s n i k → Belongs ds s n j m → (i ≡ j) × (k ≡ m)
once (stop e) n i k j m v w = absurd (not-suc-le-zero v.is_draw)
once (mine x y c) n zero k zero m v w = let p = v.stands in let q = w.stands in (refl, omega arith)
once (mine x y c) n zero k (suc j) m v w = absurd (first_only y c v (belongs_earlier w))
once (mine x y c) n (suc i) k zero m v w = absurd (first_only y c w (belongs_earlier v))
once (mine x y c) n (suc i) k (suc j) m v w = let later = once c n i k j m (belongs_earlier v) (belongs_earlier w) in (ap suc later.0, later.1)
once (other x c) n zero k j m v w = absurd (x v.of_series)
once (other x c) n (suc i) k zero m v w = absurd (x w.of_series)
once (other x c) n (suc i) k (suc j) m v w = let later = once c n i k j m (belongs_earlier v) (belongs_earlier w) in (ap suc later.0, later.1)

-- all three
pub chain_once : {s a b : ℕ} {ds : List Drawn} → Chain s a ds b → SerialsOnce ds s a b
chain_once c = record { belongs = belongs c; once = once c; no_other = no_other c }

-- ---- their counts
-- they lead as far as their counts together
pub chain_count : {s a b : ℕ} {ds : List Drawn} → Chain s a ds b → b ≡ a + count_in s ds
unfolding count_in
chain_count (stop e) = omega arith
chain_count {s} (mine {d} x y c) = let rest = chain_count c in rw (eq-eqb d.series s x) (omega arith)
chain_count {s} (other {d} x c) = let rest = chain_count c in rw (ne_eqb d.series s x) (omega arith)

-- ---- a series with no draw
-- a draw that every number leads over is none of it
idle_first : {s a b x y : ℕ} {d : Drawn} {ds : List Drawn} → a ≢ b → Chain s a (d ∷ ds) x → Chain s b (d ∷ ds) y → d.series ≢ s
idle_first ne (mine p q c) (mine p' q' c') e = ne (sym q ∙ q')
idle_first ne (mine p q c) (other p' c') e = p' e
idle_first ne (other p c) k e = p e

-- so are the draws after it
idle_rest : {s : ℕ} {d : Drawn} {ds : List Drawn} → d.series ≢ s → Idle s (d ∷ ds) → Idle s ds
idle_rest {s} {d} {ds} ne idle a = skip (idle a)
  where
    skip : {x : ℕ} → Chain s a (d ∷ ds) x → Chain s a ds x
    skip (mine p q c) = absurd (ne p)
    skip (other p c) = c

-- none of the draws is of the series
pub idle_none : {s : ℕ} (ds : List Drawn) → Idle s ds → (i : ℕ) → i < length ds → (draw_at ds i).series ≢ s
idle_none [] idle i l = absurd (not-suc-le-zero l)
idle_none (d ∷ ds) idle zero l = idle_first (λ e. absurd (omega arith)) (idle 0) (idle 1)
idle_none (d ∷ ds) idle (suc i) l =
    idle_none ds (idle_rest (idle_first (λ e. absurd (omega arith)) (idle 0) (idle 1)) idle) i (omega arith)
