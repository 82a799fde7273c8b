-- A number written at the stations of a row, one after the other or by `fill`. Assumes nothing.
use Prim.Native.Nat.{ℕ, zero, suc, ◌+◌, ◌-◌, ◌≤◌}
use native.Mathlib.Nat.{add-zero}
use native.Mathlib.Numerals.{add-one}
use native.Mathlib.Omega.{arith}
use mathlib.Core.Path.{◌≡◌, refl, ap, ◌∙◌}
use mathlib.Core.List.{List}
use lib.ListN.{length, take, drop, set, replicate}
use borrow.Rule.Slice.PartMut.{put_mid}
use Rattle.std.proofs.lemmas.List.{append_assoc, drop-drop, length-replicate, length-take-le, length-drop}
use Rattle.std.proofs.lemmas.List.Edits.{sets, sets-eq}

-- nothing written yet
pub row_none : (l : List ℕ) (at v : ℕ) → l ≡ sets l at (replicate 0 v)
row_none l at v = refl

-- one entry more
row_more : (l : List ℕ) (at n v : ℕ) → set (sets l at (replicate n v)) (at + n) v ≡ sets l at (replicate (suc n) v)
row_more l at zero v = ap (λ (i : ℕ). set l i v) (add-zero at)
row_more l at (suc n) v =
    let e : at + suc n ≡ suc at + n = omega arith in
    ap (λ (i : ℕ). set (sets (set l at v) (suc at) (replicate n v)) i v) e ∙ row_more (set l at v) (suc at) n v

-- the same for a loop that goes on to j
pub row_next : (l : List ℕ) (at n j v : ℕ) (x : List ℕ) → x ≡ sets l at (replicate n v) → j ≡ n + 1 → set x (at + n) v ≡ sets l at (replicate j v)
row_next l at n j v x p e = rw (e, add-one, p) (row_more l at n v)

-- the loop is at k
pub row_end : (k : ℕ) (l : List ℕ) (at n v : ℕ) (x : List ℕ) → n ≤ k → k ≤ n → x ≡ sets l at (replicate n v) → x ≡ sets l at (replicate k v)
row_end k l at n v x p q e = let same : k ≡ n = omega arith in rw same e

-- the part of a column that `fill` has filled, put back
pub row_filled : (n : ℕ) (l x : List ℕ) (at v : ℕ) → x ≡ replicate (length (take (at + n - at) (drop at l))) v → at + n ≤ length l
    → put_mid at (at + n - at) l x ≡ sets l at (replicate n v)
row_filled n l x at v e fits =
    let row : at + n - at ≡ n = omega arith in
    let long : length (take n (drop at l)) ≡ n = length-take-le n (drop at l) (omega (arith, length-drop {A = ℕ})) in
    let size : length (replicate n v) ≡ n = length-replicate n v in
    rw (e, row, long, sets-eq (replicate n v) l at (omega arith), size) (simp (append_assoc, drop-drop))
