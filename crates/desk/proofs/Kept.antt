-- The bytes that `keep` keeps, all at once and byte by byte. Assumes nothing.
use Prim.Native.Nat.{ℕ, suc, min, ◌+◌, ◌-◌, ◌≤◌, ◌<◌}
use mathlib.Core.Path.{◌≡◌, ap, sym, ◌∙◌}
use mathlib.Core.List.{List, [], ◌∷◌, ◌++◌}
use native.Mathlib.Nat.{add-zero}
use native.Mathlib.Numerals.{add-one}
use native.Mathlib.Omega.{arith, min_cases}
use lib.ListN.{length, get_or, take, drop, set, length-take, length-drop, drop_of_length-le}
use lib.Seq.{paste, sets, sets-eq, take_all, take-take, drop-cons, get_or-take, get_or-drop, drop-set-lt, drop-drop}
use Rattle.std.proofs.lemmas.List.{take_min}
use Rattle.std.proofs.lemmas.Slice.{between_is}
use Rattle.desk.specs.Calls.{kept_bytes, kept}

-- the first of the first are the first, as many as the fewer
take_least : (m n : ℕ) (l : List ℕ) → take m (take n l) ≡ take (min m n) l
take_least m n l =
    min_cases m n _ (λ h e. rw e (take-take m n l h)) (λ h e. rw e (take_all m (take n l) (omega (arith, length-take n l))))

-- no more is kept than a line that can still be good, and one byte
pub kept_within : (bytes : List ℕ) (from end : ℕ) {r : ℕ} → r ≡ length (kept bytes from end) → r ≤ kept_bytes
unfolding kept
kept_within bytes from end e = omega (arith, length-take kept_bytes (drop from (take end bytes)))

-- a part of the bytes ends at stop, where they end before it
module _ (bytes : List ℕ) (from end : ℕ) {stop : ℕ} (s : stop ≡ min end (length bytes)) where
  -- no byte is in it: none is kept
  module _ (h : stop ≤ from) where
    none : kept bytes from end ≡ []
    unfolding kept
    none = rw (drop_of_length-le (take end bytes) {i = from} (omega (arith, length-take end bytes)))

    pub none_kept : 0 ≡ length (kept bytes from end)
    none_kept = sym (ap length none)

    pub none_moved : bytes ≡ sets bytes 0 (kept bytes from end)
    none_moved = sym (ap (sets bytes 0) none)

  -- else the first count of them are
  module _ (h : from < stop) {count : ℕ} (c : count ≡ min kept_bytes (stop - from)) where
    some : kept bytes from end ≡ take count (drop from bytes)
    unfolding kept
    some =
        let whole : take end bytes ≡ take stop bytes = sym (take_min end bytes) ∙ ap (λ (k : ℕ). take k bytes) (sym s) in
        ap (λ (l : List ℕ). take kept_bytes (drop from l)) whole ∙ ap (take kept_bytes) (sym (between_is bytes from stop))
        ∙ take_least kept_bytes (stop - from) (drop from bytes) ∙ ap (λ (k : ℕ). take k (drop from bytes)) (sym c)

    pub some_kept : count ≡ length (kept bytes from end)
    some_kept = omega (arith, ap length some, length-take count (drop from bytes), length-drop from bytes)

    pub some_moved : {last : List ℕ} → last ≡ paste bytes 0 (drop from bytes) (from + count - from) → last ≡ sets bytes 0 (kept bytes from end)
    some_moved q =
        q ∙
        let n : from + count - from ≡ count = omega arith in
        rw (sets-eq (kept bytes from end) bytes 0 (omega (arith, some_kept)), some, n)
        (ap (λ (k : ℕ). take 0 bytes ++ take count (drop from bytes) ++ drop (0 + k) bytes) (some_kept ∙ ap length some))

-- what is kept, by the way that it went
pub ruleset keep_ways = (none_kept, none_moved, some_kept, some_moved)

-- ---- byte by byte: what is left to move gives the same in the end
module _ (buf₀ : List ℕ) (from end : ℕ) where
  -- how many are kept
  kept_length : length (kept buf₀ from end) ≡ min kept_bytes (min end (length buf₀) - from)
  unfolding kept
  kept_length =
      length-take kept_bytes (drop from (take end buf₀))
      ∙ ap (min kept_bytes) (length-drop from (take end buf₀) ∙ ap (λ (k : ℕ). k - from) (length-take end buf₀))

  -- which byte stands at a place among them
  kept_at : (i : ℕ) → i < kept_bytes → from + i < end → get_or (kept buf₀ from end) i 0 ≡ get_or buf₀ (from + i) 0
  unfolding kept
  kept_at i h k =
      get_or-take kept_bytes (drop from (take end buf₀)) i 0 h ∙ get_or-drop from (take end buf₀) i 0 ∙ get_or-take end buf₀ (from + i) 0 k

  -- a byte that isn't moved yet stands where it stood
  same_byte : (buf : List ℕ) (p : ℕ) → drop p buf ≡ drop p buf₀ → get_or buf p 0 ≡ get_or buf₀ p 0
  same_byte buf p d =
      let at : (l : List ℕ) → get_or (drop p l) 0 0 ≡ get_or l p 0 = λ l. get_or-drop p l 0 0 ∙ ap (λ (j : ℕ). get_or l j 0) (add-zero p) in
      sym (at buf) ∙ ap (λ (l : List ℕ). get_or l 0 0) d ∙ at buf₀

  -- a turn: the next byte is moved
  pub kept_turn : {X : List ℕ} (buf : List ℕ) (i p : ℕ) → p ≡ from + i → i < kept_bytes → p < end → p < length buf₀ → drop p buf ≡ drop p buf₀
      → sets buf i (drop i (kept buf₀ from end)) ≡ X
      → sets (set buf i (get_or buf p 0)) (i + 1) (drop (i + 1) (kept buf₀ from end)) ≡ X
  kept_turn buf i p e h k l d q =
      let m : i < length (kept buf₀ from end) = omega (arith, kept_length) in
      let b : get_or (kept buf₀ from end) i 0 ≡ get_or buf p 0 =
      kept_at i h (omega arith) ∙ ap (λ (j : ℕ). get_or buf₀ j 0) (sym e) ∙ sym (same_byte buf p d) in
      let f : drop i (kept buf₀ from end) ≡ get_or buf p 0 ∷ drop (suc i) (kept buf₀ from end) =
      drop-cons (kept buf₀ from end) i 0 m ∙ ap (λ (x : ℕ). x ∷ drop (suc i) (kept buf₀ from end)) b in
      rw (add-one i) (sym (ap (sets buf i) f) ∙ q)

  -- the bytes after it stay
  pub kept_rest : (buf : List ℕ) (i p v : ℕ) → i ≤ p → drop p buf ≡ drop p buf₀ → drop (p + 1) (set buf i v) ≡ drop (p + 1) buf₀
  kept_rest buf i p v h d =
      drop-set-lt (p + 1) buf i v (omega arith) ∙ sym (drop-drop 1 p buf) ∙ ap (drop 1) d ∙ drop-drop 1 p buf₀

  -- there is one more to move
  pub kept_more : (i p : ℕ) → p ≡ from + i → i < kept_bytes → p < end → p < length buf₀ → i + 1 ≤ length (kept buf₀ from end)
  kept_more i p e h k l = omega (arith, kept_length)
