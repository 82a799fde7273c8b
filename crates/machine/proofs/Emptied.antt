-- Tables emptied column by column, and the slots of zeros. Assumes nothing.
use Rattle.std.specs.Prelude.{Ok, Err}
use Prim.Native.Nat.{ℕ, zero, suc, ◌+◌, ◌≤◌}
use native.Mathlib.Nat.{zero-add, eq-or-lt_of_le, le_of_suc-le-suc}
use native.Mathlib.Numerals.{add-one}
use native.Mathlib.Omega.{arith}
use mathlib.Core.Path.{◌≡◌, refl, sym, ap, ◌∙◌}
use mathlib.Core.Logic.{⊎_elim}
use mathlib.Core.Bool.{Bool, true, false, true≢false, cond, not}
use mathlib.Core.List.{List, ◌++◌, append-nil}
use lib.Dec.{ltb}
use lib.ListN.{length, take, drop, set, replicate}
use lib.Seq.{sets, sets-eq, set_out, length-sets, drop-length}
use Rattle.std.proofs.lemmas.List.{length-replicate, length-take-le}
use borrow.Author.Tests.{le-ltb}
use Rattle.words.specs.declared.Refusal.TheVariants.{Short}
use Rattle.words.specs.Numbers.{station_count, series_count, job_count, place_count, received_count}
use Rattle.words.specs.Tests.{◌or◌}
use Rattle.copies.specs.Tables.{Copies, tables, short_copies}
use Rattle.copies.proofs.Filled.{row_next}
use Rattle.jobs.specs.declared.Job.{Job}
use Rattle.jobs.specs.Job.{no_job}
use Rattle.jobs.specs.Slots.{short_jobs}
use Rattle.jobs.specs.Calls.{stepped}
use Rattle.rulebook.specs.Tables.{plant, short_tables}
use Rattle.rulebook.specs.Around.{emptied_copies, emptied, empty_of}
use Rattle.machine.specs.Calls.{made, Cleared, cleared, clear_of, filled}

-- ---- a column filled from its first entry on
-- the part that `fill` has filled, and what stands behind it
pub filled_part : (size v : ℕ) (l x : List ℕ) → x ≡ replicate (length (take size l)) v → size ≤ length l → x ++ drop size l ≡ filled size v l
unfolding filled
filled_part size v l x e fits =
    let long : length (take size l) ≡ size = length-take-le size l fits in
    let count : length (replicate size v) ≡ size = length-replicate size v in
    rw (e, long, sets-eq (replicate size v) l 0 (omega arith), zero-add, count) refl

-- one entry more
pub fill_next : (l : List ℕ) (n j v : ℕ) (x : List ℕ) → x ≡ sets l 0 (replicate n v) → j ≡ n + 1 → set x n v ≡ sets l 0 (replicate j v)
fill_next l n j v x p e = rw zero-add at (row_next l 0 n j v x p e)

-- what is written past the end is nowhere
fill_past : (k : ℕ) (l : List ℕ) (n v : ℕ) → length l ≤ n → n ≤ k → sets l 0 (replicate n v) ≡ sets l 0 (replicate k v)
fill_past zero l n v past le = let none : n ≡ 0 = omega arith in rw none
fill_past (suc k) l n v past le =
    ⊎_elim (λ e. rw e)
    (λ lt. fill_past k l n v past (le_of_suc-le-suc lt) ∙ sym (set_out _ k v (out (le_of_suc-le-suc lt))) ∙ fill_next l k (suc k) v _ refl (sym (add-one k)))
    (eq-or-lt_of_le le)
  where
    out : n ≤ k → length (sets l 0 (replicate k v)) ≤ k
    out h = rw (length-sets l 0 (replicate k v)) (omega arith)

-- the column ends before so many entries are written
pub fill_stop : (k : ℕ) (l : List ℕ) (n v : ℕ) (x : List ℕ) → length x ≤ n → length x ≡ length l → n ≤ k → x ≡ sets l 0 (replicate n v) → x ≡ sets l 0 (replicate k v)
fill_stop k l n v x past same le e = e ∙ fill_past k l n v (omega arith) le

-- ---- the columns
-- the same columns are the same tables
same_tables : {fs fs' ls ls' ks ks' vs vs' ns ns' rt rt' rk rk' rv rv' gs gs' us us' : List ℕ}
    → fs ≡ fs' → ls ≡ ls' → ks ≡ ks' → vs ≡ vs' → ns ≡ ns' → rt ≡ rt' → rk ≡ rk' → rv ≡ rv' → gs ≡ gs' → us ≡ us'
    → tables fs ls ks vs ns rt rk rv gs us ≡ tables fs' ls' ks' vs' ns' rt' rk' rv' gs' us'
same_tables fs ls ks vs ns rt rk rv gs us = rw (fs, ls, ks, vs, ns, rt, rk, rv, gs, us)

module _ (t : Copies) where
  -- a column has fewer entries than its stated size
  pub clear_short : short_copies t ≡ true → cleared false t ≡ clear_of t
  unfolding clear_of
  clear_short e = sym (ap (λ (b : Bool). cond b (cleared false t) (cleared true (emptied_copies t))) e)

  -- none has
  clear_long : short_copies t ≡ false → clear_of t ≡ cleared true (emptied_copies t)
  unfolding clear_of
  clear_long e = ap (λ (b : Bool). cond b (cleared false t) (cleared true (emptied_copies t))) e

  -- so each column is filled
  pub clear_done : {fs ls ks vs ns rt rk rv gs us : List ℕ}
      → short_copies t ≡ false
      → fs ≡ filled series_count 0 t.firsts → ls ≡ filled series_count 0 t.lasts
      → ks ≡ filled place_count 0 t.kinds → vs ≡ filled place_count 0 t.values
      → ns ≡ filled place_count 0 t.sent → rt ≡ filled place_count 0 t.rel_to
      → rk ≡ filled place_count 0 t.rel_kind → rv ≡ filled place_count 0 t.rel_value
      → gs ≡ filled received_count 0 t.received → us ≡ filled station_count 1 t.up
      → cleared true (tables fs ls ks vs ns rt rk rv gs us) ≡ clear_of t
  unfolding emptied_copies filled
  clear_done long fs ls ks vs ns rt rk rv gs us =
      ap (cleared true) (same_tables fs ls ks vs ns rt rk rv gs us) ∙ sym (clear_long long)

  -- what the answer says of the columns, and what they are then
  by_answer : (short : Bool) → short_copies t ≡ short → (long : Bool) (u : Copies) → cleared long u ≡ clear_of t
      → (short_copies t ≡ not long) × (u ≡ cond long (emptied_copies t) t)
  by_answer true s true u e = absurd (true≢false (ap (λ (x : Cleared). x.done) (e ∙ sym (clear_short s))))
  by_answer true s false u e = (s, ap (λ (x : Cleared). x.copies) (e ∙ sym (clear_short s)))
  by_answer false s true u e = (s, ap (λ (x : Cleared). x.copies) (e ∙ clear_long s))
  by_answer false s false u e = absurd (true≢false (sym (ap (λ (x : Cleared). x.done) (e ∙ clear_long s))))

  -- the same, whatever they are
  pub clear_said : (long : Bool) (u : Copies) → cleared long u ≡ clear_of t → (short_copies t ≡ not long) × (u ≡ cond long (emptied_copies t) t)
  clear_said = by_answer (short_copies t) refl

-- ---- the slots
-- a list written over one as long is all that is left
all_written : {A : Type 0} (l vs : List A) → length l ≡ length vs → vs ≡ sets l 0 vs
all_written l vs e =
    let all : sets l 0 vs ≡ vs = rw (sets-eq vs l 0 (omega arith), zero-add, ← e, drop-length) (append-nil vs) in
    sym all

-- ---- the plant
module _ (t u : Copies) (bs : List Job) where
  -- SHORT: a column has fewer entries than its stated size
  pub made_short : (long : Bool) → cleared long u ≡ clear_of t → long ≡ false → made (stepped (Err Short) bs) u ≡ empty_of (plant t bs)
  unfolding empty_of short_tables ◌or◌
  made_short long e f = let said = clear_said t false u (rw (← f) e) in rw (said.0, said.1)

  -- none has, and there are sixteen slots, all of zeros then: the plant is emptied
  pub made_empty : {b : Job} (long : Bool) → cleared long u ≡ clear_of t → long ≡ true → length bs ≡ job_count → b ≡ no_job
      → made (stepped (Ok 0) (replicate job_count b)) u ≡ empty_of (plant t bs)
  unfolding empty_of emptied short_tables short_jobs ◌or◌
  made_empty long e f sixteen none =
      let said = clear_said t true u (rw (← f) e) in
      let all : ltb (length bs) job_count ≡ false = le-ltb (length bs) job_count (omega arith) in
      let slots = ap (λ (b : Job). replicate job_count b) none ∙ all_written bs (replicate job_count no_job) sixteen in
      rw (said.0, said.1, all, slots)
