-- Whether the copy that an event is about is free; and the slot that an event names, where it isn't refused with 3. Assumes nothing.
use Prim.Native.Nat.{ℕ, ◌<◌, ◌≤◌}
use native.Mathlib.Omega.{arith}
use mathlib.Core.Path.{◌≡◌, refl, sym}
use mathlib.Core.Bool.{Bool, true, false, not, ◌&&◌, ◌||◌, true≢false, false≢true}
use mathlib.Core.List.{List}
use lib.Dec.{eqb, ltb, leb}
use borrow.Author.Tests.{leb-true, not-true, not-false, eq-eqb, ne_eqb}
use Rattle.words.specs.Numbers.{job_count}
use Rattle.words.specs.Tests.{non, ◌and◌}
use Rattle.words.proofs.Laws.{neither}
use Rattle.jobs.specs.declared.Job.{Job}
use Rattle.jobs.specs.Slots.{free}
use Rattle.rulebook.specs.declared.Event.{Event}
use Rattle.rulebook.specs.Tables.{Plant}
use Rattle.rulebook.specs.Events.{BEGIN, ABORT, CRASH, LOCKX, a_job, fields_of, numbers, has, the, fit}
use Rattle.rulebook.specs.Edges.{event}
use Rattle.rulebook.specs.Refusals.{BAD_EVENT}
use Rattle.rulebook.proofs.Judging.{◌then◌}
use Rattle.rulebook.proofs.Ranges.{field_range}
use Rattle.events.specs.Unchecked.{takes_job, slot_of, asks_free, free_for}
use Rattle.events.proofs.Unchecked.{Kinds, of_kind}

-- ---- whether the copy that an event is about is free
module _ (bs : List Job) (b : Job) (e : Event) (asked : Bool) where
  -- not asked
  pub free_unasked : asked ≡ asks_free e.kind → not asked ≡ true → free_for bs b e ≡ true
  unfolding free_for
  free_unasked p h = rw (← p, not-true asked h)

  -- of LOCKX
  pub free_lockx : (r : Bool) → asked ≡ asks_free e.kind → not asked ≡ false → e.kind ≡ LOCKX → r ≡ free bs e.b b.station → r ≡ free_for bs b e
  unfolding free_for
  free_lockx r p h k q = rw (← p, not-false asked h, eq-eqb _ _ k) q

  -- of another kind
  pub free_copy : (r : Bool) → asked ≡ asks_free e.kind → not asked ≡ false → (e.kind ≡ LOCKX → ⊥) → r ≡ free bs e.a e.b → r ≡ free_for bs b e
  unfolding free_for
  free_copy r p h k q = rw (← p, not-false asked h, ne_eqb _ _ k) q

-- ---- the slot
-- the last of two flags
pub last_true : (a b : Bool) → (a && b) ≡ true → b ≡ true
last_true true b e = e
last_true false b e = absurd (false≢true e)

-- it is the first field, where there is such a slot
pub slot_there : (e : Event) → ltb e.a job_count ≡ true → slot_of e ≡ e.a
unfolding slot_of
slot_there e h = rw h

module _ (p : Plant) where
  -- the fields hold what they can hold
  good_fields : (e : Event) → BAD_EVENT p e ≡ false → fit (fields_of e.kind) (numbers e) ≡ true
  unfolding BAD_EVENT non
  good_fields e good = not-false _ (neither _ _ (neither _ _ (neither _ _ good).0).0).1

  -- so a job is one of the sixteen
  job_good : (e : Event) → has a_job e ≡ true → BAD_EVENT p e ≡ false → the a_job e < job_count
  unfolding ◌and◌
  job_good e h good = let within = field_range a_job e refl h (good_fields e good) in omega (arith, within.1)

  -- at kind k it is the first field
  abbrev First : ℕ → Type 0
  First k = (a b c d : ℕ) → BAD_EVENT p (event k a b c d) ≡ false → a < job_count

  -- from BEGIN to ABORT
  firsts : Kinds First BEGIN 7
  firsts =
      (λ a b c d good. job_good (event 2 a b c d) refl good)
      then (λ a b c d good. job_good (event 3 a b c d) refl good)
      then (λ a b c d good. job_good (event 4 a b c d) refl good)
      then (λ a b c d good. job_good (event 5 a b c d) refl good)
      then (λ a b c d good. job_good (event 6 a b c d) refl good)
      then (λ a b c d good. job_good (event 7 a b c d) refl good)
      then (λ a b c d good. job_good (event 8 a b c d) refl good)
      then tt

  -- those are the kinds that a job takes part in, but CRASH
  job_kinds : (k : ℕ) → takes_job k ≡ true → eqb k CRASH ≡ false → (BEGIN ≤ k) × (k ≤ ABORT)
  job_kinds k h c = by_tests (leb BEGIN k) (leb k ABORT) (eqb k CRASH) refl refl c h
    where
      by_tests : (x y z : Bool) → x ≡ leb BEGIN k → y ≡ leb k ABORT → z ≡ false → (x && y || z) ≡ true → (BEGIN ≤ k) × (k ≤ ABORT)
      by_tests true true z p q n t = (leb-true _ _ (sym p), leb-true _ _ (sym q))
      by_tests false y false p q n t = absurd (false≢true t)
      by_tests false y true p q n t = absurd (true≢false n)
      by_tests true false false p q n t = absurd (false≢true t)
      by_tests true false true p q n t = absurd (true≢false n)

  -- the slot that an event names is one
  pub names_slot : (e : Event) → BAD_EVENT p e ≡ false → takes_job e.kind ≡ true → eqb e.kind CRASH ≡ false → e.a < job_count
  names_slot e good h c =
      let between = job_kinds e.kind h c in
      of_kind First BEGIN 7 e.kind firsts between.0 (let last = between.1 in omega arith) e.a e.b e.c e.d good
