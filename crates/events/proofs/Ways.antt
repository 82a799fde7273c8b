-- The ways out of the step without the check, and of its turn over one slot: a law for each. Assumes nothing.
use Rattle.std.specs.Prelude.{Err}
use Prim.Native.Nat.{ℕ, ◌<◌}
use mathlib.Core.Path.{◌≡◌, refl, sym, ap, ◌∙◌}
use mathlib.Core.Bool.{Bool, true, false, cond, ◌&&◌, ◌||◌, true≢false}
use mathlib.Core.List.{List}
use lib.Dec.{eqb, ltb}
use borrow.Author.Tests.{eqb-true, lt-ltb}
use Rattle.words.specs.Answers.{Answer}
use Rattle.words.specs.declared.Refusal.TheVariants.{BadEvent}
use Rattle.words.specs.Numbers.{job_count}
use Rattle.words.specs.Tests.{refuse_if}
use Rattle.copies.specs.Tables.{Copies}
use Rattle.copies.specs.Calls as copies
use Rattle.jobs.specs.declared.Job.{Job}
use Rattle.jobs.specs.Calls.{Stepped}
use Rattle.jobs.specs.Calls.{Turn}
use Rattle.jobs.specs.Slots.{job_at, free}
use Rattle.jobs.specs.Calls as jobs
use Rattle.jobs.proofs.OneSlot.{kept_slot}
use Rattle.rulebook.specs.declared.Event.{Event}
use Rattle.rulebook.specs.Tables.{Plant, plant}
use Rattle.rulebook.specs.Events.{LOCKX, SEND, DEMOTE, DROP, PROMOTE, CRASH}
use Rattle.rulebook.specs.Refusals.{BAD_EVENT}
use Rattle.events.specs.Calls.{left}
use Rattle.events.proofs.Named.{last_true, slot_there, names_slot}
use Rattle.events.specs.Unchecked.{copy_event, job_turn, job_event, takes_job, slot_of, asks_free, free_for, of_jobs, of_copies, called, unchecked_step, unchecked_turn}

module _ (t : Copies) (bs : List Job) (out : List ℕ) (e : Event) where
  -- the plant that was lent
  abbrev lent : Plant
  lent = plant t bs

  -- ---- the turn over one slot, whose job is the one that stands there
  module _ (f : Bool) (job : Job) (same : job ≡ job_at bs (slot_of e)) (b : Bool) (p : b ≡ BAD_EVENT lent e) where
    -- BAD EVENT
    pub way_bad : b ≡ true → left (jobs.turned bs (slot_of e) (jobs.turn (Err BadEvent) job)) t out ≡ unchecked_turn lent f out e
    unfolding unchecked_turn refuse_if
    way_bad h = rw (kept_slot bs (slot_of e) job same, ← p, h)

    module _ (h : b ≡ false) (g : Bool) (q : g ≡ takes_job e.kind) where
      -- an event that a job takes part in
      pub way_job : (r : Turn) (t' : Copies) (out' : List ℕ) → (g && ltb e.a job_count) ≡ true
          → (job ≡ job_at bs e.a → jobs.outcome (jobs.turned bs e.a r) t' out' ≡ job_turn t bs f out e)
          → left (jobs.turned bs (slot_of e) r) t' out' ≡ unchecked_turn lent f out e
      unfolding unchecked_turn refuse_if
      way_job r t' out' k made =
          let there = slot_there e (last_true g _ k) in
          rw (there, ← p, h, ← q, k) (ap of_jobs (made (same ∙ ap (job_at bs) there)))

      -- an event that none takes part in
      pub way_copy : (a : Answer) (t' : Copies) → (g && ltb e.a job_count) ≡ false → copies.outcome a t' ≡ copy_event t f e
          → left (jobs.turned bs (slot_of e) (jobs.turn a job)) t' out ≡ unchecked_turn lent f out e
      unfolding unchecked_turn refuse_if
      way_copy a t' k made = rw (kept_slot bs (slot_of e) job same, ← p, h, ← q, k) (ap (of_copies lent out) made)

  -- ---- whether the copy is free matters only where the kind asks
  -- of the kinds that a job takes part in only LOCKX does
  turn_free : (f g : Bool) → (eqb e.kind LOCKX ≡ true → f ≡ g) → job_turn t bs f out e ≡ job_turn t bs g out e
  unfolding job_turn
  turn_free f g same = by_test (eqb e.kind LOCKX) refl
    where
      by_test : (b : Bool) → b ≡ eqb e.kind LOCKX → job_turn t bs f out e ≡ job_turn t bs g out e
      by_test true h = ap (λ (x : Bool). job_turn t bs x out e) (same (sym h))
      by_test false h = rw (← h)

  -- of the others four
  unasked : (k : ℕ) → asks_free k ≡ false → (eqb k SEND ≡ false) × (eqb k DEMOTE ≡ false) × (eqb k DROP ≡ false) × (eqb k PROMOTE ≡ false)
  unasked k h = by_tests (eqb k LOCKX) (eqb k SEND) (eqb k DEMOTE) (eqb k DROP) (eqb k PROMOTE) h
    where
      by_tests : (l s d r o : Bool) → (l || s || d || r || o) ≡ false → (s ≡ false) × (d ≡ false) × (r ≡ false) × (o ≡ false)
      by_tests false false false false false n = (refl, refl, refl, refl)
      by_tests true s d r o n = absurd (true≢false n)
      by_tests false true d r o n = absurd (true≢false n)
      by_tests false false true r o n = absurd (true≢false n)
      by_tests false false false true o n = absurd (true≢false n)
      by_tests false false false false true n = absurd (true≢false n)

  copy_free : (f g : Bool) → (asks_free e.kind ≡ true → f ≡ g) → copy_event t f e ≡ copy_event t g e
  unfolding copy_event
  copy_free f g same = by_test (asks_free e.kind) refl
    where
      by_test : (b : Bool) → b ≡ asks_free e.kind → copy_event t f e ≡ copy_event t g e
      by_test true h = ap (λ (x : Bool). copy_event t x e) (same (sym h))
      by_test false h = let none = unasked e.kind (sym h) in rw (none.0, none.1, none.2, none.3)

  -- LOCKX is one that a job takes part in
  not_lockx : (k : ℕ) → takes_job k ≡ false → eqb k LOCKX ≡ false
  not_lockx k h = by_test (eqb k LOCKX) refl
    where
      by_test : (b : Bool) → b ≡ eqb k LOCKX → eqb k LOCKX ≡ false
      by_test true l = absurd (true≢false (ap takes_job (sym (eqb-true k LOCKX (sym l))) ∙ h))
      by_test false l = sym l

  -- ---- so of any kind but CRASH the step is the turn
  module _ (f : Bool) (p : f ≡ free_for bs (job_at bs (slot_of e)) e) (no-crash : eqb e.kind CRASH ≡ false) where
    -- LOCKX asks of the copy at the job's station
    of_lockx : e.a < job_count → eqb e.kind LOCKX ≡ true → f ≡ free bs e.b (job_at bs e.a).station
    unfolding free_for slot_of
    of_lockx l h = p ∙ rw (h, lt-ltb _ _ l)

    -- the others of the copy that they name
    of_copy : takes_job e.kind ≡ false → asks_free e.kind ≡ true → f ≡ free bs e.a e.b
    unfolding free_for
    of_copy g h = p ∙ rw (h, not_lockx e.kind g)

    -- where it isn't refused with 3
    by_taken : (g : Bool) → g ≡ takes_job e.kind → BAD_EVENT lent e ≡ false
        → cond (takes_job e.kind && ltb e.a job_count) (of_jobs (job_turn t bs f out e)) (of_copies lent out (copy_event t f e)) ≡ called lent out e
    unfolding job_event
    by_taken true g good =
        let within = names_slot lent e good (sym g) no-crash in
        rw (← g, lt-ltb _ _ within, no-crash) (ap of_jobs (turn_free f _ (of_lockx within)))
    by_taken false g good = rw (← g) (ap (of_copies lent out) (copy_free f _ (of_copy (sym g))))

    step_turn : unchecked_turn lent f out e ≡ unchecked_step lent out e
    unfolding unchecked_turn unchecked_step refuse_if
    step_turn = by_bad (BAD_EVENT lent e) refl
      where
        by_bad : (b : Bool) → b ≡ BAD_EVENT lent e → unchecked_turn lent f out e ≡ unchecked_step lent out e
        by_bad true h = rw (← h)
        by_bad false h = rw (← h) (by_taken (takes_job e.kind) refl (sym h))

  -- so the turn of the slot at `at`, stored there, is the step
  pub step_stored : (at : ℕ) (f : Bool) (r : Turn) (s : Stepped) (t' : Copies) (out' : List ℕ)
      → at ≡ slot_of e → f ≡ free_for bs (job_at bs at) e → eqb e.kind CRASH ≡ false
      → (job_at bs at ≡ job_at bs (slot_of e) → left (jobs.turned bs (slot_of e) r) t' out' ≡ unchecked_turn lent f out e)
      → s ≡ jobs.turned bs at r → left s t' out' ≡ unchecked_step lent out e
  step_stored at f r s t' out' here asked no-crash turned stored =
      ap (λ (x : Stepped). left x t' out') (stored ∙ ap (λ (n : ℕ). jobs.turned bs n r) here)
      ∙ turned (ap (job_at bs) here)
      ∙ step_turn f (asked ∙ ap (λ (n : ℕ). free_for bs (job_at bs n) e) here) no-crash

  -- and CRASH is the crash
  pub step_crash : (r : Stepped) (t' : Copies) (b : Bool) → b ≡ BAD_EVENT lent e → b ≡ false → eqb e.kind CRASH ≡ true
      → jobs.outcome r t' out ≡ jobs.crash t bs out e.a → left r t' out ≡ unchecked_step lent out e
  unfolding unchecked_step job_event refuse_if
  step_crash r t' b p h k made = rw (← p, h, eqb-true e.kind CRASH k) (ap of_jobs made)

  -- or refused with 3
  pub crash_bad : (b : Bool) → b ≡ BAD_EVENT lent e → b ≡ true → left (jobs.stepped (Err BadEvent) bs) t out ≡ unchecked_step lent out e
  unfolding unchecked_step refuse_if
  crash_bad b p h = rw (← p, h)
