-- Lent tables by the number of their job slots: fewer than sixteen are refusal 1, and of sixteen or more the first sixteen decide.
-- Assumes nothing.
use Rattle.std.specs.Prelude.{Err}
use Rattle.std.specs.Prelude.{Ok}
use Prim.Native.Nat.{ℕ, ◌<◌, ◌≤◌}
use mathlib.Core.Path.{◌≡◌, ◌∙◌, sym, ap}
use mathlib.Core.Bool.{true, false}
use mathlib.Core.List.{List, ◌++◌}
use lib.ListN.{length, take, drop, replicate}
use lib.Seq.{sets}
use borrow.Author.Tests.{lt-ltb, le-ltb}
use Rattle.words.specs.Numbers.{job_count}
use Rattle.words.specs.Tests.{◌or◌}
use Rattle.words.specs.declared.Refusal.TheVariants.{Short}
use Rattle.words.proofs.Laws.{or_true}
use Rattle.copies.specs.Tables.{Copies}
use Rattle.jobs.specs.declared.Job.{Job}
use Rattle.jobs.specs.Calls.{Stepped}
use Rattle.jobs.specs.Job.{no_job}
use Rattle.jobs.specs.Slots.{short_jobs}
use Rattle.jobs.specs.Draws.{shown}
use Rattle.rulebook.specs.declared.Event.{Event}
use Rattle.rulebook.specs.declared.Holders.{Holders}
use Rattle.rulebook.specs.Tables.{plant, short_tables}
use Rattle.rulebook.specs.Refusals.{SHORT}
use Rattle.rulebook.specs.Steps.{judged, effect, step_of}
use Rattle.rulebook.specs.Around.{emptied, empty_of, no_holders, holders_of}
use Rattle.rulebook.specs.Sixteen.{outcome_with_extra_of}
use Rattle.rulebook.proofs.Sixteen.{step_by_sixteen, holders_by_sixteen}
use Rattle.events.specs.Calls as events
use Rattle.machine.specs.Calls.{cleared, clear_of}
use Rattle.machine.proofs.Emptied.{clear_said}
use Rattle.plant.specs.Calls.{left, made}

module _ (t : Copies) (bs : List Job) where
  -- fewer than sixteen slots make the tables short
  few_short : length bs < job_count → short_tables (plant t bs) ≡ true
  unfolding short_tables short_jobs
  few_short few = rw (lt-ltb _ _ few) (or_true _)

  -- sixteen or more are not short
  enough_slots : job_count ≤ length bs → short_jobs bs ≡ false
  unfolding short_jobs
  enough_slots enough = le-ltb _ _ enough

  -- ---- a step
  module _ (out : List ℕ) (e : Event) where
    -- of fewer than sixteen slots: refusal 1
    pub step_few : length bs < job_count → left (Err Short) (plant t bs) out ≡ step_of (plant t bs) out e
    unfolding step_of effect judged SHORT shown ◌or◌
    step_few few = rw (few_short few)

    -- of sixteen or more: those that were taken out stepped to those of r, which stand again before the others
    pub step_taken : (all : List Job) (r : Stepped) (t' : Copies) (bs' : List Job) (out' : List ℕ) → job_count ≤ length bs → all ≡ take job_count bs
        → events.left r t' out' ≡ step_of (plant t all) out e → bs' ≡ r.jobs ++ drop job_count bs
        → left r.answer (plant t' bs') out' ≡ step_of (plant t bs) out e
    step_taken all r t' bs' out' enough first did back =
        ap (λ (l : List Job). left r.answer (plant t' l) out') back
        ∙ ap (outcome_with_extra_of (plant t bs)) (did ∙ ap (λ (l : List Job). step_of (plant t l) out e) first)
        ∙ sym (step_by_sixteen (plant t bs) out e (enough_slots enough))

  -- ---- an empty plant
  -- in fewer than sixteen slots: refusal 1
  pub empty_few : length bs < job_count → made (Err Short) (plant t bs) ≡ empty_of (plant t bs)
  unfolding empty_of
  empty_few few = rw (few_short few)

  -- in short columns, which are as they were
  pub empty_unclear : (u : Copies) → cleared false u ≡ clear_of t → made (Err Short) (plant u bs) ≡ empty_of (plant t bs)
  unfolding empty_of short_tables ◌or◌
  empty_unclear u e = let said = clear_said t false u e in rw (said.0, said.1)

  -- in neither: the columns are cleared, and the jobs in the sixteen slots closed
  pub empty_clear : (u : Copies) (bs' : List Job) → job_count ≤ length bs → cleared true u ≡ clear_of t → bs' ≡ sets bs 0 (replicate job_count no_job)
      → made (Ok 0) (plant u bs') ≡ empty_of (plant t bs)
  unfolding empty_of emptied short_tables ◌or◌
  empty_clear u bs' enough e slots = let said = clear_said t true u e in rw (said.0, said.1, enough_slots enough, slots)

  -- ---- the holders of series s
  module _ (s : ℕ) (h : Holders) where
    -- of fewer than sixteen slots: refusal 1
    pub holders_few : length bs < job_count → h ≡ no_holders (Err Short) → h ≡ holders_of (plant t bs) s
    unfolding holders_of
    holders_few few e = rw (few_short few) e

    -- of sixteen or more, by the sixteen that are taken out
    pub holders_taken : (all : List Job) → job_count ≤ length bs → all ≡ take job_count bs → h ≡ holders_of (plant t all) s
        → h ≡ holders_of (plant t bs) s
    holders_taken all enough first e =
        e ∙ (ap (λ (l : List Job). holders_of (plant t l) s) first ∙ sym (holders_by_sixteen (plant t bs) s (enough_slots enough)))
