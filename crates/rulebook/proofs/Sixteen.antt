-- The first sixteen slots decide, since no rule looks past them and no accepted step changes a slot past them.
-- Assumes nothing.
use Prim.Native.Nat.{ℕ, zero, suc, ◌≤◌, ◌<◌}
use native.Mathlib.Omega.{arith}
use mathlib.Core.Path.{◌≡◌, refl, sym, ap, ◌∙◌}
use mathlib.Core.Bool.{Bool, true, false}
use mathlib.Core.List.{List, [], ◌∷◌, ◌++◌}
use lib.ListN.{length, take, drop, set, length-append, take-append-drop, get_or-append}
use lib.Seq.{length-take-le, set-append_left}
use borrow.Author.Tests.{ltb-false, le-ltb}
use Rattle.words.specs.Numbers.{job_count}
use Rattle.words.proofs.Changed.{all_same, sum_same}
use Rattle.copies.specs.Tables.{Copies}
use Rattle.jobs.specs.declared.Job.{Job}
use Rattle.jobs.specs.Slots.{short_jobs, no_slot, job_at, free, close_first, closed_at, count_at}
use Rattle.jobs.specs.Whole.{W4_alone, W4_job, W1_jobs, W4_jobs, W5_jobs}
use Rattle.rulebook.specs.declared.Event.{Event}
use Rattle.rulebook.specs.Tables.{Plant, plant, with_jobs, short_tables}
use Rattle.rulebook.specs.Whole.{W1, W2, W3, W4, W5, whole}
use Rattle.rulebook.specs.Events.{a_series, a_job, has, the, the_job, the_station}
use Rattle.rulebook.specs.Refusals.{SHORT, NOT_WHOLE, BAD_EVENT, TAKEN, NONE, DOWN, UP, HELD, FULL, COPY, LOCKED, NO_LOCK, DRAWN, RANGE, WAIT, SPENT, OTHERS, NO_MESSAGE, Case, event_refusals}
use Rattle.rulebook.specs.Steps.{Effect, do_open, do_begin, do_lockx, do_locks, do_draw, do_read, do_commit, do_abort, do_send, do_demote, do_share, do_drop, do_promote, do_grant, do_ack, do_crash, do_restart, accepted_steps, accepted, judged, effect, outcome, step_of}
use Rattle.rulebook.specs.Around.{holders_of}
use Rattle.rulebook.specs.Sixteen.{StepBySixteen, HoldersBySixteen, BySixteen}
use Rattle.rulebook.proofs.Judging.{cond_cases, each_kind, ◌then◌, grant_cases, ack_cases}
use Rattle.rulebook.proofs.Ranges.{field_absent}
use Rattle.rulebook.proofs.Admits.{Sound, sound, job_in}

-- the job of a sound event is one of the sixteen; where the event has no such field, the number is 0
the_job_in : {p : Plant} {out : List ℕ} {e : Event} → Sound p out e → the a_job e < job_count
the_job_in {p} {out} {e} w = by_case (has a_job e) refl
  where
    by_case : (b : Bool) → has a_job e ≡ b → the a_job e < job_count
    by_case true h = job_in w h
    by_case false h = rw (field_absent a_job e h) (omega arith)

-- of the first k slots those of a station are closed, and what stands behind them stays
close_extra : (n k : ℕ) (bs extra : List Job) → k ≤ length bs → close_first n k (bs ++ extra) ≡ close_first n k bs ++ extra
unfolding close_first
close_extra n zero bs extra le = refl
close_extra n (suc k) [] extra le = absurd (omega arith)
close_extra n (suc k) (b ∷ bs) extra le = rw (close_extra n k bs extra (omega arith))

-- ---- a plant that isn't short of slots, and the same with extra slots behind
module _ (t : Copies) (bs extra : List Job) (enough : job_count ≤ length bs) where
  -- the plant without them
  abbrev few : Plant
  few = plant t bs

  -- and with them
  abbrev many : Plant
  many = plant t (bs ++ extra)

  -- ---- the rules
  -- each of the first sixteen slots is the same
  slot_extra : (j : ℕ) → j < job_count → job_at (bs ++ extra) j ≡ job_at bs j
  slot_extra j lt = get_or-append bs extra no_slot j (omega (arith, enough))

  -- the same copies are free
  free_extra : (s n : ℕ) → free (bs ++ extra) s n ≡ free bs s n
  unfolding free
  free_extra s n = all_same job_count _ _ (λ j lt. rw (slot_extra j lt))

  -- a crash closes as many jobs
  count_extra : (n : ℕ) → count_at n (bs ++ extra) ≡ count_at n bs
  unfolding count_at
  count_extra n = sum_same job_count _ _ (λ j lt. rw (slot_extra j lt))

  -- no table is short that wasn't
  short_extra : short_tables many ≡ short_tables few
  unfolding short_tables short_jobs
  short_extra =
      let longer : job_count ≤ length (bs ++ extra) = omega (arith, enough, length-append bs extra) in
      rw (le-ltb _ _ enough, le-ltb _ _ longer)

  -- W1 of the slots
  W1_extra : W1_jobs (bs ++ extra) ≡ W1_jobs bs
  unfolding W1_jobs
  W1_extra = all_same job_count _ _ (λ j lt. rw (slot_extra j lt))

  -- W4 of a job beside the others
  alone_extra : (j : ℕ) → j < job_count → W4_alone (bs ++ extra) j ≡ W4_alone bs j
  unfolding W4_alone
  alone_extra j lt = all_same job_count _ _ (λ k l. rw (slot_extra j lt, slot_extra k l))

  -- W4 of the slots
  W4_extra : W4_jobs t (bs ++ extra) ≡ W4_jobs t bs
  unfolding W4_jobs W4_job
  W4_extra = all_same job_count _ _ (λ j lt. rw (slot_extra j lt, alone_extra j lt))

  -- W5 of the slots
  W5_extra : W5_jobs (bs ++ extra) ≡ W5_jobs bs
  unfolding W5_jobs
  W5_extra = all_same job_count _ _ (λ j lt. rw (slot_extra j lt))

  -- the tables are whole where they were
  whole_extra : whole many ≡ whole few
  unfolding whole W1 W2 W3 W4 W5
  whole_extra = rw (W1_extra, W4_extra, W5_extra)

  -- the holders of a series
  holders_extra : (s : ℕ) → holders_of many s ≡ holders_of few s
  unfolding holders_of
  holders_extra s = rw (short_extra, whole_extra)

  -- ---- a step
  -- the effect with the extra slots behind those of its plant
  abbrev with_extra : Effect → Effect
  with_extra x = record { answer = x.answer; plant = with_jobs x.plant (x.plant.jobs ++ extra); draws = x.draws }

  module _ (e : Event) where
    -- the refusal is given of both plants or of neither
    abbrev Agrees : Case → Type 0
    Agrees r = r.given many e ≡ r.given few e

    -- and so is each of them
    abbrev EachAgrees : List Case → Type 0
    EachAgrees [] = Unit {0}
    EachAgrees (r ∷ rs) = Agrees r × EachAgrees rs

    -- what is judged is the same, with the extra slots behind
    abbrev JudgedAlike : List Case → Type 0
    JudgedAlike rs = judged rs many e ≡ with_extra (judged rs few e)

    -- so it is by one refusal and, where it isn't given, by those after it
    refusal_extra : (r : Case) (rs : List Case) → Agrees r → (r.given few e ≡ false → JudgedAlike rs) → JudgedAlike (r ∷ rs)
    unfolding judged
    refusal_extra r rs same later =
        rw same
        (cond_cases (λ (x : Effect). x ≡ with_extra (judged (r ∷ rs) few e)) (r.given few e) _ _ (λ h. rw h) (λ h. rw h (later h)))

    -- and by any number of them
    refusals_extra : (rs : List Case) → EachAgrees rs → accepted many e ≡ with_extra (accepted few e) → JudgedAlike rs
    unfolding judged
    refusals_extra [] same go = go
    refusals_extra (r ∷ rs) same go = refusal_extra r rs same.0 (λ _. refusals_extra rs same.1 go)

    module _ (lt : the a_job e < job_count) where
      -- the event's job
      job_extra : the_job many e ≡ the_job few e
      job_extra = slot_extra (the a_job e) lt

      -- its slot holds another job
      put_extra : (b : Job) → set (bs ++ extra) (the a_job e) b ≡ set bs (the a_job e) b ++ extra
      put_extra b = set-append_left bs extra (the a_job e) b (omega (arith, enough, lt))

      -- refusals 4 to 18, in the order of the checks
      event_agrees : EachAgrees (drop 1 event_refusals)
      unfolding TAKEN NONE DOWN UP HELD FULL COPY LOCKED NO_LOCK DRAWN RANGE WAIT SPENT OTHERS NO_MESSAGE
      event_agrees =
          (rw job_extra)
          then (rw job_extra)
          then (rw job_extra)
          then (rw job_extra)
          then (rw job_extra)
          then (rw job_extra)
          then (rw job_extra)
          then (rw (job_extra, free_extra (the a_series e) (the_station few e)))
          then (rw job_extra)
          then (rw job_extra)
          then (rw job_extra)
          then refl
          then refl
          then (rw job_extra)
          then refl
          then tt

      -- the accepted step, in the order of the kinds
      accepted_extra : accepted many e ≡ with_extra (accepted few e)
      unfolding accepted do_open do_begin do_lockx do_locks do_draw do_read do_commit do_abort do_send do_demote do_share do_drop do_promote do_grant do_ack do_crash do_restart closed_at
      accepted_extra =
          each_kind (λ k step. step many e ≡ with_extra (step few e)) accepted_steps
          (refl
          then refl
          then (rw (put_extra _))
          then (rw (job_extra, put_extra _))
          then (rw (job_extra, put_extra _))
          then (rw (job_extra, put_extra _))
          then (rw job_extra)
          then (rw (job_extra, put_extra _))
          then (rw (put_extra _))
          then refl
          then refl
          then refl
          then refl
          then refl
          then (grant_cases many e (λ (x : Effect). x ≡ with_extra (do_grant few e)) (λ h. rw h) (λ h. rw h))
          then (ack_cases many e (λ (x : Effect). x ≡ with_extra (do_ack few e)) (λ h. rw h) (λ h. rw h))
          then (rw (count_extra _, close_extra _ job_count bs extra enough))
          then refl
          then tt)
          (λ k. refl) e.kind

    -- where refusals 1 to 3 are not given, the event's job is one of the sixteen
    sound_extra : {out : List ℕ} → Sound few out e → JudgedAlike (drop 1 event_refusals)
    sound_extra w = let lt = the_job_in w in refusals_extra (drop 1 event_refusals) (event_agrees lt) (accepted_extra lt)

    -- any step: refusals 1 to 3, and then the others
    effect_extra : (out : List ℕ) → effect many out e ≡ with_extra (effect few out e)
    unfolding effect SHORT NOT_WHOLE BAD_EVENT
    effect_extra out =
        refusal_extra _ _ (rw short_extra)
        (λ short. refusal_extra _ _ (rw whole_extra)
        (λ notWhole. refusal_extra _ _ refl (λ bad. sound_extra (sound few out e short notWhole bad))))

-- ---- the first sixteen slots of a table, and the extra ones
-- of slots that aren't short the first sixteen are sixteen
first_enough : (bs : List Job) → short_jobs bs ≡ false → job_count ≤ length (take job_count bs)
unfolding short_jobs
first_enough bs fine = rw (length-take-le job_count bs (ltb-false _ _ fine)) (omega arith)

-- a step
pub step_by_sixteen : StepBySixteen
unfolding step_of
step_by_sixteen p out e fine =
    ap (λ (bs : List Job). step_of (plant p.copies bs) out e) (sym (take-append-drop job_count p.jobs))
    ∙ ap (outcome out) (effect_extra p.copies (take job_count p.jobs) (drop job_count p.jobs) (first_enough p.jobs fine) e out)

-- the holders of a series
pub holders_by_sixteen : HoldersBySixteen
holders_by_sixteen p s fine =
    ap (λ (bs : List Job). holders_of (plant p.copies bs) s) (sym (take-append-drop job_count p.jobs))
    ∙ holders_extra p.copies (take job_count p.jobs) (drop job_count p.jobs) (first_enough p.jobs fine) s

-- both
pub by_sixteen : BySixteen
by_sixteen = (step_by_sixteen, holders_by_sixteen)
