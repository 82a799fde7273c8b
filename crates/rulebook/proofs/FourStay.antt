-- A job keeps its four lock places: slot by slot, then by each accepted step.
-- Assumes nothing.
use Rattle.std.specs.Prelude.{Err}
use Prim.Native.Nat.{ℕ, zero, suc, ◌<◌}
use native.Mathlib.Decide.{ℕ_discrete}
use native.Mathlib.Omega.{arith}
use mathlib.Core.Path.{◌≡◌, refl, ap, ◌∙◌}
use mathlib.Core.Logic.{dite}
use mathlib.Core.List.{List, [], ◌∷◌}
use lib.ListN.{length, set, replicate, length-set, get_or-replicate}
use lib.Seq.{sets, get_or-set_same, get_or-set_other}
use Rattle.words.specs.declared.Refusal.TheVariants.{Short}
use Rattle.words.specs.Numbers.{job_count, lock_count}
use Rattle.jobs.specs.declared.Lock.{Lock}
use Rattle.jobs.specs.declared.Job.{Job}
use Rattle.jobs.specs.Job.{put_lock, no_job, job_there, begun, with_lock, with_draw}
use Rattle.jobs.specs.Slots.{no_slot, job_at, close_first, closed_at}
use Rattle.rulebook.specs.declared.Event.{Event}
use Rattle.rulebook.specs.Tables.{Plant, short_tables}
use Rattle.rulebook.specs.Events.{BEGIN, LOCKX, LOCKS, DRAW, GRANT, ACK}
use Rattle.rulebook.specs.Edges.{event}
use Rattle.rulebook.specs.Refusals.{refusals}
use Rattle.rulebook.specs.Steps.{Effect, done, refused, do_open, do_begin, do_lockx, do_locks, do_draw, do_read, do_commit, do_abort, do_send, do_demote, do_share, do_drop, do_promote, do_crash, do_restart, accepted, effect, step_of}
use Rattle.rulebook.specs.Around.{empty_plant, emptied, empty_of}
use Rattle.rulebook.specs.Keeps.{FourPlaces, StaysFour}
use Rattle.rulebook.proofs.Judging.{cond_cases, judged_cases, AtKind, accepted_by_kind, ◌then◌, grant_cases, ack_cases}
use Rattle.rulebook.proofs.Admits.{Sound, admitted, job_in}

-- the job has its four lock places
abbrev Four : Job → Type 0
Four b = length b.locks ≡ lock_count

-- ---- the slots
-- one holds another job
four_put : (bs : List Job) (k : ℕ) (b : Job) → FourPlaces bs → Four b → FourPlaces (set bs k b)
four_put bs k b four h j lt =
    let there : j < length bs = rw (length-set bs k b) at lt in
    dite (ℕ_discrete j k)
    (λ e. rw e (ap (λ (x : Job). length x.locks) (get_or-set_same bs k b no_slot (rw e at there)) ∙ h))
    (λ ne. ap (λ (x : Job). length x.locks) (get_or-set_other bs k j b no_slot ne) ∙ four j there)

-- a run of them is closed
four_filled : (n : ℕ) (bs : List Job) (i : ℕ) → FourPlaces bs → FourPlaces (sets bs i (replicate n no_job))
four_filled zero bs i four = four
four_filled (suc n) bs i four = four_filled n (set bs i no_job) (suc i) (four_put bs i no_job four refl)

-- of the first k those of a station are closed
four_closed : (n k : ℕ) (bs : List Job) → FourPlaces bs → FourPlaces (close_first n k bs)
unfolding close_first
four_closed n zero bs four j lt = four j lt
four_closed n (suc k) [] four j lt = four j lt
four_closed n (suc k) (b ∷ bs) four zero lt = cond_cases Four (job_there b n) no_job b (λ _. refl) (λ _. four 0 (omega arith))
four_closed n (suc k) (b ∷ bs) four (suc j) lt = four_closed n k bs (λ i l. four (suc i) (omega arith)) j (omega arith)

-- ---- the steps
module _ (p : Plant) (out : List ℕ) (four : FourPlaces p.jobs) where
  -- the slots after a step
  unfoldable FourAfter : Effect → Type 0
  FourAfter x = FourPlaces x.plant.jobs

  -- so it is of a step, at its kind, where refusals 1 to 3 are not given
  abbrev FourAt : ℕ → (Plant → Event → Effect) → Type 0
  FourAt = AtKind (λ e x. Sound p out e → FourAfter x) p

  -- a job that a sound event names has another lock at one of its places
  four_lock : {e : Event} → Sound p out e → (j : ℕ) → j < job_count → (i : ℕ) (l : Lock) → FourPlaces (set p.jobs j (put_lock (job_at p.jobs j) i l))
  four_lock w j lt i l =
      four_put p.jobs j _ four (length-set (job_at p.jobs j).locks i l ∙ four j (omega (arith, w.slots)))

  -- BEGIN
  four_BEGIN : FourAt BEGIN do_begin
  unfolding FourAfter do_begin begun
  four_BEGIN a b c d w = four_put p.jobs a _ four refl

  -- LOCKX
  four_LOCKX : FourAt LOCKX do_lockx
  unfolding FourAfter do_lockx with_lock
  four_LOCKX a b c d w = four_lock w a (job_in w refl) _ _

  -- LOCKS
  four_LOCKS : FourAt LOCKS do_locks
  unfolding FourAfter do_locks with_lock
  four_LOCKS a b c d w = four_lock w a (job_in w refl) _ _

  -- DRAW
  four_DRAW : FourAt DRAW do_draw
  unfolding FourAfter do_draw with_draw
  four_DRAW a b c d w = four_lock w a (job_in w refl) _ _

  -- an accepted step, in the order of the kinds; those that change no slot, or close some, need no law of their own
  four_accepted : (e : Event) → Sound p out e → FourAfter (accepted p e)
  unfolding FourAfter do_open do_read do_commit do_abort do_send do_demote do_share do_drop do_promote do_crash do_restart closed_at
  four_accepted =
      accepted_by_kind (λ e x. Sound p out e → FourAfter x) p
      ((λ a b c d w. four)
      then (λ a b c d w. four)
      then four_BEGIN
      then four_LOCKX
      then four_LOCKS
      then four_DRAW
      then (λ a b c d w. four)
      then (λ a b c d w. four_put p.jobs a no_job four refl)
      then (λ a b c d w. four_put p.jobs a no_job four refl)
      then (λ a b c d w. four)
      then (λ a b c d w. four)
      then (λ a b c d w. four)
      then (λ a b c d w. four)
      then (λ a b c d w. four)
      then (λ a b c d w. grant_cases p (event GRANT a b c d) FourAfter (λ _. four) (λ _. four))
      then (λ a b c d w. ack_cases p (event ACK a b c d) FourAfter (λ _. four) (λ _. four))
      then (λ a b c d w. four_closed a job_count p.jobs four)
      then (λ a b c d w. four)
      then tt)
      (λ e w. four)

  -- any step
  four_step : (e : Event) → FourPlaces (step_of p out e).plant.jobs
  unfolding step_of effect FourAfter
  four_step e = judged_cases FourAfter (refusals out) p e (λ r. four) (λ none. four_accepted e (admitted p out e none).is_sound)

-- ---- the empty plant
-- as it is defined
four_empty : FourPlaces empty_plant.jobs
four_empty j lt = ap (λ (x : Job). length x.locks) (get_or-replicate job_count j no_job no_slot lt)

-- made in lent tables
four_made : (p : Plant) → FourPlaces p.jobs → FourPlaces (empty_of p).plant.jobs
unfolding empty_of emptied
four_made p four =
    cond_cases (λ (x : Effect). FourPlaces x.plant.jobs) (short_tables p) (refused (Err Short) p) (done 0 (emptied p))
    (λ _. four) (λ _. four_filled job_count p.jobs 0 four)

-- all three
pub stays_four : StaysFour
stays_four = (four_empty, λ p out e four. four_step p out four e, four_made)
