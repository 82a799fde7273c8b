-- An accepted READ returns the next number and the job's own draw: it reads a copy that the job locks, which is held.
-- Assumes nothing.
use Rattle.std.specs.Prelude.{Ok}
use Prim.Native.Nat.{ℕ, ◌+◌, ◌<◌}
use native.Mathlib.Omega.{arith}
use mathlib.Core.Path.{◌≡◌, refl, sym, ap}
use mathlib.Core.Logic.{⊎_elim}
use mathlib.Core.List.{List}
use Rattle.words.specs.Answers.{code_of, value_of}
use Rattle.words.specs.Numbers.{series_count}
use Rattle.copies.specs.Tables.{series_at, value, next}
use Rattle.copies.specs.Facts.{Open}
use Rattle.jobs.specs.Job.{lock_on}
use Rattle.jobs.specs.Slots.{job_at}
use Rattle.jobs.proofs.Fitting.{lock_place_lem}
use Rattle.rulebook.specs.declared.Event.{Event}
use Rattle.rulebook.specs.Tables.{Plant}
use Rattle.rulebook.specs.Events.{READ}
use Rattle.rulebook.specs.Edges.{event}
use Rattle.rulebook.specs.Refusals.{refusals}
use Rattle.rulebook.specs.Steps.{Effect, do_read, accepted, effect}
use Rattle.rulebook.specs.Keeps.{Refused}
use Rattle.rulebook.proofs.Judging.{judged_answers}
use Rattle.rulebook.proofs.Admits.{Admitted, admitted, series_in_lem, job_in}
use Rattle.serials.proofs.Locked.{Locked, locked_copy}
use Rattle.serials.proofs.Leaving.{whole_at_lem}
use Rattle.serials.proofs.Admitting.{series_opened_lem, job_opened, read_locked}
use Rattle.serials.proofs.Showing.{each_refused}
use Rattle.serials.proofs.Wholes.{is_next_lem}

module _ (p : Plant) (out : List ℕ) (a b c d : ℕ) where
  -- a READ of series b by job a
  abbrev reading : Event
  reading = event READ a b c d

  -- the copy that it reads is locked by the job, so it is held, and its value is the next number
  read_next : Admitted p out reading → value (series_at p.copies b) (job_at p.jobs a).station ≡ next (series_at p.copies b)
  read_next w =
      let s = w.is_sound in
      let place = lock_place_lem (job_at p.jobs a) b (read_locked w refl refl) in
      let lock : Locked p.jobs a b (job_at p.jobs a).station = record { slot = job_in s refl; opened = job_opened w refl; there = refl; place = _; within = place.0; locks = place.1 } in
      let copy = locked_copy s.jobs lock in
      (is_next_lem (whole_at_lem s.copies copy.series copy.opened)).of_copies _ copy.station (λ z. ⊎_elim (λ e. omega arith) (λ e. omega arith) copy.held)

  -- what is known of one that is answered so: the series is one that there is, it is open, and the value is its next number and the own draw
  abbrev ReadOf : Effect → Type 0
  ReadOf x =
      (v : ℕ) → x.answer ≡ Ok v
      → (b < series_count) × Open (series_at p.copies b) × (v ≡ next (series_at p.copies b) + (lock_on (job_at p.jobs a) b).drawn)

  -- so it is of an accepted one
  read_accepted : Admitted p out reading → ReadOf (accepted p reading)
  unfolding accepted do_read
  read_accepted w v said = (series_in_lem w.is_sound refl, series_opened_lem w refl, rw (← read_next w) (sym (ap value_of said)))

  -- and a refused one has no value
  pub read_value : ReadOf (effect p out reading)
  unfolding effect
  read_value =
      judged_answers ReadOf Refused (refusals out) p reading (each_refused out) (λ y refusal v said. absurd (refusal (ap code_of said)))
      (λ none. read_accepted (admitted p out reading none))
