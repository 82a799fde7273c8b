-- Job slots at stations that crash and restart: a crash closes the station's jobs, a restart leaves them all.
-- Assumes nothing.
use Prim.Native.Nat.{ℕ, ◌<◌}
use native.Mathlib.Decide.{ℕ_discrete}
use mathlib.Core.Path.{◌≡◌, refl, sym, ◌∙◌}
use mathlib.Core.Logic.{inl, inr, ◌≢◌, dite}
use mathlib.Core.Bool.{Bool, true, false, true≢false}
use mathlib.Core.List.{List}
use lib.ListN.{get_or}
use Rattle.words.specs.Numbers.{job_count}
use Rattle.words.proofs.Reflects.{reflects_eq, reflects_and}
use Rattle.copies.specs.Tables.{Copies, series_at}
use Rattle.copies.proofs.After.{Marks}
use Rattle.jobs.specs.declared.Job.{Job}
use Rattle.jobs.specs.Job.{job_there}
use Rattle.jobs.specs.Slots.{job_at, closed_at}
use Rattle.jobs.specs.Facts.{JobsWhole}
use Rattle.jobs.proofs.Closing.{close_at}
use Rattle.serials.proofs.Locked.{SameCopy, same_copy_self}
use Rattle.serials.proofs.Slots.{StaysOrCloses, jobs_kept}

module _ {t t' : Copies} {n mark : ℕ} (marks : Marks t t' n mark) where
  -- the copies are as they were
  marks_copies : (s m : ℕ) → SameCopy (series_at t s) (series_at t' s) m
  marks_copies s m = rw (marks.series s) same_copy_self

  -- and another station is up if it was
  marks_up : {m : ℕ} → m ≢ n → get_or t.up m 0 ≡ 1 → get_or t'.up m 0 ≡ 1
  marks_up {m} ne up = marks.elsewhere m ne ∙ up

-- a slot after a crash: closed, or of a job at another station
crash_slot : {t t' : Copies} {bs : List Job} {n j : ℕ} → Marks t t' n 0 → JobsWhole t bs → j < job_count → (a : Bool)
    → job_there (job_at bs j) n ≡ a → StaysOrCloses t bs t' (closed_at n bs) j
unfolding closed_at
crash_slot {bs} {n} {j} marks whole l true e = inl (close_at n job_count bs j l ∙ rw e)
crash_slot {bs} {n} {j} marks whole l false e =
    let b : Job = job_at bs j in
    let there = reflects_and _ _ (reflects_eq b.mark 1) (reflects_eq b.station n) in
    inr (
      close_at n job_count bs j l ∙ rw e,
      λ o. marks_up marks (λ q. true≢false (sym (there.1 (o, q)) ∙ e)) ((whole j l).opened o).station_up,
      λ s m _. marks_copies marks s m,
    )

-- CRASH
pub crash_jobs : {t t' : Copies} {bs : List Job} {n : ℕ} → Marks t t' n 0 → JobsWhole t bs → JobsWhole t' (closed_at n bs)
crash_jobs {t} {t'} {bs} {n} marks whole =
    jobs_kept t t' bs (closed_at n bs) (λ j l. crash_slot marks whole l (job_there (job_at bs j) n) refl) whole

-- RESTART
pub restart_jobs : {t t' : Copies} {bs : List Job} {n : ℕ} → Marks t t' n 1 → JobsWhole t bs → JobsWhole t' bs
restart_jobs {t} {t'} {bs} {n} marks whole =
    jobs_kept t t' bs bs
    (λ j l. inr (
      refl,
      λ o. dite (ℕ_discrete (job_at bs j).station n) (λ e. rw e marks.here) (λ ne. marks_up marks ne ((whole j l).opened o).station_up),
      λ s m _. marks_copies marks s m,
    )) whole
