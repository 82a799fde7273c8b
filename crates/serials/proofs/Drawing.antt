-- DRAW: the lock of a job on a series notes another count.
-- Assumes nothing.
use Prim.Native.Nat.{ℕ, ◌+◌, ◌-◌, ◌≤◌, ◌<◌}
use native.Mathlib.Omega.{arith}
use mathlib.Core.Path.{◌≡◌, refl, sym}
use mathlib.Core.Logic.{◌≢◌}
use mathlib.Core.Bool.{true}
use mathlib.Core.List.{List}
use lib.ListN.{set, length}
use Rattle.words.specs.Numbers.{job_count, lock_count, greatest_serial, exclusive}
use Rattle.copies.specs.Tables.{Copies, series_at, value}
use Rattle.jobs.specs.declared.Lock.{Lock}
use Rattle.jobs.specs.declared.Job.{Job}
use Rattle.jobs.specs.Job.{lock_at, locks_series, lock_on, with_draw}
use Rattle.jobs.specs.Slots.{job_at}
use Rattle.jobs.specs.Facts.{OpenJob, Used, Locks, JobsWhole}
use Rattle.jobs.proofs.Fitting.{lock_place_lem}
use Rattle.serials.proofs.Locked.{exclusive_alone}
use Rattle.serials.proofs.Slots.{OwnWhole, slot_own}
use Rattle.serials.proofs.Putting.{Puttable, put_jobs}

-- W4: no other place of an open job is on the series of a used place
other_places : {t : Copies} {b : Job} {i : ℕ} → OwnWhole t b → OpenJob b → i < lock_count → Used b i → (k : ℕ) → k < lock_count → k ≢ i
    → Locks b (lock_at b i).series k → ⊥
other_places {i} own o li used k lk ne locks =
    let earlier : k < i → ⊥ = λ lt. (own.lock o i li used).differs k lt locks in
    let later : i < k → ⊥ = λ lt. (own.lock o k lk locks.0).differs i lt (used, sym locks.1) in
    omega arith

-- the lock at place i, with that count
abbrev drawing : Job → ℕ → ℕ → Lock
drawing b i count = record { series = (lock_at b i).series; mode = (lock_at b i).mode; drawn = count }

-- an exclusive lock of an open job may note a count of at most last + 1 − value
drawing_put : {t : Copies} {b : Job} {i count : ℕ} → length b.locks ≡ lock_count → OwnWhole t b → OpenJob b → i < lock_count
    → (lock_at b i).mode ≡ exclusive → count ≤ greatest_serial
    → count ≤ (series_at t (lock_at b i).series).last + 1 - value (series_at t (lock_at b i).series) b.station
    → Puttable t b i (drawing b i count)
drawing_put {b} {i} four own o li mode few within =
    let used : Used b i = λ e. omega arith in
    let w = own.lock o i li used in
    let range = own.range.of_lock i li in
    record {
      four = four;
      place = li;
      fits = record {
        used = used;
        range = record { of_series = range.of_series; of_mode = range.of_mode; of_draw = few };
        opened = w.opened;
        exclusive_copy = w.exclusive_copy;
        within = λ _. within;
        share_copy = w.share_copy;
        no_draw = λ e. absurd (omega arith);
      };
      before = (own.place i li).after used;
      differs = other_places own o li used;
    }

-- DRAW
pub draw_jobs : {t : Copies} {bs : List Job} {j count : ℕ} (s : ℕ) → job_count ≤ length bs → j < job_count
    → length (job_at bs j).locks ≡ lock_count → OpenJob (job_at bs j) → locks_series (job_at bs j) s ≡ true
    → (lock_on (job_at bs j) s).mode ≡ exclusive → count ≤ greatest_serial
    → count ≤ (series_at t s).last + 1 - value (series_at t s) (job_at bs j).station → JobsWhole t bs
    → JobsWhole t (set bs j (with_draw (job_at bs j) s count))
unfolding with_draw
draw_jobs {bs} {j} s long lt four o locked mode few within whole =
    let found = lock_place_lem (job_at bs j) s locked in
    put_jobs long lt o (drawing_put four (slot_own (whole j lt)) o found.0 mode few (rw found.1.1 within))
    (λ k ne w _. exclusive_alone whole lt o found.0 mode refl refl ne w) whole
