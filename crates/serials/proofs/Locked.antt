-- Copies that jobs lock: what a lock reads of its copy, and what whole job slots say of it.
-- Assumes nothing.
use Prim.Native.Nat.{ℕ, ◌<◌}
use native.Mathlib.Decide.{ℕ_discrete}
use native.Mathlib.Omega.{arith}
use mathlib.Core.Path.{◌≡◌, refl, sym, ap, ◌∙◌}
use mathlib.Core.Logic.{◌⊎◌, inl, inr, ◌≢◌, dite}
use mathlib.Core.Bool.{true}
use mathlib.Core.List.{List}
use Rattle.words.specs.Numbers.{station_count, series_count, job_count, lock_count, share, exclusive}
use Rattle.words.proofs.Laws.{all_true}
use Rattle.words.proofs.Reflects.{reflects_eq, reflects_and, reflects_nand}
use Rattle.copies.specs.declared.Kept.{Kept}
use Rattle.copies.specs.Tables.{Copies, Series, series_at, kind, value}
use Rattle.copies.specs.Facts.{Open}
use Rattle.jobs.specs.declared.Job.{Job}
use Rattle.jobs.specs.Job.{lock_at}
use Rattle.jobs.specs.Slots.{job_at, free}
use Rattle.jobs.specs.Facts.{OpenJob, Locks, JobsWhole}
use Rattle.jobs.proofs.Reflect.{not_locked_reflects}

-- The job in slot j locks the copy of series s at station n.
pub record Locked (bs : List Job) (j s n : ℕ) : Type 0 where
  pub slot : j < job_count
  pub opened : OpenJob (job_at bs j)
  pub there : (job_at bs j).station ≡ n
  pub place : ℕ
  pub within : place < lock_count
  pub locks : Locks (job_at bs j) s place

-- What W4 reads of station n's copy is the same in both.
pub record SameCopy (r r' : Series) (n : ℕ) : Type 0 where
  pub same_first : r'.first ≡ r.first
  pub same_last : r'.last ≡ r.last
  pub same_kind : kind r' n ≡ kind r n
  pub same_value : value r' n ≡ value r n

-- a series' copy and itself
pub same_copy_self : {r : Series} {n : ℕ} → SameCopy r r n
same_copy_self = record { same_first = refl; same_last = refl; same_kind = refl; same_value = refl }

-- a copy is as it was where the bounds and all that its station keeps are
pub copy_stays : {r r' : Series} {n : ℕ} → r'.first ≡ r.first → r'.last ≡ r.last → r'.kept n ≡ r.kept n → SameCopy r r' n
copy_stays f l k =
    record { same_first = f; same_last = l; same_kind = ap (λ (a : Kept). a.kind) k; same_value = ap (λ (a : Kept). a.value) k }

-- as it was, and then again
pub copy_then : {a b c : Series} {n : ℕ} → SameCopy a b n → SameCopy b c n → SameCopy a c n
copy_then p q =
    record {
      same_first = q.same_first ∙ p.same_first;
      same_last = q.same_last ∙ p.same_last;
      same_kind = q.same_kind ∙ p.same_kind;
      same_value = q.same_value ∙ p.same_value;
    }

-- ---- what locks a copy
-- no job locks a free copy
pub free_locked : (bs : List Job) (j s n : ℕ) → free bs s n ≡ true → Locked bs j s n → ⊥
unfolding free
free_locked bs j s n e w =
    let b : Job = job_at bs j in
    (reflects_nand _ _ (reflects_and _ _ (reflects_eq b.mark 1) (reflects_eq b.station n)) (not_locked_reflects b s)).0
    (all_true job_count _ e j w.slot) (w.opened, w.there) w.place w.within w.locks

-- Of the copy of series s at station n, which a job locks: there are such a series and station, the series is open and the copy is held.
pub record LockedCopy (t : Copies) (s n : ℕ) : Type 0 where
  pub series : s < series_count
  pub station : n < station_count
  pub opened : Open (series_at t s)
  pub held : (kind (series_at t s) n ≡ share) ⊎ (kind (series_at t s) n ≡ exclusive)

-- so it is of each lock in whole slots
pub locked_copy : {t : Copies} {bs : List Job} {j s n : ℕ} → JobsWhole t bs → Locked bs j s n → LockedCopy t s n
locked_copy {t} {bs} {j} whole w =
    let b : Job = job_at bs j in
    let own = ((whole j w.slot).opened w.opened).lock w.place w.within w.locks.0 in
    let range = (whole j w.slot).range.of_lock w.place w.within in
    rw (← w.there, ← w.locks.1)
    (record {
      series = range.of_series;
      station = (whole j w.slot).range.of_station;
      opened = own.opened;
      held = dite (ℕ_discrete (lock_at b w.place).mode share) (λ e. inl (own.share_copy e))
          (λ ne. inr (own.exclusive_copy (omega (arith, w.locks.0, range.of_mode))));
    })

-- a copy that a job locks exclusively is exclusive
pub locked_exclusive : {t : Copies} {bs : List Job} {j s n : ℕ} → JobsWhole t bs → (w : Locked bs j s n)
    → (lock_at (job_at bs j) w.place).mode ≡ exclusive → kind (series_at t s) n ≡ exclusive
locked_exclusive {j} whole w mode =
    rw (← w.there, ← w.locks.1) ((((whole j w.slot).opened w.opened).lock w.place w.within w.locks.0).exclusive_copy mode)

-- an exclusive lock is alone on its copy
pub exclusive_alone : {t : Copies} {bs : List Job} {j k s n i : ℕ} → JobsWhole t bs → j < job_count → OpenJob (job_at bs j) → i < lock_count
    → (lock_at (job_at bs j) i).mode ≡ exclusive → (lock_at (job_at bs j) i).series ≡ s → (job_at bs j).station ≡ n → k ≢ j → Locked bs k s n → ⊥
exclusive_alone {j} {k} {i} whole lt o li mode series station ne w =
    ((whole j lt).opened o).alone k w.slot ne w.opened (w.there ∙ sym station) i w.place li w.within mode
    (w.locks.0, w.locks.1 ∙ sym series)
