-- Job slots that close, stay or hold another job: each is whole by itself, and the exclusive locks of two are apart.
-- Assumes nothing.
use Prim.Native.Nat.{ℕ, ◌≤◌, ◌<◌}
use native.Mathlib.Decide.{ℕ_discrete}
use native.Mathlib.Omega.{arith}
use mathlib.Core.Path.{◌≡◌, refl, sym, ap, ◌∙◌}
use mathlib.Core.Logic.{◌⊎◌, inl, inr, ⊎_elim, ◌≢◌, dite}
use mathlib.Core.List.{List}
use lib.ListN.{get_or, set, length, replicate, get_or-replicate}
use lib.Seq.{get_or-set_same, get_or-set_other}
use Rattle.words.specs.Numbers.{station_count, job_count, lock_count}
use Rattle.copies.specs.Tables.{Copies, series_at}
use Rattle.jobs.specs.declared.Lock.{Lock}
use Rattle.jobs.specs.declared.Job.{Job}
use Rattle.jobs.specs.Job.{no_lock, no_job, lock_at, begun}
use Rattle.jobs.specs.Slots.{no_slot, job_at}
use Rattle.jobs.specs.Facts.{OpenJob, Used, locked_series, JobRange, LockWhole, Apart, PlaceWhole, Empty, JobWhole, JobsWhole}
use Rattle.serials.proofs.Locked.{Locked, SameCopy}

-- ---- one entry put
-- what is shown of the new entry at its place, and of the old ones elsewhere, is shown of each
pub put_cases : {A : Type 0} (P : A → Type 0) (l : List A) (i : ℕ) (a d : A) (k : ℕ) → i < length l → (k ≡ i → P a)
    → (k ≢ i → P (get_or l k d)) → P (get_or (set l i a) k d)
put_cases P l i a d k lt same other =
    dite (ℕ_discrete k i) (λ e. rw (e, get_or-set_same l i a d lt) (same e)) (λ ne. rw (get_or-set_other l i k a d ne) (other ne))

-- ---- one slot, and two
-- Job b is whole by itself: all that W1, W4 and W5 say of it but that its exclusive locks are alone on their copies.
pub record OwnWhole (t : Copies) (b : Job) : Type 0 where
  pub range : JobRange b
  pub station_up : OpenJob b → get_or t.up b.station 0 ≡ 1
  pub lock : OpenJob b → (i : ℕ) → i < lock_count → Used b i → LockWhole t b i
  pub place : (i : ℕ) → i < lock_count → PlaceWhole b i
  pub unused : b.mark ≡ 0 → Empty b

-- a job in whole slots is whole by itself
pub slot_own : {t : Copies} {bs : List Job} {j : ℕ} → JobWhole t bs j → OwnWhole t (job_at bs j)
slot_own w =
    record {
      range = w.range;
      station_up = λ o. (w.opened o).station_up;
      lock = λ o. (w.opened o).lock;
      place = w.place;
      unused = w.unused;
    }

-- slots are whole where each is by itself, and the exclusive locks of each open job are apart from the others' locks
pub slots_whole : {t : Copies} {bs : List Job} → ((j : ℕ) → j < job_count → OwnWhole t (job_at bs j))
    → ((j k : ℕ) → j < job_count → k < job_count → k ≢ j → OpenJob (job_at bs j) → Apart (job_at bs j) (job_at bs k)) → JobsWhole t bs
slots_whole own apart j l =
    let w = own j l in
    record {
      range = w.range;
      opened = λ o. record { station_up = w.station_up o; lock = w.lock o; alone = λ k m ne. apart j k l m ne o };
      place = w.place;
      unused = w.unused;
    }

-- ---- a job with no lock
-- with that mark, at station n
abbrev without_lock : (mark n : ℕ) → Job
without_lock mark n = record { mark = mark; station = n; locks = replicate lock_count no_lock }

-- each of its places is unused
bare_place : (mark n i : ℕ) → i < lock_count → lock_at (without_lock mark n) i ≡ no_lock
bare_place mark n i l = get_or-replicate lock_count i no_lock no_lock l

-- so none is used
bare_unused : (mark n i : ℕ) → i < lock_count → Used (without_lock mark n) i → ⊥
bare_unused mark n i l used = used (ap (λ (x : Lock). x.mode) (bare_place mark n i l))

-- it is whole by itself: at a station that is up if it is open, and at station 0 if it isn't
bare_own : (t : Copies) (mark n : ℕ) → mark ≤ 1 → n < station_count → (mark ≡ 1 → get_or t.up n 0 ≡ 1) → (mark ≡ 0 → n ≡ 0)
    → OwnWhole t (without_lock mark n)
bare_own t mark n few lt up none =
    record {
      range = record {
        of_mark = few;
        of_station = lt;
        of_lock = λ i l. rw (bare_place mark n i l) (record { of_series = omega arith; of_mode = omega arith; of_draw = omega arith });
      };
      station_up = up;
      lock = λ o i l used. absurd (bare_unused mark n i l used);
      place = λ i l. record { zero = λ _. rw (bare_place mark n i l) (refl, refl); after = λ used. absurd (bare_unused mark n i l used) };
      unused = λ e. (none e, λ i l. ap (λ (x : Lock). x.mode) (bare_place mark n i l));
    }

-- and apart from any other job
bare_apart : (mark n : ℕ) (b : Job) → Apart (without_lock mark n) b × Apart b (without_lock mark n)
bare_apart mark n b = (
  λ o e i k li lk mode locks. bare_unused mark n i li (λ none. absurd (omega arith)),
  λ o e i k li lk mode locks. bare_unused mark n k lk locks.0,
)

-- an empty slot is whole by itself
closed_own : (t : Copies) → OwnWhole t no_job
closed_own t = bare_own t 0 0 (omega arith) (omega arith) (λ e. absurd (omega arith)) (λ _. refl)

-- ---- jobs that close or stay
-- a lock is whole above another copy that reads the same
lock_above : (t t' : Copies) (b : Job) (i : ℕ) → SameCopy (locked_series t b i) (locked_series t' b i) b.station → LockWhole t b i
    → LockWhole t' b i
lock_above t t' b i same w =
    record {
      opened = λ e. w.opened (sym same.same_first ∙ e);
      differs = w.differs;
      exclusive_copy = λ e. same.same_kind ∙ w.exclusive_copy e;
      within = λ e. rw (same.same_last, same.same_value) (w.within e);
      share_copy = λ e. same.same_kind ∙ w.share_copy e;
      no_draw = w.no_draw;
    }

-- and so is a job, at a station that is up
own_above : (t t' : Copies) (b : Job) → (OpenJob b → get_or t'.up b.station 0 ≡ 1)
    → (OpenJob b → (i : ℕ) → i < lock_count → Used b i → SameCopy (locked_series t b i) (locked_series t' b i) b.station) → OwnWhole t b
    → OwnWhole t' b
own_above t t' b up same w =
    record {
      range = w.range;
      station_up = up;
      lock = λ o i l used. lock_above t t' b i (same o i l used) (w.lock o i l used);
      place = w.place;
      unused = w.unused;
    }

-- two jobs that were apart are so where each closes or stays
kept_apart : {a a' b b' : Job} → (a' ≡ no_job) ⊎ (a' ≡ a) → (b' ≡ no_job) ⊎ (b' ≡ b) → (OpenJob a → Apart a b) → OpenJob a' → Apart a' b'
kept_apart {b'} (inl e) how apart o = rw e (bare_apart 0 0 b').0
kept_apart {a'} (inr e) (inl z) apart o = rw z (bare_apart 0 0 a').1
kept_apart (inr e) (inr z) apart o = rw (e, z) (apart (rw e at o))

-- slot j is as it was, at a station that is up if it is open, with the same copies under its locks
abbrev Stays : Copies → List Job → Copies → List Job → ℕ → Type 0
Stays t bs t' cs j =
    (job_at cs j ≡ job_at bs j)
    × (OpenJob (job_at bs j) → get_or t'.up (job_at bs j).station 0 ≡ 1)
    × ((s n : ℕ) → Locked bs j s n → SameCopy (series_at t s) (series_at t' s) n)

-- or it is empty
abbrev pub StaysOrCloses : Copies → List Job → Copies → List Job → ℕ → Type 0
StaysOrCloses t bs t' cs j = (job_at cs j ≡ no_job) ⊎ Stays t bs t' cs j

-- THE LAW of jobs that close or stay, above copies of which those that are still locked stay
pub jobs_kept : (t t' : Copies) (bs cs : List Job) → ((j : ℕ) → j < job_count → StaysOrCloses t bs t' cs j) → JobsWhole t bs
    → JobsWhole t' cs
jobs_kept t t' bs cs how whole =
    slots_whole (λ j l. ⊎_elim (λ e. rw e (closed_own t')) (stays j l) (how j l))
    (λ j k l m ne. kept_apart (either j (how j l)) (either k (how k m)) (λ o. ((whole j l).opened o).alone k m ne))
  where
    stays : (j : ℕ) → j < job_count → Stays t bs t' cs j → OwnWhole t' (job_at cs j)
    stays j l w =
        rw w.0
        (own_above t t' (job_at bs j) w.1
        (λ o i li used. w.2 _ _ (record { slot = l; opened = o; there = refl; place = i; within = li; locks = (used, refl) }))
        (slot_own (whole j l)))

    either : (j : ℕ) → StaysOrCloses t bs t' cs j → (job_at cs j ≡ no_job) ⊎ (job_at cs j ≡ job_at bs j)
    either j w = ⊎_elim (λ e. inl e) (λ x. inr x.0) w

-- no slot changes
pub jobs_above : (t t' : Copies) (bs : List Job) → t'.up ≡ t.up
    → ((j s n : ℕ) → Locked bs j s n → SameCopy (series_at t s) (series_at t' s) n) → JobsWhole t bs → JobsWhole t' bs
jobs_above t t' bs up same whole =
    jobs_kept t t' bs bs (λ j l. inr (refl, λ o. rw up ((whole j l).opened o).station_up, same j)) whole

-- COMMIT, ABORT: slot j closes
pub close_above : (t t' : Copies) (bs : List Job) (j : ℕ) → job_count ≤ length bs → j < job_count → t'.up ≡ t.up
    → ((k s n : ℕ) → k ≢ j → Locked bs k s n → SameCopy (series_at t s) (series_at t' s) n) → JobsWhole t bs → JobsWhole t' (set bs j no_job)
close_above t t' bs j long lt up same whole =
    jobs_kept t t' bs (set bs j no_job)
    (λ k l. dite (ℕ_discrete k j)
    (λ e. inl (rw e (get_or-set_same bs j no_job no_slot (omega arith))))
    (λ ne. inr (get_or-set_other bs j k no_job no_slot ne, λ o. rw up ((whole k l).opened o).station_up, λ s n. same k s n ne))) whole

-- ---- one slot that holds another job
-- THE LAW of it: the job is whole by itself, and its locks and those of each other open job are apart
pub job_put : {t : Copies} {bs : List Job} {j : ℕ} {b : Job} → job_count ≤ length bs → j < job_count → OwnWhole t b
    → ((k : ℕ) → k < job_count → k ≢ j → OpenJob b → OpenJob (job_at bs k) → Apart b (job_at bs k) × Apart (job_at bs k) b) → JobsWhole t bs
    → JobsWhole t (set bs j b)
job_put {t} {bs} {j} {b} long lt own apart whole =
    slots_whole (λ i l. put_cases (OwnWhole t) bs j b no_slot i (omega arith) (λ _. own) (λ _. slot_own (whole i l)))
    (λ i k li lk ne. put_cases (λ (x : Job). OpenJob x → Apart x (job_at (set bs j b) k)) bs j b no_slot i (omega arith)
    (λ e. new k lk (λ q. ne (q ∙ sym e))) (old i k li lk ne))
  where
    new : (k : ℕ) → k < job_count → k ≢ j → OpenJob b → Apart b (job_at (set bs j b) k)
    new k l ne o = rw (get_or-set_other bs j k b no_slot ne) (λ q. (apart k l ne o q).0 q)

    old : (i k : ℕ) → i < job_count → k < job_count → k ≢ i → i ≢ j → OpenJob (job_at bs i) → Apart (job_at bs i) (job_at (set bs j b) k)
    old i k li lk ne ni o =
        put_cases (Apart (job_at bs i)) bs j b no_slot k (omega arith) (λ _ q. (apart i li ni q o).1 q) (λ _. ((whole i li).opened o).alone k lk ne)

-- BEGIN
pub begin_jobs : {t : Copies} {bs : List Job} {j n : ℕ} → job_count ≤ length bs → j < job_count → n < station_count → get_or t.up n 0 ≡ 1
    → JobsWhole t bs → JobsWhole t (set bs j (begun n))
unfolding begun
begin_jobs {t} {bs} {n} long lt ln up =
    job_put long lt (bare_own t 1 n (omega arith) ln (λ _. up) (λ e. absurd (omega arith))) (λ k l ne o q. bare_apart 1 n (job_at bs k))
