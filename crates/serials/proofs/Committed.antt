-- COMMIT leaves the tables whole, and the next number of each series moves by its draw.
-- Assumes nothing.
use Prim.Native.Nat.{ℕ, ◌+◌, ◌-◌, ◌≤◌, ◌<◌}
use native.Mathlib.Decide.{ℕ_discrete}
use native.Mathlib.Omega.{arith}
use mathlib.Core.Path.{◌≡◌, sym, subst, ◌∙◌}
use mathlib.Core.Logic.{◌≢◌, dite, ⊎_elim}
use mathlib.Core.List.{List, map}
use lib.ListN.{set, length}
use Rattle.words.specs.Numbers.{station_count, series_count, job_count, lock_count, exclusive}
use Rattle.copies.specs.Tables.{Copies, series_at, kind, value, next}
use Rattle.copies.specs.Facts.{Open, CopiesWhole}
use Rattle.copies.proofs.There.{there_other}
use Rattle.copies.proofs.Same.{same_back}
use Rattle.copies.proofs.Agree.{whole_same}
use Rattle.copies.proofs.Reflect.{SeriesWhole}
use Rattle.copies.proofs.Long.{Long}
use Rattle.jobs.specs.declared.Job.{Job}
use Rattle.jobs.specs.Job.{no_job, lock_at}
use Rattle.jobs.specs.Slots.{job_at}
use Rattle.jobs.specs.Draws.{Draw, draws_of, committed}
use Rattle.jobs.specs.Facts.{OpenJob, JobsWhole}
use Rattle.jobs.proofs.Fitting.{drawn_used, drawn_whole, drawn_exclusive}
use Rattle.jobs.proofs.Stored.{SeriesDiffer}
use Rattle.serials.proofs.Wholes.{WholeAt, same_whole_at}
use Rattle.serials.proofs.Locked.{Locked, SameCopy, copy_stays, exclusive_alone}
use Rattle.serials.proofs.Tiling.{plain}
use Rattle.serials.proofs.Moving.{Moves}
use Rattle.serials.proofs.Turning.{raise_whole}
use Rattle.serials.proofs.Slots.{close_above}
use Rattle.serials.proofs.Leaving.{series_whole, whole_at_lem, whole_copies}
use Rattle.serials.proofs.Committing.{StaysIdle, Adds, Settles, InSeries, draws_settle, committed_up}

-- What W4 says of a draw of count serials of series s at station n.
record Drawing (t : Copies) (n s count : ℕ) : Type 0 where
  opened : Open (series_at t s)
  exclusive_copy : kind (series_at t s) n ≡ exclusive
  within : count ≤ (series_at t s).last + 1 - value (series_at t s) n

-- the job in slot j commits its draws
module _ {t : Copies} {bs : List Job} {j : ℕ} (long : Long t) (below : CopiesWhole t) (above : JobsWhole t bs) (slot : j < job_count) (is_open : OpenJob (job_at bs j)) (four : length (job_at bs j).locks ≡ lock_count) where
  -- the job
  abbrev job : Job
  job = job_at bs j

  -- its station
  abbrev station : ℕ
  station = job.station

  -- its draws
  abbrev draws : List Draw
  draws = draws_of t job

  -- the tables afterwards
  abbrev after : Copies
  after = committed t draws

  -- its station is one that there is
  known_station : station < station_count
  known_station = (above j slot).range.of_station

  -- ---- its locks
  -- its draw
  drawn_there_lem : (i : ℕ) → i < lock_count → (lock_at job i).drawn ≢ 0 → Drawing t station (lock_at job i).series (lock_at job i).drawn
  drawn_there_lem i l drawn =
      let own = drawn_whole (above j slot) is_open i l drawn in
      let mode = drawn_exclusive (above j slot) is_open i l drawn in
      record { opened = own.opened; exclusive_copy = own.exclusive_copy mode; within = own.within mode }

  -- each series stays, or its one draw is added
  commit_series : (s : ℕ) → Settles t after draws station job.locks s
  unfolding draws_of
  commit_series = draws_settle t job.locks long known_station known apart
    where
      known : InSeries job.locks
      known i l drawn = ((above j slot).range.of_lock i (rw (← four) l)).of_series

      apart : SeriesDiffer job.locks
      apart i k l lt d e same =
          (drawn_whole (above j slot) is_open i (rw (← four) l) d).differs k lt (drawn_used (above j slot) is_open k (omega (arith, four)) e, sym same)

  -- ---- a series with a draw
  module _ {s : ℕ} (a : Adds t after draws station job.locks s) where
    -- the place that has drawn is one of the four
    four_places : a.place < lock_count
    four_places = rw four at a.within

    -- what W4 says of the draw
    drawing : Drawing t station s (lock_at job a.place).drawn
    drawing =
        subst (λ (k : ℕ). Drawing t station k (lock_at job a.place).drawn) a.of_series (drawn_there_lem a.place four_places a.drawn)

  module _ {s : ℕ} (hs : s < series_count) (a : Adds t after draws station job.locks s) where
    -- the drawn copy is held, so its value is the next number
    drawn_next : value (series_at t s) station ≡ next (series_at t s)
    drawn_next =
        let own = drawing a in
        ((below.opened s hs own.opened).agree station known_station).0 (λ z. omega (arith, z, own.exclusive_copy))

    -- with the count added, the series is whole, and the next number is higher by it
    added_whole : WholeAt (series_at after s) (next (series_at t s) + (lock_at job a.place).drawn)
    added_whole =
        let own = drawing a in
        same_whole_at a.added (raise_whole known_station own.exclusive_copy own.within (whole_at_lem below hs own.opened))

  -- ---- the lower layer's tables
  -- each series is whole afterwards
  series_after_lem : (s : ℕ) → s < series_count → SeriesWhole (series_at after s)
  series_after_lem s hs =
      ⊎_elim (λ a. whole_same _ _ (same_back _ _ a.same) (series_whole below s hs))
      (λ a. let w = added_whole hs a in (λ o. w.rules, λ z. absurd (w.opens z))) (commit_series s)

  -- and so are all
  pub commit_copies : CopiesWhole after
  commit_copies = whole_copies series_after_lem (λ n hn. rw (committed_up t draws) (below.marks n hn))

  -- ---- the draws
  -- a series that stays has its next number still, and no draw
  stays_moves : {s : ℕ} → s < series_count → StaysIdle t after draws s → Moves s (series_at t s) (series_at after s) (map plain draws)
  stays_moves hs a =
      record {
        opened = λ o. (a.same.first, rw (same_whole_at a.same (whole_at_lem below hs o)).is_next (a.idle _));
        closed = λ z. (a.idle, λ o. absurd (o (a.same.first ∙ z)));
      }

  -- a series with a draw is open, and the draw leads from its next number to the one afterwards
  adds_moves : {s : ℕ} → s < series_count → Adds t after draws station job.locks s
      → Moves s (series_at t s) (series_at after s) (map plain draws)
  adds_moves hs a =
      record {
        opened = λ _. (a.added.first, rw ((added_whole hs a).is_next, ← drawn_next hs a) a.chain);
        closed = λ z. absurd ((drawing a).opened z);
      }

  -- so it is of every series
  pub commit_moves : (s : ℕ) → s < series_count → Moves s (series_at t s) (series_at after s) (map plain draws)
  commit_moves s hs = ⊎_elim (stays_moves hs) (adds_moves hs) (commit_series s)

  -- ---- the slots
  -- where another job has a lock, no draw is on the copy: it stays
  others_stay : (k s n : ℕ) → k ≢ j → Locked bs k s n → SameCopy (series_at t s) (series_at after s) n
  others_stay k s n ne other =
      ⊎_elim (λ a. copy_stays a.same.first a.same.last (a.same.kept n hn))
      (λ a. dite (ℕ_discrete station n) (λ e. absurd (mine a e)) (λ differs. elsewhere a (λ e. differs (sym e)))) (commit_series s)
    where
      hn : n < station_count
      hn = rw other.there at (above k other.slot).range.of_station

      mine : Adds t after draws station job.locks s → station ≡ n → ⊥
      mine a e = exclusive_alone above slot is_open (four_places a) (drawn_exclusive (above j slot) is_open a.place (four_places a) a.drawn) a.of_series e ne other

      elsewhere : Adds t after draws station job.locks s → n ≢ station → SameCopy (series_at t s) (series_at after s) n
      elsewhere a differs = copy_stays a.added.first a.added.last (a.added.kept n hn ∙ there_other station _ _ differs)

  -- with its slot closed, all are whole
  pub commit_jobs : job_count ≤ length bs → JobsWhole after (set bs j no_job)
  commit_jobs slots = close_above t after bs j slots slot (committed_up t draws) others_stay above
