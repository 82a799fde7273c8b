-- What the test `fits` says of a job's draws, and that it holds in whole tables; and that READ's value is one that there is.
-- Assumes nothing.
use Prim.Native.Nat.{ℕ, ◌+◌, ◌-◌, ◌≤◌, ◌<◌}
use native.Mathlib.Decide.{ℕ_discrete}
use native.Mathlib.Omega.{arith}
use mathlib.Core.Path.{◌≡◌, sym}
use mathlib.Core.Logic.{dite}
use mathlib.Core.Bool.{true, false}
use mathlib.Core.List.{List}
use lib.Dec.{leb, eqb}
use lib.ListN.{get_or, length}
use borrow.Author.Tests.{eqb-true, leb-true, le-leb, le-ltb, not-true}
use Rattle.words.specs.Numbers.{station_count, series_count, lock_count, place_count, greatest_serial, share, exclusive}
use Rattle.words.specs.Tests.{non, ◌and◌, ◌or◌}
use Rattle.words.proofs.Laws.{both_true, true_all, least_true}
use Rattle.std.proofs.lemmas.Bool.Decides.{nat_tests}
use Rattle.words.proofs.Reflects.{Reflects, reflects_self, reflects_eq, reflects_not, reflects_and, reflects_unless}
use Rattle.copies.specs.Tables.{Copies, series_at, place, value}
use Rattle.copies.specs.Calls.{bad_copy, beyond}
use Rattle.copies.specs.Facts.{CopiesWhole}
use Rattle.copies.proofs.Reading.{read_at, copy_good}
use Rattle.copies.proofs.Long.{Long}
use Rattle.jobs.specs.declared.Job.{Job}
use Rattle.jobs.specs.Job.{lock_at, is_used, locks_here, locks_series, lock_place, lock_on}
use Rattle.jobs.specs.Whole.{W4_differs}
use Rattle.jobs.specs.Slots.{job_at}
use Rattle.jobs.specs.Draws.{entry_there, draw_fits, fits}
use Rattle.jobs.specs.Facts.{OpenJob, Used, Locks, locked_series, LockWhole, JobWhole}
use Rattle.jobs.proofs.Reflect.{used_reflects, W4_differs_reflects}

-- A count can be added to the value of the copy of series s at station n: there is such a copy, and the sum passes neither last + 1
-- (W4) nor the greatest value that there is (W1).
pub record Addable (lasts values : List ℕ) (s n count : ℕ) : Type 0 where
  pub long_lasts : series_count ≤ length lasts
  pub long_values : place_count ≤ length values
  pub series : s < series_count
  pub station : n < station_count
  pub within : count ≤ get_or lasts s 0 + 1 - get_or values (place s n) 0
  pub small : get_or values (place s n) 0 + count ≤ greatest_serial + 1

module _ (lasts values : List ℕ) (s n count : ℕ) where
  -- a count isn't beyond what is left: refusals 1, 3 and 14 are not given
  not_beyond : beyond lasts values s n count ≡ false → (series_count ≤ length lasts) × (place_count ≤ length values) × (s < series_count) × (n < station_count) × (count ≤ get_or lasts s 0 + 1 - get_or values (place s n) 0)
  unfolding beyond bad_copy ◌or◌
  not_beyond e = grind (arith, nat_tests)

  -- where the columns are long enough and there is such a copy, its value is read
  pub value_there : Addable lasts values s n count → entry_there values s n ≡ get_or values (place s n) 0
  value_there a = sym (read_at place_count values (bad_copy s n) (place s n) a.long_values (copy_good s n a.series a.station))

  -- what can be added isn't beyond what is left
  addable_within : Addable lasts values s n count → beyond lasts values s n count ≡ false
  unfolding beyond ◌or◌
  addable_within a = rw (le-ltb _ _ a.long_lasts, le-ltb _ _ a.long_values, copy_good s n a.series a.station) (le-ltb _ _ a.within)

  -- the test of a draw says that it can be added
  reflects_addable : Reflects (non (beyond lasts values s n count) and leb (entry_there values s n + count) (greatest_serial + 1)) (Addable lasts values s n count)
  unfolding non ◌and◌
  reflects_addable = (λ e. adds (both_true _ _ e), λ a. rw (addable_within a, value_there a) (le-leb _ _ a.small))
    where
      adds : (non (beyond lasts values s n count) ≡ true) × (leb (entry_there values s n + count) (greatest_serial + 1) ≡ true) → Addable lasts values s n count
      adds w =
          let p = not_beyond (not-true _ w.0) in
          record {
            long_lasts = p.0;
            long_values = p.1;
            series = p.2;
            station = p.3;
            within = p.4;
            small = rw (read_at place_count values (bad_copy s n) (place s n) p.1 (copy_good s n p.2 p.3)) (leb-true _ _ w.1);
          }

-- What a place with a draw has: the count can be added to its copy's value, the place is used, and no earlier place is on its series (W4).
abbrev pub Drawable : (lasts values : List ℕ) → Job → ℕ → Type 0
Drawable lasts values b i =
    (Addable lasts values (lock_at b i).series b.station (lock_at b i).drawn × (is_used b i ≡ true)) × (W4_differs b i ≡ true)

-- the test of a place says that what it has drawn, if anything, can be committed
pub reflects_draw : (lasts values : List ℕ) (b : Job) (i : ℕ) → Reflects (draw_fits lasts values b i) (((lock_at b i).drawn ≡ 0 → ⊥) → Drawable lasts values b i)
unfolding draw_fits
reflects_draw lasts values b i =
    reflects_unless (eqb (lock_at b i).drawn 0) _ (reflects_not _ (reflects_eq (lock_at b i).drawn 0))
    (reflects_and _ _ (reflects_and _ _ (reflects_addable lasts values (lock_at b i).series b.station (lock_at b i).drawn) (reflects_self (is_used b i)))
    (reflects_self (W4_differs b i)))

-- a job that locks series s has a place that does
pub lock_place_lem : (b : Job) (s : ℕ) → locks_series b s ≡ true → (lock_place b s < lock_count) × Locks b s (lock_place b s)
unfolding locks_series lock_place
lock_place_lem b s e =
    let least = least_true lock_count (locks_here b s) e in
    let two = both_true _ _ least.1 in
    (least.0, ((used_reflects b (lock_place b s)).0 two.0, eqb-true (lock_on b s).series s two.1))

-- ---- the lock places of an open job in whole slots
module _ {t : Copies} {bs : List Job} {j : ℕ} (whole : JobWhole t bs j) (opened : OpenJob (job_at bs j)) (i : ℕ) (l : i < lock_count) where
  -- a used place whose lock isn't a share lock has an exclusive one (W1)
  not_share : Used (job_at bs j) i → ((lock_at (job_at bs j) i).mode ≡ share → ⊥) → (lock_at (job_at bs j) i).mode ≡ exclusive
  not_share used other = let few = (whole.range.of_lock i l).of_mode in omega (arith, used, other)

  module _ (drawn : (lock_at (job_at bs j) i).drawn ≡ 0 → ⊥) where
    -- a place with a draw is used
    pub drawn_used : Used (job_at bs j) i
    drawn_used e = drawn ((whole.place i l).zero e).1

    -- so W4 speaks of it
    pub drawn_whole : LockWhole t (job_at bs j) i
    drawn_whole = (whole.opened opened).lock i l drawn_used

    -- its lock is exclusive: a share lock has drawn nothing
    pub drawn_exclusive : (lock_at (job_at bs j) i).mode ≡ exclusive
    drawn_exclusive = not_share drawn_used (λ e. drawn (drawn_whole.no_draw e))

-- in whole tables all that an open job has drawn can be committed: a draw is on an exclusive lock, within its series (W4), and no series
-- goes past the greatest last number (W1)
module _ (t : Copies) (bs : List Job) (j : ℕ) (long : Long t) (below : CopiesWhole t) (whole : JobWhole t bs j) (opened : OpenJob (job_at bs j)) where
  -- the job in slot j
  abbrev here : Job
  here = job_at bs j

  -- what a used place has drawn comes, with its copy's value, to no more than the greatest value that there is: only an exclusive lock
  -- has drawn, within its series
  lock_sum : (i : ℕ) → i < lock_count → Used here i → value (locked_series t here i) here.station + (lock_at here i).drawn ≤ greatest_serial + 1
  lock_sum i l used =
      let own = (whole.opened opened).lock i l used in
      let series = below.opened (lock_at here i).series (whole.range.of_lock i l).of_series own.opened in
      let last = series.bounds.1 in
      let within = (series.w1 here.station whole.range.of_station).copy_value.1 in
      dite (ℕ_discrete (lock_at here i).mode share) (λ e. omega (arith, own.no_draw e))
      (λ other. omega (arith, own.within (not_share whole opened i l used other)))

  -- so READ's value is one that there is
  pub read_sum : (s : ℕ) → locks_series here s ≡ true → value (series_at t s) here.station + (lock_on here s).drawn ≤ greatest_serial + 1
  read_sum s e = let place = lock_place_lem here s e in rw place.1.1 at (lock_sum (lock_place here s) place.0 place.1.0)

  -- a place with a draw can be committed
  drawable : (i : ℕ) → i < lock_count → ((lock_at here i).drawn ≡ 0 → ⊥) → Drawable t.lasts t.values here i
  drawable i l drawn =
      let used = drawn_used whole opened i l drawn in
      let own = drawn_whole whole opened i l drawn in (
        (
          record {
            long_lasts = long.lasts;
            long_values = long.values;
            series = (whole.range.of_lock i l).of_series;
            station = whole.range.of_station;
            within = own.within (drawn_exclusive whole opened i l drawn);
            small = lock_sum i l used;
          },
          (used_reflects here i).1 used,
        ),
        (W4_differs_reflects here i).1 own.differs,
      )

  -- and so can all that the job has drawn
  pub whole_fits : fits t.lasts t.values here ≡ true
  unfolding fits
  whole_fits = true_all lock_count _ (λ i l. (reflects_draw t.lasts t.values here i).1 (drawable i l))
