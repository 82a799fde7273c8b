-- In whole tables a call of the upper layer is the rulebook's step: kind by kind, its refusals in their order. Assumes nothing.
use Rattle.std.specs.Prelude.{Err}
use Prim.Native.Nat.{ℕ, ◌+◌, ◌≤◌, ◌<◌}
use native.Mathlib.Omega.{arith}
use mathlib.Core.Path.{◌≡◌, refl, ap}
use mathlib.Core.Bool.{true, false}
use mathlib.Core.List.{List}
use lib.Dec.{eqb, ltb, leb}
use lib.ListN.{length}
use borrow.Author.Tests.{le-ltb, lt-leb, ne_eqb, eqb-true, not-false}
use Rattle.words.specs.Answers.{Answer}
use Rattle.words.specs.declared.Refusal.TheVariants.{Short, NotWhole, BadEvent, Taken, None, Down, Held, Full, Copy, Locked, NoLock, Drawn, Range}
use Rattle.words.specs.Numbers.{station_count, series_count, job_count, place_count, out_count, greatest_serial, share, exclusive}
use Rattle.words.specs.Tests.{non, ◌or◌}
use Rattle.words.proofs.Laws.{neither}
use Rattle.copies.specs.Tables.{Copies, series_at, is_open, kind, value}
use Rattle.copies.specs.Steps.{is_beyond}
use Rattle.copies.specs.Calls.{lacks, beyond}
use Rattle.copies.proofs.Long.{Long}
use Rattle.copies.proofs.Reading.{read_kind, read_value, read_beyond}
use Rattle.jobs.specs.declared.Job.{Job}
use Rattle.jobs.specs.Calls.{Stepped}
use Rattle.jobs.specs.Job.{job_open, lock_on, locks_series}
use Rattle.jobs.specs.Slots.{job_at, free}
use Rattle.jobs.specs.Draws.{entry_there, fits}
use Rattle.jobs.specs.Facts.{OpenJob}
use Rattle.jobs.specs.Calls as jobs
use Rattle.jobs.proofs.Fitting.{read_sum, whole_fits}
use Rattle.rulebook.specs.declared.Event.{Event}
use Rattle.rulebook.specs.Tables.{Plant}
use Rattle.rulebook.specs.Events.{BEGIN, LOCKX, LOCKS, DRAW, READ, COMMIT, ABORT, CRASH}
use Rattle.rulebook.specs.Edges.{event}
use Rattle.rulebook.specs.Steps.{do_begin, do_lockx, do_locks, do_draw, do_read, do_commit, do_abort, do_crash}
use Rattle.rulebook.proofs.Admits.{Sound, series_in_lem, station_in, job_in, count_in_lem}
use Rattle.events.specs.Unchecked.{of_jobs}
use Rattle.events.proofs.Judged.{Seen, alike, same, pass, judges, after3}

-- ---- refusals 1 and 3 of the calls are not given
-- of BEGIN
begin_good : {j n : ℕ} → j < job_count → n < station_count → (leb job_count j or leb station_count n) ≡ false
unfolding ◌or◌
begin_good hj hn = rw (lt-leb _ _ hj, lt-leb _ _ hn)

-- of LOCKX, LOCKS and READ
lock_good : {j s : ℕ} → j < job_count → s < series_count → (leb job_count j or leb series_count s) ≡ false
unfolding ◌or◌
lock_good hj hs = rw (lt-leb _ _ hj, lt-leb _ _ hs)

-- of LOCKX and LOCKS
long_lock : {t : Copies} → Long t → (lacks series_count t.firsts or lacks place_count t.kinds) ≡ false
unfolding ◌or◌
long_lock l = rw (le-ltb _ _ l.firsts, le-ltb _ _ l.kinds)

-- of DRAW: SHORT
long_draw : {t : Copies} → Long t → (lacks series_count t.firsts or lacks series_count t.lasts or lacks place_count t.values) ≡ false
unfolding ◌or◌
long_draw l = rw (le-ltb _ _ l.firsts, le-ltb _ _ l.lasts, le-ltb _ _ l.values)

-- and BAD EVENT
draw_good : {j s count : ℕ} → j < job_count → s < series_count → (1 ≤ count) × (count ≤ greatest_serial)
    → (leb job_count j or leb series_count s or eqb count 0 or ltb greatest_serial count) ≡ false
unfolding ◌or◌
draw_good {j} {s} {count} hj hs h =
    let some : count ≡ 0 → ⊥ = λ z. omega (arith, h.0) in
    rw (lt-leb _ _ hj, lt-leb _ _ hs, ne_eqb _ _ some, le-ltb _ _ h.1)

-- of READ
long_read : {t : Copies} → Long t → (lacks series_count t.firsts or lacks place_count t.values) ≡ false
unfolding ◌or◌
long_read l = rw (le-ltb _ _ l.firsts, le-ltb _ _ l.values)

-- of COMMIT
long_commit : {t : Copies} (out : List ℕ) → Long t → out_count ≤ length out
    → (lacks series_count t.lasts or lacks place_count t.values or lacks out_count out) ≡ false
unfolding ◌or◌
long_commit out l h = rw (le-ltb _ _ l.lasts, le-ltb _ _ l.values, le-ltb _ _ h)

-- LOCKS asks for no free copy
free_given : non true ≡ false
unfolding non
free_given = refl

module _ (p : Plant) (out : List ℕ) where
  -- what a call of the upper layer leaves
  abbrev pub upper : Seen jobs.Outcome p out
  unfolding judges
  upper = record { leaves = of_jobs; refusal = λ r. jobs.refused p.copies p.jobs out r; keeps = λ r. refl }

  -- one that changes slots alone
  abbrev pub slots : Seen Stepped p out
  unfolding judges
  slots =
      record { leaves = λ r. of_jobs (jobs.outcome r p.copies out); refusal = λ r. jobs.stepped (Err r) p.jobs; keeps = λ r. refl }

  -- and one that changes nothing
  abbrev pub answers : Seen Answer p out
  unfolding judges
  answers = record { leaves = λ a. slots.leaves (jobs.stepped a p.jobs); refusal = λ r. Err r; keeps = λ r. refl }

  -- the copy that a job locks is at its station (W1), so its kind is read
  same_copy : (k : ℕ) {e : Event} → Sound p out e → (j s : ℕ) → j < job_count → s < series_count
      → non (eqb (entry_there p.copies.kinds s (job_at p.jobs j).station) k) ≡ non (eqb (kind (series_at p.copies s) (job_at p.jobs j).station) k)
  same_copy k w j s hj hs =
      ap (λ (n : ℕ). non (eqb n k)) (read_kind p.copies s (job_at p.jobs j).station hs (w.jobs j hj).range.of_station _ w.long.kinds refl)

  -- and its value
  same_value_lem : {e : Event} → Sound p out e → (j s : ℕ) → j < job_count → s < series_count
      → entry_there p.copies.values s (job_at p.jobs j).station ≡ value (series_at p.copies s) (job_at p.jobs j).station
  same_value_lem w j s hj hs =
      read_value p.copies s (job_at p.jobs j).station hs (w.jobs j hj).range.of_station _ w.long.values refl

  -- and what is left of it
  same_rest : {e : Event} → Sound p out e → (j s count : ℕ) → j < job_count → s < series_count
      → beyond p.copies.lasts p.copies.values s (job_at p.jobs j).station count ≡ is_beyond (series_at p.copies s) (job_at p.jobs j).station count
  same_rest w j s count hj hs =
      read_beyond p.copies s (job_at p.jobs j).station hs (w.jobs j hj).range.of_station _ count w.long.lasts w.long.values refl

  -- an open job's mark
  is_open_lem : (b : Job) → non (job_open b) ≡ false → OpenJob b
  unfolding non
  is_open_lem b e = eqb-true b.mark 1 (not-false _ e)

  -- a READ's sum fits
  read_fits : {e : Event} → Sound p out e → (j s : ℕ) → j < job_count → s < series_count → non (job_open (job_at p.jobs j)) ≡ false → non (locks_series (job_at p.jobs j) s) ≡ false
      → ltb (greatest_serial + 1) (entry_there p.copies.values s (job_at p.jobs j).station + (lock_on (job_at p.jobs j) s).drawn) ≡ false
  unfolding non
  read_fits w j s hj hs opened locked =
      let sum = read_sum p.copies p.jobs j w.long w.copies (w.jobs j hj) (is_open_lem (job_at p.jobs j) opened) s (not-false _ locked) in
      rw (same_value_lem w j s hj hs) (le-ltb _ _ sum)

  -- and so does all that a job has drawn
  draws_fit : {e : Event} → Sound p out e → (j : ℕ) → j < job_count → non (job_open (job_at p.jobs j)) ≡ false
      → non (fits p.copies.lasts p.copies.values (job_at p.jobs j)) ≡ false
  unfolding non
  draws_fit w j hj opened =
      rw (whole_fits p.copies p.jobs j w.long w.copies (w.jobs j hj) (is_open_lem (job_at p.jobs j) opened))

  -- ---- the calls, kind by kind
  -- BEGIN
  pub whole_BEGIN : (a b c d : ℕ) → Sound p out (event BEGIN a b c d) → slots.leaves (jobs.begin p.copies p.jobs a b) ≡ after3 p out (event BEGIN a b c d)
  unfolding judges jobs.begin do_begin
  whole_BEGIN a b c d w =
      pass slots Short _ _ _ (le-ltb _ _ w.long.up)
      (pass slots BadEvent _ _ _ (begin_good (job_in w refl) (station_in w refl))
      (same slots Taken _ _ _
      (λ _. same slots Down _ _ (do_begin p (event BEGIN a b c d))
      (λ _. refl))))

  -- LOCKX
  pub whole_LOCKX : (a b c d : ℕ) → Sound p out (event LOCKX a b c d) → slots.leaves (jobs.lockx p.copies p.jobs (free p.jobs b (job_at p.jobs a).station) a b) ≡ after3 p out (event LOCKX a b c d)
  unfolding judges jobs.lockx jobs.lock_in do_lockx
  whole_LOCKX a b c d w =
      pass slots Short _ _ _ (long_lock w.long)
      (pass slots BadEvent _ _ _ (lock_good (job_in w refl) (series_in_lem w refl))
      (same slots None _ _ _
      (λ _. same slots Held _ _ _
      (λ _. same slots Full _ _ _
      (λ _. alike slots Copy _ _ _ _ (same_copy exclusive w a b (job_in w refl) (series_in_lem w refl))
      (λ _. same slots Locked _ _ (do_lockx p (event LOCKX a b c d))
      (λ _. refl)))))))

  -- LOCKS
  pub whole_LOCKS : (a b c d : ℕ) → Sound p out (event LOCKS a b c d) → slots.leaves (jobs.locks p.copies p.jobs a b) ≡ after3 p out (event LOCKS a b c d)
  unfolding judges jobs.locks jobs.lock_in do_locks
  whole_LOCKS a b c d w =
      pass slots Short _ _ _ (long_lock w.long)
      (pass slots BadEvent _ _ _ (lock_good (job_in w refl) (series_in_lem w refl))
      (same slots None _ _ _
      (λ _. same slots Held _ _ _
      (λ _. same slots Full _ _ _
      (λ _. alike slots Copy _ _ _ _ (same_copy share w a b (job_in w refl) (series_in_lem w refl))
      (λ _. pass slots Locked _ _ _ free_given refl))))))

  -- DRAW
  pub whole_DRAW : (a b c d : ℕ) → Sound p out (event DRAW a b c d) → slots.leaves (jobs.draw p.copies p.jobs a b c) ≡ after3 p out (event DRAW a b c d)
  unfolding judges jobs.draw jobs.draw_in do_draw
  whole_DRAW a b c d w =
      pass slots Short _ _ _ (long_draw w.long)
      (pass slots BadEvent _ _ _ (draw_good (job_in w refl) (series_in_lem w refl) (count_in_lem w refl))
      (same slots None _ _ _
      (λ _. same slots NoLock _ _ _
      (λ _. same slots Drawn _ _ _
      (λ _. alike slots Range _ _ _ (do_draw p (event DRAW a b c d)) (same_rest w a b c (job_in w refl) (series_in_lem w refl))
      (λ _. refl))))))

  -- READ
  pub whole_READ : (a b c d : ℕ) → Sound p out (event READ a b c d) → answers.leaves (jobs.read p.copies p.jobs a b) ≡ after3 p out (event READ a b c d)
  unfolding judges jobs.read jobs.read_in do_read
  whole_READ a b c d w =
      let there = same_value_lem w a b (job_in w refl) (series_in_lem w refl) in
      pass answers Short _ _ _ (long_read w.long)
      (pass answers BadEvent _ _ _ (lock_good (job_in w refl) (series_in_lem w refl))
      (same answers None _ _ _
      (λ opened. same answers NoLock _ _ _
      (λ locked. pass answers NotWhole _ _ _ (read_fits w a b (job_in w refl) (series_in_lem w refl) (neither (non (is_open (series_at p.copies b))) _ opened).1 locked)
      (rw there)))))

  -- COMMIT
  pub whole_COMMIT : (a b c d : ℕ) → Sound p out (event COMMIT a b c d) → of_jobs (jobs.commit p.copies p.jobs out a) ≡ after3 p out (event COMMIT a b c d)
  unfolding judges jobs.commit jobs.commit_in do_commit
  whole_COMMIT a b c d w =
      pass upper Short _ _ _ (long_commit out w.long w.room)
      (pass upper BadEvent _ _ _ (lt-leb _ _ (job_in w refl))
      (same upper None _ _ _
      (λ opened. pass upper NotWhole _ _ _ (draws_fit w a (job_in w refl) opened)
      refl)))

  -- ABORT
  pub whole_ABORT : (a b c d : ℕ) → Sound p out (event ABORT a b c d) → slots.leaves (jobs.abort p.jobs a) ≡ after3 p out (event ABORT a b c d)
  unfolding judges jobs.abort do_abort
  whole_ABORT a b c d w =
      pass slots BadEvent _ _ _ (lt-leb _ _ (job_in w refl))
      (same slots None _ _ _
      (λ _. refl))

  -- CRASH
  pub whole_CRASH : (a b c d : ℕ) → Sound p out (event CRASH a b c d) → of_jobs (jobs.crash p.copies p.jobs out a) ≡ after3 p out (event CRASH a b c d)
  unfolding judges jobs.crash do_crash
  whole_CRASH a b c d w =
      pass upper Short _ _ _ (le-ltb _ _ w.long.up)
      (pass upper BadEvent _ _ _ (lt-leb _ _ (station_in w refl))
      (same upper Down _ _ _
      (λ _. refl)))
