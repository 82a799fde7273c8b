-- What is known of an event and the tables where refusals 1 to 3 are not given, and where none is.
-- Assumes nothing.
use Prim.Native.Nat.{ℕ, ◌≤◌, ◌<◌}
use native.Mathlib.Omega.{arith}
use mathlib.Core.Path.{◌≡◌, refl}
use mathlib.Core.Bool.{true, false}
use mathlib.Core.List.{List, [], ◌∷◌}
use lib.Dec.{eqb, ltb}
use lib.ListN.{length}
use borrow.Author.Tests.{leb-true, ltb-false, not-false}
use Rattle.words.specs.Numbers.{station_count, series_count, job_count, out_count, greatest_serial, greatest_sent}
use Rattle.words.specs.Tests.{non, ◌and◌}
use Rattle.words.proofs.Laws.{both_true, neither}
use Rattle.copies.specs.Facts.{CopiesWhole}
use Rattle.copies.proofs.Long.{Long, long}
use Rattle.jobs.specs.Facts.{JobsWhole}
use Rattle.jobs.specs.Slots.{short_jobs}
use Rattle.rulebook.specs.declared.Event.{Event}
use Rattle.rulebook.specs.Tables.{Plant, short_tables}
use Rattle.rulebook.specs.Events.{OPEN, SEND, SHARE, GRANT, ACK, RESTART, a_series, a_station, a_from, a_to, a_job, a_first, a_last, a_count, a_number, fields_of, numbers, has, the, fit, for_kinds}
use Rattle.rulebook.specs.Refusals.{SHORT, NOT_WHOLE, BAD_EVENT, TAKEN, NONE, DOWN, UP, HELD, FULL, COPY, LOCKED, NO_LOCK, DRAWN, RANGE, WAIT, SPENT, OTHERS, NO_MESSAGE, refusals}
use Rattle.rulebook.proofs.Checked.{whole_facts}
use Rattle.rulebook.proofs.Judging.{NoneGiven}
use Rattle.rulebook.proofs.Ranges.{field_range}

-- Refusals 1 and 2 are not given: tables and output are long enough, the tables are whole. Nor is refusal 3: the kind is one of the
-- seventeen, the fields hold what they can hold, the bounds of an OPEN are in order, and a transfer goes to another station.
pub record Sound (p : Plant) (out : List ℕ) (e : Event) : Type 0 where
  pub long : Long p.copies
  pub slots : job_count ≤ length p.jobs
  pub room : out_count ≤ length out
  pub copies : CopiesWhole p.copies
  pub jobs : JobsWhole p.copies p.jobs
  pub known : (OPEN ≤ e.kind) × (e.kind ≤ RESTART)
  pub fields : fit (fields_of e.kind) (numbers e) ≡ true
  pub bounds : for_kinds (OPEN ∷ []) e (ltb (the a_last e) (the a_first e)) ≡ false
  pub apart : for_kinds (SEND ∷ SHARE ∷ GRANT ∷ ACK ∷ []) e (eqb (the a_from e) (the a_to e)) ≡ false

-- so it is by their tests
pub sound : (p : Plant) (out : List ℕ) (e : Event) → SHORT out p e ≡ false → NOT_WHOLE p e ≡ false → BAD_EVENT p e ≡ false → Sound p out e
unfolding SHORT NOT_WHOLE BAD_EVENT short_tables short_jobs non
sound p out e short notWhole bad =
    let lent = neither _ _ short in
    let tables = neither _ _ lent.0 in
    let whole = whole_facts p (not-false _ notWhole) in
    let good = neither _ _ bad in
    let ordered = neither _ _ good.0 in
    let fits = neither _ _ ordered.0 in
    let kind = both_true _ _ (not-false _ fits.0) in
    record {
      long = long tables.0;
      slots = ltb-false _ _ tables.1;
      room = ltb-false _ _ lent.1;
      copies = whole.0;
      jobs = whole.1;
      known = (leb-true _ _ kind.0, leb-true _ _ kind.1);
      fields = not-false _ fits.1;
      bounds = ordered.1;
      apart = good.1;
    }

-- No refusal is given.
pub record Admitted (p : Plant) (out : List ℕ) (e : Event) : Type 0 where
  pub is_sound : Sound p out e
  pub taken : TAKEN p e ≡ false
  pub none : NONE p e ≡ false
  pub down : DOWN p e ≡ false
  pub up : UP p e ≡ false
  pub held : HELD p e ≡ false
  pub full : FULL p e ≡ false
  pub copy : COPY p e ≡ false
  pub locked : LOCKED p e ≡ false
  pub no_lock : NO_LOCK p e ≡ false
  pub drawn : DRAWN p e ≡ false
  pub range : RANGE p e ≡ false
  pub wait : WAIT p e ≡ false
  pub spent : SPENT p e ≡ false
  pub others : OTHERS p e ≡ false
  pub no_message : NO_MESSAGE p e ≡ false

-- so it is where none of the eighteen is given
pub admitted : (p : Plant) (out : List ℕ) (e : Event) → NoneGiven (refusals out) p e → Admitted p out e
admitted p out e (short, (notWhole, (bad, (taken, (none, (down, (up, (held, (full, (copy, (locked, (no_lock, (drawn, (range, (wait, (spent, (others, (no_message, _)))))))))))))))))) =
    record {
      is_sound = sound p out e short notWhole bad;
      taken = taken;
      none = none;
      down = down;
      up = up;
      held = held;
      full = full;
      copy = copy;
      locked = locked;
      no_lock = no_lock;
      drawn = drawn;
      range = range;
      wait = wait;
      spent = spent;
      others = others;
      no_message = no_message;
    }

-- ---- the fields that the event has
module _ {p : Plant} {out : List ℕ} {e : Event} (w : Sound p out e) where
  -- a series, 0 to 63
  pub series_in_lem : has a_series e ≡ true → the a_series e < series_count
  unfolding ◌and◌
  series_in_lem h = let within = field_range a_series e refl h w.fields in omega (arith, within.1)

  -- a station, 0 to 7
  pub station_in : has a_station e ≡ true → the a_station e < station_count
  unfolding ◌and◌
  station_in h = let within = field_range a_station e refl h w.fields in omega (arith, within.1)

  -- the station that a transfer comes from
  pub from_in : has a_from e ≡ true → the a_from e < station_count
  unfolding ◌and◌
  from_in h = let within = field_range a_from e refl h w.fields in omega (arith, within.1)

  -- the station that a transfer goes to
  pub to_in : has a_to e ≡ true → the a_to e < station_count
  unfolding ◌and◌
  to_in h = let within = field_range a_to e refl h w.fields in omega (arith, within.1)

  -- a job, 0 to 15
  pub job_in : has a_job e ≡ true → the a_job e < job_count
  unfolding ◌and◌
  job_in h = let within = field_range a_job e refl h w.fields in omega (arith, within.1)

  -- the first number of a series
  pub first_in : has a_first e ≡ true → (1 ≤ the a_first e) × (the a_first e ≤ greatest_serial)
  unfolding ◌and◌
  first_in h = field_range a_first e refl h w.fields

  -- the last number of a series
  pub last_in : has a_last e ≡ true → (1 ≤ the a_last e) × (the a_last e ≤ greatest_serial)
  unfolding ◌and◌
  last_in h = field_range a_last e refl h w.fields

  -- the count of a DRAW
  pub count_in_lem : has a_count e ≡ true → (1 ≤ the a_count e) × (the a_count e ≤ greatest_serial)
  unfolding ◌and◌
  count_in_lem h = field_range a_count e refl h w.fields

  -- the number of a transfer
  pub number_in : has a_number e ≡ true → (1 ≤ the a_number e) × (the a_number e ≤ greatest_sent)
  unfolding ◌and◌
  number_in h = field_range a_number e refl h w.fields
