-- A transfer under way whose receiver is up can be delivered: none of the eighteen refusals is given to its GRANT.
-- Assumes nothing.
use Rattle.std.specs.Prelude.{Ok}
use Prim.Native.Nat.{ℕ, ◌≤◌, ◌<◌}
use native.Mathlib.Omega.{arith}
use mathlib.Core.Path.{◌≡◌, refl, sym, ap, subst, ◌∙◌}
use mathlib.Core.Bool.{true, false}
use mathlib.Core.List.{List}
use lib.Dec.{leb}
use lib.ListN.{length}
use borrow.Author.Tests.{le-ltb, lt-leb, le-leb, eq-eqb, ne_eqb}
use Rattle.words.specs.Numbers.{station_count, series_count, out_count, greatest_sent}
use Rattle.words.specs.Tests.{non, ◌and◌, ◌or◌}
use Rattle.words.proofs.Laws.{neither}
use Rattle.words.proofs.Guards.{non_true}
use Rattle.copies.specs.Tables.{Copies, Series, series_at, is_up, sent_count, rel_to, received}
use Rattle.copies.specs.Steps.{is_repeat, matches, no_grant, arrived}
use Rattle.copies.specs.declared.Kept.{Kept}
use Rattle.copies.specs.Facts.{Open, Stands, Undelivered, CopiesWhole}
use Rattle.copies.proofs.Long.{Long, long}
use Rattle.copies.proofs.There.{there_same}
use Rattle.copies.proofs.After.{after_arrived}
use Rattle.rulebook.specs.declared.Event.{Event}
use Rattle.rulebook.specs.Tables.{Plant, with_copies, short_tables}
use Rattle.rulebook.specs.Whole.{whole}
use Rattle.rulebook.specs.Events.{GRANT, Field, a_series, a_from, a_to, a_number, fields_of, numbers, fit}
use Rattle.rulebook.specs.Edges.{event}
use Rattle.rulebook.specs.Refusals.{refusals, SHORT, NOT_WHOLE, BAD_EVENT, TAKEN, NONE, DOWN, UP, HELD, FULL, COPY, LOCKED, NO_LOCK, DRAWN, RANGE, WAIT, SPENT, OTHERS, NO_MESSAGE}
use Rattle.rulebook.specs.Steps.{Effect, done, do_grant, accepted, effect}
use Rattle.rulebook.proofs.Checked.{whole_facts}
use Rattle.rulebook.proofs.Judging.{NoneGiven, judged_accepted, ◌then◌}
use Rattle.rulebook.proofs.Ranges.{InRange}
use Rattle.serials.specs.NothingLost.{message, Arrived}

-- An undelivered transfer of a series that is open: its number and its receiver are such as a GRANT can name.
record Coming (r : Series) (from : ℕ) : Type 0 where
  opens : Open r
  stands : Stands r from
  to_station : rel_to r from < station_count
  to_another : from ≡ rel_to r from → ⊥
  has_number : 1 ≤ sent_count r from
  in_range : sent_count r from ≤ greatest_sent
  is_new : received r (rel_to r from) from < sent_count r from

-- so it is of every undelivered transfer in whole tables: a series that isn't open has none
coming : (t : Copies) (s from : ℕ) → CopiesWhole t → s < series_count → from < station_count → Undelivered (series_at t s) from
    → Coming (series_at t s) from
coming t s from w inSeries inStation u =
    let opens : Open (series_at t s) = λ z. u.0 ((w.closed s inSeries z).zero from inStation).release_kind in
    let w1 = (w.opened s inSeries opens).w1 from inStation in
    record {
      opens = opens;
      stands = u.0;
      to_station = u.1;
      to_another = λ e. w1.not_own u.0 (sym e);
      has_number = w1.has_sent u.0;
      in_range = w1.sends;
      is_new = u.2;
    }

module _ {r : Series} {from : ℕ} (k : Coming r from) where
  -- the message is no repeat: its number is above the highest that the receiver has from there
  no_repeat : is_repeat r from (rel_to r from) (sent_count r from) ≡ false
  unfolding is_repeat
  no_repeat = lt-leb _ _ k.is_new

  -- it is that of the standing Release
  is_standing_lem : matches r from (rel_to r from) (sent_count r from) ≡ true
  unfolding matches ◌and◌ non
  is_standing_lem = rw (ne_eqb _ _ k.stands, eq-eqb (rel_to r from) _ refl) (eq-eqb (sent_count r from) _ refl)

  -- so there is such a message
  is_message : no_grant r from (rel_to r from) (sent_count r from) ≡ false
  unfolding no_grant ◌or◌ non
  is_message = rw (no_repeat, is_standing_lem)

-- a number that a field can hold passes its test
in_field : (x : Field) (v : ℕ) → InRange x v → (leb x.least v and leb v x.greatest) ≡ true
unfolding ◌and◌
in_field x v w = rw (le-leb x.least v w.0) (le-leb v x.greatest w.1)

-- the fields of a GRANT hold what they can hold
grant_fits : (s from to number : ℕ) → s < series_count → from < station_count → to < station_count → 1 ≤ number → number ≤ greatest_sent
    → fit (fields_of GRANT) (numbers (event GRANT s from to number)) ≡ true
unfolding ◌and◌
grant_fits s from to number a b c low high =
    rw (
      in_field a_series s (omega arith, omega arith),
      in_field a_from from (omega arith, omega arith),
      in_field a_to to (omega arith, omega arith),
      in_field a_number number (low, high),
    )

module _ (p : Plant) (s from : ℕ) (k : Coming (series_at p.copies s) from) where
  -- the transfer's message
  abbrev arriving : Event
  arriving = message (series_at p.copies s) s from

  -- it isn't refused with 3
  good_event : s < series_count → from < station_count → BAD_EVENT p arriving ≡ false
  unfolding BAD_EVENT ◌or◌ ◌and◌ non
  good_event inSeries inStation =
      rw (grant_fits s from _ _ inSeries inStation k.to_station k.has_number k.in_range) (ne_eqb _ _ k.to_another)

  -- nor with 5
  not_none : NONE p arriving ≡ false
  unfolding NONE ◌or◌ non
  not_none = rw (ne_eqb _ _ k.opens)

  -- nor with 6
  not_down : is_up p.copies (rel_to (series_at p.copies s) from) ≡ true → DOWN p arriving ≡ false
  unfolding DOWN non
  not_down up = rw up

  -- nor with any other: one line a refusal, in the order of the checks
  none_given : (out : List ℕ) → short_tables p ≡ false → out_count ≤ length out → whole p ≡ true → s < series_count → from < station_count
      → is_up p.copies (rel_to (series_at p.copies s) from) ≡ true
      → NoneGiven (refusals out) p arriving
  unfolding SHORT NOT_WHOLE TAKEN UP HELD FULL COPY LOCKED NO_LOCK DRAWN RANGE WAIT SPENT OTHERS NO_MESSAGE ◌or◌ non
  none_given out short room w inSeries inStation up =
      (rw short (le-ltb _ _ room))
      then non_true _ w
      then good_event inSeries inStation
      then refl
      then not_none
      then not_down up
      then refl
      then refl
      then refl
      then refl
      then refl
      then refl
      then refl
      then refl
      then refl
      then refl
      then refl
      then is_message k
      then tt

-- tables that are not short
long_enough : (p : Plant) → short_tables p ≡ false → Long p.copies
unfolding short_tables
long_enough p short = long (neither _ _ short).0

-- what GRANT writes is a transfer that has arrived
has_arrived : {t : Copies} {s from : ℕ} → Long t → s < series_count → from < station_count → Coming (series_at t s) from
    → Arrived (series_at t s) from (series_at (arrived t s from (rel_to (series_at t s) from) (sent_count (series_at t s) from)) s)
has_arrived {t} {s} {from} long inSeries inStation k =
    let left = (after_arrived long inSeries inStation k.to_station (sent_count (series_at t s) from)).here in
    let kept = left.kept (rel_to (series_at t s) from) k.to_station ∙ there_same _ _ _ in
    record {
      kind_there = ap (λ (b : Kept). b.kind) kept;
      value_there = ap (λ (b : Kept). b.value) kept;
      number_there = left.received _ from k.to_station inStation ∙ ap (λ (got : ℕ → ℕ). got from) (there_same _ _ _) ∙ there_same _ _ _;
    }

module _ (p : Plant) (out : List ℕ) (s from : ℕ) (short : short_tables p ≡ false) (room : out_count ≤ length out) (w : whole p ≡ true)
    (inSeries : s < series_count) (inStation : from < station_count) where
  -- the series
  abbrev mine : Series
  mine = series_at p.copies s

  -- what the message of an undelivered transfer whose receiver is up does
  arrives : (k : Coming mine from) → is_up p.copies (rel_to mine from) ≡ true
      → effect p out (message mine s from) ≡ done 1 (with_copies p (arrived p.copies s from (rel_to mine from) (sent_count mine from)))
  unfolding effect accepted do_grant
  arrives k up =
      rw (judged_accepted (refusals out) p (arriving p s from k) (none_given p s from k out short room w inSeries inStation up), no_repeat k)

  -- it is accepted with value 1, and the transfer has arrived
  pub delivers : Undelivered mine from → is_up p.copies (rel_to mine from) ≡ true
      → ((effect p out (message mine s from)).answer ≡ Ok 1)
      × Arrived mine from (series_at (effect p out (message mine s from)).plant.copies s)
  delivers u up =
      let k = coming p.copies s from (whole_facts p w).0 inSeries inStation u in
      let done-so = arrives k up in (
        ap (λ (x : Effect). x.answer) done-so,
        subst (λ (x : Effect). Arrived mine from (series_at x.plant.copies s)) (sym done-so)
            (has_arrived (long_enough p short) inSeries inStation k),
      )
