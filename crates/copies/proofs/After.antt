-- The layer's promise: what each operation of specs/Steps.antt makes of the series that it names, and that nothing else changes.
-- Assumes nothing.
use Prim.Native.Nat.{ℕ, ◌+◌, ◌≤◌, ◌<◌}
use native.Mathlib.Omega.{arith}
use mathlib.Core.Path.{◌≡◌, refl, ap, subst}
use mathlib.Core.Logic.{◌≢◌}
use lib.Dec.{eqb}
use lib.ListN.{get_or}
use lib.Seq.{get_or-set_same, get_or-set_other, set-get_or}
use Rattle.words.specs.Numbers.{station_count, series_count, place_count, void, share, exclusive}
use Rattle.copies.specs.declared.Kept.{Kept}
use Rattle.copies.specs.Tables.{Copies, Series, series_at, kept_at, place, is_up, kind, value, sent_count, rel_kind, rel_value}
use Rattle.copies.specs.Steps.{put_kind, opened, raised, released, sent_off, demoted, shared, dropped, promoted, arrived, deleted, marked}
use Rattle.copies.proofs.There.{there, there_cases}
use Rattle.copies.proofs.Long.{Long}
use Rattle.copies.proofs.Stores.{with_row, row_station, row_series, row_but_same, row_but_station, row_but_series, only_none, only_set, only_row, only_then}
use Rattle.copies.proofs.Received.{receives_none, receives_one}
use Rattle.copies.proofs.Leaves.{OnlyStated, Leaves, put, put_leaves}

-- ---- one series, by the operation
-- what a station keeps, with another copy
abbrev pub with_copy : Kept → (kind value : ℕ) → Kept
with_copy a k v =
    record { kind = k; value = v; sent = a.sent; relto = a.relto; relkind = a.relkind; relvalue = a.relvalue }

-- with another sent count and Release
abbrev pub with_release : Kept → (sent to kind value : ℕ) → Kept
with_release a number to k v =
    record { kind = a.kind; value = a.value; sent = number; relto = to; relkind = k; relvalue = v }

-- a series of which station n keeps a
abbrev pub keeping : Series → ℕ → Kept → Series
keeping r n a = record { first = r.first; last = r.last; kept = there n a r.kept; received = r.received }

-- OPEN: the bounds; each copy void but the station's, with the first number
abbrev pub series_opened : Series → (first last n : ℕ) → Series
series_opened r first last n =
    record {
      first = first;
      last = last;
      kept = there n (with_copy (r.kept n) exclusive first) (λ m. with_copy (r.kept m) void first);
      received = r.received;
    }

-- COMMIT: a drawn count added to the value
abbrev pub series_raised : Series → (n count : ℕ) → Series
series_raised r n count = keeping r n (with_copy (r.kept n) (kind r n) (value r n + count))

-- DEMOTE, DROP, PROMOTE: another kind, the same value
abbrev pub series_turned : Series → (n kind : ℕ) → Series
series_turned r n k = keeping r n (with_copy (r.kept n) k (value r n))

-- SHARE: the sent count one higher, a Release with the copy's value
abbrev pub series_released : Series → (from to kind : ℕ) → Series
series_released r from to k = keeping r from (with_release (r.kept from) (sent_count r from + 1) to k (value r from))

-- SEND: the same, and the copy void with its value kept
abbrev pub series_sent_off : Series → (from to : ℕ) → Series
series_sent_off r from to =
    keeping r from (with_release (with_copy (r.kept from) void (value r from)) (sent_count r from + 1) to exclusive (value r from))

-- GRANT: the Release's kind and value at the receiver, who has received the number
abbrev pub series_arrived : Series → (from to number : ℕ) → Series
series_arrived r from to number =
    record {
      first = r.first;
      last = r.last;
      kept = there to (with_copy (r.kept to) (rel_kind r from) (rel_value r from)) r.kept;
      received = there to (there from number (r.received to)) r.received;
    }

-- ACK: no Release
abbrev pub series_deleted : Series → (from : ℕ) → Series
series_deleted r from = keeping r from (with_release (r.kept from) (sent_count r from) 0 0 0)

-- ---- operations on what one station keeps
module _ {t : Copies} {s n : ℕ} (h : Long t) (hs : s < series_count) (hn : n < station_count) where
  -- a store of what the station keeps
  put_one : (t' : Copies) (a : Kept) → put t s n a t.received ≡ t' → Leaves t t' s (keeping (series_at t s) n a)
  put_one t' a e = subst (λ (u : Copies). Leaves t u s (keeping (series_at t s) n a)) e (put_leaves a h hs hn (receives_none t.received s))

  -- another kind of its copy
  after_kind : (k : ℕ) → Leaves t (put_kind t s n k) s (series_turned (series_at t s) n k)
  after_kind k = put_one _ _ (simp set-get_or)

  -- DEMOTE
  pub after_demoted : Leaves t (demoted t s n) s (series_turned (series_at t s) n share)
  unfolding demoted
  after_demoted = after_kind share

  -- DROP
  pub after_dropped : Leaves t (dropped t s n) s (series_turned (series_at t s) n void)
  unfolding dropped
  after_dropped = after_kind void

  -- PROMOTE
  pub after_promoted : Leaves t (promoted t s n) s (series_turned (series_at t s) n exclusive)
  unfolding promoted
  after_promoted = after_kind exclusive

  -- COMMIT, one drawn count
  pub after_raised : (count : ℕ) → Leaves t (raised t s n count) s (series_raised (series_at t s) n count)
  unfolding raised
  after_raised count = put_one _ _ (simp set-get_or)

  -- a transfer of either kind
  pub after_released : (to k : ℕ) → Leaves t (released t s n to k) s (series_released (series_at t s) n to k)
  unfolding released
  after_released to k = put_one _ _ (simp set-get_or)

  -- SEND
  pub after_sent_off : (to : ℕ) → Leaves t (sent_off t s n to) s (series_sent_off (series_at t s) n to)
  unfolding sent_off released
  after_sent_off to = put_one _ _ (simp set-get_or)

  -- SHARE
  pub after_shared : (to : ℕ) → Leaves t (shared t s n to) s (series_released (series_at t s) n to share)
  unfolding shared
  after_shared to = after_released to share

  -- ACK
  pub after_deleted : Leaves t (deleted t s n) s (series_deleted (series_at t s) n)
  unfolding deleted
  after_deleted = put_one _ _ (simp set-get_or)

-- GRANT
pub after_arrived : {t : Copies} {s from to : ℕ} → Long t → s < series_count → from < station_count → to < station_count → (number : ℕ)
    → Leaves t (arrived t s from to number) s (series_arrived (series_at t s) from to number)
unfolding arrived
after_arrived {t} {s} {from} {to} h hs hf ht number =
    subst (λ (u : Copies). Leaves t u s (series_arrived (series_at t s) from to number)) (simp set-get_or)
    (put_leaves (with_copy (kept_at t s to) (rel_kind (series_at t s) from) (rel_value (series_at t s) from)) h hs ht
    (receives_one t.received number h.received hs ht hf))

-- ---- OPEN
module _ {t : Copies} {s n : ℕ} (h : Long t) (hs : s < series_count) (hn : n < station_count) (first last : ℕ) where
  -- what station m keeps then
  open_kept : (m : ℕ) → m < station_count → kept_at (opened t s first last n) s m ≡ (series_opened (series_at t s) first last n).kept m
  unfolding opened
  open_kept m hm =
      let at : place s m < place_count = omega arith in
      let values : get_or (with_row t.values s first) (place s m) 0 ≡ first = row_station t.values s first hm (omega (arith, h.values)) in
      there_cases (λ (b : Kept). kept_at (opened t s first last n) s m ≡ b) n _ _ m
      (λ e. rw (← e) (λ x. with_copy (kept_at t s m) (row_but_same t.kinds s void m exclusive (omega (arith, h.kinds)) x) (values x)))
      (λ ne x. with_copy (kept_at t s m) (row_but_station t.kinds s void n exclusive hm (omega (arith, h.kinds)) ne x) (values x))

  -- the whole of it
  pub after_opened : Leaves t (opened t s first last n) s (series_opened (series_at t s) first last n)
  unfolding opened
  after_opened =
      let row : place s station_count ≤ place_count = omega arith in
      record {
        here = record {
          first = get_or-set_same t.firsts s first 0 (omega (arith, h.firsts));
          last = get_or-set_same t.lasts s last 0 (omega (arith, h.lasts));
          kept = open_kept;
          received = λ m j hm hj. refl;
        };
        elsewhere = λ i ne. record {
          first = get_or-set_other t.firsts s i first 0 ne;
          last = get_or-set_other t.lasts s i last 0 ne;
          kept = λ m hm x. with_copy (kept_at t i m) (row_but_series t.kinds s void n exclusive hn hm ne x) (row_series t.values s first hm ne x);
          received = λ m j hm hj. refl;
        };
        up = refl;
        only = record {
          firsts = only_set t.firsts first hs;
          lasts = only_set t.lasts last hs;
          kinds = only_then (only_row t.kinds s void row) (only_set (with_row t.kinds s void) exclusive (omega arith));
          values = only_row t.values s first row;
          sent = only_none;
          rel_to = only_none;
          rel_kind = only_none;
          rel_value = only_none;
          received = only_none;
          up = only_none;
        };
      }

-- ---- CRASH and RESTART
-- All series are as they were, and so are the marks but that of station n.
pub record Marks (t t' : Copies) (n mark : ℕ) : Type 0 where
  pub series : (i : ℕ) → series_at t' i ≡ series_at t i
  pub here : get_or t'.up n 0 ≡ mark
  pub elsewhere : (m : ℕ) → m ≢ n → get_or t'.up m 0 ≡ get_or t.up m 0
  pub only : OnlyStated t t'

-- station n is up where its mark is 1
pub marks_here : {t t' : Copies} {n mark : ℕ} → Marks t t' n mark → is_up t' n ≡ eqb mark 1
marks_here e = ap (λ (k : ℕ). eqb k 1) e.here

-- the others are up where they were
pub marks_elsewhere : {t t' : Copies} {n mark : ℕ} → Marks t t' n mark → (m : ℕ) → m ≢ n → is_up t' m ≡ is_up t m
marks_elsewhere e m ne = ap (λ (k : ℕ). eqb k 1) (e.elsewhere m ne)

-- CRASH with mark 0, RESTART with mark 1
pub after_marked : {t : Copies} {n : ℕ} → Long t → n < station_count → (mark : ℕ) → Marks t (marked t n mark) n mark
unfolding marked
after_marked {t} {n} h hn mark =
    record {
      series = λ i. refl;
      here = get_or-set_same t.up n mark 0 (omega (arith, h.up));
      elsewhere = λ m ne. get_or-set_other t.up n m mark 0 ne;
      only = record {
        firsts = only_none;
        lasts = only_none;
        kinds = only_none;
        values = only_none;
        sent = only_none;
        rel_to = only_none;
        rel_kind = only_none;
        rel_value = only_none;
        received = only_none;
        up = only_set t.up mark hn;
      };
    }
