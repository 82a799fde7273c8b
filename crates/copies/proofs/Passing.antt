-- What the walk over series and stations has shown on its way, and the laws that take it a step on or end it.
-- Assumes nothing.
use Prim.Native.Nat.{ℕ, ◌+◌, ◌≤◌, ◌<◌}
use native.Mathlib.Omega.{arith}
use mathlib.Core.Path.{◌≡◌, sym, ap, ◌∙◌}
use mathlib.Core.Bool.{Bool, true, false, not}
use borrow.Author.Tests.{eq-eqb, ne_eqb, not-true, not-false}
use Rattle.std.specs.Prelude.{Option, Some, None}
use Rattle.words.specs.declared.Rule.{Rule}
use Rattle.words.specs.declared.Rule.TheVariants.{W1, W2, W3, W5}
use Rattle.words.specs.Numbers.{station_count, series_count}
use Rattle.words.specs.Tests.{non, broken, ◌or_else◌, first_below}
use Rattle.words.proofs.Laws.{or_else_stop, or_else_pass, first_none, first_next, first_none_each, first_stop, first_end, broken_no, broken_yes}
use Rattle.copies.specs.declared.Kept.{Kept}
use Rattle.copies.specs.Tables.{Copies, Series, series_at}
use Rattle.copies.specs.Whole.{W1_bounds, W2_open, W3_station, W5_closed}
use Rattle.copies.specs.FirstBroken.{broken_kept, broken_station, broken_series}
use Rattle.copies.specs.Tally.{broken_in, tally, tally_fine}
use Rattle.copies.proofs.Stations.{station_passes, station_kept, station_received, valued}
use Rattle.copies.proofs.Tokens.{tally_same}

-- ---- one series
module _ (r : Series) where
  -- not open: W5 alone
  closed : r.first ≡ 0 → broken_series r ≡ broken W5 (W5_closed r)
  unfolding broken_series non
  closed z = rw (eq-eqb _ _ z)

  -- open: its bounds, its stations, its tokens
  module _ (o : r.first ≡ 0 → ⊥) where
    opened : broken_series r ≡ (broken W1 (W1_bounds r.first r.last) or_else first_below station_count (broken_station r) or_else broken W2 (W2_open r))
    unfolding broken_series non
    opened = rw (ne_eqb _ _ o)

    bounds_break : W1_bounds r.first r.last ≡ false → Some W1 ≡ broken_series r
    bounds_break e = or_else_stop W1 _ _ (broken_yes W1 _ e) ∙ sym opened

    module _ (b : W1_bounds r.first r.last ≡ true) where
      stations_break : (rule : Rule) → Some rule ≡ first_below station_count (broken_station r) → Some rule ≡ broken_series r
      stations_break rule e = or_else_pass _ _ _ (broken_no W1 _ b) (or_else_stop rule _ _ e) ∙ sym opened

      tokens_decide : first_below station_count (broken_station r) ≡ None → (t : Bool) → t ≡ tally_fine (tally r station_count) → broken W2 t ≡ broken_series r
      tokens_decide e t p =
          let w2 = p ∙ tally_same r (λ n l. valued r n o (first_none_each station_count (broken_station r) e n l)) in
          or_else_pass _ _ _ (broken_no W1 _ b) (or_else_pass _ _ _ e (ap (broken W2) w2)) ∙ sym opened

-- ---- the walk
module _ (t : Copies) where
  -- series s
  abbrev at : ℕ → Series
  at s = series_at t s

  -- the first rule that a series breaks
  abbrev Found : Rule → Type 0
  Found rule = Some rule ≡ broken_in t

  -- every series below s is whole
  pub record Passed (s : ℕ) : Type 0 where
    pub most : s ≤ series_count
    pub whole : first_below s (λ i. broken_series (at i)) ≡ None

  -- besides, series s is open, and its bounds and its stations below n are in order
  pub record Within (s n : ℕ) : Type 0 where
    pub below : s < series_count
    pub most : n ≤ station_count
    pub whole : first_below s (λ i. broken_series (at i)) ≡ None
    pub opened : (at s).first ≡ 0 → ⊥
    pub bounds : W1_bounds (at s).first (at s).last ≡ true
    pub stations : first_below n (broken_station (at s)) ≡ None

  -- before the first series
  pub start : Passed 0
  start = record { most = omega arith; whole = first_none _ }

  -- after the last series
  pub finish : (s : ℕ) (r : Option Rule) → Passed s → series_count ≤ s → r ≡ None → r ≡ broken_in t
  unfolding broken_in
  finish s r p l z = z ∙ first_end series_count _ s p.most l p.whole

  -- past a series that breaks no rule
  on : (s j : ℕ) → s < series_count → first_below s (λ i. broken_series (at i)) ≡ None → broken_series (at s) ≡ None → j ≡ s + 1 → Passed j
  on s j l w z q = record { most = omega arith; whole = first_next _ s j w z q }

  -- at a series that breaks one
  stop : (s : ℕ) (rule : Rule) → s < series_count → first_below s (λ i. broken_series (at i)) ≡ None → Some rule ≡ broken_series (at s) → Found rule
  unfolding broken_in
  stop s rule l w e = first_stop series_count (λ i. broken_series (at i)) s rule l w e

  -- at a series that isn't open: on, or W5
  module _ (s : ℕ) (p : Passed s) (l : s < series_count) (z : (at s).first ≡ 0) (b : Bool) (e : b ≡ W5_closed (at s)) where
    decided : broken_series (at s) ≡ broken W5 b
    decided = closed (at s) z ∙ ap (broken W5) (sym e)

    pub closed_on : (j : ℕ) → b ≡ true → j ≡ s + 1 → Passed j
    closed_on j y q = on s j l p.whole (decided ∙ broken_no W5 b y) q

    pub closed_stops : b ≡ false → Found W5
    closed_stops y = stop s W5 l p.whole (broken_yes W5 b y ∙ sym decided)

  -- at an open series: into its stations, or W1 of its bounds
  module _ (s : ℕ) (p : Passed s) (l : s < series_count) (o : (at s).first ≡ 0 → ⊥) (b : Bool) (e : b ≡ W1_bounds (at s).first (at s).last) where
    pub enter : (n : ℕ) → not b ≡ false → n ≡ 0 → Within s n
    enter n y z =
        record { below = l; most = omega arith; whole = p.whole; opened = o; bounds = sym e ∙ not-false b y; stations = rw z (first_none _) }

    pub bounds_stop : not b ≡ true → Found W1
    bounds_stop y = stop s W1 l p.whole (bounds_break (at s) o (sym e ∙ not-true b y))

  -- at a station: to the next, or the rule that it breaks
  module _ (s n : ℕ) (w : Within s n) (l : n < station_count) where
    stations_stop : (rule : Rule) → Some rule ≡ broken_station (at s) n → Found rule
    stations_stop rule e =
        stop s rule w.below w.whole (stations_break (at s) w.opened w.bounds rule (first_stop station_count (broken_station (at s)) n rule l w.stations e))

    module _ (k : Kept) (q : Option Rule) (pk : k ≡ (at s).kept n) (pq : q ≡ broken_kept (at s).first (at s).last n k) where
      pub kept_stops : (rule : Rule) → q ≡ Some rule → Found rule
      kept_stops rule e = stations_stop rule (station_kept (at s) n k q pk pq rule e)

      module _ (z : q ≡ None) (f : Bool) (pf : f ≡ W3_station (at s) n) where
        pub received_stops : not f ≡ true → Found W3
        received_stops y = stations_stop W3 (station_received (at s) n k q pk pq z f pf (not-true f y))

        pub step : (j : ℕ) → not f ≡ false → j ≡ n + 1 → Within s j
        step j y e =
            record {
              below = w.below;
              most = omega arith;
              whole = w.whole;
              opened = w.opened;
              bounds = w.bounds;
              stations = first_next _ n j w.stations (station_passes (at s) n k q pk pq z f pf (not-false f y)) e;
            }

  -- after the stations: on to the next series, or W2
  module _ (s n : ℕ) (w : Within s n) (l : station_count ≤ n) (b : Bool) (e : b ≡ tally_fine (tally (at s) station_count)) where
    decides : broken W2 b ≡ broken_series (at s)
    decides = tokens_decide (at s) w.opened w.bounds (sym (first_end station_count _ n w.most l w.stations)) b e

    pub leave : (j : ℕ) → not b ≡ false → j ≡ s + 1 → Passed j
    leave j y q = on s j w.below w.whole (sym decides ∙ broken_no W2 b (not-false b y)) q

    pub tokens_stop : not b ≡ true → Found W2
    tokens_stop y = stop s W2 w.below w.whole (broken_yes W2 b (not-true b y) ∙ decides)

-- the walk's turns and its ways out
pub ruleset walk_ways = (start, finish, closed_on, closed_stops, enter, bounds_stop, leave, tokens_stop)
