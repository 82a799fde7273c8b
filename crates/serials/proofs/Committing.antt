-- COMMIT, one series: where no draw is in it, it stays; else the one draw in it is added to its copy, and leads from that copy's value.
-- Assumes nothing.
use Prim.Native.Nat.{ℕ, suc, ◌+◌, ◌<◌}
use native.Mathlib.Decide.{ℕ_discrete}
use native.Mathlib.Omega.{arith}
use mathlib.Core.Path.{◌≡◌, refl, sym, ◌∙◌}
use mathlib.Core.Logic.{◌⊎◌, inl, inr, ◌≢◌, dite, ⊎_elim}
use mathlib.Core.List.{List, [], ◌∷◌, map}
use lib.ListN.{length}
use Rattle.words.specs.Numbers.{station_count, series_count}
use Rattle.copies.specs.Tables.{Copies, Series, series_at, value}
use Rattle.copies.specs.Steps.{raised}
use Rattle.copies.proofs.There.{there}
use Rattle.copies.proofs.Same.{Same, same_self, same_then}
use Rattle.copies.proofs.Long.{Long}
use Rattle.copies.proofs.Leaves.{Leaves, only_long}
use Rattle.copies.proofs.After.{series_raised, after_raised}
use Rattle.jobs.specs.declared.Lock.{Lock}
use Rattle.jobs.specs.Draws.{Draw, draws_on, committed}
use Rattle.jobs.proofs.Stored.{draw_of, draws_none, draws_some, lock_of, SeriesDiffer, NotIn, draws_raised, raised_value}
use Rattle.serials.proofs.Tiling.{plain, Chain, stop, mine, other, Idle}

-- a count added to the value of either of two series that are the same
same_raised : {a b : Series} {n : ℕ} (count : ℕ) → n < station_count → Same a b → Same (series_raised a n count) (series_raised b n count)
unfolding there
same_raised {n} count hn s =
    record { first = s.first; last = s.last; kept = λ m hm. cc (s.kept n hn, s.kept m hm); received = s.received }

-- From t to t', with the draws ds committed: series s stays, and none of them is in it.
pub record StaysIdle (t t' : Copies) (ds : List Draw) (s : ℕ) : Type 0 where
  pub same : Same (series_at t' s) (series_at t s)
  pub idle : Idle s (map plain ds)

-- From t to t', with the draws ds of locks at station n committed: one place has drawn in series s, its count is added to the station's
-- copy, and the draws of s lead from the copy's value to the sum.
pub record Adds (t t' : Copies) (ds : List Draw) (n : ℕ) (ls : List Lock) (s : ℕ) : Type 0 where
  pub place : ℕ
  pub within : place < length ls
  pub drawn : (lock_of ls place).drawn ≢ 0
  pub of_series : (lock_of ls place).series ≡ s
  pub added : Same (series_at t' s) (series_raised (series_at t s) n (lock_of ls place).drawn)
  pub chain : Chain s (value (series_at t s) n) (map plain ds) (value (series_at t s) n + (lock_of ls place).drawn)

-- one of the two
abbrev pub Settles : (t t' : Copies) (ds : List Draw) (n : ℕ) (ls : List Lock) (s : ℕ) → Type 0
Settles t t' ds n ls s = StaysIdle t t' ds s ⊎ Adds t t' ds n ls s

-- the locks that have drawn are on series that there are
abbrev pub InSeries : List Lock → Type 0
InSeries ls = (i : ℕ) → i < length ls → (lock_of ls i).drawn ≢ 0 → (lock_of ls i).series < series_count

-- a lock in front that has drawn nothing changes nothing
settles_none : {t t' : Copies} {ds : List Draw} {n : ℕ} (l : Lock) {ls : List Lock} {s : ℕ} → Settles t t' ds n ls s
    → Settles t t' ds n (l ∷ ls) s
settles_none {t} {t'} {ds} {n} l {ls} {s} = ⊎_elim inl (λ a. inr (behind a))
  where
    behind : Adds t t' ds n ls s → Adds t t' ds n (l ∷ ls) s
    behind a =
        let lt = a.within in
        record { place = suc a.place; within = omega arith; drawn = a.drawn; of_series = a.of_series; added = a.added; chain = a.chain }

-- a lock in front has drawn: its count is added first, and the later draws are in other series
module _ {t : Copies} (t' : Copies) (ds : List Draw) {n : ℕ} (hn : n < station_count) (l : Lock) (ls : List Lock) (ne : l.drawn ≢ 0) (apart : NotIn l.series ls) (raise : Leaves t (raised t l.series n l.drawn) l.series (series_raised (series_at t l.series) n l.drawn)) where
  -- the tables with this count added
  abbrev after : Copies
  after = raised t l.series n l.drawn

  -- in its own series it is the draw
  adds_here : StaysIdle after t' ds l.series → Adds t t' (draw_of t n l ∷ ds) n (l ∷ ls) l.series
  adds_here a =
      record {
        place = 0;
        within = omega arith;
        drawn = ne;
        of_series = refl;
        added = same_then a.same raise.here;
        chain = mine refl refl (a.idle _);
      }

  -- another series without a later draw stays
  stays_elsewhere : {s : ℕ} → s ≢ l.series → StaysIdle after t' ds s → StaysIdle t t' (draw_of t n l ∷ ds) s
  stays_elsewhere {s} differs a =
      record { same = same_then a.same (raise.elsewhere s differs); idle = λ v. other (λ e. differs (sym e)) (a.idle v) }

  -- a later draw is in another series, whose copy is as it was
  adds_later : {s : ℕ} → Adds after t' ds n ls s → Adds t t' (draw_of t n l ∷ ds) n (l ∷ ls) s
  adds_later {s} a =
      let lt = a.within in
      let differs : s ≢ l.series = λ e. apart a.place a.within a.drawn (a.of_series ∙ e) in
      record {
        place = suc a.place;
        within = omega arith;
        drawn = a.drawn;
        of_series = a.of_series;
        added = same_then a.added (same_raised (lock_of ls a.place).drawn hn (raise.elsewhere s differs));
        chain = other (λ e. differs (sym e)) (rw (raised_value t l.series n l.drawn differs) at a.chain);
      }

  -- so it is of any series
  settles_some : (s : ℕ) → Settles after t' ds n ls s → Settles t t' (draw_of t n l ∷ ds) n (l ∷ ls) s
  settles_some s =
      ⊎_elim (λ a. dite (ℕ_discrete s l.series) (λ e. inr (rw e (adds_here (rw e at a)))) (λ differs. inl (stays_elsewhere differs a)))
      (λ a. inr (adds_later a))

-- the draws of locks at one station, no two in one series, are committed: each series stays, or its one draw is added
pub draws_settle : (t : Copies) {n : ℕ} (ls : List Lock) → Long t → n < station_count → InSeries ls → SeriesDiffer ls → (s : ℕ)
    → Settles t (committed t (draws_on t n ls)) (draws_on t n ls) n ls s
unfolding draws_on committed
draws_settle t [] long hn known apart s = inl (record { same = same_self; idle = λ v. stop refl })
draws_settle t {n} (l ∷ ls) long hn known apart s =
    let later : InSeries ls = λ i lt. known (suc i) (omega arith) in
    let rest : SeriesDiffer ls = λ i k le lt. apart (suc i) (suc k) (omega arith) (omega arith) in
    dite (ℕ_discrete l.drawn 0)
    (λ e. rw (draws_none n l t ls e) (settles_none l (draws_settle t ls long hn later rest s)))
    (λ ne.
    let raise = after_raised long (known 0 (omega arith) ne) hn l.drawn in
    let differ : NotIn l.series ls = λ i le d. apart (suc i) 0 (omega arith) (omega arith) d ne in
    rw (draws_some n l t ls ne)
    (settles_some _ (draws_on t n ls) hn l ls ne differ raise s
    (rw (draws_raised t l.series n l.drawn ls differ) at (draws_settle (raised t l.series n l.drawn) ls (only_long raise.only long) hn later rest s))))

-- and no station's mark changes
pub committed_up : (t : Copies) (ds : List Draw) → (committed t ds).up ≡ t.up
unfolding committed raised
committed_up t [] = refl
committed_up t (d ∷ ds) = committed_up (raised t d.series d.station d.count) ds
