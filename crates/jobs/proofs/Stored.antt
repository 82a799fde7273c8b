-- COMMIT: where all that a job has drawn fits, storing its lock places one by one comes to its draws committed and shown.
-- Assumes nothing.
use Prim.Native.Nat.{ℕ, zero, suc, ◌+◌, ◌*◌, ◌≤◌, ◌<◌}
use native.Mathlib.Nat.{zero-add, add-zero}
use native.Mathlib.Numerals.{add-one, add-two}
use native.Mathlib.Decide.{ℕ_discrete}
use native.Mathlib.Omega.{arith}
use mathlib.Core.Path.{◌≡◌, refl, sym, ap, ◌∙◌}
use mathlib.Core.Logic.{◌≢◌, dite}
use mathlib.Core.Bool.{Bool, true, true≢false}
use mathlib.Core.List.{List, [], ◌∷◌}
use lib.ListN.{get_or, set, length, length-set}
use lib.Seq.{sets, get_or-set_other}
use borrow.Author.Tests.{eq-eqb, ne_eqb, le-ltb}
use Rattle.words.specs.Numbers.{lock_count}
use Rattle.words.specs.Tests.{non, ◌and◌, ◌or◌, refuse_if}
use Rattle.words.proofs.Laws.{all_true}
use Rattle.copies.specs.Tables.{Copies, series_at, place, value}
use Rattle.copies.specs.Steps.{raised}
use Rattle.copies.specs.Calls.{raise_in, raise}
use Rattle.copies.proofs.Reading.{copy_good}
use Rattle.jobs.specs.declared.Lock.{Lock}
use Rattle.jobs.specs.declared.Job.{Job}
use Rattle.jobs.specs.Job.{no_lock, lock_at, is_used}
use Rattle.jobs.specs.Whole.{W4_differs}
use Rattle.jobs.specs.Draws.{Draw, entry_there, draws_on, draws_of, committed, shown, fits}
use Rattle.jobs.specs.Store.{Store, store, store_one, store_first}
use Rattle.jobs.proofs.OneSlot.{turns}
use Rattle.jobs.proofs.Fitting.{Addable, value_there, Drawable, reflects_draw}

-- ---- one copy raised
-- what can be added is added: no refusal is given
raise_added : (t : Copies) (s n count : ℕ) → Addable t.lasts t.values s n count → (raise t s n count).copies ≡ raised t s n count
unfolding raise raise_in refuse_if ◌or◌
raise_added t s n count a =
    rw (le-ltb _ _ a.long_lasts, le-ltb _ _ a.long_values, copy_good s n a.series a.station, le-ltb _ _ a.within, le-ltb _ _ a.small)

-- the value of another series' copy stays
pub raised_value : (t : Copies) (s n count : ℕ) {i : ℕ} → i ≢ s → value (series_at (raised t s n count) i) n ≡ value (series_at t i) n
unfolding raised
raised_value t s n count {i} ne = get_or-set_other t.values (place s n) (place i n) _ 0 (λ e. ne (omega arith))

-- and so does what can be added to it
raised_addable : (t : Copies) (s n count : ℕ) {i more : ℕ} → i ≢ s → Addable t.lasts t.values i n more → Addable (raised t s n count).lasts (raised t s n count).values i n more
unfolding raised
raised_addable t s n count {i} {more} ne a =
    let same = raised_value t s n count ne in
    record {
      long_lasts = a.long_lasts;
      long_values = rw (length-set t.values (place s n) _) a.long_values;
      series = a.series;
      station = a.station;
      within = rw same a.within;
      small = rw same a.small;
    }

-- ---- one lock place
-- the draw that a lock at station n has noted
abbrev pub draw_of : Copies → ℕ → Lock → Draw
draw_of t n l = record { series = l.series; first = value (series_at t l.series) n; count = l.drawn; station = n }

-- k draws were stored before these: they are counted, committed and shown
abbrev after_draws : ℕ → Copies → List ℕ → List Draw → Store
after_draws k t out ds = store (k + length ds) (committed t ds) (sets out (3 * k) (shown ds))

-- one draw more, in front
draws_cons : (k : ℕ) (t : Copies) (out : List ℕ) (d : Draw) (ds : List Draw) → after_draws (k + 1) (raised t d.series d.station d.count) (sets out (3 * k) (d.series ∷ d.first ∷ d.count ∷ [])) ds ≡ after_draws k t out (d ∷ ds)
unfolding committed shown
draws_cons k t out d ds =
    let more : k + 1 + length ds ≡ k + suc (length ds) = omega arith in
    let next : 3 * (k + 1) ≡ suc (suc (suc (3 * k))) = omega arith in
    rw (more, next)

module _ (n : ℕ) (l : Lock) where
  -- no draw: nothing is stored
  pub one_none : (x : Store) → l.drawn ≡ 0 → store_one n l x ≡ x
  unfolding store_one
  one_none x e = rw (eq-eqb _ _ e)

  -- and there is none in front
  pub draws_none : (t : Copies) (ls : List Lock) → l.drawn ≡ 0 → draws_on t n (l ∷ ls) ≡ draws_on t n ls
  unfolding draws_on
  draws_none t ls e = rw (eq-eqb _ _ e)

  -- a draw that can be added: the value before is shown, and raised
  one_some : (k : ℕ) (t : Copies) (out : List ℕ) → l.drawn ≢ 0 → Addable t.lasts t.values l.series n l.drawn → store_one n l (store k t out) ≡ store (k + 1) (raised t l.series n l.drawn) (sets out (3 * k) (l.series ∷ value (series_at t l.series) n ∷ l.drawn ∷ []))
  unfolding store_one
  one_some k t out ne a = rw (ne_eqb _ _ ne, raise_added t l.series n l.drawn a, value_there t.lasts t.values l.series n l.drawn a)

  -- and it stands in front
  pub draws_some : (t : Copies) (ls : List Lock) → l.drawn ≢ 0 → draws_on t n (l ∷ ls) ≡ draw_of t n l ∷ draws_on t n ls
  unfolding draws_on
  draws_some t ls ne = rw (ne_eqb _ _ ne)

  -- a draw, as it is stored: three numbers of the output, then the raise
  pub one_stored : (k : ℕ) (t : Copies) (out : List ℕ) → l.drawn ≢ 0 → store_one n l (store k t out) ≡ store (k + 1) (raise t l.series n l.drawn).copies (set (set (set out (3 * k) l.series) (3 * k + 1) (entry_there t.values l.series n)) (3 * k + 2) l.drawn)
  unfolding store_one
  one_stored k t out ne = rw (ne_eqb _ _ ne, add-one (3 * k), add-two)

  -- at most one draw more is counted
  pub one_count : (x y : Store) → y ≡ store_one n l x → y.count ≤ x.count + 1
  unfolding store_one
  one_count x y e = rw e (dite (ℕ_discrete l.drawn 0) (λ z. rw (eq-eqb _ _ z) (omega arith)) (λ ne. rw (ne_eqb _ _ ne) (omega arith)))

-- ---- the loop over the places of a job
-- no turn yet
pub store_none : (b : Job) (x : Store) → store_first b 0 x ≡ x
unfolding store_first
store_none b x = refl

-- one turn more
pub store_next : (b : Job) (i : ℕ) (x : Store) → store_first b (i + 1) x ≡ store_one b.station (lock_at b i) (store_first b i x)
unfolding store_first
store_next b i x = rw add-one

-- the loop is at the last place
pub store_end : (b : Job) (n i : ℕ) (x z : Store) → i ≤ n → n ≤ i → x ≡ store_first b i z → x ≡ store_first b n z
store_end b n i x z le ge e = let same : n ≡ i = omega arith in rw same e

-- ---- the places of a job, from the front
-- the lock at place i
abbrev pub lock_of : List Lock → ℕ → Lock
lock_of ls i = get_or ls i no_lock

-- a job of these locks
abbrev job_of : ℕ → ℕ → List Lock → Job
job_of mark n ls = record { mark = mark; station = n; locks = ls }

-- the first place is stored first
store_front : (mark n : ℕ) (l : Lock) (ls : List Lock) (i : ℕ) (x : Store) → store_first (job_of mark n (l ∷ ls)) (suc i) x ≡ store_first (job_of mark n ls) i (store_one n l x)
unfolding store_first
store_front mark n l ls zero x = refl
store_front mark n l ls (suc i) x = ap (store_one n (lock_of ls i)) (store_front mark n l ls i x)

-- each draw of these locks can be added
abbrev Adds : Copies → ℕ → List Lock → Type 0
Adds t n ls = (i : ℕ) → i < length ls → (lock_of ls i).drawn ≢ 0 → Addable t.lasts t.values (lock_of ls i).series n (lock_of ls i).drawn

-- no two draws are in one series
abbrev pub SeriesDiffer : List Lock → Type 0
SeriesDiffer ls = (i k : ℕ) → i < length ls → k < i → (lock_of ls i).drawn ≢ 0 → (lock_of ls k).drawn ≢ 0 → (lock_of ls i).series ≢ (lock_of ls k).series

-- no draw is in series s
abbrev pub NotIn : ℕ → List Lock → Type 0
NotIn s ls = (i : ℕ) → i < length ls → (lock_of ls i).drawn ≢ 0 → (lock_of ls i).series ≢ s

-- a raise of a series that no draw is in leaves the draws
pub draws_raised : (t : Copies) (s n count : ℕ) (ls : List Lock) → NotIn s ls → draws_on (raised t s n count) n ls ≡ draws_on t n ls
unfolding draws_on
draws_raised t s n count [] h = refl
draws_raised t s n count (l ∷ ls) h =
    let rest = draws_raised t s n count ls (λ i le. h (suc i) (omega arith)) in
    dite (ℕ_discrete l.drawn 0)
    (λ e. draws_none n l (raised t s n count) ls e ∙ rest ∙ sym (draws_none n l t ls e))
    (λ ne. draws_some n l (raised t s n count) ls ne ∙ rw (raised_value t s n count (h 0 (omega arith) ne), rest) (sym (draws_some n l t ls ne)))

-- the places stored one by one: their draws counted, committed and shown
stored_draws : (mark n : ℕ) (ls : List Lock) (k : ℕ) (t : Copies) (out : List ℕ) → Adds t n ls → SeriesDiffer ls → store_first (job_of mark n ls) (length ls) (store k t out) ≡ after_draws k t out (draws_on t n ls)
unfolding store_first draws_on committed shown
stored_draws mark n [] k t out adds apart = rw add-zero
stored_draws mark n (l ∷ ls) k t out adds apart =
    let rest : SeriesDiffer ls = λ i k le lt. apart (suc i) (suc k) (omega arith) (omega arith) in
    store_front mark n l ls (length ls) (store k t out)
    ∙ dite (ℕ_discrete l.drawn 0)
    (λ e. rw (one_none n l (store k t out) e, draws_none n l t ls e) (stored_draws mark n ls k t out (λ i le. adds (suc i) (omega arith)) rest))
    (λ ne.
    let other : NotIn l.series ls = λ i le d. apart (suc i) 0 (omega arith) (omega arith) d ne in
    let later : Adds (raised t l.series n l.drawn) n ls = λ i le d. raised_addable t l.series n l.drawn (other i le d) (adds (suc i) (omega arith) d) in
    rw (one_some n l k t out ne (adds 0 (omega arith) ne), draws_some n l t ls ne)
    (stored_draws mark n ls (k + 1) (raised t l.series n l.drawn) _ later rest
    ∙ rw (draws_raised t l.series n l.drawn ls other) (draws_cons k t out (draw_of t n l) (draws_on t n ls))))

-- ---- the four places of a job
-- two tests that don't both hold
not_both : (a b : Bool) → non (a and b) ≡ true → a ≡ true → b ≡ true → ⊥
unfolding non ◌and◌
not_both a b e p q = true≢false (sym (rw (p, q) at e))

-- W4: an earlier used place is on another series
pub differs_earlier : (b : Job) (i k : ℕ) → W4_differs b i ≡ true → k < i → is_used b k ≡ true → (lock_at b i).series ≢ (lock_at b k).series
unfolding W4_differs
differs_earlier b i k w lt used e = not_both _ _ (all_true i _ w k lt) used (eq-eqb _ _ (sym e))

-- a job's draws, counted, committed and shown
abbrev pub store_all : Job → Copies → List ℕ → Store
store_all b t out = store (length (draws_of t b)) (committed t (draws_of t b)) (sets out 0 (shown (draws_of t b)))

-- where all that a job has drawn fits, this is what its four places store
pub stored_whole : (b : Job) (t : Copies) (out : List ℕ) → length b.locks ≡ lock_count → fits t.lasts t.values b ≡ true → store_first b lock_count (store 0 t out) ≡ store_all b t out
unfolding draws_of fits
stored_whole b t out four fit =
    let each = stored_draws b.mark b.station b.locks 0 t out (λ i le d. (at i le d).0.0) apart in
    rw (four, zero-add) at each
  where
    at : (i : ℕ) → i < length b.locks → (lock_at b i).drawn ≢ 0 → Drawable t.lasts t.values b i
    at i le = (reflects_draw t.lasts t.values b i).0 (all_true lock_count _ fit i (rw (← four) le))

    apart : SeriesDiffer b.locks
    apart i k le lt d e = differs_earlier b i k (at i le d).1 lt (at k (omega arith) e).0.1

-- each way out of COMMIT
pub ruleset outcomes = (stored_whole, turns)
