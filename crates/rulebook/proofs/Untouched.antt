-- What stands past the stated sizes is not touched: column by column, then by each accepted step.
-- Assumes nothing.
use Prim.Native.Nat.{ℕ, zero, suc, ◌+◌, ◌-◌, ◌*◌, ◌≤◌, ◌<◌}
use native.Mathlib.Omega.{arith}
use mathlib.Core.Path.{◌≡◌, refl, sym, ap, ◌∙◌}
use mathlib.Core.List.{List, [], ◌∷◌}
use mathlib.Core.Bool.{Bool}
use lib.Dec.{eqb, ltb}
use lib.ListN.{get_or, length, drop, set, replicate, length-drop, length-set, length-replicate}
use lib.Seq.{sets, ext_get_or, get_or-drop, drop-set-lt, length-sets}
use Rattle.words.specs.Numbers.{station_count, series_count, job_count, place_count, received_count}
use Rattle.words.specs.Tests.{◌or◌}
use Rattle.copies.specs.Tables.{Copies, short_copies}
use Rattle.copies.proofs.Long.{Long}
use Rattle.copies.proofs.Stores.{OnlyBelow}
use Rattle.copies.proofs.Leaves.{OnlyStated, only_long}
use Rattle.copies.proofs.After.{after_raised}
use Rattle.jobs.specs.declared.Lock.{Lock}
use Rattle.jobs.specs.declared.Job.{Job}
use Rattle.jobs.specs.Job.{no_lock}
use Rattle.jobs.specs.Slots.{short_jobs, close_first, closed_at}
use Rattle.jobs.specs.Draws.{Draw, draws_on, committed, shown}
use Rattle.rulebook.specs.Tables.{Plant, plant, short_tables}
use Rattle.rulebook.specs.Keeps.{extra_copies, extra, copies_lengths, lengths, SameExtra}
use Rattle.rulebook.proofs.Judging.{cond_cases}

-- ---- lists
-- a run of stores within a size leaves what stands past it
pub drop_sets : {A : Type 0} (vs l : List A) (i n : ℕ) → i + length vs ≤ n → drop n (sets l i vs) ≡ drop n l
drop_sets [] l i n h = refl
drop_sets (a ∷ vs) l i n h = drop_sets vs (set l i a) (suc i) n (omega arith) ∙ drop-set-lt n l i a (omega arith)

-- one of as many stores as the size
drop_filled : {A : Type 0} (n : ℕ) (l : List A) (v : A) → drop n (sets l 0 (replicate n v)) ≡ drop n l
drop_filled n l v = let same = length-replicate n v in drop_sets (replicate n v) l 0 n (omega (arith, same))

-- a column that is changed at most below its size
only_drop : (n : ℕ) (l l' : List ℕ) → OnlyBelow n l l' → drop n l' ≡ drop n l
only_drop n l l' o =
    ext_get_or 0 (drop n l') (drop n l) (length-drop n l' ∙ ap (λ (k : ℕ). k - n) o.same_length ∙ sym (length-drop n l))
    (λ i _. get_or-drop n l' i 0 ∙ o.extra (n + i) (omega arith) ∙ sym (get_or-drop n l i 0))

-- and the other way round: what is dropped stays, so each entry past the size does
drop_only : (n : ℕ) (l l' : List ℕ) → length l' ≡ length l → drop n l' ≡ drop n l → OnlyBelow n l l'
drop_only n l l' e h =
    record {
      same_length = e;
      extra = λ j le.
          let at : n + (j - n) ≡ j = omega arith in
          rw (← at) (sym (get_or-drop n l' (j - n) 0) ∙ ap (λ (k : List ℕ). get_or k (j - n) 0) h ∙ get_or-drop n l (j - n) 0);
    }

-- a column written anew within its size
pub only_filled : (n : ℕ) (l : List ℕ) (v : ℕ) → OnlyBelow n l (sets l 0 (replicate n v))
only_filled n l v = drop_only n l _ (length-sets l 0 (replicate n v)) (drop_filled n l v)

-- ---- the lower layer's tables
-- Each as long as before, and the same past its stated size.
pub record SameCopies (t u : Copies) : Type 0 where
  pub lengths : copies_lengths u ≡ copies_lengths t
  pub extra : extra_copies u ≡ extra_copies t

-- tables that stay
pub copies_stay : {t : Copies} → SameCopies t t
copies_stay = record { lengths = refl; extra = refl }

-- tables changed at most within their stated sizes
pub copies_only : {t u : Copies} → OnlyStated t u → SameCopies t u
unfolding copies_lengths extra_copies
copies_only {t} {u} o =
    record {
      lengths = λ x.
          o.firsts.same_length x
          ∷ o.lasts.same_length x
          ∷ o.kinds.same_length x
          ∷ o.values.same_length x
          ∷ o.sent.same_length x
          ∷ o.rel_to.same_length x
          ∷ o.rel_kind.same_length x
          ∷ o.rel_value.same_length x
          ∷ o.received.same_length x
          ∷ o.up.same_length x
          ∷ [];
      extra = λ x. record {
        firsts = only_drop series_count t.firsts u.firsts o.firsts x;
        lasts = only_drop series_count t.lasts u.lasts o.lasts x;
        kinds = only_drop place_count t.kinds u.kinds o.kinds x;
        values = only_drop place_count t.values u.values o.values x;
        sent = only_drop place_count t.sent u.sent o.sent x;
        rel_to = only_drop place_count t.rel_to u.rel_to o.rel_to x;
        rel_kind = only_drop place_count t.rel_kind u.rel_kind o.rel_kind x;
        rel_value = only_drop place_count t.rel_value u.rel_value o.rel_value x;
        received = only_drop received_count t.received u.received o.received x;
        up = only_drop station_count t.up u.up o.up x;
      };
    }

-- one change after another
copies_then : {t u v : Copies} → SameCopies t u → SameCopies u v → SameCopies t v
copies_then p q = record { lengths = q.lengths ∙ p.lengths; extra = q.extra ∙ p.extra }

-- ---- COMMIT
-- at a station and in series that there are, draws are committed within the stated sizes
pub copies_committed : (t : Copies) (n : ℕ) (ls : List Lock) (u : Copies) → Long u → n < station_count
    → ((i : ℕ) → i < length ls → (get_or ls i no_lock).series < series_count)
    → SameCopies u (committed u (draws_on t n ls))
unfolding draws_on committed
copies_committed t n [] u h hn there = copies_stay
copies_committed t n (l ∷ ls) u h hn there =
    let raise = (after_raised h (there 0 (omega arith)) hn l.drawn).only in
    cond_cases (λ (ds : List Draw). SameCopies u (committed u ds)) (eqb l.drawn 0) _ _
    (λ _. copies_committed t n ls u h hn (λ i lt. there (suc i) (omega arith)))
    (λ _. copies_then (copies_only raise) (copies_committed t n ls _ (only_long raise h) hn (λ i lt. there (suc i) (omega arith))))

-- there are at most as many draws as locks
pub draws_few : (t : Copies) (n : ℕ) (ls : List Lock) → length (draws_on t n ls) ≤ length ls
unfolding draws_on
draws_few t n [] = omega arith
draws_few t n (l ∷ ls) =
    let few = draws_few t n ls in
    cond_cases (λ (ds : List Draw). length ds ≤ suc (length ls)) (eqb l.drawn 0) _ _ (λ _. omega arith) (λ _. omega arith)

-- three numbers are shown of each
pub shown_length : (ds : List Draw) → length (shown ds) ≡ 3 * length ds
unfolding shown
shown_length [] = refl
shown_length (d ∷ ds) = let rest = shown_length ds in omega arith

-- ---- the job slots
-- As many as before, and the same past the sixteen.
pub record SameSlots (bs cs : List Job) : Type 0 where
  pub count : length cs ≡ length bs
  pub extra : drop job_count cs ≡ drop job_count bs

-- slots that stay
pub slots_stay : {bs : List Job} → SameSlots bs bs
slots_stay = record { count = refl; extra = refl }

-- one of the sixteen holds another job
pub slots_put : (bs : List Job) (j : ℕ) (b : Job) → j < job_count → SameSlots bs (set bs j b)
slots_put bs j b lt = record { count = length-set bs j b; extra = drop-set-lt job_count bs j b lt }

-- all sixteen hold the same job
pub slots_filled : (bs : List Job) (b : Job) → SameSlots bs (sets bs 0 (replicate job_count b))
slots_filled bs b = record { count = length-sets bs 0 (replicate job_count b); extra = drop_filled job_count bs b }

-- of the first k some are closed
close_length : (n k : ℕ) (bs : List Job) → length (close_first n k bs) ≡ length bs
unfolding close_first
close_length n zero bs = refl
close_length n (suc k) [] = refl
close_length n (suc k) (b ∷ bs) = ap suc (close_length n k bs)

-- and the later ones stay
close_drop : (n k : ℕ) (bs : List Job) → drop k (close_first n k bs) ≡ drop k bs
unfolding close_first
close_drop n zero bs = refl
close_drop n (suc k) [] = refl
close_drop n (suc k) (b ∷ bs) = close_drop n k bs

-- CRASH
pub slots_closed : (n : ℕ) (bs : List Job) → SameSlots bs (closed_at n bs)
unfolding closed_at
slots_closed n bs = record { count = close_length n job_count bs; extra = close_drop n job_count bs }

-- ---- the plant
-- both layers
pub plant_same : (p q : Plant) → SameCopies p.copies q.copies → SameSlots p.jobs q.jobs → SameExtra p q
unfolding lengths extra
plant_same p q below above = (λ x. above.count x ∷ below.lengths x, λ x. plant (below.extra x) (above.extra x))

-- whether a table is short goes by the lengths
short_by : List ℕ → Bool
short_by ls =
    ltb (get_or ls 1 0) series_count
    or ltb (get_or ls 2 0) series_count
    or ltb (get_or ls 3 0) place_count
    or ltb (get_or ls 4 0) place_count
    or ltb (get_or ls 5 0) place_count
    or ltb (get_or ls 6 0) place_count
    or ltb (get_or ls 7 0) place_count
    or ltb (get_or ls 8 0) place_count
    or ltb (get_or ls 9 0) received_count
    or ltb (get_or ls 10 0) station_count
    or ltb (get_or ls 0 0) job_count

-- as the rule has it
short_is : (p : Plant) → short_tables p ≡ short_by (lengths p)
unfolding short_tables short_copies short_jobs short_by lengths copies_lengths
short_is p = refl

-- tables as long as others are short where those are
pub short_same : (p q : Plant) → lengths q ≡ lengths p → short_tables q ≡ short_tables p
short_same p q e = short_is q ∙ ap short_by e ∙ sym (short_is p)
