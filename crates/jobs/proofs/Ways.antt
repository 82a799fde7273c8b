-- What the proofs of the walk over the slots share: a rule that is broken, or isn't, what the ranges say, and columns that are long enough.
-- Assumes nothing.
use Prim.Native.Nat.{ℕ, ◌+◌, ◌≤◌, ◌<◌}
use native.Mathlib.Numerals.{add-one}
use mathlib.Core.Path.{◌≡◌, refl}
use mathlib.Core.Bool.{Bool, true, false, not, ◌&&◌, false≢true}
use mathlib.Core.List.{List, [], ◌∷◌}
use lib.ListN.{length}
use Rattle.std.specs.Prelude.{Option, Some, None}
use Rattle.std.proofs.lemmas.List.{get_or-take}
use Rattle.words.specs.declared.Rule.{Rule}
use Rattle.words.specs.Numbers.{station_count, series_count, place_count, lock_count}
use Rattle.words.specs.Tests.{◌or◌, ◌⇒◌, broken, ◌or_else◌, first_below}
use Rattle.words.proofs.Laws.{and_true, broken_yes, broken_no, first_none, first_stop}
use Rattle.words.proofs.Guards.{all_long}
use Rattle.copies.specs.Tables.{Copies, tables}
use Rattle.copies.proofs.Guards.{chain}
use Rattle.copies.proofs.Reading.{read_at}
use Rattle.jobs.specs.declared.Job.{Job}
use Rattle.jobs.specs.Job.{job_open, lock_at}
use Rattle.jobs.specs.Slots.{job_at}
use Rattle.jobs.specs.Whole.{W1_job, W4_job, W5_job}
use Rattle.jobs.specs.FirstBroken.{broken_job, short_for_jobs}
use Rattle.jobs.proofs.Turns.{turns, if_is}
use Rattle.jobs.proofs.Reflect.{W1_job_reflects}

-- the first of two is broken
pub first_broken : (rule : Rule) (b : Option Rule) → (Some rule or_else b) ≡ Some rule
unfolding ◌or_else◌
first_broken rule b = refl

-- it isn't
pub second_broken : (b : Option Rule) → (None or_else b) ≡ b
unfolding ◌or_else◌
second_broken b = refl

-- one number more
pub first_more : (n : ℕ) (f : ℕ → Option Rule) → first_below (n + 1) f ≡ (first_below n f or_else f n)
unfolding first_below
first_more n f = rw add-one

-- the first rule broken of a row
pub ruleset decided = (broken_yes, broken_no, first_broken, second_broken)

-- and of the slots, one after the other
pub ruleset walked = (first_none, first_more, first_stop, decided)

-- past W1, the job's station is one, and each lock's series
pub in_ranges : (b : Job) → W1_job b ≡ true → (b.station < station_count) × ((i : ℕ) → i < lock_count → (lock_at b i).series < series_count)
in_ranges b e = let w = (W1_job_reflects b).0 e in (w.of_station, λ i l. (w.of_lock i l).of_series)

-- a slot that isn't open, in range and with its zeros, breaks no rule
pub slot_unused : (t : Copies) (bs : List Job) (j : ℕ) (o a c : Bool) → o ≡ job_open (job_at bs j) → a ≡ W1_job (job_at bs j) → c ≡ W5_job (job_at bs j)
    → (not o && a && c) ≡ true → broken_job t bs j ≡ None
unfolding broken_job broken ◌or_else◌ W4_job ◌⇒◌
slot_unused t bs j false true true p q r e = rw (← q, ← p, ← r)
slot_unused t bs j true a c p q r e = absurd (false≢true e)
slot_unused t bs j false false c p q r e = absurd (false≢true e)
slot_unused t bs j false true false p q r e = absurd (false≢true e)

-- where none is short, each column has its size
pub long_columns : (fs ls ks vs us : List ℕ) → short_for_jobs (tables fs ls ks vs [] [] [] [] [] us) ≡ false → (series_count ≤ length fs) × (series_count ≤ length ls) × (place_count ≤ length ks) × (place_count ≤ length vs) × (station_count ≤ length us)
unfolding short_for_jobs ◌or◌
long_columns fs ls ks vs us e =
    let l = all_long (series_count, _) ((series_count, _) ∷ (place_count, _) ∷ (place_count, _) ∷ (station_count, _) ∷ []) e in
    (l.0, l.1.0, l.1.1.0, l.1.1.1.0, l.1.1.1.1)

-- all that the walk's proofs cite
pub ruleset walking = (turns, if_is, chain, and_true, read_at, walked, in_ranges, get_or-take)
