-- What a crash leaves of the slots, one slot after the other: the laws of the loop that closes and counts. Assumes nothing.
use Prim.Native.Nat.{ℕ, zero, suc, ◌+◌, ◌<◌, ◌≤◌}
use native.Mathlib.Nat.{not-suc-le-zero, le_of_suc-le-suc}
use native.Mathlib.Numerals.{add-one}
use mathlib.Core.Path.{◌≡◌, refl, ap}
use mathlib.Core.Bool.{cond}
use mathlib.Core.List.{List, [], ◌∷◌}
use lib.ListN.{set}
use Rattle.std.proofs.lemmas.List.{set-get_or}
use Rattle.words.specs.Tests.{◌and◌}
use Rattle.copies.proofs.Reading.{sum_none, sum_more}
use Rattle.jobs.specs.declared.Job.{Job}
use Rattle.jobs.specs.Job.{no_job, job_there}
use Rattle.jobs.specs.Slots.{job_at, close_first}

-- no slot has been passed yet
pub close_none : (n : ℕ) (bs : List Job) → close_first n 0 bs ≡ bs
unfolding close_first
close_none n bs = refl

module _ (n : ℕ) where
  -- the slots from the k-th on are still as they stood
  pub close_later : (k : ℕ) (bs : List Job) (i : ℕ) → k ≤ i → job_at (close_first n k bs) i ≡ job_at bs i
  unfolding close_first
  close_later zero bs i h = refl
  close_later (suc k) [] i h = refl
  close_later (suc k) (b ∷ bs) zero h = absurd (not-suc-le-zero h)
  close_later (suc k) (b ∷ bs) (suc i) h = close_later k bs i (le_of_suc-le-suc h)

  -- of the first k slots, that of a job of the station is closed, and another stays
  pub close_at : (k : ℕ) (bs : List Job) (j : ℕ) → j < k → job_at (close_first n k bs) j ≡ cond (job_there (job_at bs j) n) no_job (job_at bs j)
  unfolding close_first ◌and◌
  close_at zero bs j l = absurd (not-suc-le-zero l)
  close_at (suc k) [] j l = refl
  close_at (suc k) (b ∷ bs) zero l = refl
  close_at (suc k) (b ∷ bs) (suc j) l = close_at k bs j (le_of_suc-le-suc l)

  -- one slot more: it is closed where its job is of the station
  close_step : (k : ℕ) (bs : List Job) → close_first n (suc k) bs ≡ set (close_first n k bs) k (cond (job_there (job_at bs k) n) no_job (job_at bs k))
  unfolding close_first ◌and◌
  close_step zero [] = refl
  close_step zero (b ∷ bs) = refl
  close_step (suc k) [] = refl
  close_step (suc k) (b ∷ bs) = ap (λ (rest : List Job). cond (job_there b n) no_job b ∷ rest) (close_step k bs)

  -- in the numbers of a loop
  pub close_next : (k : ℕ) (bs : List Job) → close_first n (k + 1) bs ≡ set (close_first n k bs) k (cond (job_there (job_at bs k) n) no_job (job_at bs k))
  close_next k bs = rw add-one (close_step k bs)

-- one turn of the loop that closes and counts
pub ruleset closing = (close_none, close_later, close_next, set-get_or, sum_none, sum_more)
