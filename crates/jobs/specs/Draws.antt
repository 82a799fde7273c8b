-- The draws of a job: what COMMIT adds to the copies and writes into the output.
-- Assumes nothing.
use Rattle.std.specs.Prelude.{ℕ, ◌+◌, Bool, cond, List, [], ◌∷◌, eqb, leb}
use Rattle.words.specs.Numbers.{lock_count, place_count, greatest_serial}
use Rattle.words.specs.Tests.{non, ◌and◌, ◌or◌, all_below}
use Rattle.copies.specs.Tables.{Copies, series_at, place, value}
use Rattle.copies.specs.Steps.{raised}
use Rattle.copies.specs.Calls.{read, bad_copy, beyond}
use Rattle.jobs.specs.declared.Lock.{Lock}
use Rattle.jobs.specs.declared.Job.{Job}
use Rattle.jobs.specs.Job.{lock_at, is_used}
use Rattle.jobs.specs.Whole.{W4_differs}

-- what a column keeps of the copy of series s at station n; 0 where there is no such copy (W1 allows no such job)
abbrev pub entry_there : (column : List ℕ) → ℕ → ℕ → ℕ
entry_there column s n = read place_count column (bad_copy s n) (place s n)

-- ---- the draws
-- A draw: the serials of a series from the first, as many as the count, drawn at a station.
pub record Draw : Type 0 where
  pub series : ℕ
  pub first : ℕ
  pub count : ℕ
  pub station : ℕ

-- the draws that locks at station n have noted, in order of locking; the first serial is the copy's value
unfoldable pub draws_on : Copies → ℕ → List Lock → List Draw
draws_on t n [] = []
draws_on t n (l ∷ ls) =
    cond (eqb l.drawn 0) (draws_on t n ls)
    (record { series = l.series; first = value (series_at t l.series) n; count = l.drawn; station = n } ∷ draws_on t n ls)

-- the draws of a job, at its station
unfoldable pub draws_of : Copies → Job → List Draw
draws_of t b = draws_on t b.station b.locks

-- the copies with each drawn count added to its copy's value
unfoldable pub committed : Copies → List Draw → Copies
committed t [] = t
committed t (d ∷ ds) = committed (raised t d.series d.station d.count) ds

-- what the output shows of them: series, first serial and count of each
unfoldable pub shown : List Draw → List ℕ
shown [] = []
shown (d ∷ ds) = d.series ∷ d.first ∷ d.count ∷ shown ds

-- ---- draws that can be committed, as all can in whole tables (W1, W4, W5)
-- what lock place i has drawn is within the series and within what a value may be, on a used place, and no earlier place is on that series
unfoldable pub draw_fits : (lasts values : List ℕ) → Job → ℕ → Bool
draw_fits lasts values b i =
    let l : Lock = lock_at b i in
    eqb l.drawn 0
    or non (beyond lasts values l.series b.station l.drawn)
    and leb (entry_there values l.series b.station + l.drawn) (greatest_serial + 1)
    and is_used b i
    and W4_differs b i

-- all that a job has drawn
unfoldable pub fits : (lasts values : List ℕ) → Job → Bool
fits lasts values b = all_below lock_count (draw_fits lasts values b)
