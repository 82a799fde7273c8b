-- The committed draws as a reader of the answer lines sees them, and the serials that they hold.
-- Assumes nothing.
use Rattle.std.specs.Prelude.{ℕ, ◌+◌, ◌<◌, ◌≡◌, cond, List, [], ◌∷◌, ◌++◌, eqb, get_or, length}
use Rattle.rulebook.specs.Run.{Reply, Run}

-- A committed draw: the serials of a series from the first on, as many as the count.
pub record Drawn : Type 0 where
  pub series : ℕ
  pub first : ℕ
  pub count : ℕ

-- the draws in the numbers of an answer line, three numbers each
unfoldable pub draws_in : List ℕ → List Drawn
draws_in [] = []
draws_in (s ∷ []) = []
draws_in (s ∷ f ∷ []) = []
draws_in (s ∷ f ∷ c ∷ rest) = record { series = s; first = f; count = c } ∷ draws_in rest

-- the draws that the answer lines of a run show, in their order
unfoldable pub draws_shown : List Reply → List Drawn
draws_shown [] = []
draws_shown (a ∷ rest) = draws_in a.numbers ++ draws_shown rest

-- so far, at the end of a run
abbrev pub draws_after : Run → List Drawn
draws_after x = draws_shown x.replies

-- draw i of a list
abbrev pub draw_at : List Drawn → ℕ → Drawn
draw_at ds i = get_or ds i (record { series = 0; first = 0; count = 0 })

-- Serial n of series s belongs to draw i, at its place k.
pub record Belongs (ds : List Drawn) (s n i k : ℕ) : Type 0 where
  pub is_draw : i < length ds
  pub of_series : (draw_at ds i).series ≡ s
  pub is_place : k < (draw_at ds i).count
  pub stands : n ≡ (draw_at ds i).first + k

-- how many serials of series s the draws hold, all counts together
unfoldable pub count_in : ℕ → List Drawn → ℕ
count_in s [] = 0
count_in s (d ∷ ds) = cond (eqb d.series s) d.count 0 + count_in s ds
