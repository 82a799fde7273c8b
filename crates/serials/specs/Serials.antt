-- Demand 3, the serials: each that a series has issued belongs to one committed draw and one place in it.
-- Assumes nothing.
use Rattle.std.specs.Prelude.{ℕ, ◌≤◌, ◌<◌, ◌≡◌, ◌⊎◌, List, [], length}
use Rattle.words.specs.Numbers.{station_count, series_count}
use Rattle.copies.specs.Tables.{Series, series_at, value, rel_value}
use Rattle.copies.specs.Facts.{Open, Held, Undelivered}
use Rattle.rulebook.specs.declared.Event.{Event}
use Rattle.rulebook.specs.Events.{COMMIT}
use Rattle.rulebook.specs.Run.{Run, Machine, from_empty}
use Rattle.serials.specs.Draws.{Drawn, draws_after, draw_at, Belongs}

-- there is a token of the series: a copy is held, or a transfer is undelivered
abbrev pub SomeToken : Series → Type 0
SomeToken r =
    ((n : ℕ) × (n < station_count) × Held r n) ⊎ ((n : ℕ) × (n < station_count) × Undelivered r n)

-- W2: v is the series' next number. Every copy held and every transfer undelivered has that value, and there is one.
pub record IsNext (r : Series) (v : ℕ) : Type 0 where
  pub of_copies : (n : ℕ) → n < station_count → Held r n → value r n ≡ v
  pub of_transfers : (n : ℕ) → n < station_count → Undelivered r n → rel_value r n ≡ v
  pub is_said : SomeToken r

-- Each serial of series s from first to just before next belongs to exactly one draw and one place in it, and no draw of the series
-- holds another.
pub record SerialsOnce (ds : List Drawn) (s first next : ℕ) : Type 0 where
  pub belongs : (n : ℕ) → first ≤ n → n < next → (i : ℕ) × (k : ℕ) × Belongs ds s n i k
  pub once : (n i k j m : ℕ) → Belongs ds s n i k → Belongs ds s n j m → (i ≡ j) × (k ≡ m)
  pub no_other : (n i k : ℕ) → Belongs ds s n i k → (first ≤ n) × (n < next)

-- series s at the end of a run
abbrev pub series_after : Run → ℕ → Series
series_after x s = series_at x.plant.copies s

-- so it is of every open series, up to its next number
abbrev pub OpenOnce : Run → Type 0
OpenOnce x =
    (s : ℕ) → s < series_count → Open (series_after x s)
    → (next : ℕ) × IsNext (series_after x s) next × SerialsOnce (draws_after x) s (series_after x s).first next

-- and no draw belongs to a series that isn't open
abbrev pub OnlyOpen : Run → Type 0
OnlyOpen x =
    (i : ℕ) → i < length (draws_after x)
    → ((draw_at (draws_after x) i).series < series_count) × Open (series_after x (draw_at (draws_after x) i).series)

-- and serials leave the machine only at COMMIT: no other event writes draws into the output
abbrev pub OnlyAtCommit : Machine → Run → Type 0
OnlyAtCommit m x = (e : Event) → (e.kind ≡ COMMIT → ⊥) → (m x.plant x.out e).draws ≡ []

-- THE STATEMENT: so it is after any list of events from the empty plant. (That the next number is at most last + 1 is W1: `StaysWhole`.)
abbrev pub Serials : Machine → Type 0
Serials m = (es : List Event) → OpenOnce (from_empty m es) × OnlyOpen (from_empty m es) × OnlyAtCommit m (from_empty m es)
