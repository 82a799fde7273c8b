-- Whole tables stay whole, so no list of events from the empty plant gets refusal 2.
-- Assumes nothing.
use Rattle.std.specs.Prelude.{ℕ, ◌≡◌, true, List, [], ◌∷◌, Err}
use Rattle.words.specs.Answers.{Answer}
use Rattle.words.specs.declared.Refusal.TheVariants.{Short, NotWhole}
use Rattle.rulebook.specs.declared.Event.{Event}
use Rattle.rulebook.specs.Tables.{Plant}
use Rattle.rulebook.specs.Whole.{whole}
use Rattle.rulebook.specs.Run.{Reply, Machine, from_empty}
use Rattle.rulebook.specs.Keeps.{FourPlaces}

-- a step from whole tables leaves whole tables (a refused one as they stood); the jobs have four lock places, as all jobs of the machine do
abbrev pub KeepsWhole : Machine → Type 0
KeepsWhole m =
    (p : Plant) (out : List ℕ) (e : Event) → FourPlaces p.jobs → whole p ≡ true → whole (m p out e).plant ≡ true

-- none of the replies is this answer
abbrev pub Never : Answer → List Reply → Type 0
Never a [] = Unit {0}
Never a (r ∷ rs) = (r.answer ≡ a → ⊥) × Never a rs

-- THE STATEMENT: and so, after any list of events from the empty plant, the tables are whole, and no event was refused with 1 or 2.
abbrev pub StaysWhole : Machine → Type 0
StaysWhole m =
    KeepsWhole m
    × ((es : List Event)
    → (whole (from_empty m es).plant ≡ true) × Never (Err Short) (from_empty m es).replies × Never (Err NotWhole) (from_empty m es).replies)
