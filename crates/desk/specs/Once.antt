-- The promise of each public call of this crate, and of the printers below it, allows one result ("What the contracts are held to" in 01).
-- The other calls of `digits` and `lines` promise that their result equals a definition.
-- Assumes nothing.
use Rattle.std.specs.Prelude.{ℕ, ◌≡◌, List, length, Option}
use Rattle.std.proofs.lemmas.List.Edits.{sets}
use Rattle.words.specs.Results.{OneResult}
use Rattle.desk.specs.declared.Fed.{Fed}
use Rattle.desk.specs.Desk.{Desk}
use Rattle.desk.specs.Calls.{given, called, kept}

-- What `feed` leaves: what it gives back, the desk (the next number, the tables, the output) and the bytes.
pub record Left : Type 0 where
  pub fed : Fed
  pub desk : Desk
  pub bytes : List ℕ

-- What a call leaves that gives something back and writes into bytes.
pub record Given (A : Type 0) : Type 0 where
  pub back : A
  pub bytes : List ℕ

-- of `feed`
abbrev pub FeedOnce : Type 0
FeedOnce = (d : Desk) (t bytes : List ℕ) → OneResult (λ (x : Left). given x.fed x.desk x.bytes ≡ called d t bytes)

-- of `keep`
abbrev pub KeepOnce : Type 0
KeepOnce =
    (bytes : List ℕ) (from end : ℕ)
    → OneResult (λ (x : Given ℕ). (x.back ≡ length (kept bytes from end)) × (x.bytes ≡ sets bytes 0 (kept bytes from end)))

-- of the printers of numbers, events and answers, whatever they promise to say and to leave
abbrev pub PrintOnce : Type 0
PrintOnce = (says : Option ℕ) (leaves : List ℕ) → OneResult (λ (x : Given (Option ℕ)). (x.back ≡ says) × (x.bytes ≡ leaves))

-- THE STATEMENT: of all of them.
abbrev pub EachOnce : Type 0
EachOnce = FeedOnce × KeepOnce × PrintOnce
