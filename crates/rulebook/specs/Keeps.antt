-- What is left alone: all of it by a refusal, and by every step what stands past the stated sizes ("What a refusal says" in 01).
-- Assumes nothing.
use Rattle.std.specs.Prelude.{ℕ, ◌<◌, ◌≡◌, List, [], ◌∷◌, length, drop}
use Rattle.words.specs.Answers.{Answer, code_of, value_of}
use Rattle.words.specs.Numbers.{station_count, series_count, job_count, lock_count, place_count, received_count, out_count}
use Rattle.copies.specs.Tables.{Copies, tables}
use Rattle.jobs.specs.declared.Job.{Job}
use Rattle.jobs.specs.Slots.{job_at}
use Rattle.rulebook.specs.declared.Event.{Event}
use Rattle.rulebook.specs.Tables.{Plant, plant}
use Rattle.rulebook.specs.Steps.{step_of}
use Rattle.rulebook.specs.Around.{empty_plant, empty_of, holders_of}

-- ---- "Every refusal has value 0 and changes no table and no output"
-- the answer is a refusal: its code isn't 0
abbrev pub Refused : Answer → Type 0
Refused a = code_of a ≡ 0 → ⊥

-- of a step
abbrev pub StepRefusalKeeps : Type 0
StepRefusalKeeps =
    (p : Plant) (out : List ℕ) (e : Event) → Refused (step_of p out e).answer
    → (value_of (step_of p out e).answer ≡ 0) × ((step_of p out e).plant ≡ p) × ((step_of p out e).out ≡ out)

-- of the making of an empty plant, which is lent no output
abbrev pub EmptyRefusalKeeps : Type 0
EmptyRefusalKeeps =
    (p : Plant) → Refused (empty_of p).answer → (value_of (empty_of p).answer ≡ 0) × ((empty_of p).plant ≡ p)

-- of the holders of a series, which changes nothing in any case: set, count and lowest are 0
abbrev pub HoldersRefusalKeeps : Type 0
HoldersRefusalKeeps =
    (p : Plant) (s : ℕ) → Refused (holders_of p s).answer
    → (value_of (holders_of p s).answer ≡ 0) × ((holders_of p s).set ≡ 0) × ((holders_of p s).count ≡ 0) × ((holders_of p s).lowest ≡ 0)

-- THE STATEMENT: so it is of all three.
abbrev pub RefusalKeeps : Type 0
RefusalKeeps = StepRefusalKeeps × EmptyRefusalKeeps × HoldersRefusalKeeps

-- ---- "extra entries are never touched"
-- what stands past the stated sizes of the lower layer's tables
unfoldable pub extra_copies : Copies → Copies
extra_copies t =
    tables (drop series_count t.firsts) (drop series_count t.lasts) (drop place_count t.kinds) (drop place_count t.values)
    (drop place_count t.sent) (drop place_count t.rel_to) (drop place_count t.rel_kind) (drop place_count t.rel_value)
    (drop received_count t.received) (drop station_count t.up)

-- and of all tables
unfoldable pub extra : Plant → Plant
extra p = plant (extra_copies p.copies) (drop job_count p.jobs)

-- the lengths of the lower layer's tables
unfoldable pub copies_lengths : Copies → List ℕ
copies_lengths t =
    length t.firsts
    ∷ length t.lasts
    ∷ length t.kinds
    ∷ length t.values
    ∷ length t.sent
    ∷ length t.rel_to
    ∷ length t.rel_kind
    ∷ length t.rel_value
    ∷ length t.received
    ∷ length t.up
    ∷ []

-- and of all tables
unfoldable pub lengths : Plant → List ℕ
lengths p = length p.jobs ∷ copies_lengths p.copies

-- from p to q: every table is as long as before, and the same past its stated size
abbrev pub SameExtra : Plant → Plant → Type 0
SameExtra p q = (lengths q ≡ lengths p) × (extra q ≡ extra p)

-- each job record has its four lock places: a job of the machine always does, a list of the definitions might have more or fewer
abbrev pub FourPlaces : List Job → Type 0
FourPlaces bs = (j : ℕ) → j < length bs → length (job_at bs j).locks ≡ lock_count

-- of a step, with the output
abbrev pub StepExtraKept : Type 0
StepExtraKept =
    (p : Plant) (out : List ℕ) (e : Event) → FourPlaces p.jobs
    → SameExtra p (step_of p out e).plant
    × (length (step_of p out e).out ≡ length out)
    × (drop out_count (step_of p out e).out ≡ drop out_count out)

-- THE STATEMENT: neither a step nor the making of an empty plant touches an extra entry.
abbrev pub ExtraKept : Type 0
ExtraKept = StepExtraKept × ((p : Plant) → SameExtra p (empty_of p).plant)

-- ---- the four lock places
-- THE STATEMENT: the empty plant's jobs have them; and those that have them do so after every step, and after the making of an empty plant.
abbrev pub StaysFour : Type 0
StaysFour =
    FourPlaces empty_plant.jobs
    × ((p : Plant) (out : List ℕ) (e : Event) → FourPlaces p.jobs → FourPlaces (step_of p out e).plant.jobs)
    × ((p : Plant) → FourPlaces p.jobs → FourPlaces (empty_of p).plant.jobs)
