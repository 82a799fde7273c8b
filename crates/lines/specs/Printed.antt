-- Event lines and answer lines as they are printed ("Around the step" in 01).
-- Assumes nothing.
use Rattle.std.specs.Prelude.{ℕ, List, [], ◌∷◌, ◌++◌, take}
use Rattle.words.specs.Answers.{Answer, code_of, value_of}
use Rattle.words.specs.Numbers.{out_count}
use Rattle.digits.specs.Bytes.{space, LF}
use Rattle.digits.specs.Printing.{decimal}
use Rattle.rulebook.specs.declared.Event.{Event}
use Rattle.rulebook.specs.Events.{numbers}
use Rattle.rulebook.specs.Run.{Reply}
use Rattle.lines.specs.EventLines.{field_count}

-- each number after a space
unfoldable pub spaced : List ℕ → List ℕ
spaced [] = []
spaced (n ∷ ns) = space ∷ (decimal n ++ spaced ns)

-- and then LF
unfoldable pub ended : List ℕ → List ℕ
ended ns = spaced ns ++ (LF ∷ [])

-- a line of numbers
unfoldable pub line : ℕ → List ℕ → List ℕ
line n ns = decimal n ++ ended ns

-- an event line: the kind and exactly its fields
unfoldable pub event_text : Event → List ℕ
event_text e = line e.kind (take (field_count e.kind) (numbers e))

-- the longest event line, with its LF: a kind of two digits and four fields of ten
abbrev pub event_room : ℕ
event_room = 47

-- the answer and the numbers that a reply shows
abbrev pub reply : Answer → List ℕ → Reply
reply a ns = record { answer = a; numbers = ns }

-- an answer line: line number, code, value, and after an accepted COMMIT its draws, of which the output holds no more than twelve numbers
unfoldable pub answer_text : ℕ → Reply → List ℕ
answer_text n r = line n (code_of r.answer ∷ value_of r.answer ∷ take out_count r.numbers)

-- no answer line is longer, its LF counted: a line number of twenty digits, a code of two, value and twelve numbers of ten; one byte is to spare, since
-- a code of two digits comes with value 0
abbrev pub answer_room : ℕ
answer_room = 167
