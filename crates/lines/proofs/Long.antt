-- How long lines can be, and that there is room for them. Assumes nothing.
use Prim.Native.Nat.{ℕ, zero, suc, ◌+◌, ◌-◌, ◌*◌, ◌^◌, ◌≤◌, ◌<◌, min}
use mathlib.Core.Path.{◌≡◌, refl, ap, sym, ◌∙◌}
use mathlib.Core.Bool.{Bool, true, false}
use mathlib.Core.List.{List, [], ◌∷◌}
use native.Mathlib.Omega.{arith}
use lib.Dec.{leb}
use lib.ListN.{length, get_or, take, length-take}
use lib.Seq.{sets}
use Rattle.std.proofs.lemmas.List.{take_min}
use borrow.Author.Tests.{leb-true, leb-false}
use Rattle.words.specs.declared.Refusal.{Refusal}
use Rattle.words.specs.Answers.{Answer, code_of, number_of, value_of}
use Rattle.words.specs.declared.Refusal.TheVariants.{Short, NotWhole, BadEvent, Taken, None as NoSuch, Down, Up, Held, Full}
use Rattle.words.specs.declared.Refusal.TheVariants.{Copy, Locked, NoLock, Drawn, Range, Wait, Spent, Others, NoMessage}
use Rattle.words.specs.Numbers.{out_count}
use Rattle.std.specs.Prelude.{Some, Ok, Err}
use Rattle.digits.specs.Printing.{wrote_at, written_at}
use Rattle.digits.proofs.Laws.{room_found}
use Rattle.digits.proofs.Round.{decimal_long}
use Rattle.rulebook.specs.declared.Event.{Event}
use Rattle.rulebook.specs.Events.{numbers, RESTART}
use Rattle.lines.specs.EventLines.{field_count}
use Rattle.lines.specs.Printed.{ended, line, event_text, event_room, reply, answer_text, answer_room}
use Rattle.lines.proofs.Fields.{count_none}
use Rattle.lines.specs.declared.printing.Pen.{Pen}
use Rattle.lines.specs.Pens.{fits}
use Rattle.lines.proofs.Puts.{Left, left_all, line_length, ended_length, ended_none}

-- all numbers of a list are of 32 bits
abbrev pub Narrow : List ℕ → Type 0
Narrow ns = (i : ℕ) → get_or ns i 0 < 2 ^ 32

-- and so are the first of them
narrow_take : (n : ℕ) (ns : List ℕ) → Narrow ns → Narrow (take n ns)
narrow_take zero ns h i = omega arith
narrow_take (suc n) [] h i = omega arith
narrow_take (suc n) (x ∷ ns) h zero = h 0
narrow_take (suc n) (x ∷ ns) h (suc i) = narrow_take n ns (λ j. h (suc j)) i

-- four of them
pub narrow_four : (a b c d : ℕ) → a < 2 ^ 32 → b < 2 ^ 32 → c < 2 ^ 32 → d < 2 ^ 32 → Narrow (a ∷ b ∷ c ∷ d ∷ [])
narrow_four a b c d ha hb hc hd zero = ha
narrow_four a b c d ha hb hc hd (suc zero) = hb
narrow_four a b c d ha hb hc hd (suc (suc zero)) = hc
narrow_four a b c d ha hb hc hd (suc (suc (suc zero))) = hd
narrow_four a b c d ha hb hc hd (suc (suc (suc (suc i)))) = omega arith

-- they take at most eleven bytes each, and LF one
ended_long : (ns : List ℕ) → Narrow ns → length (ended ns) ≤ 11 * length ns + 1
ended_long [] h = rw ended_none (omega arith)
ended_long (n ∷ ns) h =
    omega (arith, ended_length n ns, decimal_long 10 n (omega arith) (omega (arith, h 0)), ended_long ns (λ i. h (suc i)))

-- no refusal has a number of more than two digits
number_most : (r : Refusal) → number_of r ≤ 18
number_most Short = omega arith
number_most NotWhole = omega arith
number_most BadEvent = omega arith
number_most Taken = omega arith
number_most NoSuch = omega arith
number_most Down = omega arith
number_most Up = omega arith
number_most Held = omega arith
number_most Full = omega arith
number_most Copy = omega arith
number_most Locked = omega arith
number_most NoLock = omega arith
number_most Drawn = omega arith
number_most Range = omega arith
number_most Wait = omega arith
number_most Spent = omega arith
number_most Others = omega arith
number_most NoMessage = omega arith

-- so an answer's number is at most 18
code_most : (a : Answer) → code_of a ≤ 18
code_most (Ok v) = omega arith
code_most (Err r) = number_most r

-- a line number of 64 bits, a code, a value and twelve numbers at most
line_most : (number code value : ℕ) (ns : List ℕ) → number < 2 ^ 64 → code ≤ 18 → value < 2 ^ 32 → Narrow ns → length ns ≤ out_count
    → length (line number (code ∷ value ∷ ns)) ≤ answer_room
line_most number code value ns n c v d l =
    omega (
      arith,
      line_length number (code ∷ value ∷ ns),
      ended_length code (value ∷ ns),
      ended_length value ns,
      ended_long ns d,
      decimal_long 20 number (omega arith) (omega arith),
      decimal_long 2 code (omega arith) (omega arith),
      decimal_long 10 value (omega arith) (omega arith),
    )

module _ (number code value : ℕ) (a : Answer) (row : List ℕ) (shown : ℕ) (c : code ≡ code_of a) where
  -- an answer line is at most as long as the room that is asked for it
  pub answer_long : number < 2 ^ 64 → value < 2 ^ 32 → Narrow row → shown ≤ out_count
      → length (line number (code ∷ value ∷ take shown row)) ≤ answer_room
  answer_long n v d l =
      line_most number code value (take shown row) n (rw c (code_most a)) v (narrow_take shown row d) (omega (arith, length-take shown row))

  -- the line that is written is the answer's, which shows no more of a row than it has
  module _ (v : value ≡ value_of a) (k : shown ≡ min out_count (length row)) where
    answer_is : line number (code ∷ value ∷ take shown row) ≡ answer_text number (reply a row)
    unfolding answer_text
    answer_is = rw (c, v, k, take_min out_count row)

    -- so with room the position after it, and the bytes, are right
    module _ (first : List ℕ) (at : ℕ) (h : at ≤ length first) (g : answer_room ≤ length first - at) where
      pub answer_to : (s : ℕ) → s ≡ at + length (line number (code ∷ value ∷ take shown row))
          → Some s ≡ wrote_at answer_room (length first) at (answer_text number (reply a row))
      answer_to s e = ap Some (e ∙ ap (λ (l : List ℕ). at + length l) answer_is) ∙ (room_found answer_room first at _ h g).0

      pub answer_bytes : (last : List ℕ) → last ≡ sets first at (line number (code ∷ value ∷ take shown row))
          → last ≡ written_at answer_room first at (answer_text number (reply a row))
      answer_bytes last e = e ∙ ap (sets first at) answer_is ∙ (room_found answer_room first at _ h g).1

-- an event line is at most as long as the room that is asked for it: a kind that there is has two digits, any other no fields
pub event_long : (e : Event) → e.kind < 2 ^ 32 → Narrow (numbers e) → length (event_text e) ≤ event_room
unfolding event_text
event_long e h d = by (leb e.kind RESTART) refl
  where
    by : (x : Bool) → leb e.kind RESTART ≡ x → length (line e.kind (take (field_count e.kind) (numbers e))) ≤ event_room
    by true q =
        let count = field_count e.kind in
        let k : e.kind ≤ RESTART = leb-true _ _ q in
        omega (
          arith,
          line_length e.kind (take count (numbers e)),
          ended_long (take count (numbers e)) (narrow_take count (numbers e) d),
          length-take count (numbers e),
          decimal_long 2 e.kind (omega arith) (omega arith),
        )
    by false q =
        let z : field_count e.kind ≡ 0 = sym (count_none e.kind (leb-false _ _ q)) in
        rw z (omega (arith, line_length e.kind [], ap length ended_none, decimal_long 10 e.kind (omega arith) (omega arith)))

-- an event line is a line of numbers, of which at first all is left to write
pub event_left : (pen : Pen) (e : Event) {kind count : ℕ} → kind ≡ e.kind → count ≡ field_count e.kind → fits pen (event_text e)
    → Left pen (event_text e) pen (line kind (take count (numbers e)))
unfolding event_text
event_left pen e k c h = rw (k, c) (left_all pen _ h)

-- where there is enough room for a text that is written, the position after it, and the bytes
module _ (room : ℕ) (first text : List ℕ) (at : ℕ) (h : at ≤ length first) (g : room ≤ length first - at) where
  pub text_to : (next : ℕ) → next ≡ at + length text → Some next ≡ wrote_at room (length first) at text
  text_to next e = ap Some e ∙ (room_found room first at text h g).0

  pub text_bytes : (last : List ℕ) → last ≡ sets first at text → last ≡ written_at room first at text
  text_bytes last e = e ∙ (room_found room first at text h g).1

-- what writing a line comes to
pub ruleset written_ways = (text_to, text_bytes, answer_to, answer_bytes)
