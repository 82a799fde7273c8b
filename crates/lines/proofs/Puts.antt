-- Laws of writing a line part by part. Assumes nothing.
use Prim.Native.Nat.{ℕ, suc, ◌+◌, ◌≤◌, ◌<◌}
use mathlib.Core.Path.{◌≡◌, refl, ap, sym, ◌∙◌}
use mathlib.Core.List.{List, [], ◌∷◌, ◌++◌, append_assoc}
use native.Mathlib.Omega.{arith}
use native.Mathlib.Nat.{add-zero, add-suc, suc-add}
use native.Mathlib.Numerals.{add-one}
use lib.ListN.{length, get_or, drop, set, length-append, drop_of_length-le}
use lib.Seq.{sets, length-sets, drop-cons}
use Rattle.std.specs.Prelude.{Option, Some}
use Rattle.digits.specs.Bytes.{space, LF}
use Rattle.digits.specs.Printing.{decimal, wrote_at, written_at}
use Rattle.digits.proofs.Laws.{room_found}
use Rattle.lines.specs.declared.printing.Pen.{Pen}
use Rattle.lines.specs.Pens.{fits, Wrote}
use Rattle.lines.specs.Printed.{spaced, ended, line}

-- a text that is written where there is room for it
module _ (first : List ℕ) (at : ℕ) (text : List ℕ) (w : Option ℕ) (e : w ≡ wrote_at (length text) (length first) at text)
    (h : at + length text ≤ length first) where
  -- it is never refused, and this is the position after it
  pub put_to : w ≡ Some (at + length text)
  put_to = e ∙ sym (room_found (length text) first at text (omega arith) (omega arith)).0

  -- the bytes
  pub put_text : (last : List ℕ) → last ≡ written_at (length text) first at text → last ≡ sets first at text
  put_text last f = f ∙ sym (room_found (length text) first at text (omega arith) (omega arith)).1

-- what writing where there is room comes to
pub ruleset with_room = (put_to, put_text)

-- a text in two parts is written part after part
pub sets_append : (l : List ℕ) (i : ℕ) (a b : List ℕ) → sets l i (a ++ b) ≡ sets (sets l i a) (i + length a) b
sets_append l i [] b = rw add-zero
sets_append l i (x ∷ a) b = rw (add-suc i (length a), ← suc-add i (length a)) (sets_append (set l i x) (suc i) a b)

-- Of a text that is to stand where a pen stood at first, rest is left to write.
pub record Left (first : Pen) (text : List ℕ) (pen : Pen) (rest : List ℕ) : Type 0 where
  pub room : fits pen rest
  pub done : (last : Pen) → Wrote pen rest last → Wrote first text last

-- at first all of it
pub left_all : (first : Pen) (text : List ℕ) → fits first text → Left first text first text
left_all first text h = record { room = h; done = λ last w. w }

-- a line of numbers, the first of them and the others apart
line_parts : (n : ℕ) (ns : List ℕ) → line n ns ≡ decimal n ++ ended ns
unfolding line
line_parts n ns = refl

ended_parts : (n : ℕ) (ns : List ℕ) → ended (n ∷ ns) ≡ (space ∷ decimal n) ++ ended ns
unfolding ended spaced
ended_parts n ns = ap (λ (l : List ℕ). space ∷ l) (append_assoc (decimal n) (spaced ns) (LF ∷ []))

pub ended_none : ended [] ≡ LF ∷ []
unfolding ended spaced
ended_none = refl

-- and their lengths
pub line_length : (n : ℕ) (ns : List ℕ) → length (line n ns) ≡ length (decimal n) + length (ended ns)
line_length n ns = rw (line_parts n ns) (length-append (decimal n) (ended ns))

pub ended_length : (n : ℕ) (ns : List ℕ) → length (ended (n ∷ ns)) ≡ length (decimal n) + 1 + length (ended ns)
ended_length n ns = rw (ended_parts n ns, length-append (decimal n) (ended ns)) (omega arith)

-- a pen that has written a byte
abbrev stepped : Pen → ℕ → Pen
stepped pen byte = record pen { out = record pen.out { now = set pen.out.now pen.at byte }; at = pen.at + 1 }

module _ {first pen : Pen} {text : List ℕ} where
  -- there is room for the next part
  part_room : (a rest : List ℕ) → Left first text pen (a ++ rest) → fits pen a
  part_room a rest l = omega (arith, l.room, length-append a rest)

  -- after it, what follows it is left
  part_next : (next : Pen) (a rest : List ℕ) → Left first text pen (a ++ rest) → Wrote pen a next → Left first text next rest
  part_next next a rest l w =
      record {
        room = omega (arith, l.room, length-append a rest, w.1, ap length w.2, length-sets pen.out.now pen.at a);
        done =
            λ last v.
            l.done last (
              v.0 ∙ w.0,
              omega (arith, v.1, w.1, length-append a rest),
              (rw (w.1, w.2) at v.2) ∙ sym (sets_append pen.out.now pen.at a rest),
            );
      }

  -- the line's first number
  module _ (n : ℕ) (ns : List ℕ) (l : Left first text pen (line n ns)) where
    pub number_room : fits pen (decimal n)
    number_room = part_room (decimal n) (ended ns) (rw line_parts at l)

    pub number_next : (next : Pen) → Wrote pen (decimal n) next → Left first text next (ended ns)
    number_next next w = part_next next (decimal n) (ended ns) (rw line_parts at l) w

  -- one of the others
  module _ (n : ℕ) (ns : List ℕ) (l : Left first text pen (ended (n ∷ ns))) where
    pub field_room : fits pen (space ∷ decimal n)
    field_room = part_room (space ∷ decimal n) (ended ns) (rw ended_parts at l)

    pub field_next : (next : Pen) → Wrote pen (space ∷ decimal n) next → Left first text next (ended ns)
    field_next next w = part_next next (space ∷ decimal n) (ended ns) (rw ended_parts at l) w

  module _ (row : List ℕ) (k : ℕ) (l : Left first text pen (ended (drop k row))) where
    -- the next number of a row
    pub row_left : k < length row → Left first text pen (ended (get_or row k 0 ∷ drop (k + 1) row))
    row_left h = rw (add-one, ← drop-cons row k 0 h) l

    -- after the last one LF is left
    module _ (h : length row ≤ k) where
      end_left : Left first text pen (LF ∷ [])
      end_left = rw (drop_of_length-le row h, ended_none) at l

      -- there is room for it
      pub end_room : pen.at < length pen.out.now
      end_room = omega (arith, end_left.room)

      -- and then all is written
      pub end_wrote : Wrote first text (stepped pen LF)
      end_wrote = end_left.done (stepped pen LF) (refl, refl, refl)
