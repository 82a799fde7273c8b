-- Reading a printed event line gives the event back. Assumes nothing.
use Prim.Native.Nat.{ℕ, suc, ◌+◌, ◌-◌, ◌≤◌, ◌<◌}
use mathlib.Core.Path.{◌≡◌, refl, ap, sym, ◌∙◌}
use mathlib.Core.Bool.{Bool, true, false}
use mathlib.Core.List.{List, [], ◌∷◌, ◌++◌, append_assoc, append_cancel_right}
use native.Mathlib.Omega.{arith}
use native.Mathlib.Nat.{sub-zero}
use native.Mathlib.Numerals.{add-one}
use lib.Dec.{leb, ltb}
use lib.ListN.{length, get_or, take, drop, length-append, length-drop}
use lib.Seq.{drop-cons, drop-append_seam, drop-drop, take_all, take-nil}
use borrow.Author.Tests.{lt-ltb, le-ltb, eq-eqb, ne_eqb, leb-true, leb-false, ltb-true, ltb-false}
use Rattle.std.specs.Prelude.{Some}
use Rattle.digits.specs.Bytes.{space, LF}
use Rattle.digits.specs.Reading.{greatest_number, digit_count, digit_value}
use Rattle.digits.specs.Printing.{decimal}
use Rattle.digits.proofs.Round.{reads_at}
use Rattle.rulebook.specs.declared.Event.{Event}
use Rattle.rulebook.specs.Events.{numbers, RESTART}
use Rattle.lines.specs.Reader.{number_at}
use Rattle.lines.specs.EventLines.{longest_line, field_count, field_at, fields_from, event_line}
use Rattle.lines.specs.Printed.{spaced, ended, line, event_text}
use Rattle.lines.specs.Back.{Plain, EventBack}
use Rattle.lines.proofs.Fields.{count_none}
use Rattle.lines.proofs.Long.{event_long}

-- From a position of a line on these fields stand there, and nothing after them.
record Stand (t : List ℕ) (p : ℕ) (ns : List ℕ) : Type 0 where
  within : p ≤ length t
  text : drop p t ≡ spaced ns

-- no digit stands at their front
spaced_count : (ns : List ℕ) → digit_count (spaced ns) ≡ 0
unfolding spaced
spaced_count [] = refl
spaced_count (n ∷ ns) = refl

spaced_value : (ns : List ℕ) (v : ℕ) → digit_value v (spaced ns) ≡ v
unfolding spaced
spaced_value [] v = refl
spaced_value (n ∷ ns) v = refl

-- so a number before them is read, and they stand after it
module _ (t : List ℕ) (p n : ℕ) (ns : List ℕ) (h : p ≤ length t) (e : drop p t ≡ decimal n ++ spaced ns) where
  number_read : n ≤ greatest_number → number_at t p ≡ Some (n, p + length (decimal n))
  number_read g =
      reads_at t (spaced ns) p (length t) n (omega arith) h (take_all (length t - p) (drop p t) (omega (arith, length-drop p t)) ∙ e) g
      (spaced_count ns) (spaced_value ns)

  number_after : Stand t (p + length (decimal n)) ns
  number_after =
      record {
        within = omega (arith, length-drop p t, ap length e, length-append (decimal n) (spaced ns));
        text = sym (drop-drop (length (decimal n)) p t) ∙ ap (drop (length (decimal n))) e ∙ drop-append_seam (decimal n) (spaced ns);
      }

-- A field was read, and what stands after it.
record Read (t : List ℕ) (p : ℕ) (wanted : Bool) (n : ℕ) (ns : List ℕ) : Type 0 where
  next : ℕ
  is : field_at t p wanted ≡ Some (n, next)
  after : Stand t next ns

-- a field that is wanted is read where it stands
field_wanted : (t : List ℕ) (p n : ℕ) (ns : List ℕ) → Stand t p (n ∷ ns) → n ≤ greatest_number → Read t p true n ns
unfolding spaced field_at
field_wanted t p n ns s g =
    let l : p < length t = omega (arith, s.within, length-drop p t, ap length s.text) in
    let z : get_or t p 0 ∷ drop (suc p) t ≡ space ∷ (decimal n ++ spaced ns) = sym (drop-cons t p 0 l) ∙ s.text in
    let b : get_or t p 0 ≡ space = cc in
    let d : drop (p + 1) t ≡ decimal n ++ spaced ns = rw add-one (cc) in
    record {
      next = p + 1 + length (decimal n);
      is = rw (lt-ltb p (length t) l, eq-eqb (get_or t p 0) space b) (number_read t (p + 1) n ns (omega arith) d g);
      after = number_after t (p + 1) n ns (omega arith) d;
    }

-- one that isn't is 0
field_unwanted : (t : List ℕ) (p : ℕ) (ns : List ℕ) → Stand t p ns → Read t p false 0 ns
unfolding field_at
field_unwanted t p ns s = record { next = p; is = refl; after = s }

-- Of count numbers that stand in a line, and zeros after them, the one at index i is read where those before it end.
module _ (t : List ℕ) (count : ℕ) (vs : List ℕ) (small : (i : ℕ) → get_or vs i 0 ≤ greatest_number)
    (zeros : (i : ℕ) → count ≤ i → get_or vs i 0 ≡ 0) where
  field_read : (i p : ℕ) → i < length vs → Stand t p (take (count - i) (drop i vs))
      → Read t p (ltb i count) (get_or vs i 0) (take (count - suc i) (drop (suc i) vs))
  field_read i p l s = by (ltb i count) refl
    where
      by : (x : Bool) → ltb i count ≡ x → Read t p x (get_or vs i 0) (take (count - suc i) (drop (suc i) vs))
      by true e =
          let h : i < count = ltb-true i count e in
          let k : count - i ≡ suc (count - suc i) = omega arith in
          field_wanted t p (get_or vs i 0) (take (count - suc i) (drop (suc i) vs)) (rw (k, drop-cons vs i 0 l) at s) (small i)
      by false e =
          let h : count ≤ i = ltb-false i count e in
          let k : count - i ≡ 0 = omega arith in
          let m : count - suc i ≡ 0 = omega arith in
          rw (zeros i h, m) (field_unwanted t p [] (rw k at s))

-- nothing is left: the line ends
stand_none : (t : List ℕ) (p : ℕ) → Stand t p [] → p ≡ length t
unfolding spaced
stand_none t p s = omega (arith, s.within, length-drop p t, ap length s.text)

-- how many fields an event has
abbrev count : Event → ℕ
count e = field_count e.kind

module _ (e : Event) (plain : Plain e) where
  -- the fields of an event are read back
  fields_back : (t : List ℕ) (p : ℕ) → Stand t p (take (count e) (numbers e)) → fields_from t e.kind (count e) p ≡ Some e
  unfolding fields_from
  fields_back t p s =
      let read = field_read t (count e) (numbers e) plain.small plain.zeros in
      let a = read 0 p (omega arith) (rw (sub-zero (count e)) s) in
      let b = read 1 a.next (omega arith) a.after in
      let c = read 2 b.next (omega arith) b.after in
      let d = read 3 c.next (omega arith) c.after in
      rw (a.is, b.is, c.is, d.is, eq-eqb d.next (length t) (stand_none t d.next (rw take-nil at d.after)))

  -- its kind is one of the seventeen
  kind_known : e.kind ≤ RESTART
  kind_known = by (leb e.kind RESTART) refl
    where
      by : (x : Bool) → leb e.kind RESTART ≡ x → e.kind ≤ RESTART
      by true q = leb-true _ _ q
      by false q = omega (arith, plain.known, count_none e.kind (leb-false _ _ q))

  -- so is the line
  line_back : (t : List ℕ) → t ≡ decimal e.kind ++ spaced (take (count e) (numbers e)) → length t < length (event_text e)
      → event_line t ≡ Some e
  unfolding event_line
  line_back t q l =
      let k = kind_known in
      let long = event_long e (omega arith) (λ i. omega (arith, plain.small i)) in
      let ns = take (count e) (numbers e) in
      let kind = number_read t 0 e.kind ns (omega arith) q (omega arith) in
      rw (le-ltb longest_line (length t) (omega arith), kind, ne_eqb (count e) 0 (λ z. omega (arith, plain.known)))
      (fields_back t _ (number_after t 0 e.kind ns (omega arith) q))

-- the statement: without its LF, the line is the kind and its fields
pub event_back : EventBack
unfolding event_text line ended
event_back e t plain q =
    let ns = take (count e) (numbers e) in
    let z = append_assoc (decimal e.kind) (spaced ns) (LF ∷ []) ∙ q in
    line_back e plain t (sym (append_cancel_right _ t (LF ∷ []) z)) (omega (arith, ap length q, length-append t (LF ∷ [])))
