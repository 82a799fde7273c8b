-- A call's walk from a position of the text: it halts, or it answers the line that starts there and goes on after it. Assumes nothing.
use Prim.Native.Nat.{ℕ, suc, ◌+◌, ◌-◌, ◌≤◌, ◌<◌}
use mathlib.Core.Path.{◌≡◌, refl, ap, sym, ◌∙◌}
use mathlib.Core.Bool.{Bool, true, false, cond, false≢true, and-eq-true_iff}
use mathlib.Core.List.{List, [], ◌∷◌, ◌++◌, append_assoc, append-nil}
use native.Mathlib.Omega.{arith}
use lib.Dec.{leb, ltb, eqb}
use lib.ListN.{length, take, drop, length-append, length-drop}
use lib.Seq.{drop-drop, length-take-le}
use borrow.Author.Tests.{eqb-true, eqb-false, eq-eqb, ne_eqb, leb-true, le-leb, ltb-true, ltb-false, lt-ltb, le-ltb}
use Rattle.digits.specs.Bytes.{LF}
use Rattle.std.specs.Prelude.{Option, Some, None}
use Rattle.std.proofs.lemmas.Option.{none-some, same_Some}
use Rattle.lines.specs.declared.Line.{Line}
use Rattle.lines.specs.Texts.{until_end, line_end, line_at}
use Rattle.lines.specs.Printed.{answer_room}
use Rattle.lines.proofs.Ends.{end_start}
use Rattle.desk.specs.Desk.{Desk, says, after}
use Rattle.desk.specs.Calls.{greatest_line, goes_on, Walked, halt, saying, walk, only_whole, whole_line}

-- a call goes on: there is room, and the number isn't past the greatest
goes_on_lem : (room n : ℕ) → goes_on room n ≡ true → (answer_room ≤ room) × (n ≤ greatest_line)
goes_on_lem room n e =
    let both = (and-eq-true_iff (leb answer_room room) (leb n greatest_line)).0 e in
    (leb-true answer_room room both.0, leb-true n greatest_line both.1)

-- ---- a text from its first byte on
-- a line is said, and the walk goes on with what follows its LF
abbrev pub line_said : ℕ → ℕ → Desk → List ℕ → List ℕ → Walked
line_said room used d line t =
    saying (says d line) (walk (room - length (says d line)) [] (used + length line + 1) (after d line) t)

-- the three ways at a byte: an LF at which the call doesn't go on, one at which the line is said, and any other byte
pub walk_cases : (P : Walked → Type 0) (room : ℕ) (line : List ℕ) (used : ℕ) (d : Desk) (b : ℕ) (t : List ℕ)
    → (b ≡ LF → goes_on room d.number ≡ false → P (halt used d))
    → (b ≡ LF → goes_on room d.number ≡ true → P (line_said room used d line t))
    → ((b ≡ LF → ⊥) → P (walk room (line ++ (b ∷ [])) used d t))
    → P (walk room line used d (b ∷ t))
unfolding walk
walk_cases P room line used d b t shut said other = by (eqb b LF) (goes_on room d.number) refl refl
  where
    by : (q g : Bool) → eqb b LF ≡ q → goes_on room d.number ≡ g
        → P (cond q (cond g (line_said room used d line t) (halt used d)) (walk room (line ++ (b ∷ [])) used d t))
    by true true q g = said (eqb-true b LF q) g
    by true false q g = shut (eqb-true b LF q) g
    by false g q h = other (eqb-false b LF q)

module _ (room : ℕ) (d : Desk) where
  -- a call that doesn't go on uses nothing
  walk_shut : (line : List ℕ) (used : ℕ) (t : List ℕ) → goes_on room d.number ≡ false
      → walk room line used d t ≡ halt used d
  unfolding walk
  walk_shut line used [] shut = refl
  walk_shut line used (b ∷ t) shut =
      walk_cases (λ w. w ≡ halt used d) room line used d b t (λ q g. refl) (λ q g. absurd (false≢true (sym shut ∙ g)))
      (λ q. walk_shut (line ++ (b ∷ [])) used t shut)

  -- of a text with no LF, nothing is used
  walk_quiet : (line : List ℕ) (used : ℕ) (t : List ℕ) → length t ≤ until_end t → walk room line used d t ≡ halt used d
  unfolding walk
  walk_quiet line used [] quiet = refl
  walk_quiet line used (b ∷ t) quiet =
      walk_cases (λ w. w ≡ halt used d) room line used d b t (λ q g. refl)
      (λ q g. absurd (omega (arith, rw (eq-eqb b LF q) at quiet)))
      (λ q. walk_quiet (line ++ (b ∷ [])) used t (omega (arith, rw (ne_eqb b LF q) at quiet)))

  -- the first line is said, where it has its LF and the call goes on
  walk_first : (line : List ℕ) (used : ℕ) (t first : List ℕ) → goes_on room d.number ≡ true → until_end t < length t
      → first ≡ line ++ take (until_end t) t
      → walk room line used d t ≡ line_said room used d first (drop (suc (until_end t)) t)
  walk_first line used [] first on h e = absurd (omega arith)
  walk_first line used (b ∷ t) first on h e =
      walk_cases (λ w. w ≡ line_said room used d first (drop (suc (until_end (b ∷ t))) (b ∷ t))) room line used d b t
      (λ q g. absurd (false≢true (sym g ∙ on)))
      (λ q g. rw (eq-eqb b LF q, (rw (eq-eqb b LF q) at e) ∙ append-nil line))
      (λ q. rw (ne_eqb b LF q)
      (walk_first (line ++ (b ∷ [])) used t first on (omega (arith, rw (ne_eqb b LF q) at h))
      ((rw (ne_eqb b LF q) at e) ∙ sym (append_assoc line (b ∷ []) (take (until_end t) t)))))

-- ---- a text from a position on
-- What is known of a line that the search found: it starts at the position and has its LF, and the call goes on.
pub record Whole (t : List ℕ) (start room n : ℕ) (l : Line) : Type 0 where
  pub starts : l.start ≡ start
  pub ends : l.end ≡ line_end t start
  pub forward : l.start ≤ l.end
  pub inside : l.end < length t
  pub goes : l.next ≡ l.end + 1
  pub fits : answer_room ≤ room
  pub numbered : n ≤ greatest_line

-- the line that starts at a position and has its LF
abbrev ended : List ℕ → ℕ → Line
ended t start = record { start = start; end = line_end t start; next = line_end t start + 1 }

-- where it has one, the whole line is what is left of the line there
whole_only : (t : List ℕ) (start : ℕ) → only_whole (line_at t start) ≡ cond (ltb (line_end t start) (length t)) (Some (ended t start)) None
unfolding line_at
whole_only t start = by (ltb start (length t)) (ltb (line_end t start) (length t)) refl refl
  where
    by : (a b : Bool) → ltb start (length t) ≡ a → ltb (line_end t start) (length t) ≡ b
        → only_whole
        (cond a (Some (record { start = start; end = line_end t start; next = cond b (line_end t start + 1) (line_end t start) })) None)
        ≡ cond b (Some (ended t start)) None
    by true true p q = rw (lt-ltb (line_end t start) (line_end t start + 1) (omega arith))
    by true false p q = rw (le-ltb (line_end t start) (line_end t start) (omega arith))
    by false true p q =
        absurd (omega (arith, ltb-false start (length t) p, ltb-true (line_end t start) (length t) q, end_start t start))
    by false false p q = refl

module _ (t : List ℕ) (start room n : ℕ) where
  -- the search finds it, where the call goes on
  found_is : whole_line t start room n ≡ cond (goes_on room n) (cond (ltb (line_end t start) (length t)) (Some (ended t start)) None) None
  unfolding whole_line
  found_is = rw (whole_only t start)

  -- what was found is known
  pub whole_found : {l : Line} → whole_line t start room n ≡ Some l → Whole t start room n l
  whole_found {l} found = by (goes_on room n) (ltb (line_end t start) (length t)) refl refl
    where
      by : (g b : Bool) → goes_on room n ≡ g → ltb (line_end t start) (length t) ≡ b → Whole t start room n l
      by true true p q =
          let z : ended t start ≡ l = same_Some (ended t start) l (sym (found_is ∙ rw (p, q)) ∙ found) in
          let m = goes_on_lem room n p in
          let h = ltb-true (line_end t start) (length t) q in
          rw (← z) (record {
            starts = refl;
            ends = refl;
            forward = omega (arith, end_start t start);
            inside = h;
            goes = refl;
            fits = m.0;
            numbered = m.1;
          })
      by true false p q = absurd (none-some l (sym (found_is ∙ rw (p, q)) ∙ found))
      by false b p q = absurd (none-some l (sym (found_is ∙ rw p) ∙ found))

-- and so is what a call needs to go on with it
module _ (t : List ℕ) (start room n : ℕ) (found : Option Line) (l : Line) (e : found ≡ whole_line t start room n) (f : found ≡ Some l) where
  whole : Whole t start room n l
  whole = whole_found t start room n (sym e ∙ f)

  pub found_forward : l.start ≤ l.end
  found_forward = whole.forward

  pub found_inside : l.end < length t
  found_inside = whole.inside

  pub found_next : (start < l.next) × (l.next ≤ length t)
  found_next = let w = whole in (omega arith, omega arith)

  pub found_fits : answer_room ≤ room
  found_fits = whole.fits

  pub found_numbered : n ≤ greatest_line
  found_numbered = whole.numbered

-- what is known of a line that was found
pub ruleset found_ways = (found_forward, found_inside, found_next, found_fits, found_numbered)

module _ (t : List ℕ) (start room : ℕ) (d : Desk) where
  -- where the search finds nothing, nothing is used
  pub walk_none : whole_line t start room d.number ≡ None → walk room [] start d (drop start t) ≡ halt start d
  walk_none found = by (goes_on room d.number) (ltb (line_end t start) (length t)) refl refl
    where
      by : (g b : Bool) → goes_on room d.number ≡ g → ltb (line_end t start) (length t) ≡ b
          → walk room [] start d (drop start t) ≡ halt start d
      by false b p q = walk_shut room d [] start (drop start t) p
      by true false p q =
          walk_quiet room d [] start (drop start t)
          (omega (arith, ltb-false (line_end t start) (length t) q, end_start t start, length-drop start t))
      by true true p q = absurd (none-some (ended t start) (sym found ∙ found_is t start room d.number ∙ rw (p, q)))

  -- a line that it finds is said, and the walk goes on after its LF
  pub walk_said : {l : Line} → whole_line t start room d.number ≡ Some l
      → (line : List ℕ) → line ≡ take (l.end - l.start) (drop l.start t) → (left : ℕ) → left ≡ room - length (says d line)
      → walk room [] start d (drop start t) ≡ saying (says d line) (walk left [] l.next (after d line) (drop l.next t))
  walk_said {l} found line e left k =
      let w = whole_found t start room d.number found in
      let z : line ≡ take (l.end - start) (drop start t) = rw w.starts at e in
      let u : until_end (drop start t) ≡ l.end - start = omega (arith, end_start t start) in
      let inside : until_end (drop start t) < length (drop start t) = omega (arith, length-drop start t) in
      let long = length-take-le (l.end - start) (drop start t) (omega (arith, length-drop start t)) in
      let to : start + length line + 1 ≡ l.next = omega (arith, ap length z) in
      let rest : start + suc (until_end (drop start t)) ≡ l.next = omega arith in
      let on : goes_on room d.number ≡ true = rw (le-leb answer_room room w.fits, le-leb d.number greatest_line w.numbered) in
      walk_first room d [] start (drop start t) line on inside (rw u z)
      ∙ rw (drop-drop (suc (until_end (drop start t))) start t, rest, to, k)

-- ---- what a call uses and says
-- a walk goes forward, and not past the text
pub walk_bounds : (room : ℕ) (line : List ℕ) (used : ℕ) (d : Desk) (t : List ℕ)
    → (used ≤ (walk room line used d t).used) × ((walk room line used d t).used ≤ used + length line + length t)
unfolding walk
walk_bounds room line used d [] = (omega arith, omega arith)
walk_bounds room line used d (b ∷ t) =
    walk_cases (λ w. (used ≤ w.used) × (w.used ≤ used + length line + suc (length t))) room line used d b t
    (λ q g. (omega arith, omega arith))
    (λ q g. let h = walk_bounds (room - length (says d line)) [] (used + length line + 1) (after d line) t in (omega arith, omega arith))
    (λ q. let h = walk_bounds room (line ++ (b ∷ [])) used d t in (omega arith, omega (arith, length-append line (b ∷ []))))
