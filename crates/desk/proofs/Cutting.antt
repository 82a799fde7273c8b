-- What was said, and then the answers to what is held and what is still to come, stay the same with every act. Assumes nothing.
use Prim.Native.Nat.{ℕ, suc, ◌+◌, ◌-◌, ◌≤◌}
use mathlib.Core.Path.{◌≡◌, refl, sym, ◌∙◌}
use mathlib.Core.Bool.{Bool, true, false, cond}
use mathlib.Core.List.{List, [], ◌∷◌, ◌++◌, append_assoc, append-nil}
use native.Mathlib.Nat.{sub-zero, sub_self}
use native.Mathlib.Omega.{arith}
use lib.Dec.{eqb}
use lib.ListN.{length, take, drop}
use lib.Seq.{drop-append-add, take-take}
use borrow.Author.Tests.{eqb-true}
use Rattle.digits.specs.Bytes.{LF}
use Rattle.desk.specs.Answers.{lines_of}
use Rattle.desk.specs.Desk.{Desk, says, after}
use Rattle.desk.specs.Calls.{Walked, halt, saying, walk, walked, kept_bytes}
use Rattle.desk.specs.Pieces.{Act, Stand, whole_lines, act, acted, arriving, arrived}
use Rattle.desk.specs.Pieces.Act.{arrives, answers, shortens}
use Rattle.desk.proofs.Walks.{walk_cases, walk_bounds}
use Rattle.desk.proofs.Answering.{lines_said}
use Rattle.desk.proofs.TextLines.{none_front, none_empty, none_more, lines_held, lines_next}
use Rattle.desk.proofs.Front.{kept_said}

-- the answers of a desk to a text
abbrev pub text_said : Desk → List ℕ → List ℕ
text_said d t = lines_said d (lines_of t)

-- ---- a call
-- what a walk from a position on said, and then the answers to what it left, are the answers to the text, whatever follows it
abbrev Comes : Desk → List ℕ → List ℕ → ℕ → Walked → Type 0
Comes d t rest start w = text_said d (t ++ rest) ≡ w.said ++ text_said w.desk (drop (w.used - start) t ++ rest)

-- a walk that used nothing
comes_halt : (d : Desk) (t rest : List ℕ) (start : ℕ) → Comes d t rest start (halt start d)
comes_halt d t rest start = rw (sub_self start)

-- one that said a line
comes_said : (d : Desk) (line t rest : List ℕ) (start : ℕ) (w : Walked) → whole_lines line ≡ 0 → start + length line + 1 ≤ w.used
    → Comes (after d line) t rest (start + length line + 1) w → Comes d (line ++ (LF ∷ t)) rest start (saying (says d line) w)
unfolding lines_said
comes_said d line t rest start w quiet on comes =
    let more : ℕ = w.used - (start + length line + 1) in
    let far : w.used - start ≡ length line + suc more = omega arith in
    rw (far, drop-append-add line (LF ∷ t) (suc more), append_assoc line (LF ∷ t) rest, lines_next line (t ++ rest) quiet, comes)
    (sym (append_assoc (says d line) w.said _))

-- every walk
comes_walk : (room : ℕ) (line : List ℕ) (start : ℕ) (d : Desk) (t rest : List ℕ) → whole_lines line ≡ 0
    → Comes d (line ++ t) rest start (walk room line start d t)
unfolding walk
comes_walk room line start d [] rest quiet = comes_halt d (line ++ []) rest start
comes_walk room line start d (b ∷ t) rest quiet =
    walk_cases (Comes d (line ++ (b ∷ t)) rest start) room line start d b t (λ q g. comes_halt d (line ++ (b ∷ t)) rest start)
    (λ q g. rw q
    (comes_said d line t rest start _ quiet (walk_bounds (room - length (says d line)) [] (start + length line + 1) (after d line) t).0
    (comes_walk (room - length (says d line)) [] (start + length line + 1) (after d line) t rest none_empty)))
    (λ q. rw (append_assoc line (b ∷ []) t) at (comes_walk room (line ++ (b ∷ [])) start d t rest (none_more line b quiet q)))

-- ---- an act
-- what was said at a stand, and then the answers to what is held with what is still to come
abbrev held_said : Stand → List ℕ → List ℕ
held_said s t = s.said ++ text_said s.desk (s.held ++ t)

-- of a line that has not ended, only so many bytes are held on to
cut_said : (d : Desk) (h t : List ℕ) → whole_lines h ≡ 0 → text_said d (take kept_bytes h ++ t) ≡ text_said d (h ++ t)
cut_said d h t quiet =
    rw (lines_held [] (take kept_bytes h) t (none_front kept_bytes h quiet), lines_held [] h t quiet)
    (kept_said d (take kept_bytes h) h t (take-take kept_bytes kept_bytes h (omega arith)))

-- an act keeps the answers to what came in by it and what is still to come
act_said : (a : Act) (s : Stand) (t : List ℕ) → held_said (act a s) t ≡ held_said s (arriving a t)
act_said (arrives piece) s t = rw (append_assoc s.held piece t)
act_said (answers room) s t =
    rw (comes_walk room [] 0 s.desk s.held t none_empty, sub-zero)
    (append_assoc s.said (walked room s.desk s.held).said _)
act_said shortens s t = by (eqb (whole_lines s.held) 0) refl
  where
    by : (q : Bool) → eqb (whole_lines s.held) 0 ≡ q
        → s.said ++ text_said s.desk (cond q (take kept_bytes s.held) s.held ++ t) ≡ held_said s t
    by true e = rw (cut_said s.desk s.held t (eqb-true (whole_lines s.held) 0 e))
    by false e = refl

-- and so do acts
pub acts_said : (acts : List Act) (s : Stand)
    → (acted acts s).said ++ text_said (acted acts s).desk (acted acts s).held ≡ s.said ++ text_said s.desk (s.held ++ arrived acts)
unfolding acted arrived
acts_said [] s = rw (append-nil s.held)
acts_said (a ∷ rest) s = acts_said rest (act a s) ∙ act_said a s (arrived rest)
