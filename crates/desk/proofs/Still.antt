-- The loop of a call: what was done and what is still to be done give together what the whole call gives. Assumes nothing.
use Prim.Native.Nat.{ℕ, ◌+◌, ◌-◌}
use mathlib.Core.Path.{◌≡◌, refl, sym, ◌∙◌}
use mathlib.Core.List.{List, []}
use native.Mathlib.Nat.{sub-zero, zero-add, add-zero, add_assoc}
use native.Mathlib.Omega.{arith}
use lib.ListN.{length, take, drop, length-append}
use lib.Seq.{sets}
use Rattle.lines.specs.declared.Line.{Line}
use Rattle.std.specs.Prelude.{Some, None}
use Rattle.lines.proofs.Puts.{sets_append}
use Rattle.desk.specs.Desk.{Desk, says}
use Rattle.desk.specs.Calls.{Walked, halt, saying, walk, Call, called, Put, put, whole_line}
use Rattle.desk.proofs.Walks.{walk_none, walk_said}

-- what a call gives and leaves, where answers fill the bytes up to a position and this walk is still to be done
unfoldable pub still : Walked → List ℕ → ℕ → Call
still w out at = record { used = w.used; written = at + length w.said; desk = w.desk; bytes = sets out at w.said }

-- at first, all of it
pub still_first : (d : Desk) (t out : List ℕ) → still (walk (length out - 0) [] 0 d (drop 0 t)) out 0 ≡ called d t out
unfolding still called
still_first d t out = rw (sub-zero (length out), zero-add)

-- what was said is written
still_said : (a : List ℕ) (w : Walked) (out : List ℕ) (at : ℕ)
    → still (saying a w) out at ≡ still w (sets out at a) (at + length a)
unfolding still
still_said a w out at = rw (length-append a w.said, ← add_assoc at (length a), sets_append out at a w.said)

-- nothing is left to be done
still_halt : (used : ℕ) (d : Desk) (out : List ℕ) (at : ℕ)
    → still (halt used d) out at ≡ record { used = used; written = at; desk = d; bytes = out }
unfolding still
still_halt used d out at = rw (add-zero at)

module _ {X : Call} (t : List ℕ) (start total at : ℕ) (d : Desk) (out : List ℕ)
    (same : still (walk (total - at) [] start d (drop start t)) out at ≡ X) where
  -- the walk is over where the search finds nothing
  pub still_none : whole_line t start (total - at) d.number ≡ None
      → record { used = start; written = at; desk = d; bytes = out } ≡ X
  still_none found = sym (still_halt start d out at) ∙ rw (← walk_none t start (total - at) d found) same

  -- a line was found and answered
  pub still_answered : {l : Line} (p : Put) → whole_line t start (total - at) d.number ≡ Some l
      → p ≡ put d (take (l.end - l.start) (drop l.start t)) out at
      → still (walk (total - p.at) [] l.next p.desk (drop l.next t)) p.bytes p.at ≡ X
  unfolding put
  still_answered {l} p found done =
      let line : List ℕ = take (l.end - l.start) (drop l.start t) in
      let left : total - (at + length (says d line)) ≡ total - at - length (says d line) = omega arith in
      let w = walk_said t start (total - at) d found line refl _ left in
      rw done (sym (still_said (says d line) _ out at) ∙ rw (← w) same)
