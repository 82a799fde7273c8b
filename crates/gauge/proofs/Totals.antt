-- The loop's laws: what was counted so far and what is still to be counted come to the same total at every turn. Assumes nothing.
use Prim.Native.Nat.{ℕ, suc, ◌+◌, ◌-◌, ◌≤◌, ◌<◌}
use mathlib.Core.Path.{◌≡◌}
use mathlib.Core.List.{List}
use native.Mathlib.Nat.{zero-add, add-zero, add_assoc, sub-zero}
use native.Mathlib.Numerals.{add-one}
use native.Mathlib.Omega.{arith}
use Rattle.words.specs.Tests.{one_if}
use Rattle.copies.specs.Tables.{Copies}
use Rattle.jobs.specs.Calls.{Stepped}
use Rattle.rulebook.specs.declared.Event.{Event}
use Rattle.rulebook.specs.Tables.{Plant, plant}
use Rattle.events.specs.Calls.{left}
use Rattle.events.specs.Unchecked.{unchecked_step}
use Rattle.gauge.specs.Accepted.{event_at, event_count, is_accepted, accepted_from}

-- a count, with the accepted events from event i on
unfoldable pub total : ℕ → List ℕ → ℕ → Plant → List ℕ → ℕ
total count ns i p out = count + accepted_from ns (event_count ns - i) i p out

-- at first, all of them
pub total_first : (ns : List ℕ) (p : Plant) (out : List ℕ) → total 0 ns 0 p out ≡ accepted_from ns (event_count ns) 0 p out
unfolding total
total_first ns p out = rw (sub-zero (event_count ns), zero-add)

-- event i is counted
pub total_next : (ns : List ℕ) (i : ℕ) (p : Plant) (out : List ℕ) (count k : ℕ) (e : Event) (r : Stepped) (t : Copies) (next : List ℕ)
    → i < event_count ns → e ≡ event_at ns i → left r t next ≡ unchecked_step p out e → k ≡ one_if (is_accepted r.answer)
    → total (count + k) ns (i + 1) (plant t r.jobs) next ≡ total count ns i p out
unfolding total accepted_from
total_next ns i p out count k e r t next l here step one =
    let more : event_count ns - i ≡ suc (event_count ns - (i + 1)) = omega arith in
    rw (more, ← here, ← step, one, add-one) (add_assoc count (one_if (is_accepted r.answer)) _)

-- none is left
pub total_last : (ns : List ℕ) (i : ℕ) (p : Plant) (out : List ℕ) (count : ℕ) → event_count ns ≤ i → total count ns i p out ≡ count
unfolding total accepted_from
total_last ns i p out count l = let none : event_count ns - i ≡ 0 = omega arith in rw (none, add-zero)
