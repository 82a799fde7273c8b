-- `feed` meets its contract: what was done and what is still to be done give together what the whole call gives. Assumes nothing.
use Prim.Native.Nat.{◌-◌, ◌≤◌}
use mathlib.Core.Path.{◌≡◌}
use mathlib.Core.List.{[]}
use lib.ListN.{length, drop}
use Rattle.desk.specs.Desk.{desk_of, SameDesk}
use Rattle.desk.specs.Calls.{walk, called}
use Rattle.desk.proofs.Still.{still}
use Rattle.desk.proofs.feeding.feed.Given as goal

abbrev pub invariant-loop-line : goal.invariant-loop-line
invariant-loop-line l =
    (still (walk (length l.initial.out - l.at) [] l.start (desk_of l.desk) (drop l.start l.text)) l.out l.at
    ≡ called (desk_of l.initial.desk) l.text l.initial.out)
    × (l.start ≤ length l.text)
    × (l.at ≤ length l.initial.out)
    × SameDesk l.initial.desk l.desk

abbrev pub decreases-loop-line : goal.decreases-loop-line
decreases-loop-line l = length l.text - l.start
