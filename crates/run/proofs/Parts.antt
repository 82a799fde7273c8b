-- A part of a list, by its length. Assumes nothing.
use Prim.Native.Nat.{ℕ, ◌-◌, ◌≤◌}
use mathlib.Core.List.{List}
use native.Mathlib.Omega.{arith}
use lib.ListN.{length, take, drop, length-take, length-drop}

-- what lies in the part from a position on lies in what is left there
pub part_within : (l : List ℕ) (a r : ℕ) → r ≤ length (take (length l - a) (drop a l)) → r ≤ length l - a
part_within l a r h = omega (arith, length-take (length l - a) (drop a l), length-drop a l)
