-- `jobs::committing::store_all` meets its contract: after i turns, what the first i places have drawn has been stored. Assumes nothing.
use Prim.Native.Nat.{ℕ, ◌≤◌}
use mathlib.Core.Path.{◌≡◌}
use mathlib.Core.List.{List}
use Rattle.copies.specs.Tables.{tables}
use Rattle.jobs.specs.Store.{store, store_first}
use Rattle.jobs.proofs.committing.store_all.Given as goal

abbrev pub invariant-loop-lock : goal.invariant-loop-lock
invariant-loop-lock l =
    (l.count ≤ l.lock-index)
    × ((fs ks ns rt rk rv gs us : List ℕ) → store l.count (tables fs l.fn.lasts ks l.values ns rt rk rv gs us) l.out ≡ store_first l.fn.job l.lock-index (store 0 (tables fs l.fn.lasts ks l.initial.values ns rt rk rv gs us) l.initial.out))
