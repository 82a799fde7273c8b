-- What COMMIT stores, as the code goes, lock place by lock place. Where all that the job has drawn fits, this comes to its draws committed
-- and shown (`Draws`): `stored_whole` of proofs/Stored.antt.
-- Assumes nothing.
use Rattle.std.specs.Prelude.{ℕ, zero, suc, ◌+◌, ◌*◌, cond, List, [], ◌∷◌, eqb}
use Rattle.std.proofs.lemmas.List.Edits.{sets}
use Rattle.copies.specs.Tables.{Copies}
use Rattle.copies.specs.Calls.{raise}
use Rattle.jobs.specs.declared.Lock.{Lock}
use Rattle.jobs.specs.declared.Job.{Job}
use Rattle.jobs.specs.Job.{lock_at}
use Rattle.jobs.specs.Draws.{entry_there}

-- How many draws are stored, the lower layer's tables, and the output.
pub record Store : Type 0 where
  pub count : ℕ
  pub copies : Copies
  pub out : List ℕ

-- the three as one value
abbrev pub store : ℕ → Copies → List ℕ → Store
store count t out = record { count = count; copies = t; out = out }

-- what a lock at station n has drawn, if anything, is stored: the copy's value is shown and then raised
unfoldable pub store_one : ℕ → Lock → Store → Store
store_one n l x =
    cond (eqb l.drawn 0) x
    (store (x.count + 1) (raise x.copies l.series n l.drawn).copies
    (sets x.out (3 * x.count) (l.series ∷ entry_there x.copies.values l.series n ∷ l.drawn ∷ [])))

-- what the first i lock places of a job have drawn is stored
unfoldable pub store_first : Job → ℕ → Store → Store
store_first b zero x = x
store_first b (suc i) x = store_one b.station (lock_at b i) (store_first b i x)
