-- What a call over the slots gives back, with the tables and the output that it leaves as they stood. Assumes nothing.
use Prim.Native.Nat.{ℕ}
use mathlib.Core.Path.{◌≡◌, ap}
use mathlib.Core.List.{List}
use Rattle.words.specs.Answers.{Answer}
use Rattle.copies.specs.Tables.{Copies}
use Rattle.jobs.specs.declared.Job.{Job}
use Rattle.jobs.specs.Calls.{Stepped}
use Rattle.jobs.specs.Calls.{stepped, outcome}

module _ (t : Copies) (out : List ℕ) where
  -- a call that changes slots alone
  pub slots_only_lem : (r s : Stepped) → r ≡ s → outcome r t out ≡ outcome s t out
  slots_only_lem r s e = ap (λ (x : Stepped). outcome x t out) e

  -- one that changes nothing
  pub answer_only : (bs : List Job) (a b : Answer) → a ≡ b → outcome (stepped a bs) t out ≡ outcome (stepped b bs) t out
  answer_only bs a b e = ap (λ (x : Answer). outcome (stepped x bs) t out) e
