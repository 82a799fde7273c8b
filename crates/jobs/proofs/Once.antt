-- The promise of each call allows one result: of one over one slot, given slots that all hold the job, what it leaves shows all of it.
-- Assumes nothing.
use Prim.Native.Nat.{ℕ, suc, ◌<◌}
use native.Mathlib.Omega.{arith}
use mathlib.Core.Path.{◌≡◌, refl, sym, ap, ◌∙◌}
use mathlib.Core.List.{List}
use lib.ListN.{length, replicate, length-replicate, get_or-replicate}
use lib.Seq.{get_or-set_same}
use Rattle.words.proofs.Results.{one_result}
use Rattle.jobs.specs.declared.Job.{Job}
use Rattle.jobs.specs.Slots.{no_slot, job_at}
use Rattle.jobs.specs.Calls.{Stepped, Turn, Outcome, outcome, turned}
use Rattle.jobs.specs.Once.{TurnOnce, ReadOnce, CommitOnce, CrashOnce, EachOnce}

module _ (job : Job) (j : ℕ) where
  -- slots up to j that all hold the job
  abbrev slots : List Job
  slots = replicate (suc j) job

  -- so it stands at j
  here : job ≡ job_at slots j
  here = sym (get_or-replicate (suc j) j job no_slot (omega arith))

  -- what a turn leaves of them shows its answer and its job
  shown : (x y : Turn) → turned slots j x ≡ turned slots j y → x ≡ y
  shown x y e = λ i. record { answer = ap (λ (s : Stepped). s.answer) e i; job = jobs i }
    where
      within : j < length slots
      within = rw (length-replicate (suc j) job) (omega arith)

      jobs : x.job ≡ y.job
      jobs =
          sym (get_or-set_same slots j x.job no_slot within)
          ∙ ap (λ (s : Stepped). job_at s.jobs j) e
          ∙ get_or-set_same slots j y.job no_slot within

turn_once : TurnOnce
turn_once job j F x y px py = shown job j x y (px (slots job j) (here job j) ∙ sym (py (slots job j) (here job j)))

read_once : ReadOnce
read_once job j F x y px py = px (slots job j) (here job j) ∙ sym (py (slots job j) (here job j))

commit_once : CommitOnce
commit_once job j F x y px py =
    let both = px (slots job j) (here job j) ∙ sym (py (slots job j) (here job j)) in
    λ i. record {
      turn = shown job j x.turn y.turn (ap (λ (o : Outcome). o.stepped) both) i;
      copies = ap (λ (o : Outcome). o.copies) both i;
      out = ap (λ (o : Outcome). o.out) both i;
    }

crash_once : CrashOnce
crash_once o = one_result (λ (x : Outcome). outcome x.stepped x.copies x.out) (λ (x : Outcome). x) (λ x. refl) o

pub each_once : EachOnce
each_once = (turn_once, read_once, commit_once, crash_once)
