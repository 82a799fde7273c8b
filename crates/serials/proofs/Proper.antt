-- What demand 3 needs of a step, and the general laws by which a step has it: one for the lower layer's tables, one for a slot.
-- Assumes nothing.
use Prim.Native.Nat.{ℕ, ◌<◌}
use native.Mathlib.Decide.{ℕ_discrete}
use native.Mathlib.Nat.{not-suc-le-zero}
use mathlib.Core.Path.{◌≡◌, refl, sym, subst}
use mathlib.Core.Logic.{◌≢◌, dite}
use mathlib.Core.List.{List, [], map}
use lib.ListN.{length}
use Rattle.words.specs.Numbers.{station_count, series_count}
use Rattle.copies.specs.Tables.{Copies, Series, series_at, next}
use Rattle.copies.specs.Facts.{CopiesWhole}
use Rattle.copies.proofs.Leaves.{Leaves}
use Rattle.jobs.specs.declared.Job.{Job}
use Rattle.jobs.specs.Facts.{JobsWhole}
use Rattle.rulebook.specs.Tables.{Plant, with_copies, with_jobs}
use Rattle.rulebook.specs.Steps.{Effect, done}
use Rattle.serials.specs.Draws.{Drawn, draw_at}
use Rattle.serials.proofs.Wholes.{WholeAt}
use Rattle.serials.proofs.Locked.{Locked, SameCopy, copy_stays, copy_then, locked_copy}
use Rattle.serials.proofs.Tiling.{plain}
use Rattle.serials.proofs.Moving.{Moves, moves_same}
use Rattle.serials.proofs.Leaving.{leaves_whole, leaves_next}
use Rattle.serials.proofs.Slots.{jobs_above}

-- the draws are of series that there are
abbrev pub Known : List Drawn → Type 0
Known ds = (i : ℕ) → i < length ds → (draw_at ds i).series < series_count

-- A step from plant p: the tables afterwards are whole, each series moves by the draws, and they are of series that there are.
pub record Proper (p : Plant) (x : Effect) : Type 0 where
  pub copies : CopiesWhole x.plant.copies
  pub jobs : JobsWhole x.plant.copies x.plant.jobs
  pub moves : (s : ℕ) → s < series_count → Moves s (series_at p.copies s) (series_at x.plant.copies s) (map plain x.draws)
  pub known : Known (map plain x.draws)

-- no draw is
pub none_known : Known []
none_known i l = absurd (not-suc-le-zero l)

module _ {p : Plant} (below : CopiesWhole p.copies) (above : JobsWhole p.copies p.jobs) where
  -- no series changes
  all_stay : (s : ℕ) → s < series_count → Moves s (series_at p.copies s) (series_at p.copies s) []
  all_stay s l = moves_same refl (λ _. refl)

  -- a step that changes nothing, accepted or refused
  pub proper_same : {x : Effect} → x.plant ≡ p → x.draws ≡ [] → Proper p x
  proper_same {x} same none =
      record {
        copies = subst (λ (q : Plant). CopiesWhole q.copies) (sym same) below;
        jobs = subst (λ (q : Plant). JobsWhole q.copies q.jobs) (sym same) above;
        moves = λ s l. rw (same, none) (all_stay s l);
        known = rw none none_known;
      }

  -- one that changes the slots only
  pub proper_slots : {bs : List Job} → JobsWhole p.copies bs → Proper p (done 0 (with_jobs p bs))
  proper_slots whole = record { copies = below; jobs = whole; moves = all_stay; known = none_known }

  -- an operation on one series: what it leaves there is whole, and what a job locks there stays
  module _ {t' : Copies} {s v : ℕ} {r : Series} (e : Leaves p.copies t' s r) (good : WholeAt r v)
      (stay : (j n : ℕ) → n < station_count → Locked p.jobs j s n → SameCopy (series_at p.copies s) r n) where
    -- what a job locks anywhere stays
    all_locked : (j i n : ℕ) → Locked p.jobs j i n → SameCopy (series_at p.copies i) (series_at t' i) n
    all_locked j i n lock =
        dite (ℕ_discrete i s) (λ q. subst (λ (k : ℕ). SameCopy (series_at p.copies k) (series_at t' k) n) (sym q) (near (rw q at lock))) far
      where
        hn : n < station_count
        hn = (locked_copy above lock).station

        near : Locked p.jobs j s n → SameCopy (series_at p.copies s) (series_at t' s) n
        near here = copy_then (stay j n hn here) (copy_stays e.here.first e.here.last (e.here.kept n hn))

        far : i ≢ s → SameCopy (series_at p.copies i) (series_at t' i) n
        far ne = let same = e.elsewhere i ne in copy_stays same.first same.last (same.kept n hn)

    -- the slots above
    jobs_stay : JobsWhole t' p.jobs
    jobs_stay = jobs_above p.copies t' p.jobs e.up all_locked above

    -- the step, where the series moves as it should
    pub proper_copies : (value : ℕ) → ((i : ℕ) → i < series_count → Moves i (series_at p.copies i) (series_at t' i) [])
        → Proper p (done value (with_copies p t'))
    proper_copies value moves = record { copies = leaves_whole below e good; jobs = jobs_stay; moves = moves; known = none_known }

    -- one that leaves the series open with its next number
    pub proper_next : (value : ℕ) → r.first ≡ (series_at p.copies s).first → next (series_at p.copies s) ≡ v
        → Proper p (done value (with_copies p t'))
    proper_next value first same = proper_copies value (leaves_next below e good first same)
