-- The layer's tables stay whole where the one series that an operation changes is whole.
-- Assumes nothing.
use Prim.Native.Nat.{ℕ, ◌≤◌, ◌<◌}
use native.Mathlib.Decide.{ℕ_discrete}
use mathlib.Core.Path.{◌≡◌, refl, sym, subst, ap, ◌∙◌}
use mathlib.Core.Logic.{◌≢◌, dite}
use mathlib.Core.List.{List, []}
use lib.ListN.{get_or}
use Rattle.words.specs.Numbers.{station_count, series_count}
use Rattle.copies.specs.Tables.{Copies, Series, series_at, next}
use Rattle.copies.specs.Facts.{Open, CopiesWhole}
use Rattle.copies.proofs.Reflect.{SeriesWhole}
use Rattle.copies.proofs.Same.{same_back}
use Rattle.copies.proofs.Agree.{next_same, whole_same}
use Rattle.copies.proofs.Leaves.{Leaves}
use Rattle.copies.proofs.After.{Marks}
use Rattle.serials.proofs.Wholes.{WholeAt, same_whole_at}
use Rattle.serials.proofs.Moving.{Moves, moves_same}

-- a series of whole tables is whole, as an open one or as one that isn't
pub series_whole : {t : Copies} → CopiesWhole t → (s : ℕ) → s < series_count → SeriesWhole (series_at t s)
series_whole w s l = (w.opened s l, w.closed s l)

-- an open one of them, with its next number
pub whole_at_lem : {t : Copies} {s : ℕ} → CopiesWhole t → s < series_count → Open (series_at t s) → WholeAt (series_at t s) (next (series_at t s))
whole_at_lem {s} w l o = record { opens = o; rules = w.opened s l o; is_next = refl }

-- tables whose series and marks are whole
pub whole_copies : {t : Copies} → ((s : ℕ) → s < series_count → SeriesWhole (series_at t s))
    → ((n : ℕ) → n < station_count → get_or t.up n 0 ≤ 1) → CopiesWhole t
whole_copies each marks = record { opened = λ s l. (each s l).0; closed = λ s l. (each s l).1; marks = marks }

-- ---- an operation on one series
module _ {t t' : Copies} {s v : ℕ} {r : Series} (w : CopiesWhole t) (e : Leaves t t' s r) (good : WholeAt r v) where
  -- the series afterwards
  here_whole : WholeAt (series_at t' s) v
  here_whole = same_whole_at e.here good

  -- the tables afterwards
  pub leaves_whole : CopiesWhole t'
  leaves_whole =
      whole_copies
      (λ i l. dite (ℕ_discrete i s)
      (λ q. subst (λ (k : ℕ). SeriesWhole (series_at t' k)) (sym q) (λ _. here_whole.rules, λ z. absurd (here_whole.opens z)))
      (λ ne. whole_same _ _ (same_back _ _ (e.elsewhere i ne)) (series_whole w i l)))
      (λ n l. subst (λ (us : List ℕ). get_or us n 0 ≤ 1) (sym e.up) (w.marks n l))

  -- where the others' next numbers are
  elsewhere_moves : (i : ℕ) → i < series_count → i ≢ s → Moves i (series_at t i) (series_at t' i) []
  elsewhere_moves i l ne =
      let same = e.elsewhere i ne in
      moves_same same.first (λ o. next_same _ _ (same_back _ _ same) (w.opened i l o).token (w.opened i l o).agree)

  -- each series moves as the changed one does
  pub leaves_moves : Moves s (series_at t s) (series_at t' s) [] → (i : ℕ) → i < series_count → Moves i (series_at t i) (series_at t' i) []
  leaves_moves near i l =
      dite (ℕ_discrete i s) (λ q. subst (λ (k : ℕ). Moves k (series_at t k) (series_at t' k) []) (sym q) near) (λ ne. elsewhere_moves i l ne)

  -- one that keeps its first and its next number
  pub leaves_next : r.first ≡ (series_at t s).first → next (series_at t s) ≡ v → (i : ℕ) → i < series_count
      → Moves i (series_at t i) (series_at t' i) []
  leaves_next first same = leaves_moves (moves_same (e.here.first ∙ first) (λ _. here_whole.is_next ∙ sym same))

-- ---- CRASH and RESTART: the series stay
module _ {t t' : Copies} {n mark : ℕ} (w : CopiesWhole t) (e : Marks t t' n mark) where
  -- the tables afterwards
  pub marks_whole : mark ≤ 1 → CopiesWhole t'
  marks_whole few =
      whole_copies (λ i l. subst SeriesWhole (sym (e.series i)) (series_whole w i l))
      (λ m l. dite (ℕ_discrete m n) (λ q. subst (λ (k : ℕ). get_or t'.up k 0 ≤ 1) (sym q) (subst (λ (k : ℕ). k ≤ 1) (sym e.here) few)) (λ ne. subst (λ (k : ℕ). k ≤ 1) (sym (e.elsewhere m ne)) (w.marks m l)))

  -- no next number changes
  pub marks_moves : (i : ℕ) → i < series_count → Moves i (series_at t i) (series_at t' i) []
  marks_moves i l = moves_same (ap (λ (r : Series). r.first) (e.series i)) (λ _. ap next (e.series i))
