-- What a step does to a series, seen from the draws that it commits.
-- Assumes nothing.
use Prim.Native.Nat.{ℕ}
use native.Mathlib.Decide.{ℕ_discrete}
use mathlib.Core.Path.{◌≡◌, refl, sym, subst, ◌∙◌}
use mathlib.Core.Logic.{dite}
use mathlib.Core.List.{List, [], ◌++◌}
use Rattle.copies.specs.Tables.{Series, next}
use Rattle.copies.specs.Facts.{Open}
use Rattle.serials.specs.Draws.{Drawn}
use Rattle.serials.proofs.Tiling.{Chain, stop, Idle, chain_append}

-- A step takes series s from r to r' and commits the draws ds: where it is open, they lead from its next number to the one after the
-- step; where it isn't, none is of it, and if the step opens it, its next number is its first.
pub record Moves (s : ℕ) (r r' : Series) (ds : List Drawn) : Type 0 where
  pub opened : Open r → (r'.first ≡ r.first) × Chain s (next r) ds (next r')
  pub closed : r.first ≡ 0 → Idle s ds × (Open r' → next r' ≡ r'.first)

-- a series that stays as it is, or changes without its next number
pub moves_same : {s : ℕ} {r r' : Series} → r'.first ≡ r.first → (Open r → next r' ≡ next r) → Moves s r r' []
moves_same first same =
    record {
      opened = λ o. (first, stop (sym (same o)));
      closed = λ e. (λ a. stop refl, λ o. absurd (o (first ∙ e)));
    }

-- ---- the draws of a run so far
-- They lead from the first number of series s, where it is open, to its next; where it isn't, none is of it.
pub record Issued (s : ℕ) (r : Series) (ds : List Drawn) : Type 0 where
  pub opened : Open r → Chain s r.first ds (next r)
  pub closed : r.first ≡ 0 → Idle s ds

-- before the first step no series is open, and there are no draws
pub issued_none : {s : ℕ} {r : Series} → r.first ≡ 0 → Issued s r []
issued_none e = record { opened = λ o. absurd (o e); closed = λ _ a. stop refl }

-- one step more
pub issued_next : {s : ℕ} {r r' : Series} {ds es : List Drawn} → Issued s r ds → Moves s r r' es → Issued s r' (ds ++ es)
issued_next {s} {r} {r'} {ds} {es} g m = dite (ℕ_discrete r.first 0) was_closed was_open
  where
    was_open : Open r → Issued s r' (ds ++ es)
    was_open o =
        let w = m.opened o in
        record {
          opened = λ _. chain_append (subst (λ (a : ℕ). Chain s a ds (next r)) (sym w.0) (g.opened o)) w.1;
          closed = λ e. absurd (o (sym w.0 ∙ e));
        }

    was_closed : r.first ≡ 0 → Issued s r' (ds ++ es)
    was_closed e =
        let w = m.closed e in
        record {
          opened = λ o.
              chain_append (g.closed e r'.first) (subst (λ (b : ℕ). Chain s r'.first es b) (sym (w.1 o)) (w.0 r'.first));
          closed = λ _ a. chain_append (g.closed e a) (w.0 a);
        }
