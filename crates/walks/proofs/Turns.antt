-- A walk through a loop that counts its turns from 0 up to n: by induction on the turns that are left. Assumes `Logic`.
use mathlib.Core.Path.{◌≡◌, subst}
use Prim.Native.Nat.{ℕ, zero, suc, ◌<◌, ◌+◌}
use native.Mathlib.Omega.{arith}
use mathlib.Core.List.{List}
use seplogic.Ra.Ura.{Ura}
use mir.Syntax.{Body, Opd as Operand, seq, block, loop, cond, skip, exit}
use mir.Val.{Val, vbool}
use mathlib.Core.Bool.{false}
use base.Logic.{SProp, ent, via, id⊢, never, never_e}
use prog.Wp.{Heap, Env, Out, next, Wp, Tables, after_seq, after_block, after_turn, at_return}
use types.Logic.{Logic}
use sound.Loop.{unroll}
use types.Kit.{Item, ⋆, any_q, at_ret, Goal, prop, runs, Seq, Step, step, ◌$◌, by}
use types.Run.{Opd, first, blocks, leaves_loop, exec}

module _ {M : Type 1} {𝓤 : Ura M} {H : Heap 𝓤} (𝓣 : Tables 𝓤 H) (E : Env 𝓤 H) (rest : Body) (P : Val → SProp 𝓤) where
  -- when the loop is left, the rest of the function runs
  abbrev Leaving : Out → SProp 𝓤
  Leaving = after_block 𝓤 H (after_seq 𝓤 H (Wp 𝓤 H 𝓣.C 𝓣.Λ E rest (at_return 𝓤 H E P)) (at_return 𝓤 H E P))

  -- how a turn ends, where X is to be shown once it has
  abbrev Ending : SProp 𝓤 → Out → SProp 𝓤
  Ending X = after_turn 𝓤 H X Leaving

  -- it runs
  abbrev pub Turning : Body → SProp 𝓤 → Goal 𝓤 H
  Turning turn X = runs 𝓣.C 𝓣.Λ E turn (any_q (Ending X))

  -- it has run to its end
  abbrev pub Turned : SProp 𝓤 → Goal 𝓤 H
  Turned X = prop (Ending X next)

module _ {M : Type 1} {𝓤 : Ura M} {𝓛 : Logic 𝓤} {K : Type 0} (𝓣 : Tables 𝓤 𝓛.H) (E : Env 𝓤 𝓛.H) (rest : Body) (P : Val → SProp 𝓤) where
  open 𝓛 use {H}

  -- the test fails, and the loop is left
  pub leaves : {Γ : List (Item 𝓤)} {c : Operand} {b : Body} → K → (X : SProp 𝓤) → Opd K 𝓛 Γ E c (vbool false)
      → Step K 𝓛 Γ (runs 𝓣.C 𝓣.Λ E rest (at_ret E P)) Γ (Turning 𝓣 E rest P (seq (cond c skip (exit 1)) b) X)
  unfolding after_turn
  leaves t X test = step (λ s. leaves_loop t test $ exec t 𝓣.C 𝓣.Λ E rest (at_ret E P) $ s)

  module _ (t : K) (turn : Body) (n : ℕ) (At : ℕ → List (Item 𝓤))
      (more : (i : ℕ) (X : SProp 𝓤) → i < n → Seq K 𝓛 (At (suc i)) (Turned 𝓣 E rest P X) → Seq K 𝓛 (At i) (Turning 𝓣 E rest P turn X))
      (ends : (X : SProp 𝓤) → Seq K 𝓛 (At n) (Turning 𝓣 E rest P turn X)) where
    -- from turn i on
    onward : (left i : ℕ) → i + left ≡ n → ent 𝓤 (⋆ 𝓛 (At i)) (𝓣.Λ turn E (Leaving 𝓣 E rest P))
    unfolding after_turn
    onward zero i e =
        subst (λ (j : ℕ). ent 𝓤 (⋆ 𝓛 (At j)) (𝓣.Λ turn E (Leaving 𝓣 E rest P))) (omega arith)
        (via 𝓤 _ (ends (never 𝓤)).prf (unroll 𝓤 H 𝓛.laws 𝓣 E turn (Leaving 𝓣 E rest P) (never 𝓤) (never_e 𝓤 (𝓣.Λ turn E (Leaving 𝓣 E rest P)))))
    onward (suc left) i e =
        let Next : SProp 𝓤 = ⋆ 𝓛 (At (suc i)) in
        via 𝓤 _ (more i Next (omega arith) (by t (id⊢ 𝓤 Next))).prf
        (unroll 𝓤 H 𝓛.laws 𝓣 E turn (Leaving 𝓣 E rest P) Next (onward left (suc i) (omega arith)))

    -- the loop, and then the rest
    pub turns : Seq K 𝓛 (At 0) (runs 𝓣.C 𝓣.Λ E (seq (block (loop turn)) rest) (at_ret E P))
    turns = first t $ blocks t $ record { prf = via 𝓤 _ (onward n 0 (omega arith)) (𝓛.laws.⇛_intro _) }
