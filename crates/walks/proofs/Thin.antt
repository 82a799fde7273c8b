-- Walks of thin functions: straight code whose contract asks nothing and says the result, and which was lent what it may lend on.
-- Such a walk has its hold at the head of the context (the tokens of its lifetimes, and what it was lent) and after it the locals
-- in their order, from the first statement to the last: so a local's place comes from the code. Assumes `Logic`.
use Prim.Native.Nat.{ℕ, zero, ◌+◌}
use mathlib.Core.Path.{◌≡◌, refl, ap, subst, ◌∙◌}
use mathlib.Core.List.{List, [], ◌∷◌, map}
use mathlib.Core.Option.{some as there}
use seplogic.Ra.Ura.{Ura}
use base.Fraction.{full_share}
use mir.Fields.{get_v}
use mir.Syntax.{Callee, Sym, Ty, Tys, ty_struct, Place, place, field, Opd as Operand, copy, Rv as RValue, Body, seq, assign, call, Fn}
use mir.Val.{Val, Vals as Row, vstruct}
use base.Logic.{SProp, ent, sep, emp, via, mono_r, fst∗}
use base.Fml.{Share, Fml, fat, fdies}
use prog.Memory.{field_at}
use prog.Wp.{Env, Calls, Loops, Tables, WpFn, spot_of}
use types.Logic.{Logic, sem}
use contract.Lifetimes.{Lfts, Shares, AllOutlive}
use sound.WpLaws.{FmC}
use types.Kit.{Item, ‵, raw, ◌⊛◌, mean, nth, put, Post, Goal, prop, runs, lands, frees, at_ret}
use types.Kit.{Seq, Step, step, ◌$◌, ◌∵◌, !, qed, move, drop, use0, use1, split, join, regoal, done}
use types.Run.{Opd, Opds, Rv, init, forget, stop, from, and_then, no_more, assigns, land, free1}
use denote.RattleType.{RattleType, flat, owns}
use denote.Laws.{Is, Tells, Are, Ises, Spells, Tellss}
use denote.Signature.{types_at}
use denote.Steps.{only}
use denote.Triple.Clauses.{Clauses, Ended, Lasts, closing}
use denote.Triple.Entry.{Args, alive, on_entry}
use denote.Triple.Spec.{Meets}
use denote.Triple.Statement.{Triple}
use Rattle.walks.proofs.Locals.{room, has, in_order, ordered}
use Rattle.walks.proofs.Walking.{Blocks, env, Fits, ArgsFit, Cell, Room, enters, cell, field_cell, Asked, Result, Tokens, Said, Types, passed, walk_met}
use Rattle.walks.proofs.Walking.{AllSilent, dropped}
use Rattle.walks.proofs.Walking.{dropped_go, Returned, returned}
use Rattle.walks.proofs.Calling.{Says, asks_beside}

-- after the hold each local has two places, what frees it and its cell: the cell of local i
abbrev entry : ℕ → ℕ
entry i = 2 + (i + i)

module _ {M : Type 1} {𝓤 : Ura M} {𝓛 : Logic 𝓤} {K : Type 0} where
  open 𝓛 use {H}

  -- the function is entered
  pub begins : {hold : Item 𝓤} → K → (C : Calls 𝓤 H) (Λ : Loops 𝓤 H) (f : Fn) (vs : List Val) (P : Val → SProp 𝓤) → ArgsFit f.locals vs
      → ((bs : Blocks f.locals) → Seq K 𝓛 (hold ∷ in_order 𝓛 (env f.locals bs) (room ∷ map has vs))
      (runs C Λ (env f.locals bs) f.body (at_ret (env f.locals bs) P)))
      → Seq K 𝓛 (hold ∷ []) (prop (WpFn 𝓤 H C Λ f vs P))
  begins t C Λ f vs P fits k = enters t C Λ f vs P fits (λ bs. ordered t (env f.locals bs) (room ∷ map has vs) $ k bs)

  -- it returns, and the first of its locals is freed, whatever that holds
  pub frees_first : K → {i : Item 𝓤} {τ : Ty} {b : ℕ} {v : Val} {E : Env 𝓤 H} {g : Goal 𝓤 H} {Γ : List (Item 𝓤)}
      → Step K 𝓛 (i ∷ Γ) (frees E g) (i ∷ ‵ (fdies τ b) ∷ ‵ (fat full_share τ b zero v) ∷ Γ) (frees ((τ, b) ∷ E) g)
  frees_first t = step (λ s. forget t 2 refl $ move t (2 ∷ 1 ∷ []) $ free1 t $ s)

  module _ {Γ : List (Item 𝓤)} {E : Env 𝓤 H} where
    -- what a local holds, as an operand
    pub reads : K → {i : ℕ} {q : Share} {v : Val} → nth 𝓛 (entry i) Γ ≡ Cell 𝓤 H E i q v → Opd K 𝓛 Γ E (copy (place i [])) v
    reads t {i} e = cell t (entry i) e

    -- as the one operand
    pub reads1 : K → {i : ℕ} {q : Share} {v : Val} → nth 𝓛 (entry i) Γ ≡ Cell 𝓤 H E i q v → Opds K 𝓛 Γ E (copy (place i []) ∷ []) (v ∷ [])
    reads1 t e = and_then t (reads t e) (no_more t)

    -- two locals as both
    pub reads2 : K → {i j : ℕ} {q q' : Share} {v u : Val} → nth 𝓛 (entry i) Γ ≡ Cell 𝓤 H E i q v → nth 𝓛 (entry j) Γ ≡ Cell 𝓤 H E j q' u
        → Opds K 𝓛 Γ E (copy (place i []) ∷ copy (place j []) ∷ []) (v ∷ u ∷ [])
    reads2 t e f = and_then t (reads t e) (reads1 t f)

    -- a field of the struct that a local holds
    pub reads_field : K → {i k : ℕ} {q : Share} {ν : Sym} {τs : Tys} {b : ℕ} {vs : Row} {τ : Ty} {d : ℕ}
        → spot_of 𝓤 H E i ≡ (ty_struct ν τs, b, zero) → nth 𝓛 (entry i) Γ ≡ ‵ (fat q (ty_struct ν τs) b zero (vstruct vs))
        → field_at zero τs k ≡ there (τ, d) → Opd K 𝓛 Γ E (copy (place i (field k ∷ []))) (get_v vs k)
    reads_field t {i} is e f = field_cell t (entry i) is e f

    module _ {C : Calls 𝓤 H} {Λ : Loops 𝓤 H} {p : Post 𝓤 H} {rest : Body} {i : ℕ} {v : Val} where
      -- a local is set by a statement
      pub sets : K → {rv : RValue} → Rv K 𝓛 Γ E rv v → nth 𝓛 (entry i) Γ ≡ Room 𝓤 H E i → Fits (spot_of 𝓤 H E i).0 v
          → Step K 𝓛 (put 𝓛 (entry i) (Cell 𝓤 H E i full_share v) Γ) (runs C Λ E rest p)
          Γ (runs C Λ E (seq (assign (place i []) rv) rest) p)
      sets t r e wt = assigns t r (from t (stop t)) (init t (entry i) e wt)

      -- it takes the result of a call
      pub takes : K → nth 𝓛 (entry i) Γ ≡ Room 𝓤 H E i → Fits (spot_of 𝓤 H E i).0 v
          → Step K 𝓛 (put 𝓛 (entry i) (Cell 𝓤 H E i full_share v) Γ) (runs C Λ E rest p) Γ (lands C Λ E (place i []) v rest p)
      takes t e wt = land t (from t (stop t)) (init t (entry i) e wt)

-- What a function was lent: it may lend it on as often as it likes.
pub record Lendable {M : Type 1} {𝓤 : Ura M} (𝓛 : Logic 𝓤) : Type 2 where
  pub what : Fml
  pub twice : ent 𝓤 (sem 𝓛 what) (sep 𝓤 (sem 𝓛 what) (sem 𝓛 what))

-- How the machine value of a type's values is spelled.
pub record Spelled (R : RattleType) : Type 1 where
  pub val : R.Denot → Val
  pub tells : Tells R (Is R) (λ x. val x ∷ [])

module _ {M : Type 1} {𝓤 : Ura M} {𝓛 : Logic 𝓤} {K : Type 0} {Γ : List (Item 𝓤)} {E : Env 𝓤 𝓛.H} {C : Calls 𝓤 𝓛.H}
    {Λ : Loops 𝓤 𝓛.H} {d : Place} {rest : Body} {p : Post 𝓤 𝓛.H} where
  -- what a call gave back is x: so it is spelled as x is
  pub comes : {R : RattleType} {r x : R.Denot} {v : Val} → K → (s : Spelled R) → r ≡ x → Is R r (v ∷ [])
      → (Is R x (s.val x ∷ []) → Seq K 𝓛 Γ (lands C Λ E d (s.val x) rest p)) → Seq K 𝓛 Γ (lands C Λ E d v rest p)
  comes {R} {r} {x} {v} t s e is k =
      regoal t (λ (u : Val). lands C Λ E d u rest p) (ap only (s.tells r (v ∷ []) is) ∙ ap s.val e) refl $
      k (subst (λ (z : R.Denot). Is R z (s.val z ∷ [])) e (subst (Is R r) (s.tells r (v ∷ []) is) is))

module _ {M : Type 1} {𝓤 : Ura M} (𝓛 : Logic 𝓤) (T : Ended) (c : Clauses 𝓤 T) (y : (Asked 𝓛 T c).Ghost)
    (ℓ : Lendable 𝓛) where
  open 𝓛 use {H}

  -- what a walk holds
  abbrev Hold : Item 𝓤
  Hold = Tokens 𝓛 T c y ⊛ ‵ ℓ.what

  -- what the parameters own
  abbrev params : Fml
  params = owns (types_at T.signature.params y.0.0) y.0.3 y.0.4

  -- a function of this contract is called at the caller's lifetimes, is passed what was lent, and says that the result is x
  pub asks_lent : {K : Type 0} {Γ : List (Item 𝓤)} {E : Env 𝓤 H} {C : Calls 𝓤 H} {Λ : Loops 𝓤 H} {f : Callee} {xs : List Operand} {d : Place} {rest : Body} {p : Post 𝓤 H}
      → K → (x : (Result 𝓛 T c y).Denot) (s : Spelled (Result 𝓛 T c y)) → Says 𝓤 T c y.0.0 y.0.3 y.1 (λ r _. r ≡ x)
      → ent 𝓤 (sem 𝓛 ℓ.what) (sem 𝓛 params) → ent 𝓤 (emp 𝓤) ((c y.0.0 y.0.3).requires y.1)
      → FmC 𝓤 H 𝓛.laws C → Triple 𝓤 (C f) (Asked 𝓛 T c) → Opds K 𝓛 (Hold ∷ Γ) E xs ((Asked 𝓛 T c).args y)
      → (Is (Result 𝓛 T c y) x (s.val x ∷ []) → Seq K 𝓛 (Hold ∷ Γ) (lands C Λ E d (s.val x) rest p))
      → Seq K 𝓛 (Hold ∷ Γ) (runs C Λ E (seq (call f xs d) rest) p)
  asks_lent t x s tells lends free fm known os k =
      asks_beside t fm T c known y Hold (‵ ℓ.what) brought (λ r _. r ≡ x) tells os (λ v r ws e is. move t (1 ∷ []) $ drop t $ join t $
      comes t s e is k)
    where
      -- what the contract asks, and what was lent
      brought : ent 𝓤 (mean 𝓛 Hold) (sep 𝓤 ((Asked 𝓛 T c).pre y) (sem 𝓛 ℓ.what))
      brought =
          qed 𝓛 (Tokens 𝓛 T c y ∷ ‵ ℓ.what ∷ []) ∵ move ! (1 ∷ []) $ use1 𝓛 (‵ ℓ.what ⊛ ‵ ℓ.what) ℓ.twice $ split ! $
          use1 𝓛 (‵ params) lends $ move ! (2 ∷ 0 ∷ []) $ join ! $ use0 𝓛 (raw ((c y.0.0 y.0.3).requires y.1)) free $ move ! (1 ∷ 0 ∷ []) $
          join ! $ done !

  -- a walk of this contract ends: what was lent gives what the result owns
  pub ends : (ws : Lasts T y.0.0 y.0.3) (r : (Result 𝓛 T c y).Denot) (v : Val) → ent 𝓤 (emp 𝓤) (Said 𝓛 T c y r ws)
      → ent 𝓤 (sem 𝓛 ℓ.what) (sem 𝓛 ((Result 𝓛 T c y).own_val r (v ∷ []))) → ent 𝓤 (mean 𝓛 Hold) (Returned 𝓛 T c y v)
  ends ws r v said made = via 𝓤 _ (mono_r 𝓤 (mean 𝓛 (Tokens 𝓛 T c y)) made) (returned 𝓛 T c y r ws v said)

-- walks of this contract, with the parameters' machine values spelled by sp
module _ {M : Type 1} {𝓤 : Ura M} (𝓛 : Logic 𝓤) (T : Ended) (c : Clauses 𝓤 T) (fn : Fn) (𝓣 : Tables 𝓤 𝓛.H)
    (sp : (κs : Lfts T.signature.lifetimes) → Spells (Types T κs)) where
  open 𝓛 use {H}

  -- one from what the parameters lend, at each choice, meets the contract
  pub met : AllSilent 𝓛 T.signature.params T.kept
      → ((κs : Lfts T.signature.lifetimes) → Tellss (Types T κs) (Ises (Types T κs)) (sp κs))
      → (P : (κs : Lfts T.signature.lifetimes) → Args T.signature κs → Fml)
      → ((κs : Lfts T.signature.lifetimes) (a : Args T.signature κs) → ent 𝓤 (sem 𝓛 (owns (Types T κs) a (passed T sp κs a)))
      (sem 𝓛 (P κs a)))
      → ((κs : Lfts T.signature.lifetimes) (qs : Shares T.signature.lifetimes)
      (o : AllOutlive T.signature.lifetimes T.signature.outlives κs)
      (a : Args T.signature κs) (g : (c κs a).ghost) → Are (Types T κs) (Ises (Types T κs)) a (passed T sp κs a)
      → ent 𝓤 (sep 𝓤 (alive 𝓛 T.signature κs qs) (sem 𝓛 (P κs a)))
      (WpFn 𝓤 H 𝓣.C 𝓣.Λ fn (flat (Types T κs) (passed T sp κs a)) (Returned 𝓛 T c ((κs, qs, o, a, passed T sp κs a), g))))
      → Meets 𝓛 T.signature (WpFn 𝓤 H 𝓣.C 𝓣.Λ fn) (closing 𝓛 T c)
  met silent tl P lends walk =
      let ss = T.signature.params in
      walk_met 𝓛 T (dropped ss T.kept) c fn 𝓣 sp (dropped_go 𝓛 ss T.kept silent) tl (λ κs qs o a g are.
      via 𝓤 (on_entry 𝓛 T.signature κs qs a (passed T sp κs a)) (fst∗ 𝓤 _ ((c κs a).requires g))
      (via 𝓤 _ (mono_r 𝓤 (alive 𝓛 T.signature κs qs) (lends κs a)) (walk κs qs o a g are)))
