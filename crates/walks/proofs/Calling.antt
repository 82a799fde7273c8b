-- A walk calls a function of which it knows only the contract. It brings plain values, which can be made again, and it may bring the table, which is
-- lent on; it learns what the contract says, and that the result is of its type.
-- Assumes `Logic`, and that the table of calls is monotone under a frame.
use Prim.Native.Nat.{ℕ}
use mathlib.Core.Path.{◌≡◌}
use mathlib.Core.List.{List, [], ◌∷◌, ◌++◌}
use lib.ListN.{length}
use seplogic.Ra.Ura.{Ura}
use base.Fraction.{full_share}
use mir.Syntax.{Callee, Place, Opd as Operand, Body, seq, call, Lifetime, named}
use mir.Val.{Val}
use base.Logic.{SProp, ent, sep, emp, via, id⊢, emp∗, comm∗, fst∗, mono_l}
use base.Fml.{Lft, GName, Share, ftrue, flft}
use prog.Wp.{Env, Calls, Loops}
use types.Logic.{Logic, sem}
use contract.Monad.{fact}
use contract.Lifetimes.{Lfts}
use sound.WpLaws.{FmC}
use types.Kit.{Item, ‵, raw, ◌⊛◌, mean, ⋆, drop⊢, push, Post, runs, lands, Seq, ◌$◌, ◌∵◌, !, qed, move, drop, use0, use1, split, join, fsplit}
use types.Kit.{fjoin, feq_l, done}
use types.Run.{Opds}
use denote.RattleType.{RattleType, RowLaws, Denots, Valss, flat, owns}
use denote.Laws.{Is, Ises, Are, Makess, owns_make}
use denote.Shares.{Shares}
use denote.Signature.{Slot, plain, types_at}
use denote.Slice.{MutSlice, ShrSlice, shr_slice_copy}
use denote.Steps.{nothing}
use denote.Exit.{yes, left}
use denote.Triple.Statement.{Triple}
use denote.Triple.Call.{calls_from}
use denote.Triple.Clauses.{Ended, Clauses, Lasts, at_exit, lasts}
use denote.Triple.End.{Kepts}
use denote.Triple.Entry.{Args, Res}
use Rattle.walks.proofs.Walking.{Asked, Result, Tokens, answers}
use Rattle.walks.proofs.Lending.{table, shown, KeptMut, KeptShr, lends_mut, mut_back, lends_shr, shr_back}
use Rattle.walks.proofs.TableFirst.{TableFirst, as_mut, as_shr}

-- what its `ensures` says of the result and the last values is the fact φ
abbrev pub Says : {M : Type 1} (𝓤 : Ura M) (T : Ended) (c : Clauses 𝓤 T) (κs : Lfts T.signature.lifetimes) (a : Args T.signature κs)
    → (c κs a).ghost → (Res T.signature κs → Lasts T κs a → Type 0) → Type 1
Says 𝓤 T c κs a g φ = (r : Res T.signature κs) (ws : Lasts T κs a) → ent 𝓤 ((c κs a).ensures g r (at_exit T κs a ws)) (fact 𝓤 (φ r ws))

-- what a call brings: values of the types of ss, and what the contract requires of them
pub record Brings {M : Type 1} {𝓤 : Ura M} (𝓛 : Logic 𝓤) {n : ℕ} (κs : Lfts n) (ss : List (Slot n))
    (Ghost : Denots (types_at ss κs) → Type 0) (Required : (a : Denots (types_at ss κs)) → Ghost a → SProp 𝓤) : Type 2 where
  pub values : Denots (types_at ss κs)
  -- the machine's
  pub machine : Valss (types_at ss κs)
  -- which they are
  pub are : Are (types_at ss κs) (Ises (types_at ss κs)) values machine
  -- plain data is had for that
  pub makes : Makess 𝓛 (types_at ss κs) (Ises (types_at ss κs))
  -- what else the contract binds
  pub ghost : Ghost values
  -- what it requires is had for nothing
  pub required : ent 𝓤 (emp 𝓤) (Required values ghost)

-- a function of plain values
abbrev pub ValuesOnly : (ss : List (Slot 0)) → Kepts ss → RattleType → Ended
ValuesOnly ss ks S = record { signature = record { lifetimes = 0; outlives = []; params = ss; result = plain (λ _. S) }; kept = ks }

-- what a call of it brings
abbrev pub ToValues : {M : Type 1} {𝓤 : Ura M} (𝓛 : Logic 𝓤) (ss : List (Slot 0)) (ks : Kepts ss) (S : RattleType)
    → Clauses 𝓤 (ValuesOnly ss ks S) → Type 2
ToValues 𝓛 ss ks S c = Brings 𝓛 tt ss (λ a. (c tt a).ghost) (λ a g. (c tt a).requires g)

-- what a call of a function that takes the table first brings beside the table x, lent for κ
abbrev pub ToTable : {M : Type 1} {𝓤 : Ura M} (𝓛 : Logic 𝓤) (s : Slot 1) (ss : List (Slot 1)) (ks : Kepts ss) (S : RattleType)
    → Clauses 𝓤 (TableFirst s ss ks S) → (κ : Lft) → (s.row (κ, tt)).Denot → Type 2
ToTable 𝓛 s ss ks S c κ x = Brings 𝓛 (κ, tt) ss (λ a. (c (κ, tt) (x, a)).ghost) (λ a g. (c (κ, tt) (x, a)).requires g)

module _ {M : Type 1} {𝓤 : Ura M} {𝓛 : Logic 𝓤} {K : Type 0} {Γ : List (Item 𝓤)} {E : Env 𝓤 𝓛.H} {xs : List Operand} where
  open 𝓛 use {H, A}

  -- the operands, read beside nothing more
  beside_nothing : {vs : List Val} → Opds K 𝓛 Γ E xs vs → Opds K 𝓛 (‵ ftrue ∷ Γ) E xs vs
  beside_nothing os = record {
    go = λ Kt h. via 𝓤 (⋆ 𝓛 Γ) (drop⊢ 𝓛 (‵ ftrue) Γ (⋆ 𝓛 Γ) (id⊢ 𝓤 (⋆ 𝓛 Γ)))
        (os.go Kt (via 𝓤 (⋆ 𝓛 (‵ ftrue ∷ Γ)) (via 𝓤 (sep 𝓤 (emp 𝓤) (⋆ 𝓛 Γ)) (emp∗ 𝓤 (⋆ 𝓛 Γ)) (push 𝓛 (‵ ftrue) Γ)) h));
  }

  module _ {C : Calls 𝓤 H} {f : Callee} {Λ : Loops 𝓤 H} {p : Post 𝓤 H} {d : Place} {rest : Body} where
    -- any call: the head i of the context gives what the contract asks, and j stays
    pub asks_beside : K → FmC 𝓤 H 𝓛.laws C → (T : Ended) (c : Clauses 𝓤 T) → Triple 𝓤 (C f) (Asked 𝓛 T c)
        → (y : (Asked 𝓛 T c).Ghost) (i j : Item 𝓤) → ent 𝓤 (mean 𝓛 i) (sep 𝓤 ((Asked 𝓛 T c).pre y) (mean 𝓛 j))
        → (φ : (Result 𝓛 T c y).Denot → Lasts T y.0.0 y.0.3 → Type 0) → Says 𝓤 T c y.0.0 y.0.3 y.1 φ
        → Opds K 𝓛 (i ∷ Γ) E xs ((Asked 𝓛 T c).args y)
        → ((v : Val) (r : (Result 𝓛 T c y).Denot) (ws : Lasts T y.0.0 y.0.3) → φ r ws → Is (Result 𝓛 T c y) r (v ∷ [])
        → Seq K 𝓛 (Tokens 𝓛 T c y ∷ ‵ (lasts T y.0.0 y.0.3 ws) ∷ j ∷ Γ) (lands C Λ E d v rest p))
        → Seq K 𝓛 (i ∷ Γ) (runs C Λ E (seq (call f xs d) rest) p)
    asks_beside t fm T c known y i j brings φ tells os k =
        let J = mean 𝓛 j in
        let Q : Val → SProp 𝓤 = λ v. sep 𝓤 ((Asked 𝓛 T c).post y v) J in
        let ran = fm f ((Asked 𝓛 T c).args y) ((Asked 𝓛 T c).post y) Q J (λ v. id⊢ 𝓤 (Q v)) in
        calls_from t fm i ((Asked 𝓛 T c).args y) Q (via 𝓤 _ brings (via 𝓤 _ (mono_l 𝓤 J (known y)) ran)) os (λ v.
        use1 𝓛 (raw ((Asked 𝓛 T c).post y v) ⊛ j) (id⊢ 𝓤 (Q v)) $ split t $ answers 𝓛 T c y v t tt φ tells (λ r ws said is. drop t $
        k v r ws said is))

    -- nothing stays
    pub asks : K → FmC 𝓤 H 𝓛.laws C → (T : Ended) (c : Clauses 𝓤 T) → Triple 𝓤 (C f) (Asked 𝓛 T c) → (y : (Asked 𝓛 T c).Ghost) (i : Item 𝓤)
        → ent 𝓤 (mean 𝓛 i) ((Asked 𝓛 T c).pre y)
        → (φ : (Result 𝓛 T c y).Denot → Lasts T y.0.0 y.0.3 → Type 0) → Says 𝓤 T c y.0.0 y.0.3 y.1 φ
        → Opds K 𝓛 (i ∷ Γ) E xs ((Asked 𝓛 T c).args y)
        → ((v : Val) (r : (Result 𝓛 T c y).Denot) (ws : Lasts T y.0.0 y.0.3) → φ r ws → Is (Result 𝓛 T c y) r (v ∷ [])
        → Seq K 𝓛 (Tokens 𝓛 T c y ∷ ‵ (lasts T y.0.0 y.0.3 ws) ∷ Γ) (lands C Λ E d v rest p))
        → Seq K 𝓛 (i ∷ Γ) (runs C Λ E (seq (call f xs d) rest) p)
    asks t fm T c known y i brings φ tells os k =
        let Pre = (Asked 𝓛 T c).pre y in
        asks_beside t fm T c known y i (‵ ftrue)
        (via 𝓤 Pre brings (via 𝓤 (sep 𝓤 (emp 𝓤) Pre) (emp∗ 𝓤 Pre) (comm∗ 𝓤 (emp 𝓤) Pre))) φ tells os (λ v r ws said is. move t (2 ∷ []) $ drop t $
        k v r ws said is)

    -- a call with plain values alone
    pub asks_values : K → FmC 𝓤 H 𝓛.laws C → (ss : List (Slot 0)) (ks : Kepts ss) (S : RattleType) (c : Clauses 𝓤 (ValuesOnly ss ks S))
        → Triple 𝓤 (C f) (Asked 𝓛 (ValuesOnly ss ks S) c) → (w : ToValues 𝓛 ss ks S c)
        → (φ : S.Denot → Type 0) → Says 𝓤 (ValuesOnly ss ks S) c tt w.values w.ghost (λ r _. φ r)
        → Opds K 𝓛 Γ E xs (flat (types_at ss tt) w.machine)
        → ((v : Val) (r : S.Denot) → φ r → Is S r (v ∷ []) → Seq K 𝓛 Γ (lands C Λ E d v rest p))
        → Seq K 𝓛 Γ (runs C Λ E (seq (call f xs d) rest) p)
    asks_values t fm ss ks S c known w φ tells os k =
        nothing t $ asks t fm (ValuesOnly ss ks S) c known ((tt, tt, tt, w.values, w.machine), w.ghost)
        (‵ ftrue) brought (λ r _. φ r) tells (beside_nothing os) (λ v r ws said is. drop t $ drop t $ k v r said is)
      where
        -- what the contract asks
        brought : ent 𝓤 (emp 𝓤) ((Asked 𝓛 (ValuesOnly ss ks S) c).pre ((tt, tt, tt, w.values, w.machine), w.ghost))
        brought =
            qed 𝓛 [] ∵ use0 𝓛 (raw ((c tt w.values).requires w.ghost)) w.required $
            use0 𝓛 (‵ (owns (types_at ss tt) w.values w.machine))
            (owns_make 𝓛 (types_at ss tt) (Ises (types_at ss tt)) w.makes w.values w.machine w.are) $
            nothing ! $ join ! $ done !

    -- one that takes the table too, for good: what is left of it is its last list
    pub asks_table : K → FmC 𝓤 H 𝓛.laws C
        → (s : Slot 1) (ss : List (Slot 1)) (ks : Kepts ss) (S : RattleType) (c : Clauses 𝓤 (TableFirst s ss ks S))
        → Triple 𝓤 (C f) (Asked 𝓛 (TableFirst s ss ks S) c)
        → (κ : Lft) (q : Share) (x : (s.row (κ, tt)).Denot) (vs : List Val) (w : ToTable 𝓛 s ss ks S c κ x)
        → (φ : S.Denot → Lasts (TableFirst s ss ks S) (κ, tt) (x, w.values) → Type 0)
        → Says 𝓤 (TableFirst s ss ks S) c (κ, tt) (x, w.values) w.ghost φ
        → ((i : Item 𝓤) → Opds K 𝓛 (i ∷ Γ) E xs (vs ++ flat (types_at ss (κ, tt)) w.machine))
        → ((v : Val) (r : S.Denot) (ws : Lasts (TableFirst s ss ks S) (κ, tt) (x, w.values)) → φ r ws → Is S r (v ∷ [])
        → Seq K 𝓛 (‵ (flft κ q) ∷ ‵ (left ((s.row (κ, tt)).exit yes) x ws.0) ∷ Γ) (lands C Λ E d v rest p))
        → Seq K 𝓛 (‵ (flft κ q) ∷ ‵ ((s.row (κ, tt)).own_val x vs) ∷ Γ) (runs C Λ E (seq (call f xs d) rest) p)
    asks_table t fm s ss ks S c known κ q x vs w φ tells os k =
        join t $ asks t fm (TableFirst s ss ks S) c known (((κ, tt), (q, tt), tt, (x, w.values), (vs, w.machine)), w.ghost)
        (‵ (flft κ q) ⊛ ‵ ((s.row (κ, tt)).own_val x vs)) brought φ tells (os (‵ (flft κ q) ⊛ ‵ ((s.row (κ, tt)).own_val x vs))) (λ v r ws said is.
        use1 𝓛 (‵ (flft κ q)) (fst∗ 𝓤 (A.lft κ q) (emp 𝓤)) $ move t (1 ∷ []) $ fsplit t $ move t (1 ∷ []) $ drop t $ move t (1 ∷ 0 ∷ []) $
        k v r ws said is)
      where
        -- what the contract asks
        brought : ent 𝓤 (sep 𝓤 (A.lft κ q) (sem 𝓛 ((s.row (κ, tt)).own_val x vs)))
            ((Asked 𝓛 (TableFirst s ss ks S) c).pre (((κ, tt), (q, tt), tt, (x, w.values), (vs, w.machine)), w.ghost))
        brought =
            qed 𝓛 (‵ (flft κ q) ∷ ‵ ((s.row (κ, tt)).own_val x vs) ∷ []) ∵
            use0 𝓛 (‵ (owns (types_at ss (κ, tt)) w.values w.machine))
            (owns_make 𝓛 (types_at ss (κ, tt)) (Ises (types_at ss (κ, tt))) w.makes w.values w.machine w.are) $
            move ! (2 ∷ 0 ∷ []) $ fjoin ! $ nothing ! $ move ! (2 ∷ 0 ∷ []) $ join ! $ join ! $
            use0 𝓛 (raw ((c (κ, tt) (x, w.values)).requires w.ghost)) w.required $ move ! (1 ∷ 0 ∷ []) $ done !

module _ {M : Type 1} {𝓤 : Ura M} {𝓛 : Logic 𝓤} {K : Type 0} {Γ : List (Item 𝓤)} {E : Env 𝓤 𝓛.H}
    {C : Calls 𝓤 𝓛.H} {f : Callee} {xs : List Operand} {Λ : Loops 𝓤 𝓛.H} {p : Post 𝓤 𝓛.H} {d : Place} {rest : Body}
    (R : RattleType) (κ : Lft) (q : Share) (b o : ℕ) (γ : GName) (ys : List R.Denot) (vs : List Val) where
  open 𝓛 use {H}

  -- a table that is lent as `&mut` goes on as `&mut`, and comes back with its last list
  pub asks_mut : K → FmC 𝓤 H 𝓛.laws C
      → (ℓ : Lifetime) (ss : List (Slot 1)) (ks : Kepts ss) (S : RattleType) (c : Clauses 𝓤 (TableFirst (as_mut R) ss ks S))
      → Triple 𝓤 (C f) (Asked 𝓛 (TableFirst (as_mut R) ss ks S) c)
      → (w : (ν : ℕ) (δ : GName) → ToTable 𝓛 (as_mut R) ss ks S c (ν ∷ []) (table R b o δ ys))
      → (φ : S.Denot → List R.Denot → Type 0)
      → ((ν : ℕ) (δ : GName) → Says 𝓤 (TableFirst (as_mut R) ss ks S) c (ν ∷ [], tt) (table R b o δ ys, (w ν δ).values) (w ν δ).ghost
      (λ r ws. φ r ws.0))
      → ((ν : ℕ) (δ : GName) (i j : Item 𝓤) → Opds K 𝓛 (i ∷ j ∷ Γ) E xs (vs ++ flat (types_at ss (ν ∷ [], tt)) (w ν δ).machine))
      → ((v : Val) (r : S.Denot) (zs : List R.Denot) → length zs ≡ length ys → φ r zs → Is S r (v ∷ [])
      → Seq K 𝓛 (‵ (flft κ q) ∷ ‵ ((MutSlice ℓ κ R).own_val (table R b o γ zs) vs) ∷ Γ) (lands C Λ E d v rest p))
      → Seq K 𝓛 (‵ (flft κ q) ∷ ‵ ((MutSlice ℓ κ R).own_val (table R b o γ ys) vs) ∷ Γ) (runs C Λ E (seq (call f xs d) rest) p)
  asks_mut t fm ℓ ss ks S c known w φ tells os k =
      lends_mut R κ q b o γ ys vs t tt ℓ (named 0) (λ lent ν δ.
      asks_table t fm (as_mut R) ss ks S c known (ν ∷ []) full_share (table R b o δ ys) vs (w ν δ) (λ r ws. φ r ws.0) (tells ν δ)
      (λ i. os ν δ i (‵ (KeptMut R κ q b o γ ys ν δ))) (λ v r ws said is.
      move t (1 ∷ []) $ fsplit t $ move t (1 ∷ []) $ drop t $ fsplit t $ move t (1 ∷ []) $ feq_l t (λ long. move t (1 ∷ 0 ∷ []) $ mut_back R κ q b o γ ys vs t tt ℓ ν δ ws.0 long lent $
      k v r ws.0 long said is)))

  -- it goes on as `&`, and comes back as it was, where the type of its elements has the law by which a `&` is made
  pub asks_shr : K → FmC 𝓤 H 𝓛.laws C → Shares 𝓛 R κ
      → (ℓ : Lifetime) (ss : List (Slot 1)) (ks : Kepts ss) (S : RattleType) (c : Clauses 𝓤 (TableFirst (as_shr R) ss ks S))
      → Triple 𝓤 (C f) (Asked 𝓛 (TableFirst (as_shr R) ss ks S) c)
      → (w : (ν : ℕ) → ToTable 𝓛 (as_shr R) ss ks S c (ν ∷ []) (shown R b o ys))
      → (φ : S.Denot → Type 0) → ((ν : ℕ) → Says 𝓤 (TableFirst (as_shr R) ss ks S) c (ν ∷ [], tt) (shown R b o ys, (w ν).values)
      (w ν).ghost (λ r _. φ r))
      → ((ν : ℕ) (i j : Item 𝓤) → Opds K 𝓛 (i ∷ j ∷ Γ) E xs (vs ++ flat (types_at ss (ν ∷ [], tt)) (w ν).machine))
      → ((v : Val) (r : S.Denot) → φ r → Is S r (v ∷ []) → Seq K 𝓛 (‵ (flft κ q) ∷ ‵ ((MutSlice ℓ κ R).own_val (table R b o γ ys) vs) ∷ Γ)
      (lands C Λ E d v rest p))
      → Seq K 𝓛 (‵ (flft κ q) ∷ ‵ ((MutSlice ℓ κ R).own_val (table R b o γ ys) vs) ∷ Γ) (runs C Λ E (seq (call f xs d) rest) p)
  asks_shr t fm sh ℓ ss ks S c known w φ tells os k =
      lends_shr R κ q b o γ ys vs t tt sh ℓ (named 0) (λ lent ν.
      asks_table t fm (as_shr R) ss ks S c known (ν ∷ []) full_share (shown R b o ys) vs (w ν) (λ r _. φ r) (tells ν)
      (λ i. os ν i (‵ (KeptShr R κ q b o γ ys ν))) (λ v r ws said is.
      move t (1 ∷ []) $ drop t $ shr_back R κ q b o γ ys vs t tt ℓ ν lent $ k v r said is))

module _ {M : Type 1} {𝓤 : Ura M} {𝓛 : Logic 𝓤} {K : Type 0} {Γ : List (Item 𝓤)} {E : Env 𝓤 𝓛.H}
    {C : Calls 𝓤 𝓛.H} {f : Callee} {xs : List Operand} {Λ : Loops 𝓤 𝓛.H} {p : Post 𝓤 𝓛.H} {d : Place} {rest : Body}
    (R : RattleType) (κ : Lft) (q : Share) (b o : ℕ) (ys : List R.Denot) (vs : List Val) where
  open 𝓛 use {H}

  -- a table that is lent as `&` goes on as a copy, and stays, where what is shared of its elements can be had twice
  pub asks_copy : K → FmC 𝓤 H 𝓛.laws C → RowLaws R → (ss : List (Slot 1)) (ks : Kepts ss) (S : RattleType) (c : Clauses 𝓤 (TableFirst (as_shr R) ss ks S))
      → Triple 𝓤 (C f) (Asked 𝓛 (TableFirst (as_shr R) ss ks S) c)
      → (w : ToTable 𝓛 (as_shr R) ss ks S c κ (shown R b o ys))
      → (φ : S.Denot → Type 0) → Says 𝓤 (TableFirst (as_shr R) ss ks S) c (κ, tt) (shown R b o ys, w.values) w.ghost (λ r _. φ r)
      → ((i j : Item 𝓤) → Opds K 𝓛 (i ∷ j ∷ Γ) E xs (vs ++ flat (types_at ss (κ, tt)) w.machine))
      → ((v : Val) (r : S.Denot) → φ r → Is S r (v ∷ []) → Seq K 𝓛 (‵ (flft κ q) ∷ ‵ ((ShrSlice (named 0) κ R).own_val (shown R b o ys) vs) ∷ Γ)
      (lands C Λ E d v rest p))
      → Seq K 𝓛 (‵ (flft κ q) ∷ ‵ ((ShrSlice (named 0) κ R).own_val (shown R b o ys) vs) ∷ Γ) (runs C Λ E (seq (call f xs d) rest) p)
  asks_copy t fm laws ss ks S c known w φ tells os k =
      let own = (ShrSlice (named 0) κ R).own_val (shown R b o ys) vs in
      move t (1 ∷ []) $ use1 𝓛 (‵ own ⊛ ‵ own) ((shr_slice_copy 𝓛 (named 0) κ R laws).twice (shown R b o ys) vs) $ split t $ move t (2 ∷ []) $
      asks_table t fm (as_shr R) ss ks S c known κ q (shown R b o ys) vs w (λ r _. φ r) tells (λ i. os i (‵ own))
      (λ v r ws said is. move t (1 ∷ []) $ drop t $ k v r said is)
