-- The functions that take the lent table first, and then plain values: how a walk of one begins and ends. Of the values nothing is kept.
-- Definitions assume nothing. The laws assume `Logic`.
use mathlib.Core.Path.{◌≡◌, refl}
use Prim.Native.Nat.{ℕ}
use mathlib.Core.List.{List, [], ◌∷◌}
use lib.ListN.{length}
use seplogic.Ra.Ura.{Ura}
use mir.Syntax.{Fn}
use mir.Val.{Val, vunit}
use base.Logic.{SProp, ent, sep, emp, via, fst∗, mono∗, mono_l}
use base.Fml.{Lft, GName, Share, flft}
use prog.Wp.{WpFn, Tables}
use types.Logic.{Logic, sem}
use contract.Lifetimes.{Lfts}
use types.Kit.{‵, raw, ◌$◌, ◌∵◌, !, qed, by, move, use0, join, fjoin, feq_i, suffices, done}
use denote.RattleType.{RattleType, Denots, Valss, flat, owns}
use denote.Laws.{Spells, Tellss, Ises, Are}
use denote.Builtin.{unit}
use denote.Signature.{Slot, plain, types_at, mut_slice_of, shr_slice_of}
use denote.Steps.{nothing}
use denote.Exit.{yes, Last}
use denote.Triple.Clauses.{Ended, Clauses, at_exit, closing}
use denote.Triple.End.{Kepts, Fins}
use denote.Triple.Spec.{Meets}
use denote.Triple.Walked.{Stay, Stays, stay_slice, stay_dropped, Goes, AllGo, has_of, walk_of, ends_at}
use Rattle.walks.proofs.Walking.{passed, walk_met, dropped, dropped_fit, none_had, returned}
use Rattle.walks.proofs.Lending.{table}

-- the table, lent as `&mut`
abbrev pub as_mut : RattleType → Slot 1
as_mut R = mut_slice_of (0 ∷ []) tt (plain (λ _. R))

-- as `&`
abbrev pub as_shr : RattleType → Slot 1
as_shr R = shr_slice_of (0 ∷ []) tt (plain (λ _. R))

-- of the one its last list is had at the end
abbrev pub listed : (R : RattleType) → Stay (as_mut R) yes
listed R = stay_slice (0 ∷ []) tt (plain (λ _. R))

-- of the other nothing
abbrev pub unlisted : (R : RattleType) → Stay (as_shr R) yes
unlisted R = stay_dropped (as_shr R) yes

-- a function that takes the table s, values of ss, and gives back S
abbrev pub TableFirst : (s : Slot 1) (ss : List (Slot 1)) → Kepts ss → RattleType → Ended
TableFirst s ss ks S = record { signature = record { lifetimes = 1; outlives = []; params = s ∷ ss; result = plain (λ _. S) }; kept = (yes, ks) }

module _ {M : Type 1} {𝓤 : Ura M} (𝓛 : Logic 𝓤) (s : Slot 1) (ss : List (Slot 1)) (ks : Kepts ss) (S : RattleType)
    (c : Clauses 𝓤 (TableFirst s ss ks S)) (st : Stay s yes) where
  open 𝓛 use {H, A}

  -- such a function
  abbrev T : Ended
  T = TableFirst s ss ks S

  -- what is had of its parameters at the end
  abbrev kept : Stays (s ∷ ss) (yes, ks)
  kept = (st, dropped ss ks)

  module _ (κ : Lft) (q : Share) (x : (s.row (κ, tt)).Denot) (vs : List Val) (a : Denots (types_at ss (κ, tt))) (vss : Valss (types_at ss (κ, tt)))
      (g : (c (κ, tt) (x, a)).ghost) where
    -- what is to hold of the value returned, where the table x and the values a are passed
    abbrev pub Exit : Val → SProp 𝓤
    Exit = (walk_of 𝓛 T kept c).post (((κ, tt), (q, tt), tt, (x, a), (vs, vss)), g)

    -- the end: the table's last value w and the result r, whose machine value is v
    leaves : (w : Last ((s.row (κ, tt)).exit yes) x) (ns : Fins (κ, tt) ss ks a) (r : S.Denot) (v : Val) → st.fit (κ, tt) x w
        → ent 𝓤 (emp 𝓤) ((c (κ, tt) (x, a)).ensures g r (at_exit T (κ, tt) (x, a) (w, ns)))
        → ent 𝓤 (sep 𝓤 (A.lft κ q) (sep 𝓤 (sem 𝓛 (st.has (κ, tt) x w vs)) (sem 𝓛 (S.own_val r (v ∷ []))))) (Exit v)
    leaves w ns r v fits said =
        qed 𝓛 (‵ (flft κ q) ∷ ‵ (st.has (κ, tt) x w vs) ∷ ‵ (S.own_val r (v ∷ [])) ∷ []) ∵
        suffices ! _ (ends_at 𝓛 T kept c (((κ, tt), (q, tt), tt, (x, a), (vs, vss)), g) v r (w, ns) (fits, dropped_fit (κ, tt) ss ks a ns)) $
        nothing ! $ move ! (1 ∷ 0 ∷ []) $ join ! $
        use0 𝓛 (‵ (has_of (κ, tt) ss ks (dropped ss ks) a ns vss)) (none_had 𝓛 (κ, tt) ss ks a ns vss) $ move ! (2 ∷ 0 ∷ []) $ fjoin ! $
        move ! (0 ∷ 2 ∷ []) $ join ! $ move ! (1 ∷ 0 ∷ []) $ join ! $
        use0 𝓛 (raw ((c (κ, tt) (x, a)).ensures g r (at_exit T (κ, tt) (x, a) (w, ns)))) said $ move ! (1 ∷ 0 ∷ []) $ done !

  module _ (f : Fn) (𝓣 : Tables 𝓤 H) (sp : (κs : Lfts 1) → Spells (types_at (s ∷ ss) κs)) where
    -- a walk from the token, the table and what is required to the end is enough
    pub table_meets : ((κs : Lfts 1) → Tellss (types_at (s ∷ ss) κs) (Ises (types_at (s ∷ ss) κs)) (sp κs)) → Goes 𝓛 1 s yes st
        → AllGo 𝓛 1 ss ks (dropped ss ks)
        → ((κ : Lft) (q : Share) (x : (s.row (κ, tt)).Denot) (a : Denots (types_at ss (κ, tt)))
        (g : (c (κ, tt) (x, a)).ghost) → Are (types_at (s ∷ ss) (κ, tt)) (Ises (types_at (s ∷ ss) (κ, tt))) (x, a) (passed T sp (κ, tt) (x, a))
        → ent 𝓤 (sep 𝓤 (sep 𝓤 (A.lft κ q) (sem 𝓛 ((s.row (κ, tt)).own_val x (passed T sp (κ, tt) (x, a)).0))) ((c (κ, tt) (x, a)).requires g))
        (WpFn 𝓤 H 𝓣.C 𝓣.Λ f (flat (types_at (s ∷ ss) (κ, tt)) (passed T sp (κ, tt) (x, a)))
        (Exit κ q x (passed T sp (κ, tt) (x, a)).0 a (passed T sp (κ, tt) (x, a)).1 g)))
        → Meets 𝓛 T.signature (WpFn 𝓤 H 𝓣.C 𝓣.Λ f) (closing 𝓛 T c)
    table_meets tells table_goes rest_goes k =
        walk_met 𝓛 T kept c f 𝓣 sp (table_goes, rest_goes) tells (λ κs qs bounds a g are.
        let Table : SProp 𝓤 = sem 𝓛 ((s.row κs).own_val a.0 (passed T sp κs a).0) in
        let Values : SProp 𝓤 = sem 𝓛 (owns (types_at ss κs) a.1 (passed T sp κs a).1) in
        via 𝓤 (sep 𝓤 (sep 𝓤 (A.lft κs.0 qs.0) Table) ((c κs a).requires g))
        (mono_l 𝓤 ((c κs a).requires g) (mono∗ 𝓤 (fst∗ 𝓤 (A.lft κs.0 qs.0) (emp 𝓤)) (fst∗ 𝓤 Table Values)))
        (k κs.0 qs.0 a.0 a.1 g are))

module _ {M : Type 1} {𝓤 : Ura M} (𝓛 : Logic 𝓤) (R : RattleType) (ss : List (Slot 1)) (ks : Kepts ss) where
  open 𝓛 use {A}

  -- a table lent as `&mut` ends with a list of the same length
  pub mut_left : (c : Clauses 𝓤 (TableFirst (as_mut R) ss ks unit)) (κ : Lft) (q : Share) (b o : ℕ) (γ : GName) (ys zs : List R.Denot)
      (vs : List Val) (a : Denots (types_at ss (κ, tt))) (vss : Valss (types_at ss (κ, tt)))
      (g : (c (κ, tt) (table R b o γ ys, a)).ghost) (ns : Fins (κ, tt) ss ks a) → length zs ≡ length ys
      → ent 𝓤 (emp 𝓤) ((c (κ, tt) (table R b o γ ys, a)).ensures g tt (at_exit (TableFirst (as_mut R) ss ks unit) (κ, tt) (table R b o γ ys, a)
      (zs, ns)))
      → ent 𝓤 (sep 𝓤 (A.lft κ q) (sem 𝓛 (((as_mut R).row (κ, tt)).own_val (table R b o γ zs) vs)))
      (Exit 𝓛 (as_mut R) ss ks unit c (listed R) κ q (table R b o γ ys) vs a vss g vunit)
  mut_left c κ q b o γ ys zs vs a vss g ns e said =
      qed 𝓛 (‵ (flft κ q) ∷ ‵ (((as_mut R).row (κ, tt)).own_val (table R b o γ zs) vs) ∷ []) ∵ feq_i ! (List Val) (vunit ∷ []) (vunit ∷ []) refl $
      move ! (1 ∷ 2 ∷ []) $
      by ! (leaves 𝓛 (as_mut R) ss ks unit c (listed R) κ q (table R b o γ ys) vs a vss g zs ns tt vunit e said)

  -- of one lent as `&` only the result is left
  pub shr_left : (S : RattleType) (c : Clauses 𝓤 (TableFirst (as_shr R) ss ks S)) (κ : Lft) (q : Share) (x : ((as_shr R).row (κ, tt)).Denot)
      (vs : List Val) (a : Denots (types_at ss (κ, tt))) (vss : Valss (types_at ss (κ, tt)))
      (g : (c (κ, tt) (x, a)).ghost) (ns : Fins (κ, tt) ss ks a) (r : S.Denot) (v : Val)
      → ent 𝓤 (emp 𝓤) ((c (κ, tt) (x, a)).ensures g r (at_exit (TableFirst (as_shr R) ss ks S) (κ, tt) (x, a) (tt, ns)))
      → ent 𝓤 (sep 𝓤 (A.lft κ q) (sem 𝓛 (S.own_val r (v ∷ [])))) (Exit 𝓛 (as_shr R) ss ks S c (unlisted R) κ q x vs a vss g v)
  shr_left S c κ q x vs a vss g ns r v said =
      qed 𝓛 (‵ (flft κ q) ∷ ‵ (S.own_val r (v ∷ [])) ∷ []) ∵ nothing ! $ move ! (1 ∷ 0 ∷ []) $ join ! $
      by ! (returned 𝓛 (TableFirst (as_shr R) ss ks S) c (((κ, tt), (q, tt), tt, (x, a), (vs, vss)), g) r (tt, ns) v said)
