-- Tables that a function passes on: at its exit it has of each parameter what its contract says of it, either as a callee left it or because it
-- never touched it. Definitions assume nothing; the laws assume `Logic`.
use mathlib.Core.Path.{refl}
use Prim.Native.Nat.{ℕ}
use mathlib.Core.List.{List, [], ◌∷◌}
use lib.ListN.{length}
use seplogic.Ra.Ura.{Ura}
use mir.Syntax.{Lifetime}
use mir.Val.{Val}
use base.Logic.{ent, id⊢, mono∗}
use base.Fml.{Lft, fsep, feq, fres}
use types.Logic.{Logic, sem}
use types.Kit.{‵, ◌$◌, ◌∵◌, !, qed, move, drop, use1, fsplit, fjoin, feq_i, done}
use contract.Lifetimes.{Lfts}
use denote.RattleType.{RattleType, Denots, Valss, owns}
use denote.Exit.{Kept, yes, Last, left}
use denote.Ref.{MutBor}
use denote.Slice.{MutSlice, finally, coded_holeys, heres, res-finally}
use denote.Signature.{Slot, types_at}
use denote.Triple.End.{Kepts, Fins, lasts_of}
use denote.Triple.Walked.{Stay, Stays, fits_of, AllGo}
use Rattle.walks.proofs.Walking.{each, each_fits}
use Rattle.walks.proofs.Lending.{gives_up}

-- the parameters but the first
abbrev pub other_slots : {n : ℕ} → List (Slot n) → List (Slot n)
other_slots [] = []
other_slots (s ∷ ss) = ss

-- ---- what is had of them at exit
module _ {n : ℕ} where
  -- of a parameter: what the contract says of its last value
  abbrev pub as_said : (s : Slot n) (k : Kept) → Stay s k
  as_said s k = record { fit = λ κs x f. Unit {0}; has = λ κs x f vs. left ((s.row κs).exit k) x f }

  -- of each of them
  abbrev pub all_said : (ss : List (Slot n)) (ks : Kepts ss) → Stays ss ks
  all_said ss ks = each as_said ss ks

  -- whatever the values are
  pub all_fit : (κs : Lfts n) (ss : List (Slot n)) (ks : Kepts ss) (a : Denots (types_at ss κs)) (ws : Fins κs ss ks a)
      → fits_of κs ss ks (all_said ss ks) a ws
  all_fit κs ss ks a ws = each_fits as_said κs (λ s k x w. tt) ss ks a ws

module _ {M : Type 1} {𝓤 : Ura M} (𝓛 : Logic 𝓤) (n : ℕ) where
  -- what is had so is what is said
  pub all_go : (ss : List (Slot n)) (ks : Kepts ss) → AllGo 𝓛 n ss ks (all_said ss ks)
  all_go [] ks = tt
  all_go (s ∷ ss) ks = (λ κs x f vs fits. 𝓛.laws.⇛_intro (sem 𝓛 (left ((s.row κs).exit ks.0) x f)), all_go ss ks.1)

-- ---- what is kept of them was never touched
-- something is kept of each
abbrev all_kept : {n : ℕ} (ss : List (Slot n)) → Kepts ss
all_kept [] = tt
all_kept (s ∷ ss) = (yes, all_kept ss)

module _ {M : Type 1} {𝓤 : Ura M} (𝓛 : Logic 𝓤) where
  -- A parameter that is still owned as it was passed: its last value, and that what is owned says it.
  pub record Untouched (R : RattleType) (x : R.Denot) (vs : List Val) : Type 1 where
    pub last : Last (R.exit yes) x
    pub said : ent 𝓤 (sem 𝓛 (R.own_val x vs)) (sem 𝓛 (left (R.exit yes) x last))

  -- each of them
  abbrev pub AllUntouched : (Rs : List RattleType) (a : Denots Rs) → Valss Rs → Type 1
  AllUntouched [] a vss = Unit {1}
  AllUntouched (R ∷ Rs) a vss = Untouched R a.0 vss.0 × AllUntouched Rs a.1 vss.1

  module _ {n : ℕ} (κs : Lfts n) where
    -- their last values
    abbrev pub lasts_of_slots : (ss : List (Slot n)) (a : Denots (types_at ss κs)) (vss : Valss (types_at ss κs)) → AllUntouched (types_at ss κs) a vss
        → Fins κs ss (all_kept ss) a
    lasts_of_slots [] a vss us = tt
    lasts_of_slots (s ∷ ss) a vss us = (us.0.last, lasts_of_slots ss a.1 vss.1 us.1)

    -- what is owned of all says what the contract says of them
    pub all_untouched : (ss : List (Slot n)) (a : Denots (types_at ss κs)) (vss : Valss (types_at ss κs)) (us : AllUntouched (types_at ss κs) a vss)
        → ent 𝓤 (sem 𝓛 (owns (types_at ss κs) a vss)) (sem 𝓛 (lasts_of κs ss (all_kept ss) a (lasts_of_slots ss a vss us)))
    all_untouched [] a vss us = id⊢ 𝓤 _
    all_untouched (s ∷ ss) a vss us = mono∗ 𝓤 us.0.said (all_untouched ss a.1 vss.1 us.1)

  module _ (ℓ : Lifetime) (κ : Lft) (S : RattleType) (x : MutBor (List S.Denot)) (vs : List Val) where
    -- what is owned of a lent table says that its last list is the one that it had
    pub table_said : ent 𝓤 (sem 𝓛 ((MutSlice ℓ κ S).own_val x vs))
        (sem 𝓛 (fsep (finally S x.ghost_name x.now) (feq ℕ (length x.now) (length x.now))))
    table_said =
        qed 𝓛 (‵ ((MutSlice ℓ κ S).own_val x vs) ∷ []) ∵
        use1 𝓛 (‵ (finally S x.ghost_name x.now)) (gives_up 𝓛 S ℓ κ x.ref_ptr.0 x.ref_ptr.1 x.ghost_name x.now vs) $
        feq_i ! ℕ (length x.now) (length x.now) refl $ move ! (1 ∷ 0 ∷ []) $ fjoin ! $ done !

    -- with the borrow that it was, closed: so it is as the contract has it at exit
    pub table_left : ent 𝓤 (sem 𝓛 ((MutSlice ℓ κ S).own_val x vs)) (sem 𝓛 (left ((MutSlice ℓ κ S).exit yes) x x.now))
    table_left =
        qed 𝓛 (‵ ((MutSlice ℓ κ S).own_val x vs) ∷ []) ∵ fsplit ! $ drop ! $ fsplit ! $
        use1 𝓛 (‵ (fres x.ghost_name ((coded_holeys S).code (heres S x.now)))) (𝓛.names.obs-res x.ghost_name ((coded_holeys S).code (heres S x.now))) $
        use1 𝓛 (‵ (finally S x.ghost_name x.now)) (res-finally 𝓛 ℓ κ S x.ghost_name x.now) $
        feq_i ! ℕ (length x.now) (length x.now) refl $ move ! (1 ∷ 0 ∷ []) $ fjoin ! $ fjoin ! $ done !

    -- so it is untouched
    abbrev pub table_untouched : Untouched (MutSlice ℓ κ S) x vs
    table_untouched = record { last = x.now; said = table_left }
