-- A table that is lent goes on to a call, and comes back. A lifetime is made for the call and ends after it. As `&mut` the table comes back with the
-- list that the call leaves, as `&` it comes back as it was.
-- Assumes `Logic`.
use mathlib.Core.Path.{◌≡◌, refl, sym, ap, subst, ◌∙◌}
use Prim.Native.Nat.{ℕ}
use mathlib.Core.List.{List, [], ◌∷◌}
use lib.ListN.{length}
use seplogic.Ra.Ura.{Ura}
use base.Fraction.{full_share, left, right}
use mir.Syntax.{Lifetime}
use mir.Val.{Val}
use base.Fml.{Lft, GName, Share, Fml, fsep, flft, fobs, fauth, flent, fobor, fres}
use base.Logic.{ent}
use types.Logic.{Logic, sem}
use contract.BorrowLft.{meet_⊑_left, meet_⊑_right}
use types.Kit.{Item, Goal, Soaks, Seq, Step, step, ‵, ◌⊛◌, some, later, ◌$◌, move, drop, use1, use3, split, pick, rewrite, fsplit, fjoin, feq_i}
use types.Kit.{await, qed, ◌∵◌, !, keep, join, use2, done}
use types.SemTy.{cells, Arr}
use types.Share.{arr_parts}
use types.Tokens.{lft_new, lft_end, lent_back}
use denote.RattleType.{RattleType}
use denote.Shadow.{pure_i}
use denote.Laws.{Is, shows}
use denote.Shares.{Shares}
use denote.Memory.{mem, shares}
use denote.Ref.{Bor, MutBor}
use denote.Slice.{slice_val, shr_slice_vals, mut_slice_vals, MutSlice, ShrSlice, Room, heres, finally, mut_slice_at, coded_holeys, res-finally}
use denote.Lend.{Held, lends_slice, slice_back, lends_shr_slice}
use denote.Steps.{peeks}
use denote.Index.{row, whole_out, whole_in, opens_slice, closes_slice}

-- the table that lies at (b, o), with a name and a list
abbrev pub table : (R : RattleType) → ℕ → ℕ → GName → List R.Denot → MutBor (List R.Denot)
table R b o δ l = record { ref_ptr = (b, o); ghost_name = δ; now = l }

-- and what a `&` to it shows: that has no name
abbrev pub shown : (R : RattleType) → ℕ → ℕ → List R.Denot → Bor (List R.Denot)
shown R b o l = record { ref_ptr = (b, o); now = l }

module _ (R : RattleType) (κ : Lft) (q : Share) (b o : ℕ) (γ : GName) (ys : List R.Denot) where
  -- the table is open: its slots lie apart
  abbrev Open : Fml
  Open = fsep (fobor κ q (Held R (length ys) b o γ)) (fsep (fobs γ ((coded_holeys R).code (heres R ys))) (fauth γ ((coded_holeys R).code (heres R ys))))

  -- what is kept while it is lent on for ν as `&mut`, with the name δ
  abbrev pub KeptMut : ℕ → GName → Fml
  KeptMut ν δ = fsep (flent (ν ∷ []) (Held R (length ys) b o δ)) Open

  module _ (vs : List Val) {M : Type 1} {𝓤 : Ura M} {𝓛 : Logic 𝓤} {K : Type 0} {Γ : List (Item 𝓤)} {G : Goal 𝓤 𝓛.H} where
    -- the table is opened
    pub opened : K → Soaks G → (ℓ : Lifetime) → (Is (MutSlice ℓ κ R) (table R b o γ ys) vs → Seq K 𝓛 (‵ (row R full_share ys b o) ∷ ‵ Open ∷ Γ) G)
        → Seq K 𝓛 (‵ (flft κ q) ∷ ‵ ((MutSlice ℓ κ R).own_val (table R b o γ ys) vs) ∷ Γ) G
    opened t z ℓ k =
        move t (1 ∷ []) $ peeks t (MutSlice ℓ κ R) (Is (MutSlice ℓ κ R)) (shows 𝓛 (MutSlice ℓ κ R)) (table R b o γ ys) vs (λ is.
        fsplit t $ drop t $ fsplit t $ opens_slice t z R ys b o $ move t (2 ∷ 3 ∷ []) $ fjoin t $ move t (2 ∷ 0 ∷ []) $ fjoin t $
        move t (1 ∷ 0 ∷ []) $ k is)

    -- it is closed, with a list of the same length
    pub closed : K → Soaks G → (ℓ : Lifetime) (zs : List R.Denot) → length zs ≡ length ys → Is (MutSlice ℓ κ R) (table R b o γ ys) vs
        → Step K 𝓛 (‵ (flft κ q) ∷ ‵ ((MutSlice ℓ κ R).own_val (table R b o γ zs) vs) ∷ Γ) G (‵ (row R full_share zs b o) ∷ ‵ Open ∷ Γ) G
    closed t z ℓ zs e is = step (λ s.
        move t (1 ∷ []) $ fsplit t $ move t (1 ∷ []) $ fsplit t $ move t (3 ∷ 2 ∷ 0 ∷ 1 ∷ []) $ closes_slice t z R ys zs e b o $ fjoin t $
        pure_i t (mut_slice_at R (table R b o γ zs) vs) (tt, (tt, tt))
        (is.0.0 ∙ ap (λ (n : ℕ). slice_val (b, o) n ∷ []) (sym e), subst (Room R) (sym e) is.0.1) $ fjoin t $ move t (1 ∷ 0 ∷ []) $ s)

    -- it is lent on as `&mut`
    pub lends_mut : K → Soaks G → (ℓ ℓ' : Lifetime)
        → (Is (MutSlice ℓ κ R) (table R b o γ ys) vs → (ν : ℕ)
        (δ : GName) → Seq K 𝓛 (‵ (flft (ν ∷ []) full_share) ∷ ‵ ((MutSlice ℓ' (ν ∷ []) R).own_val (table R b o δ ys) vs) ∷ ‵ (KeptMut ν δ) ∷ Γ) G)
        → Seq K 𝓛 (‵ (flft κ q) ∷ ‵ ((MutSlice ℓ κ R).own_val (table R b o γ ys) vs) ∷ Γ) G
    lends_mut t z ℓ ℓ' k =
        opened t z ℓ (λ is. use1 𝓛 (‵ (cells (mem R) ys b o)) (whole_in 𝓛 R ys b o) $ lft_new t z (λ ν. move t (1 ∷ []) $
        use1 𝓛 (later (some (λ (δ : GName). ‵ ((MutSlice ℓ' (ν ∷ []) R).own_val (table R b o δ ys) (mut_slice_vals (table R b o δ ys)))
        ⊛ ‵ (flent (ν ∷ []) (Held R (length ys) b o δ)))))
        (lends_slice 𝓛 R ℓ' (ν ∷ []) ys b o is.0.1) $ await t z $ pick t (λ δ. split t $
        rewrite t 0 (λ (us : List Val). ‵ ((MutSlice ℓ' (ν ∷ []) R).own_val (table R b o δ ys) us)) (sym is.0.0) refl $
        move t (1 ∷ 3 ∷ []) $ fjoin t $ move t (2 ∷ 1 ∷ []) $ k is ν δ)))

    -- it comes back with the last list
    pub mut_back : K → Soaks G → (ℓ : Lifetime) (ν : ℕ) (δ : GName) (zs : List R.Denot) → length zs ≡ length ys
        → Is (MutSlice ℓ κ R) (table R b o γ ys) vs
        → Step K 𝓛 (‵ (flft κ q) ∷ ‵ ((MutSlice ℓ κ R).own_val (table R b o γ zs) vs) ∷ Γ) G (‵ (flft (ν ∷ []) full_share) ∷ ‵ (finally R δ zs) ∷ ‵ (KeptMut ν δ) ∷ Γ) G
    mut_back t z ℓ ν δ zs e is = step (λ s.
        lft_end t z $ move t (2 ∷ []) $ fsplit t $ move t (2 ∷ 0 ∷ 3 ∷ []) $
        use3 𝓛 (later (‵ ((Arr (mem R) (length ys)).own_at zs b o))) (slice_back 𝓛 R (ν ∷ []) δ zs (length ys) b o) $ await t z $
        fsplit t $ drop t $ use1 𝓛 (‵ (row R full_share zs b o)) (whole_out 𝓛 R zs b o) $ closed t z ℓ zs e is $ s)

-- Lent on as `&`, the elements are shared out, by their type's own law. That takes a token of κ, which comes back at once: so half of κ's token stays free.
module _ (R : RattleType) (κ : Lft) (q : Share) (b o : ℕ) (γ : GName) (ys : List R.Denot) where
  -- what is kept while it is lent on for ν as `&`
  abbrev pub KeptShr : ℕ → Fml
  KeptShr ν = fsep (flent (ν ∷ []) ((arr_parts (shares R) (length ys)).part full_share ys b o)) (fsep (flft κ (right q)) (Open R κ (left q) b o γ ys))

  module _ (vs : List Val) {M : Type 1} {𝓤 : Ura M} {𝓛 : Logic 𝓤} {K : Type 0} {Γ : List (Item 𝓤)} {G : Goal 𝓤 𝓛.H} where
    -- it is lent on as `&`
    pub lends_shr : K → Soaks G → Shares 𝓛 R κ → (ℓ ℓ' : Lifetime)
        → (Is (MutSlice ℓ κ R) (table R b o γ ys) vs → (ν : ℕ)
        → Seq K 𝓛 (‵ (flft (ν ∷ []) full_share) ∷ ‵ ((ShrSlice ℓ' (ν ∷ []) R).own_val (shown R b o ys) vs) ∷ ‵ (KeptShr ν) ∷ Γ) G)
        → Seq K 𝓛 (‵ (flft κ q) ∷ ‵ ((MutSlice ℓ κ R).own_val (table R b o γ ys) vs) ∷ Γ) G
    lends_shr t z s ℓ ℓ' k =
        use1 𝓛 (‵ (flft κ (left q)) ⊛ ‵ (flft κ (right q))) (𝓛.lfts.lft_split κ q) $ split t $ move t (0 ∷ 2 ∷ 1 ∷ []) $
        opened R κ (left q) b o γ ys vs t z ℓ (λ is. feq_i t ℕ (length ys) (length ys) refl $ fjoin t $ lft_new t z (λ ν.
        -- [the token of ν; the elements; the open table; half a token of κ]
        move t (0 ∷ 3 ∷ []) $ join t $ move t (1 ∷ 0 ∷ []) $
        use2 𝓛 (later ((‵ ((ShrSlice ℓ' (ν ∷ []) R).own_val (shown R b o ys) (shr_slice_vals (shown R b o ys)))
        ⊛ ‵ (flent (ν ∷ []) ((arr_parts (shares R) (length ys)).part full_share ys b o))) ⊛ (‵ (flft (ν ∷ []) full_share) ⊛ ‵ (flft κ (right q)))))
        (lends_shr_slice 𝓛 R ℓ' (ν ∷ []) full_share ys b o is.0.1 κ s ((ν ∷ [], full_share) ∷ (κ, right q) ∷ [])
        (meet_⊑_right (ν ∷ []) κ) (meet_⊑_left (ν ∷ []) κ)) $ await t z $ split t $ split t $
        rewrite t 0 (λ (us : List Val). ‵ ((ShrSlice ℓ' (ν ∷ []) R).own_val (shown R b o ys) us)) (sym is.0.0) refl $
        move t (2 ∷ []) $ split t $
        -- [the token of ν; half a token of κ; the `&`; what it takes to have the elements back; the open table]
        move t (1 ∷ 4 ∷ []) $ fjoin t $ move t (3 ∷ 0 ∷ []) $ fjoin t $ move t (1 ∷ 2 ∷ 0 ∷ []) $ k is ν))

    -- it comes back as it was
    pub shr_back : K → Soaks G → (ℓ : Lifetime) (ν : ℕ) → Is (MutSlice ℓ κ R) (table R b o γ ys) vs
        → Step K 𝓛 (‵ (flft κ q) ∷ ‵ ((MutSlice ℓ κ R).own_val (table R b o γ ys) vs) ∷ Γ) G (‵ (flft (ν ∷ []) full_share) ∷ ‵ (KeptShr ν) ∷ Γ) G
    shr_back t z ℓ ν is = step (λ s. lft_end t z $ move t (1 ∷ []) $ fsplit t $ move t (2 ∷ 0 ∷ []) $ lent_back t z $ fsplit t $ drop t $
        move t (1 ∷ []) $ fsplit t $ move t (2 ∷ 1 ∷ []) $ closed R κ (left q) b o γ ys vs t z ℓ ys refl is $
        move t (0 ∷ 2 ∷ []) $ use2 𝓛 (‵ (flft κ q)) (𝓛.lfts.lft_join κ q) $ s)

-- a `&mut [T]` is given up for what says its last list
module _ {M : Type 1} {𝓤 : Ura M} (𝓛 : Logic 𝓤) (S : RattleType) where
  pub gives_up : (ℓ : Lifetime) (κ : Lft) (b o : ℕ) (γ : GName) (ys : List S.Denot) (vs : List Val)
      → ent 𝓤 (sem 𝓛 ((MutSlice ℓ κ S).own_val (record { ref_ptr = (b, o); ghost_name = γ; now = ys }) vs)) (sem 𝓛 (finally S γ ys))
  gives_up ℓ κ b o γ ys vs =
      qed 𝓛 (‵ ((MutSlice ℓ κ S).own_val (record { ref_ptr = (b, o); ghost_name = γ; now = ys }) vs) ∷ []) ∵ fsplit ! $ move ! (1 ∷ []) $ fsplit ! $
      use1 𝓛 (‵ (fres γ ((coded_holeys S).code (heres S ys)))) (𝓛.names.obs-res γ ((coded_holeys S).code (heres S ys))) $
      use1 𝓛 (‵ (finally S γ ys)) (res-finally 𝓛 ℓ κ S γ ys) $ keep ! (0 ∷ []) $ done !
