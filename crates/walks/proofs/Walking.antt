-- Steps that the walks by hand share: a function is entered, a callee has answered, and a walk meets the contract by
-- what it has of the parameters at exit.
-- Definitions assume nothing. The steps assume `Logic`.
use Prim.Native.Nat.{ℕ, zero, suc, ◌+◌}
use mathlib.Core.Path.{◌≡◌, refl, sym, subst}
use mathlib.Core.Option.{some as there}
use mathlib.Core.List.{List, [], ◌∷◌, map}
use lib.Dec.{T as Holds}
use seplogic.Ra.Ura.{Ura}
use base.Fraction.{full_share}
use mir.Syntax.{Ty, Tys, ty_struct, ty_ref, Sym, Lifetime, Mutability, Local, local, Fn, Body, seq, assign, place, field, deref, copy, addr_of, aggregate, Rv as RightSide}
use mir.Fields.{get_v, set_v}
use mir.Val.{Val, Vals as Row, WT, has_ty, vstruct, vptr}
use base.Logic.{SProp, ent, sep, emp, via, id⊢, emp∗, mono_r}
use base.Fml.{Share, fat, froom, fdies}
use prog.Memory.{field_at}
use prog.Wp.{Heap, Env, Spot, Calls, Loops, Tables, WpFn, spot_of}
use types.Logic.{Logic, sem}
use contract.Monad.{fact}
use contract.Lifetimes.{Lfts, Shares, AllOutlive}
use sound.WpLaws.{WpFn-mono}
use types.Kit.{Item, ‵, raw, ◌⊛◌, some, later, mean, nth, put, Goal, prop, runs, allocs, params', passes, at_ret, Soaks, Seq, ◌$◌, ◌∵◌, !, qed}
use types.Kit.{Post, Step, step, move, use0, use1, split, join, pick, await, suffices, done}
use types.Part.{Part, agg, whole, sub, look_in}
use types.Run.{Walks as PlaceWalks, Reads, Writes, Opd, Rv, look, init, forget, stop, hop, fld, from, load, addr, and_then, no_more, assigns, enter, alloc1, alloc0, params1, pass1, pass0}
use denote.RattleType.{RattleType, Denots, Valss, flat}
use denote.Laws.{Is, Ises, Are, Spells, Tellss, valss, shows}
use denote.Signature.{Slot, type_at, types_at}
use denote.Slice.{slice_ty, slice_val}
use denote.Steps.{peeks, heard}
use denote.Exit.{Kept, Last}
use denote.Triple.Entry.{Args, alive, on_entry}
use denote.Triple.End.{Kepts, Fins}
use denote.Triple.Statement.{Contract}
use denote.Triple.Spec.{Meets, triple_of}
use denote.Triple.Clauses.{Clauses, Ended, Lasts, at_exit, lasts, ensured, closing}
use denote.Triple.Walked.{Stay, Stays, stay_dropped, fits_of, has_of, Silent, AllGo, Goes-dropped, walk_of, ends_at, walked, walk_Meets}
use Rattle.walks.proofs.Locals.{room, has, locals}

-- ---- positions of a context
-- n of them, from k on
abbrev pub places : ℕ → ℕ → List ℕ
places k zero = []
places k (suc n) = k ∷ places (suc k) n

-- place k of what stands behind the locals E
abbrev behind : List (Ty × ℕ) → ℕ → ℕ
behind [] k = k
behind (e ∷ E) k = behind E (suc (suc k))

module _ {M : Type 1} {𝓤 : Ura M} (𝓛 : Logic 𝓤) where
  open 𝓛 use {H}

  -- what stands there
  nth_behind : (E : Env 𝓤 H) (k : ℕ) (Γ : List (Item 𝓤)) → nth 𝓛 (behind E k) (locals 𝓛 E [] Γ) ≡ nth 𝓛 k Γ
  nth_behind [] k Γ = refl
  nth_behind (e ∷ E) k Γ = nth_behind E (suc (suc k)) (‵ (froom e.0 e.1 zero) ∷ ‵ (fdies e.0 e.1) ∷ Γ)

  -- another thing is put there
  put_behind : (E : Env 𝓤 H) (k : ℕ) (i : Item 𝓤) (Γ : List (Item 𝓤))
      → put 𝓛 (behind E k) i (locals 𝓛 E [] Γ) ≡ locals 𝓛 E [] (put 𝓛 k i Γ)
  put_behind [] k i Γ = refl
  put_behind (e ∷ E) k i Γ = put_behind E (suc (suc k)) i (‵ (froom e.0 e.1 zero) ∷ ‵ (fdies e.0 e.1) ∷ Γ)

-- ---- a function is entered
-- a block for each local
abbrev pub Blocks : List Local → Type 0
Blocks [] = Unit {0}
Blocks (l ∷ ls) = ℕ × Blocks ls

-- the locals' types, each with its block
abbrev pub env : (ls : List Local) → Blocks ls → List (Ty × ℕ)
env [] bs = []
env (local τ h ∷ ls) bs = (τ, bs.0) ∷ env ls bs.1

-- a value is of a type, and of the machine
abbrev pub Fits : Ty → Val → Type 0
Fits τ v = Holds (has_ty τ v) × WT v

-- the values are of the types of the first locals
abbrev AllFit : List Local → List Val → Type 0
AllFit ls [] = Unit {0}
AllFit [] (v ∷ vs) = ⊥
AllFit (local τ h ∷ ls) (v ∷ vs) = Fits τ v × AllFit ls vs

-- the arguments are of the types of the parameters, the locals after the result
abbrev pub ArgsFit : List Local → List Val → Type 0
ArgsFit [] vs = ⊥
ArgsFit (l ∷ ls) vs = AllFit ls vs

-- the cell of local i, with the value v
abbrev pub Cell : {M : Type 1} (𝓤 : Ura M) (H : Heap 𝓤) → Env 𝓤 H → ℕ → Share → Val → Item 𝓤
Cell 𝓤 H E i q v = ‵ (fat q (spot_of 𝓤 H E i).0 (spot_of 𝓤 H E i).1 zero v)

-- the same while it is empty
abbrev pub Room : {M : Type 1} (𝓤 : Ura M) (H : Heap 𝓤) → Env 𝓤 H → ℕ → Item 𝓤
Room 𝓤 H E i = ‵ (froom (spot_of 𝓤 H E i).0 (spot_of 𝓤 H E i).1 zero)

module _ {M : Type 1} {𝓤 : Ura M} {𝓛 : Logic 𝓤} {K : Type 0} where
  open 𝓛 use {H}

  -- one argument is stored, behind the room for the later locals
  stores : K → (E : Env 𝓤 H) (τ : Ty) (b : ℕ) (v : Val) (Γ : List (Item 𝓤)) → Fits τ v
      → Writes K 𝓛 (locals 𝓛 E [] (‵ (froom τ b zero) ∷ Γ)) τ b zero v (locals 𝓛 E [] (‵ (fat full_share τ b zero v) ∷ Γ))
  stores t E τ b v Γ wt =
      subst (λ (Δ : List (Item 𝓤)). Writes K 𝓛 (locals 𝓛 E [] (‵ (froom τ b zero) ∷ Γ)) τ b zero v Δ)
      (put_behind 𝓛 E zero (‵ (fat full_share τ b zero v)) (‵ (froom τ b zero) ∷ Γ))
      (init t (behind E zero) (nth_behind 𝓛 E zero (‵ (froom τ b zero) ∷ Γ)) wt)

  -- all arguments are stored
  stored : K → (ls : List Local) (bs : Blocks ls) (vs : List Val) (Γ : List (Item 𝓤)) (g : Goal 𝓤 H) → AllFit ls vs
      → Seq K 𝓛 (locals 𝓛 (env ls bs) (map has vs) Γ) g → Seq K 𝓛 (locals 𝓛 (env ls bs) [] Γ) (passes (env ls bs) vs g)
  stored t ls bs [] Γ g fits s = pass0 t $ s
  stored t [] bs (v ∷ vs) Γ g fits s = absurd fits
  stored t (local τ h ∷ ls) bs (v ∷ vs) Γ g fits s =
      pass1 t (stores t (env ls bs.1) τ bs.0 v (‵ (fdies τ bs.0) ∷ Γ) fits.0) $
      stored t ls bs.1 vs (‵ (fat full_share τ bs.0 zero v) ∷ ‵ (fdies τ bs.0) ∷ Γ) g fits.1 s

  -- all locals are allocated
  allocated : K → (ls : List Local) (G : Env 𝓤 H → Goal 𝓤 H) (Γ : List (Item 𝓤))
      → ((bs : Blocks ls) → Seq K 𝓛 (locals 𝓛 (env ls bs) [] Γ) (G (env ls bs))) → Seq K 𝓛 Γ (allocs ls G)
  allocated t [] G Γ k = alloc0 t $ k tt
  allocated t (local τ h ∷ ls) G Γ k = alloc1 t (λ b. allocated t ls (λ E. G ((τ, b) ∷ E)) (‵ (froom τ b zero) ∷ ‵ (fdies τ b) ∷ Γ) (λ bs. k (b, bs)))

  -- the one and then the other
  at_entry : K → (ls : List Local) (vs : List Val) (G : Env 𝓤 H → Goal 𝓤 H) (Γ : List (Item 𝓤)) → ArgsFit ls vs
      → ((bs : Blocks ls) → Seq K 𝓛 (locals 𝓛 (env ls bs) (room ∷ map has vs) Γ) (G (env ls bs))) → Seq K 𝓛 Γ (allocs ls (λ E. params' E vs (G E)))
  at_entry t [] vs G Γ fits k = absurd fits
  at_entry t (local τ h ∷ ls) vs G Γ fits k =
      allocated t (local τ h ∷ ls) (λ E. params' E vs (G E)) Γ
      (λ bs. params1 t $ stored t ls bs.1 vs (‵ (froom τ bs.0 zero) ∷ ‵ (fdies τ bs.0) ∷ Γ) (G (env (local τ h ∷ ls) bs)) fits (k bs))

  -- a function runs from there, with room for its result
  pub enters : {Γ : List (Item 𝓤)} → K → (C : Calls 𝓤 H) (Λ : Loops 𝓤 H) (f : Fn) (vs : List Val) (P : Val → SProp 𝓤) → ArgsFit f.locals vs
      → ((bs : Blocks f.locals) → Seq K 𝓛 (locals 𝓛 (env f.locals bs) (room ∷ map has vs) Γ)
      (runs C Λ (env f.locals bs) f.body (at_ret (env f.locals bs) P)))
      → Seq K 𝓛 Γ (prop (WpFn 𝓤 H C Λ f vs P))
  enters {Γ} t C Λ f vs P fits k = enter t C Λ f vs P $ at_entry t f.locals vs (λ E. runs C Λ E f.body (at_ret E P)) Γ fits k

  -- an operand is a local, whose cell stands at place n
  pub cell : {Γ : List (Item 𝓤)} {E : Env 𝓤 H} → K → (n : ℕ) {i : ℕ} {q : Share} {v : Val} → nth 𝓛 n Γ ≡ Cell 𝓤 H E i q v
      → Opd K 𝓛 Γ E (copy (place i [])) v
  cell t n e = load t (from t (stop t)) (look t n e)

  -- field k of the struct whose cell stands at place n
  field_at_lem : {Γ : List (Item 𝓤)} {q : Share} {ν : Sym} {τs : Tys} {b : ℕ} {vs : Row} {τ : Ty} {d : ℕ} → K → (n k : ℕ)
      → nth 𝓛 n Γ ≡ ‵ (fat q (ty_struct ν τs) b zero (vstruct vs)) → field_at zero τs k ≡ there (τ, d) → Reads K 𝓛 Γ τ b (zero + d) (get_v vs k)
  field_at_lem {Γ} {q} {ν} {τs} {b} {vs} {τ} {d} t n k e f =
      let back : Val → Item 𝓤 = λ u. ‵ (fat q (ty_struct ν τs) b zero (vstruct (set_v vs k u))) in
      look_in t n (subst (λ (j : Item 𝓤). Part K 𝓛 j q τ b (zero + d) (get_v vs k) back) (sym e) (sub t k f (whole t)))

  -- as an operand
  pub field_cell : {Γ : List (Item 𝓤)} {E : Env 𝓤 H} {i k : ℕ} {q : Share} {ν : Sym} {τs : Tys} {b : ℕ} {vs : Row} {τ : Ty} {d : ℕ} → K → (n : ℕ)
      → spot_of 𝓤 H E i ≡ (ty_struct ν τs, b, zero) → nth 𝓛 n Γ ≡ ‵ (fat q (ty_struct ν τs) b zero (vstruct vs)) → field_at zero τs k ≡ there (τ, d)
      → Opd K 𝓛 Γ E (copy (place i (field k ∷ []))) (get_v vs k)
  field_cell {Γ} {E} {i} {k} {q} {ν} {τs} {b} {vs} {τ} {d} t n is e f =
      load t (from t (subst (λ (sp : Spot 𝓤 H). PlaceWalks K 𝓛 Γ E sp (field k ∷ []) (τ, b, zero + d)) (sym is) (fld t f (stop t)))) (field_at_lem t n k e f)

-- ---- a lent table is lent on
-- the two words of a table, in a local at l
abbrev Lender : {M : Type 1} (𝓤 : Ura M) → Share → Lifetime → Mutability → Ty → (l b o n : ℕ) → Item 𝓤
Lender 𝓤 q ℓ m τ l b o n = ‵ (fat q (slice_ty (ty_ref ℓ m τ)) l zero (slice_val (b, o) n))

module _ {M : Type 1} {𝓤 : Ura M} (𝓛 : Logic 𝓤) (Γ : List (Item 𝓤)) (E : Env 𝓤 𝓛.H) (y j b o : ℕ) where
  open 𝓛 use {H}

  -- local y, at place j, holds the pointer for a moment
  abbrev Pointed : List (Item 𝓤)
  Pointed = put 𝓛 j (Cell 𝓤 H E y full_share (vptr b o)) Γ

  -- and then local z, at place k, both words
  abbrev LentOn : (z k n : ℕ) → List (Item 𝓤)
  LentOn z k n = put 𝓛 k (Cell 𝓤 H E z full_share (slice_val (b, o) n)) Pointed

module _ {M : Type 1} {𝓤 : Ura M} {𝓛 : Logic 𝓤} {K : Type 0} {Γ : List (Item 𝓤)} {E : Env 𝓤 𝓛.H} {C : Calls 𝓤 𝓛.H}
    {Λ : Loops 𝓤 𝓛.H} {p : Post 𝓤 𝓛.H} {rest : Body} {x y z : ℕ} {q : Share} {ℓ : Lifetime} {m : Mutability} {τ σ : Ty} {l b o n : ℕ} where
  open 𝓛 use {H}

  -- of local x, at place i, through local y into local z
  pub lends_on : K → (i j k : ℕ) → spot_of 𝓤 H E x ≡ (slice_ty (ty_ref ℓ m τ), l, zero) → nth 𝓛 i Γ ≡ Lender 𝓤 q ℓ m τ l b o n
      → nth 𝓛 j Γ ≡ Room 𝓤 H E y → Fits (spot_of 𝓤 H E y).0 (vptr b o)
      → nth 𝓛 i (Pointed 𝓛 Γ E y j b o) ≡ Lender 𝓤 q ℓ m τ l b o n
      → nth 𝓛 j (Pointed 𝓛 Γ E y j b o) ≡ Cell 𝓤 H E y full_share (vptr b o)
      → nth 𝓛 k (Pointed 𝓛 Γ E y j b o) ≡ Room 𝓤 H E z → Fits (spot_of 𝓤 H E z).0 (slice_val (b, o) n)
      → nth 𝓛 j (LentOn 𝓛 Γ E y j b o z k n) ≡ Cell 𝓤 H E y full_share (vptr b o)
      → Step K 𝓛 (put 𝓛 j (Room 𝓤 H E y) (LentOn 𝓛 Γ E y j b o z k n)) (runs C Λ E rest p)
      Γ (runs C Λ E (seq (assign (place y []) (addr_of (place x (field 0 ∷ deref σ ∷ []))))
      (seq (assign (place z []) (aggregate (copy (place y []) ∷ copy (place x (field 1 ∷ [])) ∷ []))) rest)) p)
  lends_on t i j k is at_i at_j by at_i' at_j' at_k to at_j'' =
      step (λ s.
      assigns t (addr t (from t (subst (λ (sp : Spot 𝓤 H). PlaceWalks K 𝓛 Γ E sp (field 0 ∷ deref σ ∷ []) (σ, b, o)) (sym is)
      (fld t refl (hop t (field_at_lem t i 0 at_i refl) (stop t)))))) (from t (stop t)) (init t j at_j by) $
      assigns t (agg t (and_then t (cell t j at_j') (and_then t (field_cell t i is at_i' refl) (no_more t)))) (from t (stop t)) (init t k at_k to) $
      forget t j at_j'' $ s)

-- the value of a right side may be written another way: what a walk reads there is only its value
pub gives : {M : Type 1} {𝓤 : Ura M} {𝓛 : Logic 𝓤} {K : Type 0} {Γ : List (Item 𝓤)} {E : Env 𝓤 𝓛.H} {rv : RightSide} {v u : Val}
    → K → v ≡ u → Rv K 𝓛 Γ E rv v → Rv K 𝓛 Γ E rv u
gives {𝓛 = 𝓛} {K = K} {Γ = Γ} {E = E} {rv = rv} t e r = subst (λ (w : Val). Rv K 𝓛 Γ E rv w) e r

-- ---- a callee has answered
module _ {M : Type 1} {𝓤 : Ura M} (𝓛 : Logic 𝓤) (T : Ended) (c : Clauses 𝓤 T) where
  open 𝓛 use {H}

  -- a contract by its clauses
  abbrev pub Asked : Contract 𝓤
  Asked = triple_of 𝓛 T.signature (closing 𝓛 T c)

  module _ (y : Asked.Ghost) where
    -- the lifetimes
    abbrev κs : Lfts T.signature.lifetimes
    κs = y.0.0

    -- what it was passed
    abbrev a : Args T.signature κs
    a = y.0.3

    -- the result's type
    abbrev pub Result : RattleType
    Result = type_at T.signature.result κs

    -- the tokens, which it gives back
    abbrev pub Tokens : Item 𝓤
    Tokens = raw (alive 𝓛 T.signature κs y.0.1)

    -- what its `ensures` says of its result and of the last values
    abbrev pub Said : Result.Denot → Lasts T κs a → SProp 𝓤
    Said r ws = (c κs a).ensures y.1 r (at_exit T κs a ws)

    -- where that is a fact, it is learned: the result is there, the tokens, and what says the last values
    pub answers : (v : Val) {K : Type 0} {Γ : List (Item 𝓤)} {G : Goal 𝓤 H} → K → Soaks G
        → (φ : Result.Denot → Lasts T κs a → Type 0)
        → ((r : Result.Denot) (ws : Lasts T κs a) → ent 𝓤 (Said r ws) (fact 𝓤 (φ r ws)))
        → ((r : Result.Denot) (ws : Lasts T κs a) → φ r ws → Is Result r (v ∷ []) → Seq K 𝓛 (‵ (Result.own_val r (v ∷ [])) ∷ Tokens ∷ ‵ (lasts T κs a ws) ∷ Γ) G)
        → Seq K 𝓛 (raw (Asked.post y v) ∷ Γ) G
    answers v t z φ said k =
        use1 𝓛 (later (some (λ (r : Result.Denot). (Tokens ⊛ ‵ (Result.own_val r (v ∷ []))) ⊛ raw (ensured 𝓛 T c κs a y.1 r)))) (id⊢ 𝓤 _) $
        await t z $ pick t (λ r. split t $ move t (1 ∷ []) $
        use1 𝓛 (some (λ (ws : Lasts T κs a). ‵ (lasts T κs a ws) ⊛ raw (Said r ws))) (id⊢ 𝓤 _) $ pick t (λ ws. split t $ move t (1 ∷ []) $
        use1 𝓛 (raw (fact 𝓤 (φ r ws))) (said r ws) $ heard t (φ r ws) (λ e. move t (1 ∷ []) $ split t $ move t (1 ∷ []) $
        peeks t Result (Is Result) (shows 𝓛 Result) r (v ∷ []) (k r ws e))))

-- ---- what is had of the parameters at exit
module _ {n : ℕ} (h : (s : Slot n) (k : Kept) → Stay s k) where
  -- of each the same
  abbrev pub each : (ss : List (Slot n)) (ks : Kepts ss) → Stays ss ks
  each [] ks = tt
  each (s ∷ ss) ks = (h s ks.0, each ss ks.1)

  -- where nothing is owed of one, nothing is owed of all
  pub each_fits : (κs : Lfts n) → ((s : Slot n) (k : Kept) (x : (s.row κs).Denot) (w : Last ((s.row κs).exit k) x) → (h s k).fit κs x w)
      → (ss : List (Slot n)) (ks : Kepts ss) (a : Denots (types_at ss κs)) (ws : Fins κs ss ks a) → fits_of κs ss ks (each ss ks) a ws
  each_fits ls f [] ks a ws = tt
  each_fits ls f (s ∷ ss) ks a ws = (f s ks.0 a.0 ws.0, each_fits ls f ss ks.1 a.1 ws.1)

-- ---- a walk meets the contract
module _ (T : Ended) where
  -- the types of the parameters
  abbrev pub Types : Lfts T.signature.lifetimes → List RattleType
  Types κs = types_at T.signature.params κs

  -- the machine values passed, as sp spells them
  abbrev pub passed : ((κs : Lfts T.signature.lifetimes) → Spells (Types κs)) → (κs : Lfts T.signature.lifetimes) → Args T.signature κs
      → Valss (Types κs)
  passed sp κs a = valss (Types κs) (sp κs) a

module _ {M : Type 1} {𝓤 : Ura M} (𝓛 : Logic 𝓤) (T : Ended) (hs : Stays T.signature.params T.kept)
    (c : Clauses 𝓤 T)
    (f : Fn) (𝓣 : Tables 𝓤 𝓛.H) (sp : (κs : Lfts T.signature.lifetimes) → Spells (Types T κs)) where
  open 𝓛 use {H}

  -- at whatever the function is passed, where what is had of the parameters at exit is hs
  pub walk_met : AllGo 𝓛 T.signature.lifetimes T.signature.params T.kept hs
      → ((κs : Lfts T.signature.lifetimes) → Tellss (Types T κs) (Ises (Types T κs)) (sp κs))
      → ((κs : Lfts T.signature.lifetimes) (qs : Shares T.signature.lifetimes)
      (bounds : AllOutlive T.signature.lifetimes T.signature.outlives κs)
      (a : Args T.signature κs) (g : (c κs a).ghost) → Are (Types T κs) (Ises (Types T κs)) a (passed T sp κs a)
      → ent 𝓤 (sep 𝓤 (on_entry 𝓛 T.signature κs qs a (passed T sp κs a)) ((c κs a).requires g))
      (WpFn 𝓤 H 𝓣.C 𝓣.Λ f (flat (Types T κs) (passed T sp κs a)) ((walk_of 𝓛 T hs c).post ((κs, qs, bounds, a, passed T sp κs a), g))))
      → Meets 𝓛 T.signature (WpFn 𝓤 H 𝓣.C 𝓣.Λ f) (closing 𝓛 T c)
  walk_met gs tells walk =
      let run = WpFn 𝓤 H 𝓣.C 𝓣.Λ f in
      walk_Meets 𝓛 T hs gs c run (WpFn-mono 𝓤 H 𝓛.laws 𝓣 f) (walked 𝓛 T hs c run sp tells walk)

-- ---- nothing is kept of the parameters
-- of each at exit nothing is had
abbrev pub dropped : {n : ℕ} (ss : List (Slot n)) (ks : Kepts ss) → Stays ss ks
dropped ss ks = each stay_dropped ss ks

-- and nothing is owed
pub dropped_fit : {n : ℕ} (κs : Lfts n) (ss : List (Slot n)) (ks : Kepts ss) (a : Denots (types_at ss κs)) (ws : Fins κs ss ks a)
    → fits_of κs ss ks (dropped ss ks) a ws
dropped_fit κs ss ks a ws = each_fits stay_dropped κs (λ s k x w. tt) ss ks a ws

module _ {M : Type 1} {𝓤 : Ura M} (𝓛 : Logic 𝓤) {n : ℕ} where
  -- so nothing can be said of any
  abbrev pub AllSilent : (ss : List (Slot n)) → Kepts ss → Type 1
  AllSilent [] ks = Unit {1}
  AllSilent (s ∷ ss) ks = Silent 𝓛 n s ks.0 × AllSilent ss ks.1

  -- where nothing is, that is enough
  pub dropped_go : (ss : List (Slot n)) (ks : Kepts ss) → AllSilent ss ks → AllGo 𝓛 n ss ks (dropped ss ks)
  dropped_go [] ks qs = tt
  dropped_go (s ∷ ss) ks qs = (Goes-dropped 𝓛 n s ks.0 qs.0, dropped_go ss ks.1 qs.1)

  -- what is had is had for nothing
  pub none_had : (κs : Lfts n) (ss : List (Slot n)) (ks : Kepts ss) (a : Denots (types_at ss κs)) (ws : Fins κs ss ks a) (vss : Valss (types_at ss κs))
      → ent 𝓤 (emp 𝓤) (sem 𝓛 (has_of κs ss ks (dropped ss ks) a ws vss))
  none_had ls [] ks a ws vss = id⊢ 𝓤 (emp 𝓤)
  none_had ls (s ∷ ss) ks a ws vss = via 𝓤 _ (emp∗ 𝓤 (emp 𝓤)) (mono_r 𝓤 (emp 𝓤) (none_had ls ss ks.1 a.1 ws.1 vss.1))

module _ {M : Type 1} {𝓤 : Ura M} (𝓛 : Logic 𝓤) (T : Ended) (c : Clauses 𝓤 T) where
  -- what is to hold of the value returned, where nothing is kept
  abbrev pub Returned : (Asked 𝓛 T c).Ghost → Val → SProp 𝓤
  Returned = (walk_of 𝓛 T (dropped T.signature.params T.kept) c).post

  -- so a walk ends with its tokens and the result
  pub returned : (y : (Asked 𝓛 T c).Ghost) (r : (Result 𝓛 T c y).Denot) (ws : Lasts T y.0.0 y.0.3) (v : Val)
      → ent 𝓤 (emp 𝓤) (Said 𝓛 T c y r ws)
      → ent 𝓤 (sep 𝓤 (mean 𝓛 (Tokens 𝓛 T c y)) (sem 𝓛 ((Result 𝓛 T c y).own_val r (v ∷ [])))) (Returned y v)
  returned y r ws v said =
      let ss = T.signature.params in
      let had = none_had 𝓛 y.0.0 ss T.kept y.0.3 ws y.0.4 in
      qed 𝓛 (Tokens 𝓛 T c y ∷ ‵ ((Result 𝓛 T c y).own_val r (v ∷ [])) ∷ []) ∵
      suffices ! _ (ends_at 𝓛 T (dropped ss T.kept) c y v r ws (dropped_fit y.0.0 ss T.kept y.0.3 ws)) $
      move ! (1 ∷ []) $ use0 𝓛 (‵ (has_of y.0.0 ss T.kept (dropped ss T.kept) y.0.3 ws y.0.4)) had $ join ! $ move ! (1 ∷ 0 ∷ []) $
      join ! $
      use0 𝓛 (raw (Said 𝓛 T c y r ws)) said $ move ! (1 ∷ 0 ∷ []) $ done !
