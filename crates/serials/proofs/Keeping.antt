-- One station keeps something else of a series: what that may be for W1, W3 and W5, and what it does to W2's count and values.
-- Assumes nothing.
use Prim.Native.Nat.{ℕ, ◌+◌, ◌≤◌, ◌<◌}
use native.Mathlib.Omega.{arith}
use mathlib.Core.Path.{◌≡◌, refl, sym, ap}
use mathlib.Core.Logic.{◌≢◌}
use Rattle.words.specs.Numbers.{station_count, greatest_sent}
use Rattle.copies.specs.declared.Kept.{Kept}
use Rattle.copies.specs.Tables.{Series, sent_count, received, undelivered, tokens}
use Rattle.copies.specs.Facts.{Stands, W1At, Agrees, W3At, W5At}
use Rattle.copies.proofs.Reflect.{Each}
use Rattle.copies.proofs.There.{there, there_same, there_other, there_cases}
use Rattle.copies.proofs.After.{keeping}
use Rattle.serials.proofs.Wholes.{WholeButTokens}
use Rattle.serials.proofs.Counting.{tokens_at, tokens_changed}

-- a series of which every station keeps a: what a rule says of it at station n, it says of a there
abbrev pub everywhere : Series → Kept → Series
everywhere r a = record { first = r.first; last = r.last; kept = λ n. a; received = r.received }

-- P of each station but n
abbrev pub Others : ℕ → (ℕ → Type 0) → Type 0
Others n P = (m : ℕ) → m < station_count → m ≢ n → P m

-- W1 of a station reads what it keeps, the bounds and what it has received
pub w1_reads : {first last : ℕ} {kept kept' : ℕ → Kept} {got got' : ℕ → ℕ → ℕ} {n : ℕ}
    → kept' n ≡ kept n → Each (λ m. got' n m ≤ greatest_sent)
    → W1At (record { first = first; last = last; kept = kept; received = got }) n
    → W1At (record { first = first; last = last; kept = kept'; received = got' }) n
w1_reads e receives w =
    record {
      copy_kind = rw e w.copy_kind;
      copy_value = rw e w.copy_value;
      sends = rw e w.sends;
      release_kind = rw e w.release_kind;
      receiver = rw e w.receiver;
      not_own = rw e w.not_own;
      has_sent = rw e w.has_sent;
      release_value = rw e w.release_value;
      receives = receives;
    }

-- W3 of a Release: while it stands, only its receiver has its number
abbrev pub Only : Series → ℕ → Kept → Type 0
Only r n a = Stands (everywhere r a) n → Each (λ m. received r m n ≡ a.sent → a.relto ≡ m)

-- Station n may keep a, for W1, W3 and W5: its sent count doesn't fall.
pub record MayKeep (r : Series) (n : ℕ) (a : Kept) : Type 0 where
  pub ranges : W1At (everywhere r a) n
  pub sends : sent_count r n ≤ a.sent
  pub only : Only r n a
  pub zero : W5At (everywhere r a) n

module _ (r : Series) (n : ℕ) (a : Kept) where
  -- what is shown of a at station n, and elsewhere of what was kept, is shown of what each keeps
  pub each_kept : (P : ℕ → Kept → Type 0) → Others n (λ m. P m (r.kept m)) → P n a → Each (λ m. P m (there n a r.kept m))
  each_kept P old new m hm = there_cases (P m) n a r.kept m (λ e. rw e new) (old m hm)

  -- W1
  w1_keeping : Each (W1At r) → W1At (everywhere r a) n → Each (W1At (keeping r n a))
  w1_keeping old new m hm =
      w1_reads refl (old m hm).receives
      (each_kept (λ j b. W1At (everywhere r b) j) (λ j hj _. w1_reads refl (old j hj).receives (old j hj)) new m hm)

  -- W3
  w3_keeping : n < station_count → Each (W3At r) → MayKeep r n a → Each (W3At (keeping r n a))
  w3_keeping hn old new m hm =
      let most : received r m n ≤ a.sent = omega (arith, (old m hm).at_most n hn, new.sends) in
      record {
        at_most = each_kept (λ j b. received r m j ≤ b.sent) (λ j hj _. (old m hm).at_most j hj) most;
        self = (old m hm).self;
        only = each_kept (Only r) (λ j hj _. (old j hj).only) new.only m hm;
      }

  -- all three rules
  pub keeping_rest : n < station_count → MayKeep r n a → WholeButTokens r → WholeButTokens (keeping r n a)
  keeping_rest hn new w =
      record {
        opens = w.opens;
        bounds = w.bounds;
        w1 = w1_keeping w.w1 new.ranges;
        w3 = w3_keeping hn w.w3 new;
        w5 = each_kept (λ m b. W5At (everywhere r b) m) (λ m hm _. w.w5 m hm) new.zero;
      }

  -- W2: where the others' tokens say v and those of a do, all do
  pub agree_keeping : {v : ℕ} → Others n (Agrees r v) → Agrees (everywhere r a) v n → Each (Agrees (keeping r n a) v)
  agree_keeping {v} = each_kept (λ m b. Agrees (everywhere r b) v m)

  -- what another station keeps and has under way stays
  keeping_others : Others n (λ m. (r.kept m ≡ (keeping r n a).kept m) × (undelivered r m ≡ undelivered (keeping r n a) m))
  keeping_others m hm ne =
      let stays = sym (there_other n a r.kept ne) in
      (stays, ap (λ (b : Kept). undelivered (everywhere r b) m) stays)

  -- W2: the count moves by what station n's tokens do
  pub tokens_keeping : n < station_count → (k : ℕ) → tokens (keeping r n a) k + tokens_at r k n ≡ tokens r k + tokens_at (everywhere r a) k n
  tokens_keeping hn k =
      let now = ap (λ (b : Kept). tokens_at (everywhere r b) k n) (there_same n a r.kept) in
      rw now at (tokens_changed r (keeping r n a) hn keeping_others k)
