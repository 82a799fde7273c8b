-- An open series that is whole, with its next number: what every law of a copy's or a transfer's change starts from and ends in.
-- Assumes nothing.
use Prim.Native.Nat.{ℕ}
use native.Mathlib.Omega.{arith}
use mathlib.Core.Path.{◌≡◌, sym, ◌∙◌}
use mathlib.Core.Logic.{inl, inr, ⊎_elim}
use Rattle.words.specs.Numbers.{share, exclusive}
use Rattle.copies.specs.Tables.{Series, next}
use Rattle.copies.specs.Facts.{Open, W1At, OneToken, Agrees, W3At, W5At, OpenWhole}
use Rattle.copies.proofs.Same.{Same, same_back}
use Rattle.copies.proofs.Reflect.{Each, Bounds}
use Rattle.copies.proofs.Tokens.{next_is, TokenOf, tokens_some}
use Rattle.copies.proofs.Agree.{next_same, whole_same}
use Rattle.serials.specs.Serials.{SomeToken, IsNext}

-- Series r is open and whole (W1 to W3, W5), and v is its next number.
pub record WholeAt (r : Series) (v : ℕ) : Type 0 where
  pub opens : Open r
  pub rules : OpenWhole r
  pub is_next : next r ≡ v

-- ---- what it says of the tokens
-- a token of a kind that isn't void is a copy held or a transfer undelivered
kind_token : (r : Series) (k : ℕ) → (k ≡ 0 → ⊥) → TokenOf r k → SomeToken r
kind_token r k o = ⊎_elim (λ c. inl (c.0, c.1, λ z. o (sym c.2 ∙ z))) (λ t. inr (t.0, t.1, t.2))

-- there is a token
pub some_token : {r : Series} {v : ℕ} → WholeAt r v → SomeToken r
some_token {r} w =
    ⊎_elim (λ e. kind_token r exclusive (λ z. omega arith) (tokens_some r exclusive (omega arith)))
    (λ e. kind_token r share (λ z. omega arith) (tokens_some r share e.1))
    w.rules.token

-- every copy held and every transfer undelivered says v
pub all_agree : {r : Series} {v : ℕ} → WholeAt r v → Each (Agrees r v)
all_agree w = rw w.is_next at w.rules.agree

-- so v is the next number
pub is_next_lem : {r : Series} {v : ℕ} → WholeAt r v → IsNext r v
is_next_lem w =
    record { of_copies = λ n hn. (all_agree w n hn).0; of_transfers = λ n hn. (all_agree w n hn).1; is_said = some_token w }

-- ---- the other rules
-- An open series that keeps W1, W3 and W5: whole, but for its tokens.
pub record WholeButTokens (r : Series) : Type 0 where
  pub opens : Open r
  pub bounds : Bounds r
  pub w1 : Each (W1At r)
  pub w3 : Each (W3At r)
  pub w5 : Each (W5At r)

-- a whole series keeps them
pub but_tokens : {r : Series} {v : ℕ} → WholeAt r v → WholeButTokens r
but_tokens w =
    record { opens = w.opens; bounds = w.rules.bounds; w1 = w.rules.w1; w3 = w.rules.w3; w5 = w.rules.w5 }

-- and a series that does is whole where W2 counts its tokens right and all say v
pub with_tokens : {r : Series} {v : ℕ} → WholeButTokens r → OneToken r → Each (Agrees r v) → WholeAt r v
with_tokens {r} {v} w one all =
    let is : next r ≡ v = next_is r v one all in
    record {
      opens = w.opens;
      rules = record { bounds = w.bounds; w1 = w.w1; token = one; agree = rw is all; w3 = w.w3; w5 = w.w5 };
      is_next = is;
    }

-- ---- the same series in all that the rules read
pub same_whole_at : {a b : Series} {v : ℕ} → Same a b → WholeAt b v → WholeAt a v
same_whole_at {a} {b} s w =
    let back = same_back a b s in
    let opens : Open a = λ z. w.opens (sym s.first ∙ z) in
    record {
      opens = opens;
      rules = (whole_same b a back (λ _. w.rules, λ z. absurd (w.opens z))).0 opens;
      is_next = next_same b a back w.rules.token w.rules.agree ∙ w.is_next;
    }
