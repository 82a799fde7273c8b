-- A station's copy changes, and its Release stays: what DEMOTE, DROP, PROMOTE and COMMIT share, and GRANT and OPEN with them.
-- Assumes nothing.
use Prim.Native.Nat.{ℕ, ◌+◌, ◌≤◌, ◌<◌}
use native.Mathlib.Omega.{arith}
use mathlib.Core.Path.{◌≡◌}
use Rattle.words.specs.Numbers.{station_count, exclusive}
use Rattle.copies.specs.declared.Kept.{Kept}
use Rattle.copies.specs.Tables.{Series, rel_value, tokens}
use Rattle.copies.specs.Facts.{Undelivered, InBounds, OneToken, Agrees}
use Rattle.copies.proofs.After.{keeping, with_copy}
use Rattle.serials.proofs.Wholes.{WholeAt, WholeButTokens, with_tokens}
use Rattle.serials.proofs.Counting.{is_kind, copy_at}
use Rattle.serials.proofs.Keeping.{Others, MayKeep, keeping_rest, agree_keeping, tokens_keeping}

module _ (r : Series) {n : ℕ} (hn : n < station_count) (k u : ℕ) where
  -- what station n keeps then: a copy of kind k and value u
  abbrev new : Kept
  new = with_copy (r.kept n) k u

  -- W2's count moves by the two kinds
  pub copy_tokens : (j : ℕ) → tokens (keeping r n new) j + copy_at r j n ≡ tokens r j + is_kind j k
  copy_tokens j = omega (arith, tokens_keeping r n new hn j)

  -- W1, W3 and W5 allow any kind and any value in bounds
  may_copy : k ≤ exclusive → InBounds r u → WholeButTokens r → MayKeep r n new
  may_copy hk hu w =
      let old = w.w1 n hn in
      record {
        ranges = record {
          copy_kind = hk;
          copy_value = hu;
          sends = old.sends;
          release_kind = old.release_kind;
          receiver = old.receiver;
          not_own = old.not_own;
          has_sent = old.has_sent;
          release_value = old.release_value;
          receives = old.receives;
        };
        sends = omega arith;
        only = (w.w3 n hn).only;
        zero = w.w5 n hn;
      }

  -- so what is left to show is W2: the count, and that the others' tokens, the copy and the station's transfer say v
  pub copy_whole : {v : ℕ} → k ≤ exclusive → InBounds r u → OneToken (keeping r n new)
      → Others n (Agrees r v) → ((k ≡ 0 → ⊥) → u ≡ v) → (Undelivered r n → rel_value r n ≡ v)
      → WholeButTokens r → WholeAt (keeping r n new) v
  copy_whole hk hu one others copy transfer w =
      with_tokens (keeping_rest r n new hn (may_copy hk hu w) w) one (agree_keeping r n new others (copy, transfer))
