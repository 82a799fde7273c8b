-- OPEN: a series that was zero has one exclusive copy, all values are its first number, and it is whole.
-- Assumes nothing.
use Prim.Native.Nat.{ℕ, ◌≤◌, ◌<◌}
use native.Mathlib.Omega.{arith}
use mathlib.Core.Path.{◌≡◌, refl, sym}
use mathlib.Core.Logic.{inl, ⊎_elim}
use Rattle.words.specs.Numbers.{station_count, greatest_serial, void, share, exclusive}
use Rattle.words.specs.Tests.{one_if}
use Rattle.copies.specs.Tables.{Series, tokens}
use Rattle.copies.specs.Facts.{Stands, W1At, W3At, ClosedWhole}
use Rattle.copies.proofs.Reflect.{Each}
use Rattle.copies.proofs.After.{with_copy, series_opened}
use Rattle.serials.proofs.Wholes.{WholeAt, WholeButTokens}
use Rattle.serials.proofs.Counting.{tokens_none}
use Rattle.serials.proofs.Copying.{copy_tokens, copy_whole}

-- a series with these bounds and no copy held, all values being the first number
abbrev bounded : Series → (first last : ℕ) → Series
bounded r first last =
    record { first = first; last = last; kept = λ n. with_copy (r.kept n) void first; received = r.received }

-- of a series that isn't open no Release stands
none_stands : {r : Series} {n : ℕ} → ClosedWhole r → n < station_count → Stands r n → ⊥
none_stands {r} {n} w hn stands = stands (w.zero n hn).release_kind

module _ (r : Series) (first last : ℕ) (w : ClosedWhole r) where
  -- W1
  bounded_w1 : first ≤ last → Each (W1At (bounded r first last))
  bounded_w1 in_order n hn =
      let old = w.zero n hn in
      record {
        copy_kind = omega arith;
        copy_value = (omega arith, omega (arith, in_order));
        sends = omega (arith, old.sends);
        release_kind = omega (arith, old.release_kind);
        receiver = omega (arith, old.receiver);
        not_own = λ stands. absurd (none_stands w hn stands);
        has_sent = λ stands. absurd (none_stands w hn stands);
        release_value = λ stands. absurd (none_stands w hn stands);
        receives = λ m hm. omega (arith, old.receives m hm);
      }

  -- W3
  bounded_w3 : Each (W3At (bounded r first last))
  bounded_w3 n hn =
      record {
        at_most = λ m hm. omega (arith, (w.zero n hn).receives m hm);
        self = (w.zero n hn).receives n hn;
        only = λ stands. absurd (none_stands w hn stands);
      }

  -- all rules but W2
  bounded_rest : 1 ≤ first → first ≤ last → last ≤ greatest_serial → WholeButTokens (bounded r first last)
  bounded_rest from_one in_order not_beyond =
      record {
        opens = λ z. omega (arith, z, from_one);
        bounds = (in_order, not_beyond);
        w1 = bounded_w1 in_order;
        w3 = bounded_w3;
        w5 = λ n hn _. ((w.zero n hn).receiver, (w.zero n hn).release_value);
      }

  -- it has no token
  bounded_tokens : (k : ℕ) → (k ≡ 0 → ⊥) → tokens (bounded r first last) k ≡ 0
  bounded_tokens k token = tokens_none _ k (⊎_elim (λ c. token (sym c.2)) (λ t. none_stands w t.1 t.2.0))

-- OPEN
pub open_whole : {r : Series} {first last n : ℕ} → n < station_count → 1 ≤ first → first ≤ last → last ≤ greatest_serial
    → ClosedWhole r → WholeAt (series_opened r first last n) first
unfolding one_if
open_whole {r} {first} {last} {n} hn from_one in_order not_beyond w =
    let none = bounded_tokens r first last w in
    let exclusives = copy_tokens (bounded r first last) hn exclusive first exclusive in
    let shares = copy_tokens (bounded r first last) hn exclusive first share in
    copy_whole (bounded r first last) hn exclusive first (omega arith) (omega arith, omega (arith, in_order))
    (inl (omega (arith, exclusives, none exclusive (λ z. omega (arith, z))), omega (arith, shares, none share (λ z. omega (arith, z)))))
    (λ m hm _. (λ _. refl, λ u. absurd (none_stands w hm u.0))) (λ _. refl) (λ u. absurd (none_stands w hn u.0))
    (bounded_rest r first last w from_one in_order not_beyond)
