-- What an operation on one series leaves of the layer's tables, and one law for all that change what one station keeps.
-- Assumes nothing.
use Prim.Native.Nat.{ℕ, ◌<◌}
use native.Mathlib.Omega.{arith}
use mathlib.Core.Path.{◌≡◌, refl, ap, ◌∙◌}
use mathlib.Core.Logic.{◌≢◌}
use mathlib.Core.List.{List}
use lib.Dec.{eqb}
use lib.ListN.{get_or, set}
use lib.Seq.{get_or-set_same, get_or-set_other}
use Rattle.words.specs.Numbers.{station_count, series_count, place_count, received_count}
use Rattle.copies.specs.declared.Kept.{Kept}
use Rattle.copies.specs.Tables.{Copies, tables, Series, series_at, kept_at, place, short_copies, is_up}
use Rattle.copies.proofs.There.{there, there_cases}
use Rattle.copies.proofs.Same.{Same}
use Rattle.copies.proofs.Long.{Long, long, long_short}
use Rattle.copies.proofs.Received.{Receives}
use Rattle.copies.proofs.Stores.{place_same, OnlyBelow, only_none, only_set}

-- From t to t': columns as long as before, and changed at most within their stated sizes.
pub record OnlyStated (t t' : Copies) : Type 0 where
  pub firsts : OnlyBelow series_count t.firsts t'.firsts
  pub lasts : OnlyBelow series_count t.lasts t'.lasts
  pub kinds : OnlyBelow place_count t.kinds t'.kinds
  pub values : OnlyBelow place_count t.values t'.values
  pub sent : OnlyBelow place_count t.sent t'.sent
  pub rel_to : OnlyBelow place_count t.rel_to t'.rel_to
  pub rel_kind : OnlyBelow place_count t.rel_kind t'.rel_kind
  pub rel_value : OnlyBelow place_count t.rel_value t'.rel_value
  pub received : OnlyBelow received_count t.received t'.received
  pub up : OnlyBelow station_count t.up t'.up

-- From t to t': series s is as r says; all other series, the stations' marks and what stands past the stated sizes are as they were.
pub record Leaves (t t' : Copies) (s : ℕ) (r : Series) : Type 0 where
  pub here : Same (series_at t' s) r
  pub elsewhere : (i : ℕ) → i ≢ s → Same (series_at t' i) (series_at t i)
  pub up : t'.up ≡ t.up
  pub only : OnlyStated t t'

-- ---- what follows
-- refusal 1 is given of the tables afterwards where it was given before
pub only_short : {t t' : Copies} → OnlyStated t t' → short_copies t' ≡ short_copies t
unfolding short_copies
only_short o =
    rw (
      o.firsts.same_length,
      o.lasts.same_length,
      o.kinds.same_length,
      o.values.same_length,
      o.sent.same_length,
      o.rel_to.same_length,
      o.rel_kind.same_length,
      o.rel_value.same_length,
      o.received.same_length,
      o.up.same_length,
    )

-- so the tables stay long enough
pub only_long : {t t' : Copies} → OnlyStated t t' → Long t → Long t'
only_long o h = long (only_short o ∙ long_short h)

-- the stations that were up are up
pub leaves_up : {t t' : Copies} {s : ℕ} {r : Series} → Leaves t t' s r → (n : ℕ) → is_up t' n ≡ is_up t n
leaves_up e n = ap (λ (l : List ℕ). eqb (get_or l n 0) 1) e.up

-- ---- what one station keeps
-- the tables in which station n keeps a of series s, and with other received numbers
abbrev pub put : Copies → ℕ → ℕ → Kept → List ℕ → Copies
put t s n a gs =
    tables t.firsts t.lasts (set t.kinds (place s n) a.kind) (set t.values (place s n) a.value)
    (set t.sent (place s n) a.sent) (set t.rel_to (place s n) a.relto) (set t.rel_kind (place s n) a.relkind)
    (set t.rel_value (place s n) a.relvalue) gs t.up

-- at its place stands a
put_same : {t : Copies} {s n : ℕ} (a : Kept) (gs : List ℕ) → Long t → s < series_count → n < station_count → kept_at (put t s n a gs) s n ≡ a
put_same {t} {s} {n} a gs h hs hn =
    let at : place s n < place_count = omega arith in
    λ x. record {
      kind = get_or-set_same t.kinds (place s n) a.kind 0 (omega (arith, h.kinds)) x;
      value = get_or-set_same t.values (place s n) a.value 0 (omega (arith, h.values)) x;
      sent = get_or-set_same t.sent (place s n) a.sent 0 (omega (arith, h.sent)) x;
      relto = get_or-set_same t.rel_to (place s n) a.relto 0 (omega (arith, h.rel_to)) x;
      relkind = get_or-set_same t.rel_kind (place s n) a.relkind 0 (omega (arith, h.rel_kind)) x;
      relvalue = get_or-set_same t.rel_value (place s n) a.relvalue 0 (omega (arith, h.rel_value)) x;
    }

-- all other places stay
put_other : (t : Copies) (s n : ℕ) (a : Kept) (gs : List ℕ) (i m : ℕ) → place i m ≢ place s n → kept_at (put t s n a gs) i m ≡ kept_at t i m
put_other t s n a gs i m ne =
    λ x. record {
      kind = get_or-set_other t.kinds (place s n) (place i m) a.kind 0 ne x;
      value = get_or-set_other t.values (place s n) (place i m) a.value 0 ne x;
      sent = get_or-set_other t.sent (place s n) (place i m) a.sent 0 ne x;
      relto = get_or-set_other t.rel_to (place s n) (place i m) a.relto 0 ne x;
      relkind = get_or-set_other t.rel_kind (place s n) (place i m) a.relkind 0 ne x;
      relvalue = get_or-set_other t.rel_value (place s n) (place i m) a.relvalue 0 ne x;
    }

-- what an operation leaves that changes what one station keeps, and perhaps received numbers
pub put_leaves : {t : Copies} {s n : ℕ} (a : Kept) {gs : List ℕ} {got : ℕ → ℕ → ℕ} → Long t → s < series_count → n < station_count
    → Receives t.received gs s got
    → Leaves t (put t s n a gs) s
    (record { first = get_or t.firsts s 0; last = get_or t.lasts s 0; kept = there n a (kept_at t s); received = got })
put_leaves {t} {s} {n} a {gs} h hs hn g =
    record {
      here = record {
        first = refl;
        last = refl;
        kept = λ m hm. there_cases (λ (b : Kept). kept_at (put t s n a gs) s m ≡ b) n _ _ m
            (λ e. rw e (put_same a gs h hs hn))
            (λ ne. put_other t s n a gs s m (λ e. ne (place_same hn hm e).1));
        received = g.here;
      };
      elsewhere = λ i ne. record {
        first = refl;
        last = refl;
        kept = λ m hm. put_other t s n a gs i m (λ e. ne (place_same hn hm e).0);
        received = g.elsewhere i ne;
      };
      up = refl;
      only =
          let at : place s n < place_count = omega arith in
          record {
            firsts = only_none;
            lasts = only_none;
            kinds = only_set t.kinds a.kind at;
            values = only_set t.values a.value at;
            sent = only_set t.sent a.sent at;
            rel_to = only_set t.rel_to a.relto at;
            rel_kind = only_set t.rel_kind a.relkind at;
            rel_value = only_set t.rel_value a.relvalue at;
            received = g.only;
            up = only_none;
          };
    }
