-- Refusal 3 at each kind: the definition's fields, and the same tests one after the other. Assumes nothing.
use Prim.Native.Nat.{ℕ, zero, suc, ◌<◌}
use native.Mathlib.Omega.{arith}
use mathlib.Core.Path.{◌≡◌, refl, sym, ◌∙◌}
use mathlib.Core.Bool.{Bool, true, false, not, ◌||◌, ◌&&◌}
use lib.Dec.{leb, ltb, eqb, leb-zero}
use borrow.Author.Tests.{le-leb, lt-leb, lt-ltb, leb-true, leb-false, ltb-true, ltb-false, eqb-true, eqb-false}
use Rattle.words.specs.Numbers.{station_count, series_count, job_count, greatest_serial, greatest_sent}
use Rattle.words.specs.Tests.{non, ◌and◌, ◌or◌}
use Rattle.rulebook.specs.declared.Event.{Event}
use Rattle.rulebook.specs.Tables.{Plant}
use Rattle.rulebook.specs.Events.{OPEN, BEGIN, LOCKX, LOCKS, DRAW, READ, COMMIT, ABORT, SEND, DEMOTE, SHARE, DROP, PROMOTE, GRANT, ACK, CRASH, RESTART}
use Rattle.rulebook.specs.Refusals.{BAD_EVENT}

-- ---- comparisons
-- a number in range isn't above it
pub within : (a m : ℕ) → leb a m ≡ not (leb (suc m) a)
within a m = by_test (leb a m) refl
  where
    by_test : (b : Bool) → b ≡ leb a m → leb a m ≡ not (leb (suc m) a)
    by_test true e = let l = leb-true a m (sym e) in sym e ∙ rw (lt-leb (suc m) a (omega arith))
    by_test false e = let l = leb-false a m (sym e) in sym e ∙ rw (le-leb (suc m) a (omega arith))

-- a number from 1 on isn't 0
pub positive : (a : ℕ) → leb 1 a ≡ not (eqb a 0)
positive a = by_test (eqb a 0) refl
  where
    by_test : (b : Bool) → b ≡ eqb a 0 → leb 1 a ≡ not (eqb a 0)
    by_test true e = let z = eqb-true a 0 (sym e) in rw z
    by_test false e = let z = eqb-false a 0 (sym e) in le-leb 1 a (omega (arith, z)) ∙ rw (sym e)

-- bounds with a first number above the limit
above_or_below : (b c : ℕ) → ltb greatest_serial b ≡ true → (ltb c b || ltb greatest_serial c) ≡ true
above_or_below b c e = by_test (ltb c b) refl
  where
    by_test : (q : Bool) → q ≡ ltb c b → (q || ltb greatest_serial c) ≡ true
    by_test true h = refl
    by_test false h =
        let l = ltb-false c b (sym h) in
        let m = ltb-true greatest_serial b e in
        lt-ltb greatest_serial c (omega arith)

-- bounds with a last number 0
zero_or_below : (b c : ℕ) → eqb c 0 ≡ true → (eqb b 0 || ltb c b) ≡ true
zero_or_below b c e = by_test (eqb b 0) refl
  where
    by_test : (q : Bool) → q ≡ eqb b 0 → (q || ltb c b) ≡ true
    by_test true h = refl
    by_test false h = let z = eqb-true c 0 e in let y = eqb-false b 0 (sym h) in lt-ltb c b (omega (arith, z, y))

-- the kind is none of 1 to n
abbrev Others : ℕ → ℕ → Type 0
Others zero k = Unit {0}
Others (suc n) k = Others n k × (k ≡ suc n → ⊥)

-- so, if it isn't 0 either, it is above n
others_past : (n k : ℕ) → Others n k → (k ≡ 0 → ⊥) → n < k
others_past zero k r z = omega (arith, z)
others_past (suc n) k r z = let l = others_past n k r.0 z in let o = r.1 in omega (arith, o)

-- ---- the tests of a kind's fields, as the definition has them and one after the other
module _ (a b c d m n : ℕ) where
  -- one field, up to m
  one_field : (leb (suc m) a || not (eqb b 0) || not (eqb c 0) || not (eqb d 0))
      ≡ (not (leb 0 a && leb a m && (eqb b 0 && (eqb c 0 && (eqb d 0 && true)))) || false || false)
  one_field = rw (leb-zero a, within a m) (cases (leb (suc m) a) (eqb b 0) (eqb c 0) (eqb d 0))
    where
      cases : (x u v w : Bool) → (x || not u || not v || not w) ≡ (not (not x && (u && (v && (w && true)))) || false || false)
      cases true u v w = refl
      cases false false v w = refl
      cases false true false w = refl
      cases false true true false = refl
      cases false true true true = refl

  -- two fields, up to m and n
  two_fields : (leb (suc m) a || leb (suc n) b || not (eqb c 0) || not (eqb d 0))
      ≡ (not (leb 0 a && leb a m && (leb 0 b && leb b n && (eqb c 0 && (eqb d 0 && true)))) || false || false)
  two_fields = rw (leb-zero a, leb-zero b, within a m, within b n) (cases (leb (suc m) a) (leb (suc n) b) (eqb c 0) (eqb d 0))
    where
      cases : (x y v w : Bool) → (x || y || not v || not w) ≡ (not (not x && (not y && (v && (w && true)))) || false || false)
      cases true y v w = refl
      cases false true v w = refl
      cases false false false w = refl
      cases false false true false = refl
      cases false false true true = refl

  -- a DRAW: two fields, and the count
  draw_fields : (leb (suc m) a || leb (suc n) b || (eqb c 0 || ltb greatest_serial c) || not (eqb d 0))
      ≡ (not (leb 0 a && leb a m && (leb 0 b && leb b n && (leb 1 c && leb c greatest_serial && (eqb d 0 && true)))) || false || false)
  draw_fields =
      rw (leb-zero a, leb-zero b, within a m, within b n, positive c, within c greatest_serial)
      (cases (leb (suc m) a) (leb (suc n) b) (eqb c 0) (ltb greatest_serial c) (eqb d 0))
    where
      cases : (x y z q w : Bool) → (x || y || (z || q) || not w) ≡ (not (not x && (not y && (not z && not q && (w && true)))) || false || false)
      cases true y z q w = refl
      cases false true z q w = refl
      cases false false true q w = refl
      cases false false false true w = refl
      cases false false false false true = refl
      cases false false false false false = refl

  -- a transfer: series, from, to
  transfer_fields : (leb (suc m) a || leb (suc n) b || leb (suc n) c || eqb b c || not (eqb d 0))
      ≡ (not (leb 0 a && leb a m && (leb 0 b && leb b n && (leb 0 c && leb c n && (eqb d 0 && true)))) || false || eqb b c)
  transfer_fields =
      rw (leb-zero a, leb-zero b, leb-zero c, within a m, within b n, within c n)
      (cases (leb (suc m) a) (leb (suc n) b) (leb (suc n) c) (eqb b c) (eqb d 0))
    where
      cases : (x y z q w : Bool) → (x || y || z || q || not w) ≡ (not (not x && (not y && (not z && (w && true)))) || false || q)
      cases true y z q w = refl
      cases false true z q w = refl
      cases false false true q w = refl
      cases false false false true true = refl
      cases false false false true false = refl
      cases false false false false true = refl
      cases false false false false false = refl

  -- a message: the same, and the number
  message_fields : (leb (suc m) a || leb (suc n) b || leb (suc n) c || eqb b c || (eqb d 0 || ltb greatest_sent d))
      ≡ (not (leb 0 a && leb a m && (leb 0 b && leb b n && (leb 0 c && leb c n && (leb 1 d && leb d greatest_sent && true)))) || false || eqb b c)
  message_fields =
      rw (leb-zero a, leb-zero b, leb-zero c, within a m, within b n, within c n, positive d, within d greatest_sent)
      (cases (leb (suc m) a) (leb (suc n) b) (leb (suc n) c) (eqb b c) (eqb d 0) (ltb greatest_sent d))
    where
      cases : (x y z q u v : Bool) → (x || y || z || q || (u || v)) ≡ (not (not x && (not y && (not z && (not u && not v && true)))) || false || q)
      cases true y z q u v = refl
      cases false true z q u v = refl
      cases false false true q u v = refl
      cases false false false true true v = refl
      cases false false false true false true = refl
      cases false false false true false false = refl
      cases false false false false true v = refl
      cases false false false false false true = refl
      cases false false false false false false = refl

  -- an OPEN: series, first, last, station
  open_fields : (leb (suc m) a || eqb b 0 || ltb c b || ltb greatest_serial c || leb (suc n) d)
      ≡ (not (leb 0 a && leb a m && (leb 1 b && leb b greatest_serial && (leb 1 c && leb c greatest_serial && (leb 0 d && leb d n && true)))) || ltb c b || false)
  open_fields =
      rw (leb-zero a, within a m, positive b, within b greatest_serial, positive c, within c greatest_serial, leb-zero d, within d n)
      (cases (leb (suc m) a) (eqb b 0) (ltb greatest_serial b) (eqb c 0) (ltb c b) (ltb greatest_serial c) (leb (suc n) d)
      (above_or_below b c)
      (zero_or_below b c))
    where
      cases : (x z h k l g n : Bool) → (h ≡ true → (l || g) ≡ true) → (k ≡ true → (z || l) ≡ true)
          → (x || z || l || g || n) ≡ (not (not x && (not z && not h && (not k && not g && (not n && true)))) || l || false)
      cases true z h k l g n p q = refl
      cases false true h k l g n p q = refl
      cases false false true k true g n p q = refl
      cases false false true k false true n p q = refl
      cases false false true k false false n p q = let wrong = p refl in cc
      cases false false false true true g n p q = refl
      cases false false false true false g n p q = let wrong = q refl in cc
      cases false false false false true true n p q = refl
      cases false false false false false true n p q = refl
      cases false false false false true false true p q = refl
      cases false false false false true false false p q = refl
      cases false false false false false false true p q = refl
      cases false false false false false false false p q = refl

module _ (p : Plant) (e : Event) where
  -- ---- the code's flags at a kind, which are to be refusal 3
  -- one field below n; zeros in the rest
  abbrev OneField : (n kind : ℕ) → Type 0
  OneField n kind =
      (x : Bool) → x ≡ leb n e.a → e.kind ≡ kind
      → (x || not (eqb e.b 0) || not (eqb e.c 0) || not (eqb e.d 0)) ≡ BAD_EVENT p e

  -- two fields, below m and n
  abbrev TwoFields : (m n kind : ℕ) → Type 0
  TwoFields m n kind =
      (x y : Bool) → x ≡ leb m e.a → y ≡ leb n e.b → e.kind ≡ kind
      → (x || y || not (eqb e.c 0) || not (eqb e.d 0)) ≡ BAD_EVENT p e

  -- series, from, to
  abbrev TransferFields : (kind : ℕ) → Type 0
  TransferFields kind =
      (x y z : Bool) → x ≡ leb series_count e.a → y ≡ leb station_count e.b → z ≡ leb station_count e.c → e.kind ≡ kind
      → (x || y || z || eqb e.b e.c || not (eqb e.d 0)) ≡ BAD_EVENT p e

  -- series, from, to, number
  abbrev MessageFields : (kind : ℕ) → Type 0
  MessageFields kind =
      (x y z n : Bool) → x ≡ leb series_count e.a → y ≡ leb station_count e.b → z ≡ leb station_count e.c
      → n ≡ (eqb e.d 0 || ltb greatest_sent e.d) → e.kind ≡ kind
      → (x || y || z || eqb e.b e.c || n) ≡ BAD_EVENT p e

  -- ---- so they are, kind by kind
  -- OPEN
  pub bad_OPEN : (x y : Bool) → x ≡ leb series_count e.a → y ≡ leb station_count e.d → e.kind ≡ OPEN
      → (x || eqb e.b 0 || ltb e.c e.b || ltb greatest_serial e.c || y) ≡ BAD_EVENT p e
  unfolding BAD_EVENT non ◌and◌ ◌or◌
  bad_OPEN x y ex ey k = rw (ex, ey, k) (open_fields e.a e.b e.c e.d 63 7)

  -- BEGIN
  pub bad_BEGIN : TwoFields job_count station_count BEGIN
  unfolding BAD_EVENT non ◌and◌ ◌or◌
  bad_BEGIN x y ex ey k = rw (ex, ey, k) (two_fields e.a e.b e.c e.d 15 7)

  -- LOCKX
  pub bad_LOCKX : TwoFields job_count series_count LOCKX
  unfolding BAD_EVENT non ◌and◌ ◌or◌
  bad_LOCKX x y ex ey k = rw (ex, ey, k) (two_fields e.a e.b e.c e.d 15 63)

  -- LOCKS
  pub bad_LOCKS : TwoFields job_count series_count LOCKS
  unfolding BAD_EVENT non ◌and◌ ◌or◌
  bad_LOCKS x y ex ey k = rw (ex, ey, k) (two_fields e.a e.b e.c e.d 15 63)

  -- DRAW
  pub bad_DRAW : (x y n : Bool) → x ≡ leb job_count e.a → y ≡ leb series_count e.b → n ≡ (eqb e.c 0 || ltb greatest_serial e.c)
      → e.kind ≡ DRAW
      → (x || y || n || not (eqb e.d 0)) ≡ BAD_EVENT p e
  unfolding BAD_EVENT non ◌and◌ ◌or◌
  bad_DRAW x y n ex ey en k = rw (ex, ey, en, k) (draw_fields e.a e.b e.c e.d 15 63)

  -- READ
  pub bad_READ : TwoFields job_count series_count READ
  unfolding BAD_EVENT non ◌and◌ ◌or◌
  bad_READ x y ex ey k = rw (ex, ey, k) (two_fields e.a e.b e.c e.d 15 63)

  -- COMMIT
  pub bad_COMMIT : OneField job_count COMMIT
  unfolding BAD_EVENT non ◌and◌ ◌or◌
  bad_COMMIT x ex k = rw (ex, k) (one_field e.a e.b e.c e.d 15 0)

  -- ABORT
  pub bad_ABORT : OneField job_count ABORT
  unfolding BAD_EVENT non ◌and◌ ◌or◌
  bad_ABORT x ex k = rw (ex, k) (one_field e.a e.b e.c e.d 15 0)

  -- SEND
  pub bad_SEND : TransferFields SEND
  unfolding BAD_EVENT non ◌and◌ ◌or◌
  bad_SEND x y z ex ey ez k = rw (ex, ey, ez, k) (transfer_fields e.a e.b e.c e.d 63 7)

  -- DEMOTE
  pub bad_DEMOTE : TwoFields series_count station_count DEMOTE
  unfolding BAD_EVENT non ◌and◌ ◌or◌
  bad_DEMOTE x y ex ey k = rw (ex, ey, k) (two_fields e.a e.b e.c e.d 63 7)

  -- SHARE
  pub bad_SHARE : TransferFields SHARE
  unfolding BAD_EVENT non ◌and◌ ◌or◌
  bad_SHARE x y z ex ey ez k = rw (ex, ey, ez, k) (transfer_fields e.a e.b e.c e.d 63 7)

  -- DROP
  pub bad_DROP : TwoFields series_count station_count DROP
  unfolding BAD_EVENT non ◌and◌ ◌or◌
  bad_DROP x y ex ey k = rw (ex, ey, k) (two_fields e.a e.b e.c e.d 63 7)

  -- PROMOTE
  pub bad_PROMOTE : TwoFields series_count station_count PROMOTE
  unfolding BAD_EVENT non ◌and◌ ◌or◌
  bad_PROMOTE x y ex ey k = rw (ex, ey, k) (two_fields e.a e.b e.c e.d 63 7)

  -- GRANT
  pub bad_GRANT : MessageFields GRANT
  unfolding BAD_EVENT non ◌and◌ ◌or◌
  bad_GRANT x y z n ex ey ez en k = rw (ex, ey, ez, en, k) (message_fields e.a e.b e.c e.d 63 7)

  -- ACK
  pub bad_ACK : MessageFields ACK
  unfolding BAD_EVENT non ◌and◌ ◌or◌
  bad_ACK x y z n ex ey ez en k = rw (ex, ey, ez, en, k) (message_fields e.a e.b e.c e.d 63 7)

  -- CRASH
  pub bad_CRASH : OneField station_count CRASH
  unfolding BAD_EVENT non ◌and◌ ◌or◌
  bad_CRASH x ex k = rw (ex, k) (one_field e.a e.b e.c e.d 7 0)

  -- RESTART
  pub bad_RESTART : OneField station_count RESTART
  unfolding BAD_EVENT non ◌and◌ ◌or◌
  bad_RESTART x ex k = rw (ex, k) (one_field e.a e.b e.c e.d 7 0)

  -- kind 0
  pub bad_none : e.kind ≡ 0 → true ≡ BAD_EVENT p e
  unfolding BAD_EVENT non ◌and◌ ◌or◌
  bad_none k = rw k

  -- a kind that is none of the seventeen
  pub bad_rest : Others RESTART e.kind → (e.kind ≡ 0 → ⊥) → true ≡ BAD_EVENT p e
  unfolding BAD_EVENT non ◌and◌ ◌or◌
  bad_rest r z =
      let l = others_past RESTART e.kind r z in
      rw (le-leb 1 e.kind (omega arith), lt-leb e.kind 17 l)

-- refusal 3, whatever the kind
pub ruleset bad_kinds = (
  bad_OPEN,
  bad_BEGIN,
  bad_LOCKX,
  bad_LOCKS,
  bad_DRAW,
  bad_READ,
  bad_COMMIT,
  bad_ABORT,
  bad_SEND,
  bad_DEMOTE,
  bad_SHARE,
  bad_DROP,
  bad_PROMOTE,
  bad_GRANT,
  bad_ACK,
  bad_CRASH,
  bad_RESTART,
  bad_none,
  bad_rest,
)
