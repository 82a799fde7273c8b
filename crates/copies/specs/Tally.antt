-- How the walk's functions count the tokens of W2 in one pass, and what else they say to each other.
-- A reader of W2 needs none of it: `tally_same` of proofs/Tokens.antt shows that the count is W2's test, of values above 0 as W1 asks.
-- Assumes nothing.
use Rattle.std.specs.Prelude.{ℕ, zero, suc, ◌+◌, ◌≤◌, Bool, true, cond, ◌&&◌, ◌||◌, length, eqb, leb, ltb, Option}
use Rattle.words.specs.declared.Rule.{Rule}
use mir.Val.{bool_byte}
use Rattle.words.specs.Numbers.{station_count, series_count, place_count, received_count, void, share, exclusive}
use Rattle.words.specs.Tests.{◌and◌, first_below}
use Rattle.copies.specs.declared.Kept.{Kept}
use Rattle.copies.specs.declared.walk.Tally.{Tally}
use Rattle.copies.specs.FirstBroken.{broken_series}
use Rattle.copies.specs.Tables.{Copies, Series, series_at, has_release, kind, value, rel_value, received}

-- each column has at least its stated size
pub record Long (t : Copies) : Type 0 where
  pub firsts : series_count ≤ length t.firsts
  pub lasts : series_count ≤ length t.lasts
  pub kinds : place_count ≤ length t.kinds
  pub values : place_count ≤ length t.values
  pub sent : place_count ≤ length t.sent
  pub rel_to : place_count ≤ length t.rel_to
  pub rel_kind : place_count ≤ length t.rel_kind
  pub rel_value : place_count ≤ length t.rel_value
  pub received : received_count ≤ length t.received
  pub up : station_count ≤ length t.up

-- the first broken rule of the series, the stations' marks apart
unfoldable pub broken_in : Copies → Option Rule
broken_in t = first_below series_count (λ s. broken_series (series_at t s))

-- nothing counted yet
abbrev pub untold : Tally
untold = record { exclusives = 0; shares = 0; next = 0; same = true }

-- one token more, where its kind isn't void
unfoldable pub counted : Tally → (kind value : ℕ) → Tally
counted t k v =
    cond (eqb k void) t
    (record {
      exclusives = t.exclusives + bool_byte (eqb k exclusive);
      shares = t.shares + bool_byte (eqb k share);
      next = v;
      same = t.same && (eqb t.next 0 || eqb t.next v);
    })

-- the kind of a transfer where it is undelivered, else void; `got` is each station's highest number from its sender
unfoldable pub transfer_kind : Kept → (got : ℕ → ℕ) → ℕ
transfer_kind k got = cond (has_release k and (ltb k.relto station_count and ltb (got k.relto) k.sent)) k.relkind void

-- the copies and transfers of the stations below n
unfoldable pub tally : Series → ℕ → Tally
tally r zero = untold
tally r (suc n) =
    counted (counted (tally r n) (kind r n) (value r n)) (transfer_kind (r.kept n) (λ m. received r m n)) (rel_value r n)

-- W2: one exclusive and no share, or one or more shares and no exclusive; and all with the same value
abbrev pub tally_fine : Tally → Bool
tally_fine t = (eqb t.exclusives 1 && eqb t.shares 0 || eqb t.exclusives 0 && leb 1 t.shares) && t.same
