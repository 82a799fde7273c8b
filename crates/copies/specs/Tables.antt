-- The lower layer's tables, from "What the machine covers" in 01, as lists of numbers, and how they are read.
-- Assumes nothing.
use Rattle.std.specs.Prelude.{ℕ, ◌+◌, ◌*◌, Bool, cond, List, eqb, ltb, get_or, length}
use Rattle.words.specs.Numbers.{station_count, series_count, place_count, received_count, void}
use Rattle.copies.specs.declared.Kept.{Kept}
use Rattle.words.specs.Tests.{non, ◌and◌, ◌or◌, some_below, least_below, count_below}

-- A column each: bounds of a series; copies; sent counts; Releases (receiver, kind, value); received numbers; stations' marks.
pub record Copies : Type 0 where
  pub firsts : List ℕ
  pub lasts : List ℕ
  pub kinds : List ℕ
  pub values : List ℕ
  pub sent : List ℕ
  pub rel_to : List ℕ
  pub rel_kind : List ℕ
  pub rel_value : List ℕ
  pub received : List ℕ
  pub up : List ℕ

-- the ten columns as one value
abbrev pub tables : (firsts lasts kinds values sent rel_to rel_kind rel_value received up : List ℕ) → Copies
tables fs ls ks vs ns rt rk rv gs us =
    record { firsts = fs; lasts = ls; kinds = ks; values = vs; sent = ns; rel_to = rt; rel_kind = rk; rel_value = rv; received = gs; up = us }

-- the tables with other bounds of series
abbrev pub with_bounds : Copies → (firsts lasts : List ℕ) → Copies
with_bounds t fs ls =
    tables fs ls t.kinds t.values t.sent t.rel_to t.rel_kind t.rel_value t.received t.up

-- with other copies
abbrev pub with_copies : Copies → (kinds values : List ℕ) → Copies
with_copies t ks vs =
    tables t.firsts t.lasts ks vs t.sent t.rel_to t.rel_kind t.rel_value t.received t.up

-- with other sent counts and Releases
abbrev pub with_releases : Copies → (sent rel_to rel_kind rel_value : List ℕ) → Copies
with_releases t ns rt rk rv = tables t.firsts t.lasts t.kinds t.values ns rt rk rv t.received t.up

-- with other received numbers
abbrev pub with_received : Copies → (received : List ℕ) → Copies
with_received t gs =
    tables t.firsts t.lasts t.kinds t.values t.sent t.rel_to t.rel_kind t.rel_value gs t.up

-- with other marks of stations
abbrev pub with_up : Copies → (up : List ℕ) → Copies
with_up t us =
    tables t.firsts t.lasts t.kinds t.values t.sent t.rel_to t.rel_kind t.rel_value t.received us

-- where a series and a station stand: series times 8 plus station
abbrev pub place : ℕ → ℕ → ℕ
place s n = s * station_count + n

-- and a sender besides: that place times 8 plus sender
abbrev pub received_place : ℕ → ℕ → ℕ → ℕ
received_place s n m = place s n * station_count + m

-- refusal 1, of these tables: a column has fewer entries than its stated size
unfoldable pub short_copies : Copies → Bool
short_copies t =
    ltb (length t.firsts) series_count
    or ltb (length t.lasts) series_count
    or ltb (length t.kinds) place_count
    or ltb (length t.values) place_count
    or ltb (length t.sent) place_count
    or ltb (length t.rel_to) place_count
    or ltb (length t.rel_kind) place_count
    or ltb (length t.rel_value) place_count
    or ltb (length t.received) received_count
    or ltb (length t.up) station_count

-- One series: its bounds, what each station keeps of it, and the highest number that a station has received from another.
pub record Series : Type 0 where
  pub first : ℕ
  pub last : ℕ
  pub kept : ℕ → Kept
  pub received : ℕ → ℕ → ℕ

-- what stands at a place of the columns that hold one entry for each series and station
abbrev pub kept_in : (kinds values sent rel_to rel_kind rel_value : List ℕ) → ℕ → Kept
kept_in ks vs ns rt rk rv at =
    record {
      kind = get_or ks at 0;
      value = get_or vs at 0;
      sent = get_or ns at 0;
      relto = get_or rt at 0;
      relkind = get_or rk at 0;
      relvalue = get_or rv at 0;
    }

-- series s, from the nine columns that keep series
abbrev pub series_in : (firsts lasts kinds values sent rel_to rel_kind rel_value received : List ℕ) → ℕ → Series
series_in fs ls ks vs ns rt rk rv gs s =
    record {
      first = get_or fs s 0;
      last = get_or ls s 0;
      kept = λ n. kept_in ks vs ns rt rk rv (place s n);
      received = λ n m. get_or gs (received_place s n m) 0;
    }

-- what station n keeps of series s
abbrev pub kept_at : Copies → ℕ → ℕ → Kept
kept_at t s n = kept_in t.kinds t.values t.sent t.rel_to t.rel_kind t.rel_value (place s n)

-- series s
abbrev pub series_at : Copies → ℕ → Series
series_at t s =
    series_in t.firsts t.lasts t.kinds t.values t.sent t.rel_to t.rel_kind t.rel_value t.received s

-- station n is up: its mark is 1
abbrev pub is_up : Copies → ℕ → Bool
is_up t n = eqb (get_or t.up n 0) 1

-- a series is open when its first number isn't 0
abbrev pub is_open : Series → Bool
is_open r = non (eqb r.first 0)

-- the kind of station n's copy: void, share or exclusive
abbrev pub kind : Series → ℕ → ℕ
kind r n = (r.kept n).kind

-- the value of station n's copy, its next number
abbrev pub value : Series → ℕ → ℕ
value r n = (r.kept n).value

-- station n's copy is held: it isn't void
abbrev pub held : Series → ℕ → Bool
held r n = non (eqb (kind r n) void)

-- station n's sent count, which is the number of its last transfer
abbrev pub sent_count : Series → ℕ → ℕ
sent_count r n = (r.kept n).sent

-- the receiver of station n's Release
abbrev pub rel_to : Series → ℕ → ℕ
rel_to r n = (r.kept n).relto

-- the kind of station n's Release
abbrev pub rel_kind : Series → ℕ → ℕ
rel_kind r n = (r.kept n).relkind

-- the value of station n's Release
abbrev pub rel_value : Series → ℕ → ℕ
rel_value r n = (r.kept n).relvalue

-- a Release stands when its kind isn't 0
abbrev pub has_release : Kept → Bool
has_release k = non (eqb k.relkind 0)

-- station n's Release stands
abbrev pub stands : Series → ℕ → Bool
stands r n = has_release (r.kept n)

-- the highest number that station n has received from station m
abbrev pub received : Series → ℕ → ℕ → ℕ
received r n m = r.received n m

-- station n's transfer is undelivered: its Release stands, and the receiver's highest number from n is below the transfer's
-- (a receiver that is no station, which W1 forbids, is asked nothing)
abbrev pub undelivered : Series → ℕ → Bool
undelivered r n = stands r n and (ltb (rel_to r n) station_count and ltb (received r (rel_to r n) n) (sent_count r n))

-- how many copies held and transfers undelivered are of kind k
unfoldable pub tokens : Series → ℕ → ℕ
tokens r k =
    count_below station_count (λ n. eqb (kind r n) k) + count_below station_count (λ n. undelivered r n and eqb (rel_kind r n) k)

-- the series' next number: the value of the first copy held or, where none is, of the first transfer undelivered
unfoldable pub next : Series → ℕ
next r =
    cond (some_below station_count (held r)) (value r (least_below station_count (held r)))
    (rel_value r (least_below station_count (undelivered r)))
