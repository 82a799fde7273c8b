-- "The seventeen events", the lower layer's share: what each does to copies and transfers, and the tests that their refusals ask.
-- Each leaves every entry that it doesn't name as it stood.
-- Assumes nothing.
use Rattle.std.specs.Prelude.{ℕ, ◌+◌, ◌-◌, ◌*◌, ◌^◌, Bool, eqb, ltb, leb, set, replicate}
use Rattle.std.proofs.lemmas.List.Edits.{sets}
use Rattle.words.specs.Numbers.{station_count, series_count, greatest_sent, void, share, exclusive}
use Rattle.words.specs.Tests.{non, ◌and◌, ◌or◌, some_below, sum_below, one_if, count_below}
use Rattle.copies.specs.Tables.{Copies, with_bounds, with_copies, with_releases, with_received, with_up, Series, series_at, place, received_place, kind, value, held, sent_count, rel_to, rel_kind, rel_value, stands, received, undelivered}

-- ---- one copy, one Release
-- the copy of series s at station n with another kind
abbrev pub put_kind : Copies → ℕ → ℕ → ℕ → Copies
put_kind t s n k = with_copies t (set t.kinds (place s n) k) t.values

-- with another kind and value
abbrev pub put_copy : Copies → ℕ → ℕ → ℕ → ℕ → Copies
put_copy t s n k v = with_copies t (set t.kinds (place s n) k) (set t.values (place s n) v)

-- with another Release of station n for series s
abbrev pub put_release : Copies → ℕ → ℕ → ℕ → ℕ → ℕ → Copies
put_release t s n to k v =
    with_releases t t.sent (set t.rel_to (place s n) to) (set t.rel_kind (place s n) k) (set t.rel_value (place s n) v)

-- with another sent count
abbrev pub put_sent : Copies → ℕ → ℕ → ℕ → Copies
put_sent t s n number = with_releases t (set t.sent (place s n) number) t.rel_to t.rel_kind t.rel_value

-- ---- the events
-- OPEN: exclusive at the station, void elsewhere, all values the first number
unfoldable pub opened : Copies → ℕ → ℕ → ℕ → ℕ → Copies
opened t s first last n =
    with_copies (with_bounds t (set t.firsts s first) (set t.lasts s last))
    (set (sets t.kinds (place s 0) (replicate station_count void)) (place s n) exclusive)
    (sets t.values (place s 0) (replicate station_count first))

-- COMMIT: a drawn count is added to the copy's value
unfoldable pub raised : Copies → ℕ → ℕ → ℕ → Copies
raised t s n count = with_copies t t.kinds (set t.values (place s n) (value (series_at t s) n + count))

-- SEND and SHARE raise the sent count by one; the Release takes the copy's value
unfoldable pub released : Copies → ℕ → ℕ → ℕ → ℕ → Copies
released t s from to k =
    put_sent (put_release t s from to k (value (series_at t s) from)) s from (sent_count (series_at t s) from + 1)

-- SEND: the copy becomes void, with a Release of kind 2
unfoldable pub sent_off : Copies → ℕ → ℕ → ℕ → Copies
sent_off t s from to = put_kind (released t s from to exclusive) s from void

-- DEMOTE: exclusive becomes share
unfoldable pub demoted : Copies → ℕ → ℕ → Copies
demoted t s n = put_kind t s n share

-- SHARE: the copy stays, with a Release of kind 1
unfoldable pub shared : Copies → ℕ → ℕ → ℕ → Copies
shared t s from to = released t s from to share

-- DROP: share becomes void
unfoldable pub dropped : Copies → ℕ → ℕ → Copies
dropped t s n = put_kind t s n void

-- PROMOTE: share becomes exclusive
unfoldable pub promoted : Copies → ℕ → ℕ → Copies
promoted t s n = put_kind t s n exclusive

-- GRANT: the copy takes the Release's kind and value, and the received number is raised
unfoldable pub arrived : Copies → ℕ → ℕ → ℕ → ℕ → Copies
arrived t s from to number =
    with_received (put_copy t s to (rel_kind (series_at t s) from) (rel_value (series_at t s) from))
    (set t.received (received_place s to from) number)

-- ACK: the Release is deleted; the sent count stays
unfoldable pub deleted : Copies → ℕ → ℕ → Copies
deleted t s from = put_release t s from 0 0 0

-- CRASH: station down; RESTART: station up
unfoldable pub marked : Copies → ℕ → ℕ → Copies
marked t n mark = with_up t (set t.up n mark)

-- the value of RESTART: how many copies of the station are not void
abbrev pub held_count : Copies → ℕ → ℕ
held_count t n = count_below series_count (λ s. held (series_at t s) n)

-- the holders of a series as a station set: bit i for station i
abbrev pub holder_set : Series → ℕ
holder_set r = sum_below station_count (λ n. one_if (held r n) * 2 ^ n)

-- ---- what refusals 14, 16, 17 and 18 ask
-- a count goes beyond the last number: it is above last + 1 − value
abbrev pub is_beyond : Series → ℕ → ℕ → Bool
is_beyond r n count = ltb (r.last + 1 - value r n) count

-- another station holds a share copy
abbrev pub other_share : Series → ℕ → Bool
other_share r n = some_below station_count (λ m. non (eqb m n) and eqb (kind r m) share)

-- a transfer is undelivered
abbrev pub under_way : Series → Bool
under_way r = some_below station_count (λ m. undelivered r m)

-- the sent count is at its end (W1 allows none above)
unfoldable pub is_spent : Series → ℕ → Bool
is_spent r n = leb greatest_sent (sent_count r n)

-- a GRANT of this number is a repeat: judged by the number alone, and not by who holds a token
unfoldable pub is_repeat : Series → ℕ → ℕ → ℕ → Bool
is_repeat r from to number = leb number (received r to from)

-- the number is that of the standing Release of from, and it is addressed to to
unfoldable pub matches : Series → ℕ → ℕ → ℕ → Bool
matches r from to number = stands r from and eqb (rel_to r from) to and eqb (sent_count r from) number

-- no such GRANT exists: neither a repeat nor the standing Release
unfoldable pub no_grant : Series → ℕ → ℕ → ℕ → Bool
no_grant r from to number = non (is_repeat r from to number or matches r from to number)

-- no such ACK exists: above the sent count, or of the standing Release while it is undelivered
unfoldable pub no_ack : Series → ℕ → ℕ → ℕ → Bool
no_ack r from to number = ltb (sent_count r from) number or matches r from to number and undelivered r from
