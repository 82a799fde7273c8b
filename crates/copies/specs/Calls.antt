-- The layer's calls: for each event of "The seventeen events" in 01 that changes copies, transfers or marks, its refusals in the order
-- of the checks and its accepted step. A call asks SHORT only of the columns that it uses; whether the tables are whole is not asked here.
-- Where an event needs to know that no job locks the copy, the caller says so: `free`.
-- Assumes nothing.
use Rattle.std.specs.Prelude.{ℕ, ◌+◌, Bool, cond, List, [], eqb, ltb, leb, length, get_or, Ok, Err}
use Rattle.words.specs.declared.Refusal.{Refusal}
use Rattle.words.specs.Answers.{Answer}
use Rattle.words.specs.declared.Refusal.TheVariants.{Short, BadEvent, Taken, None, Down, Up, Copy, Locked, Range, Wait, Spent, Others, NoMessage}
use Rattle.words.specs.Numbers.{station_count, series_count, place_count, received_count, greatest_serial, greatest_sent, share, exclusive}
use Rattle.words.specs.Tests.{non, ◌or◌, refuse_if}
use Rattle.copies.specs.Tables.{Copies, series_in, series_at, is_open, is_up, kind, value, sent_count, stands}
use Rattle.copies.specs.Steps.{opened, raised, sent_off, demoted, shared, dropped, promoted, arrived, deleted, marked, held_count, holder_set, is_beyond, other_share, under_way, is_spent, is_repeat, matches, no_grant, no_ack}

-- What a call leaves: its answer and the layer's tables.
pub record Outcome : Type 0 where
  pub answer : Answer
  pub copies : Copies

-- the two as one value
abbrev pub outcome : Answer → Copies → Outcome
outcome a t = record { answer = a; copies = t }

-- refused so, and nothing changed, where the test holds; else what follows
abbrev pub refuse : Copies → Refusal → Bool → Outcome → Outcome
refuse t r test next = refuse_if test (outcome (Err r) t) next

-- accepted, with value v
abbrev pub done : ℕ → Copies → Outcome
done v t = outcome (Ok v) t

-- ---- what refusals 1 and 3 ask
-- a column has fewer entries than its stated size
abbrev pub lacks : ℕ → List ℕ → Bool
lacks size column = ltb (length column) size

-- series or station too large
unfoldable pub bad_copy : ℕ → ℕ → Bool
bad_copy s n = leb series_count s or leb station_count n

-- series or a station too large, or from = to
unfoldable pub bad_transfer : ℕ → ℕ → ℕ → Bool
bad_transfer s from to = leb series_count s or leb station_count from or leb station_count to or eqb from to

-- the same, or a number that is 0 or above 9,999
unfoldable pub bad_message : ℕ → ℕ → ℕ → ℕ → Bool
bad_message s from to number = bad_transfer s from to or eqb number 0 or ltb greatest_sent number

-- the same as for a copy, or bounds that don't run from 1 or more up to the greatest last number
unfoldable pub bad_opening : ℕ → ℕ → ℕ → ℕ → Bool
bad_opening s first last n = bad_copy s n or eqb first 0 or ltb last first or ltb greatest_serial last

-- ---- the events, without refusals 1 and 3
-- OPEN
unfoldable pub open_in : Copies → ℕ → ℕ → ℕ → ℕ → Outcome
open_in t s first last n =
    refuse t Taken (is_open (series_at t s))
    (refuse t Down (non (is_up t n))
    (done 0 (opened t s first last n)))

-- SEND
unfoldable pub send_in : Copies → Bool → ℕ → ℕ → ℕ → Outcome
send_in t free s from to =
    refuse t None (non (is_open (series_at t s)))
    (refuse t Down (non (is_up t from))
    (refuse t Copy (non (eqb (kind (series_at t s) from) exclusive))
    (refuse t Locked (non free)
    (refuse t Wait (stands (series_at t s) from)
    (refuse t Spent (is_spent (series_at t s) from)
    (done (sent_count (series_at t s) from + 1) (sent_off t s from to)))))))

-- DEMOTE
unfoldable pub demote_in : Copies → Bool → ℕ → ℕ → Outcome
demote_in t free s n =
    refuse t None (non (is_open (series_at t s)))
    (refuse t Down (non (is_up t n))
    (refuse t Copy (non (eqb (kind (series_at t s) n) exclusive))
    (refuse t Locked (non free)
    (done 0 (demoted t s n)))))

-- SHARE
unfoldable pub share_in : Copies → ℕ → ℕ → ℕ → Outcome
share_in t s from to =
    refuse t None (non (is_open (series_at t s)))
    (refuse t Down (non (is_up t from))
    (refuse t Copy (non (eqb (kind (series_at t s) from) share))
    (refuse t Wait (stands (series_at t s) from)
    (refuse t Spent (is_spent (series_at t s) from)
    (done (sent_count (series_at t s) from + 1) (shared t s from to))))))

-- DROP
unfoldable pub drop_in : Copies → Bool → ℕ → ℕ → Outcome
drop_in t free s n =
    refuse t None (non (is_open (series_at t s)))
    (refuse t Down (non (is_up t n))
    (refuse t Copy (non (eqb (kind (series_at t s) n) share))
    (refuse t Locked (non free)
    (refuse t Others (non (other_share (series_at t s) n))
    (done 0 (dropped t s n))))))

-- PROMOTE
unfoldable pub promote_in : Copies → Bool → ℕ → ℕ → Outcome
promote_in t free s n =
    refuse t None (non (is_open (series_at t s)))
    (refuse t Down (non (is_up t n))
    (refuse t Copy (non (eqb (kind (series_at t s) n) share))
    (refuse t Locked (non free)
    (refuse t Others (other_share (series_at t s) n or under_way (series_at t s))
    (done 0 (promoted t s n))))))

-- GRANT: a repeat changes nothing
unfoldable pub grant_in : Copies → ℕ → ℕ → ℕ → ℕ → Outcome
grant_in t s from to number =
    refuse t None (non (is_open (series_at t s)))
    (refuse t Down (non (is_up t to))
    (refuse t NoMessage (no_grant (series_at t s) from to number)
    (cond (is_repeat (series_at t s) from to number) (done 0 t) (done 1 (arrived t s from to number)))))

-- ACK: a late one changes nothing (X7)
unfoldable pub ack_in : Copies → ℕ → ℕ → ℕ → ℕ → Outcome
ack_in t s from to number =
    refuse t None (non (is_open (series_at t s)))
    (refuse t Down (non (is_up t from))
    (refuse t NoMessage (no_ack (series_at t s) from to number)
    (cond (matches (series_at t s) from to number) (done 1 (deleted t s from)) (done 0 t))))

-- RESTART
unfoldable pub restart_in : Copies → ℕ → Outcome
restart_in t n = refuse t Up (is_up t n) (done (held_count t n) (marked t n 1))

-- COMMIT's share, unless the sum would pass last + 1 or, in tables that aren't whole, the greatest value that there is
unfoldable pub raise_in : Copies → ℕ → ℕ → ℕ → Outcome
raise_in t s n count =
    refuse t Range (is_beyond (series_at t s) n count)
    (refuse t Range (ltb (greatest_serial + 1) (value (series_at t s) n + count))
    (done 0 (raised t s n count)))

-- ---- the calls, over the columns that each uses
-- a column of OPEN is short
unfoldable pub short_opener : Copies → Bool
short_opener t =
    lacks series_count t.firsts
    or lacks series_count t.lasts
    or lacks place_count t.kinds
    or lacks place_count t.values
    or lacks station_count t.up

-- 1 OPEN
unfoldable pub open_series : Copies → ℕ → ℕ → ℕ → ℕ → Outcome
open_series t s first last n =
    refuse t Short (short_opener t)
    (refuse t BadEvent (bad_opening s first last n) (open_in t s first last n))

-- a column of SEND or SHARE is short
unfoldable pub short_sender : Copies → Bool
short_sender t =
    lacks series_count t.firsts
    or lacks place_count t.kinds
    or lacks place_count t.values
    or lacks place_count t.sent
    or lacks place_count t.rel_to
    or lacks place_count t.rel_kind
    or lacks place_count t.rel_value
    or lacks station_count t.up

-- 9 SEND
unfoldable pub send : Copies → Bool → ℕ → ℕ → ℕ → Outcome
send t free s from to =
    refuse t Short (short_sender t) (refuse t BadEvent (bad_transfer s from to) (send_in t free s from to))

-- a column of DEMOTE or DROP is short
unfoldable pub short_holder : Copies → Bool
short_holder t = lacks series_count t.firsts or lacks place_count t.kinds or lacks station_count t.up

-- 10 DEMOTE
unfoldable pub demote : Copies → Bool → ℕ → ℕ → Outcome
demote t free s n = refuse t Short (short_holder t) (refuse t BadEvent (bad_copy s n) (demote_in t free s n))

-- 11 SHARE
unfoldable pub send_share : Copies → ℕ → ℕ → ℕ → Outcome
send_share t s from to = refuse t Short (short_sender t) (refuse t BadEvent (bad_transfer s from to) (share_in t s from to))

-- 12 DROP
unfoldable pub drop : Copies → Bool → ℕ → ℕ → Outcome
drop t free s n = refuse t Short (short_holder t) (refuse t BadEvent (bad_copy s n) (drop_in t free s n))

-- a column of PROMOTE is short
unfoldable pub short_promoter : Copies → Bool
short_promoter t =
    lacks series_count t.firsts
    or lacks place_count t.kinds
    or lacks place_count t.sent
    or lacks place_count t.rel_to
    or lacks place_count t.rel_kind
    or lacks received_count t.received
    or lacks station_count t.up

-- 13 PROMOTE
unfoldable pub promote : Copies → Bool → ℕ → ℕ → Outcome
promote t free s n =
    refuse t Short (short_promoter t)
    (refuse t BadEvent (bad_copy s n) (promote_in t free s n))

-- a column of GRANT is short
unfoldable pub short_receiver : Copies → Bool
short_receiver t =
    lacks series_count t.firsts
    or lacks place_count t.kinds
    or lacks place_count t.values
    or lacks place_count t.sent
    or lacks place_count t.rel_to
    or lacks place_count t.rel_kind
    or lacks place_count t.rel_value
    or lacks received_count t.received
    or lacks station_count t.up

-- 14 GRANT
unfoldable pub grant : Copies → ℕ → ℕ → ℕ → ℕ → Outcome
grant t s from to number =
    refuse t Short (short_receiver t)
    (refuse t BadEvent (bad_message s from to number) (grant_in t s from to number))

-- a column of ACK is short
unfoldable pub short_source : Copies → Bool
short_source t =
    lacks series_count t.firsts
    or lacks place_count t.sent
    or lacks place_count t.rel_to
    or lacks place_count t.rel_kind
    or lacks place_count t.rel_value
    or lacks received_count t.received
    or lacks station_count t.up

-- 15 ACK
unfoldable pub ack : Copies → ℕ → ℕ → ℕ → ℕ → Outcome
ack t s from to number =
    refuse t Short (short_source t)
    (refuse t BadEvent (bad_message s from to number) (ack_in t s from to number))

-- 16 CRASH, the station's mark alone: the jobs are the upper layer's
unfoldable pub crash : Copies → ℕ → Outcome
crash t n =
    refuse t Short (lacks station_count t.up)
    (refuse t BadEvent (leb station_count n)
    (refuse t Down (non (is_up t n))
    (done 0 (marked t n 0))))

-- 17 RESTART
unfoldable pub restart : Copies → ℕ → Outcome
restart t n =
    refuse t Short (lacks place_count t.kinds or lacks station_count t.up)
    (refuse t BadEvent (leb station_count n) (restart_in t n))

-- COMMIT's share: a drawn count is added to a copy's value
unfoldable pub raise : Copies → ℕ → ℕ → ℕ → Outcome
raise t s n count =
    refuse t Short (lacks series_count t.lasts or lacks place_count t.values) (refuse t BadEvent (bad_copy s n) (raise_in t s n count))

-- ---- reading
-- the number at a place of a column; 0 where the column is short, or the place none of the table's
unfoldable pub read : (size : ℕ) (column : List ℕ) (bad : Bool) (at : ℕ) → ℕ
read size column bad at = cond (lacks size column or bad) 0 (get_or column at 0)

-- a count goes beyond what is left of a series at a station; any count does where there is no such copy
unfoldable pub beyond : (lasts values : List ℕ) → ℕ → ℕ → ℕ → Bool
beyond lasts values s n count =
    lacks series_count lasts
    or lacks place_count values
    or bad_copy s n
    or is_beyond (series_in [] lasts [] values [] [] [] [] [] s) n count

-- the holders of a series as a station set; empty where there is no such series
unfoldable pub holders : (kinds : List ℕ) → ℕ → ℕ
holders kinds s =
    cond (lacks place_count kinds or leb series_count s) 0 (holder_set (series_in [] [] kinds [] [] [] [] [] [] s))
