-- The layer's calls: for each event of "The seventeen events" in 01 that a job takes part in, its refusals in the order of the checks
-- and its accepted step. A call asks SHORT only of the columns that it uses. Whether the tables are whole is not asked; where the numbers of
-- a READ or a COMMIT don't fit, as they do in whole tables, the refusal is NOT WHOLE.
-- Assumes nothing.
use Rattle.std.specs.Prelude.{ℕ, ◌+◌, Bool, true, List, eqb, ltb, leb, set, length, Ok, Err}
use Rattle.std.proofs.lemmas.List.Edits.{sets}
use Rattle.words.specs.declared.Refusal.{Refusal}
use Rattle.words.specs.Answers.{Answer}
use Rattle.words.specs.declared.Refusal.TheVariants.{Short, NotWhole, BadEvent, Taken, None, Down, Held, Full, Copy, Locked, NoLock, Drawn, Range}
use Rattle.words.specs.Numbers.{station_count, series_count, job_count, place_count, out_count, greatest_serial, share, exclusive}
use Rattle.words.specs.Tests.{non, ◌and◌, ◌or◌, refuse_if}
use Rattle.copies.specs.Tables.{Copies, series_at, is_open, is_up}
use Rattle.copies.specs.Steps.{marked}
use Rattle.copies.specs.Calls.{lacks, beyond}
use Rattle.jobs.specs.declared.Job.{Job}
use Rattle.jobs.specs.Job.{no_job, job_open, locks_series, lock_on, is_full, begun, with_lock, with_draw}
use Rattle.jobs.specs.Slots.{job_at, closed_at, count_at}
use Rattle.jobs.specs.Draws.{Draw, entry_there, draws_of, committed, shown, fits}

-- What a call leaves of the slots: its answer, and the slots.
pub record Stepped : Type 0 where
  pub answer : Answer
  pub jobs : List Job

-- What a call leaves of one slot: its answer, and the slot's job.
pub record Turn : Type 0 where
  pub answer : Answer
  pub job : Job

-- an answer and the slots
abbrev pub stepped : Answer → List Job → Stepped
stepped a bs = record { answer = a; jobs = bs }

-- an answer and one slot's job
abbrev pub turn : Answer → Job → Turn
turn a b = record { answer = a; job = b }

-- an answer, and the slots with slot j as the turn leaves it
abbrev pub turned : List Job → ℕ → Turn → Stepped
turned bs j r = stepped r.answer (set bs j r.job)

-- refused so, and the slots as they stood, where the test holds; else what follows
abbrev pub refuse : List Job → Refusal → Bool → Stepped → Stepped
refuse bs r test next = refuse_if test (stepped (Err r) bs) next

-- accepted with value 0: slot j holds the job
abbrev pub stored : List Job → ℕ → Job → Stepped
stored bs j b = stepped (Ok 0) (set bs j b)

-- the named series or job isn't open
abbrev pub not_open : Copies → Job → ℕ → Bool
not_open t b s = non (is_open (series_at t s)) or non (job_open b)

-- ---- calls that change slots alone
-- 2 BEGIN
unfoldable pub begin : Copies → List Job → ℕ → ℕ → Stepped
begin t bs j n =
    refuse bs Short (lacks station_count t.up)
    (refuse bs BadEvent (leb job_count j or leb station_count n)
    (refuse bs Taken (job_open (job_at bs j))
    (refuse bs Down (non (is_up t n))
    (stored bs j (begun n)))))

-- a lock of that mode, on a copy of that kind, where refusals 1 and 3 are not given
unfoldable pub lock_in : Copies → List Job → Bool → ℕ → ℕ → ℕ → Stepped
lock_in t bs free j s mode =
    refuse bs None (not_open t (job_at bs j) s)
    (refuse bs Held (locks_series (job_at bs j) s)
    (refuse bs Full (is_full (job_at bs j))
    (refuse bs Copy (non (eqb (entry_there t.kinds s (job_at bs j).station) mode))
    (refuse bs Locked (non free)
    (stored bs j (with_lock (job_at bs j) s mode))))))

-- 3 LOCKX, by whether the copy at the job's station is free
unfoldable pub lockx : Copies → List Job → Bool → ℕ → ℕ → Stepped
lockx t bs free j s =
    refuse bs Short (lacks series_count t.firsts or lacks place_count t.kinds)
    (refuse bs BadEvent (leb job_count j or leb series_count s)
    (lock_in t bs free j s exclusive))

-- 4 LOCKS
unfoldable pub locks : Copies → List Job → ℕ → ℕ → Stepped
locks t bs j s =
    refuse bs Short (lacks series_count t.firsts or lacks place_count t.kinds)
    (refuse bs BadEvent (leb job_count j or leb series_count s)
    (lock_in t bs true j s share))

-- DRAW where refusals 1 and 3 are not given
unfoldable pub draw_in : Copies → List Job → ℕ → ℕ → ℕ → Stepped
draw_in t bs j s count =
    refuse bs None (not_open t (job_at bs j) s)
    (refuse bs NoLock (non (locks_series (job_at bs j) s and eqb (lock_on (job_at bs j) s).mode exclusive))
    (refuse bs Drawn (non (eqb (lock_on (job_at bs j) s).drawn 0))
    (refuse bs Range (beyond t.lasts t.values s (job_at bs j).station count)
    (stored bs j (with_draw (job_at bs j) s count)))))

-- 5 DRAW
unfoldable pub draw : Copies → List Job → ℕ → ℕ → ℕ → Stepped
draw t bs j s count =
    refuse bs Short (lacks series_count t.firsts or lacks series_count t.lasts or lacks place_count t.values)
    (refuse bs BadEvent (leb job_count j or leb series_count s or eqb count 0 or ltb greatest_serial count)
    (draw_in t bs j s count))

-- 8 ABORT
unfoldable pub abort : List Job → ℕ → Stepped
abort bs j =
    refuse bs BadEvent (leb job_count j)
    (refuse bs None (non (job_open (job_at bs j)))
    (stored bs j no_job))

-- ---- a call that changes nothing
-- READ where refusals 1 and 3 are not given
unfoldable pub read_in : Copies → Job → ℕ → Answer
read_in t b s =
    refuse_if (not_open t b s) (Err None)
    (refuse_if (non (locks_series b s)) (Err NoLock)
    (refuse_if (ltb (greatest_serial + 1) (entry_there t.values s b.station + (lock_on b s).drawn)) (Err NotWhole)
    (Ok (entry_there t.values s b.station + (lock_on b s).drawn))))

-- 6 READ
unfoldable pub read : Copies → List Job → ℕ → ℕ → Answer
read t bs j s =
    refuse_if (lacks series_count t.firsts or lacks place_count t.values) (Err Short)
    (refuse_if (leb job_count j or leb series_count s) (Err BadEvent)
    (read_in t (job_at bs j) s))

-- ---- calls that change more than slots
-- What such a call leaves: its answer and the slots, the lower layer's tables, and the output.
pub record Outcome : Type 0 where
  pub stepped : Stepped
  pub copies : Copies
  pub out : List ℕ

-- the three as one value
abbrev pub outcome : Stepped → Copies → List ℕ → Outcome
outcome r t out = record { stepped = r; copies = t; out = out }

-- refused, and nothing changed
abbrev pub refused : Copies → List Job → List ℕ → Refusal → Outcome
refused t bs out r = outcome (stepped (Err r) bs) t out

-- the draws are committed and shown, and slot j is closed
abbrev pub commits : Copies → List Job → List ℕ → ℕ → List Draw → Outcome
commits t bs out j ds =
    outcome (stepped (Ok (length ds)) (set bs j no_job)) (committed t ds) (sets out 0 (shown ds))

-- COMMIT where refusals 1 and 3 are not given
unfoldable pub commit_in : Copies → List Job → List ℕ → ℕ → Outcome
commit_in t bs out j =
    refuse_if (non (job_open (job_at bs j))) (refused t bs out None)
    (refuse_if (non (fits t.lasts t.values (job_at bs j))) (refused t bs out NotWhole)
    (commits t bs out j (draws_of t (job_at bs j))))

-- 7 COMMIT
unfoldable pub commit : Copies → List Job → List ℕ → ℕ → Outcome
commit t bs out j =
    refuse_if (lacks series_count t.lasts or lacks place_count t.values or lacks out_count out) (refused t bs out Short)
    (refuse_if (leb job_count j) (refused t bs out BadEvent)
    (commit_in t bs out j))

-- 16 CRASH
unfoldable pub crash : Copies → List Job → List ℕ → ℕ → Outcome
crash t bs out n =
    refuse_if (lacks station_count t.up) (refused t bs out Short)
    (refuse_if (leb station_count n) (refused t bs out BadEvent)
    (refuse_if (non (is_up t n)) (refused t bs out Down)
    (outcome (stepped (Ok (count_at n bs)) (closed_at n bs)) (marked t n 0) out)))
