-- Machines that go wrong in one place, several of them by a slip that looks right.
-- Assumes nothing.
use Rattle.std.specs.Prelude.{ℕ, zero, suc, ◌+◌, Bool, cond, List, [], ◌∷◌, eqb, length, take, Ok, Err}
use Rattle.words.specs.Answers.{Answer, code_of}
use Rattle.words.specs.declared.Refusal.TheVariants.{Others}
use Rattle.words.specs.Numbers.{series_count}
use Rattle.words.specs.Tests.{non, ◌and◌}
use Rattle.copies.specs.Tables.{Copies, Series, series_at, kind, value, held, stands}
use Rattle.copies.specs.Steps.{put_copy, dropped, arrived, marked, held_count, matches}
use Rattle.jobs.specs.Job.{no_job, with_draw, lock_on}
use Rattle.jobs.specs.Slots.{count_at}
use Rattle.jobs.specs.Draws.{Draw, draws_of, committed}
use Rattle.rulebook.specs.declared.Event.{Event}
use Rattle.rulebook.specs.Tables.{Plant, with_copies}
use Rattle.rulebook.specs.Events.{DRAW, READ, COMMIT, DROP, PROMOTE, GRANT, CRASH, RESTART, a_series, a_station, a_from, a_to, a_count, a_number, the, the_series, the_job, the_station}
use Rattle.rulebook.specs.Steps.{Effect, done, put_job, accepted}
use Rattle.rulebook.specs.Run.{Machine}

-- ---- a machine with one change
-- an effect whose answer has the code gives way to another; any other stays
abbrev pub replaced : (code : ℕ) (was new : Effect) → Effect
replaced code was new = cond (eqb (code_of was.answer) code) new was

-- the machine m, but an event of kind k that it answers with the code does this instead
unfoldable pub instead : (k code : ℕ) → (Plant → Event → Effect) → Machine → Machine
instead k code step m p out e = cond (eqb e.kind k) (replaced code (m p out e) (step p e)) (m p out e)

-- an accepted event of kind k does this instead
abbrev pub doing : ℕ → (Plant → Event → Effect) → Machine → Machine
doing k step m = instead k 0 step m

-- an event of kind k that is refused with a is accepted
abbrev pub allowing : ℕ → Answer → Machine → Machine
allowing k a m = instead k (code_of a) accepted m

-- of the first k series, those of which the test holds at station n are changed there
unfoldable pub changed_at : (Series → ℕ → Bool) → (Copies → ℕ → ℕ → Copies) → (n k : ℕ) → Copies → Copies
changed_at test change n zero t = t
changed_at test change n (suc s) t =
    cond (test (series_at t s) n) (change (changed_at test change n s t) s n) (changed_at test change n s t)

-- RESTART changes something at its station besides
abbrev pub restarting : (Series → ℕ → Bool) → (Copies → ℕ → ℕ → Copies) → Machine → Machine
restarting test change =
    doing RESTART
    (λ p e. done (held_count p.copies (the a_station e))
    (with_copies p (marked (changed_at test change (the a_station e) series_count p.copies) (the a_station e) 1)))

-- ---- the serials
-- these draws are shown and the job closes, but only the first k are stored
abbrev pub storing : (k : ℕ) → Plant → Event → List Draw → Effect
storing k p e ds =
    record { answer = Ok (length ds); plant = put_job (with_copies p (committed p.copies (take k ds))) e no_job; draws = ds }

-- COMMIT shows the draws and does not raise the copies: the serials are issued again
abbrev pub commit_unstored : Machine → Machine
commit_unstored = doing COMMIT (λ p e. storing 0 p e (draws_of p.copies (the_job p e)))

-- COMMIT raises the copy of a job's first draw, and merely counts and shows the rest
abbrev pub commit_first_only : Machine → Machine
commit_first_only = doing COMMIT (λ p e. storing 1 p e (draws_of p.copies (the_job p e)))

-- the draw that a DRAW asks for
abbrev pub draw_asked : Plant → Event → Draw
draw_asked p e =
    record {
      series = the a_series e;
      first = value (the_series p e) (the_station p e);
      count = the a_count e;
      station = the_station p e;
    }

-- DRAW notes the count, and writes the serials into the output already
abbrev pub draw_shows : Machine → Machine
draw_shows =
    doing DRAW
    (λ p e. record {
      answer = Ok 0;
      plant = put_job p e (with_draw (the_job p e) (the a_series e) (the a_count e));
      draws = draw_asked p e ∷ [];
    })

-- DRAW hands the serials out: they are stored and written into the output at once, and an ABORT can't take them back
abbrev pub draw_hands_out : Machine → Machine
draw_hands_out =
    doing DRAW
    (λ p e. record { answer = Ok 0; plant = with_copies p (committed p.copies (draw_asked p e ∷ [])); draws = draw_asked p e ∷ [] })

-- RESTART puts back the value that a station had in memory when its first draw was noted, the first number, and not the stored one
abbrev pub restart_from_memory : Machine → Machine
restart_from_memory = restarting held (λ t s n. put_copy t s n (kind (series_at t s) n) (series_at t s).first)

-- GRANT of the standing Release is a repeat only if the receiver holds a token, which may have come and gone again: it arrives twice
abbrev pub grant_by_token : Machine → Machine
grant_by_token =
    doing GRANT
    (λ p e. cond (matches (the_series p e) (the a_from e) (the a_to e) (the a_number e) and non (held (the_series p e) (the a_to e)))
    (done 1 (with_copies p (arrived p.copies (the a_series e) (the a_from e) (the a_to e) (the a_number e))))
    (done 0 p))

-- ---- the reads
-- READ leaves out what the job itself has drawn
abbrev pub read_without_own : Machine → Machine
read_without_own = doing READ (λ p e. done (value (the_series p e) (the_station p e)) p)

-- READ goes by the copy of station 0, whoever asks: a void copy's value is an old one
abbrev pub read_at_zero : Machine → Machine
read_at_zero = doing READ (λ p e. done (value (the_series p e) 0 + (lock_on (the_job p e) (the a_series e)).drawn) p)

-- ---- whole tables
-- PROMOTE never gets refusal 17: another share may be held, or under way
abbrev pub promote_early : Machine → Machine
promote_early = allowing PROMOTE (Err Others)

-- CRASH leaves the station's jobs open
abbrev pub crash_keeps_jobs : Machine → Machine
crash_keeps_jobs =
    doing CRASH (λ p e. done (count_at (the a_station e) p.jobs) (with_copies p (marked p.copies (the a_station e) 0)))

-- ---- nothing is lost
-- GRANT of a new transfer is answered with 1, and nothing arrives
abbrev pub grant_forgets : Machine → Machine
grant_forgets = doing GRANT (λ p e. done 1 p)

-- DROP never gets refusal 17: the last share may be dropped
abbrev pub drop_last : Machine → Machine
drop_last = allowing DROP (Err Others)

-- RESTART lets a standing Release void the copy at its station: the token may be back before its ACK
abbrev pub restart_voids : Machine → Machine
restart_voids = restarting stands dropped
