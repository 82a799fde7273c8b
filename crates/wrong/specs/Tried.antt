-- Short lists on which the wrong machines of Machines.antt show themselves, and the answer lines that the rulebook's machine gives to them.
-- Assumes nothing.
use Rattle.std.specs.Prelude.{ℕ, ◌≡◌, List, [], ◌∷◌, ◌++◌, replicate}
use Rattle.rulebook.specs.declared.Event.{Event}
use Rattle.rulebook.specs.Events.{OPEN, BEGIN, LOCKX, DRAW, READ, COMMIT, ABORT, SEND, DEMOTE, SHARE, DROP, PROMOTE, GRANT, CRASH, RESTART}
use Rattle.rulebook.specs.Edges.{event, gives, lines_of}
use Rattle.rulebook.specs.Steps.{effect}
use Rattle.rulebook.specs.Run.{Machine, from_empty}

-- ---- events, each of series 0 and job 0
-- the series has the serials 1 to 9, and its token is at station 0
abbrev pub opens : Event
opens = event OPEN 0 1 9 0

-- the transfer of that number arrives
abbrev pub arrives : (from to number : ℕ) → Event
arrives from to number = event GRANT 0 from to number

-- the token goes off to station 1
abbrev pub sends : Event
sends = event SEND 0 0 1 0

-- and arrives there
abbrev pub goes : List Event → List Event
goes more = sends ∷ arrives 0 1 1 ∷ more

-- it goes to station 1 and comes back, and neither Release has been acknowledged
abbrev pub returns : List Event → List Event
returns more = goes (event SEND 0 1 0 0 ∷ arrives 1 0 1 ∷ more)

-- the job begins at station n and locks the series
abbrev pub locks : ℕ → List Event → List Event
locks n more = event BEGIN 0 n 0 0 ∷ event LOCKX 0 0 0 0 ∷ more

-- it draws one serial
abbrev pub draws : Event
draws = event DRAW 0 0 1 0

-- a job at station n draws one serial and commits
abbrev pub takes_one : ℕ → List Event → List Event
takes_one n more = locks n (draws ∷ event COMMIT 0 0 0 0 ∷ more)

-- the token becomes a share
abbrev pub demotes : Event
demotes = event DEMOTE 0 0 0 0

-- the job reads the series
abbrev pub reads : Event
reads = event READ 0 0 0 0

-- ---- the lists
-- two jobs draw one serial each
unfoldable pub two_jobs : List Event
two_jobs = opens ∷ takes_one 0 (takes_one 0 [])

-- a serial is drawn, the station crashes and restarts, and another is drawn
unfoldable pub drawn_after_crash : List Event
drawn_after_crash = opens ∷ takes_one 0 (event CRASH 0 0 0 0 ∷ event RESTART 0 0 0 0 ∷ takes_one 0 [])

-- a job locks series 1 and then series 0, draws one serial of each and commits
unfoldable pub two_draws : List Event
two_draws = opens ∷ event OPEN 1 1 9 0 ∷ event BEGIN 0 0 0 0 ∷ event LOCKX 0 1 0 0 ∷ event LOCKX 0 0 0 0
    ∷ event DRAW 0 1 1 0 ∷ draws ∷ event COMMIT 0 0 0 0 ∷ []

-- a job draws, and is aborted
unfoldable pub drawn_in_vain : List Event
drawn_in_vain = opens ∷ locks 0 (draws ∷ event ABORT 0 0 0 0 ∷ [])

-- the token goes and comes back, a serial is drawn, and the first message comes once more
unfoldable pub comes_again : List Event
comes_again = opens ∷ returns (takes_one 0 (arrives 0 1 1 ∷ []))

-- a job draws; next it reads
unfoldable pub own_draw : List Event
own_draw = opens ∷ locks 0 (draws ∷ [])

-- the token goes to station 1, where one job draws and the next reads
unfoldable pub drawn_there : List Event
drawn_there = opens ∷ goes (takes_one 1 (locks 1 []))

-- the share at station 0 is promoted while another is under way
unfoldable pub share_under_way : List Event
share_under_way = opens ∷ demotes ∷ event SHARE 0 0 1 0 ∷ event PROMOTE 0 0 0 0 ∷ []

-- a job begins, and its station crashes
unfoldable pub crashes : List Event
crashes = event BEGIN 0 0 0 0 ∷ event CRASH 0 0 0 0 ∷ []

-- the token goes to station 1, where a job locks it
unfoldable pub locked_there : List Event
locked_there = opens ∷ goes (locks 1 [])

-- the only share is dropped
unfoldable pub only_share : List Event
only_share = opens ∷ demotes ∷ event DROP 0 0 0 0 ∷ []

-- the token is back before the ACK of its Release, and its station crashes and restarts
unfoldable pub back_before_ack : List Event
back_before_ack = opens ∷ returns (event CRASH 0 0 0 0 ∷ event RESTART 0 0 0 0 ∷ [])

-- station 1, which has its share from station 0, sends one back
unfoldable pub share_back : List Event
share_back = opens ∷ demotes ∷ event SHARE 0 0 1 0 ∷ arrives 0 1 1 ∷ event SHARE 0 1 0 0 ∷ []

-- ---- the answers
-- accepted, with a draw of serial n alone
abbrev pub draw : ℕ → List ℕ
draw n = 0 ∷ 1 ∷ 0 ∷ n ∷ 1 ∷ []

-- k events accepted with value 0, and then these
abbrev pub quiet : (k : ℕ) → List (List ℕ) → List (List ℕ)
quiet k more = replicate k (gives 0 0) ++ more

-- accepted with value 1, and then these
abbrev pub one : List (List ℕ) → List (List ℕ)
one more = gives 0 1 ∷ more

-- the rulebook's machine as it is (the must-fail edit tries those of Machines.antt)
abbrev pub unchanged : Machine → Machine
unchanged m = m

-- A change of the rulebook's machine, a list of events, and the answer lines that are to come.
pub record Try : Type 0 where
  pub change : Machine → Machine
  pub events : List Event
  pub lines : List (List ℕ)

-- the three as one value
abbrev pub gets : (Machine → Machine) → List Event → List (List ℕ) → Try
gets change events lines = record { change = change; events = events; lines = lines }

-- these answer lines come
abbrev pub Right : Try → Type 0
Right x = lines_of (from_empty (x.change effect) x.events) ≡ x.lines

-- ---- list by list
-- the serials: each job gets its own
unfoldable pub two_jobs_tried : Try
two_jobs_tried = gets unchanged two_jobs (quiet 4 (draw 1 ∷ quiet 3 (draw 2 ∷ [])))

-- the next number is then read
unfoldable pub two_draws_tried : Try
two_draws_tried = gets unchanged (two_draws ++ locks 0 (reads ∷ [])) (quiet 7 ((0 ∷ 2 ∷ 1 ∷ 1 ∷ 1 ∷ 0 ∷ 1 ∷ 1 ∷ []) ∷ quiet 2 (gives 0 2 ∷ [])))

-- and here it is still the first
unfoldable pub drawn_in_vain_tried : Try
drawn_in_vain_tried = gets unchanged (drawn_in_vain ++ locks 0 (reads ∷ [])) (quiet 7 (one []))

-- each draw has its own serial
unfoldable pub drawn_after_crash_tried : Try
drawn_after_crash_tried = gets unchanged drawn_after_crash (quiet 4 (draw 1 ∷ quiet 1 (one (quiet 3 (draw 2 ∷ [])))))

-- the message that comes again is a repeat
unfoldable pub comes_again_tried : Try
comes_again_tried = gets unchanged comes_again (quiet 1 (one (one (one (one (quiet 3 (draw 1 ∷ quiet 1 [])))))))

-- the reads: a READ comes last
unfoldable pub own_draw_tried : Try
own_draw_tried = gets unchanged (own_draw ++ reads ∷ []) (quiet 4 (gives 0 2 ∷ []))

-- at the station that drew
unfoldable pub drawn_there_tried : Try
drawn_there_tried = gets unchanged (drawn_there ++ reads ∷ []) (quiet 1 (one (one (quiet 3 (draw 1 ∷ quiet 2 (gives 0 2 ∷ []))))))

-- whole tables: the share can't be promoted
unfoldable pub share_under_way_tried : Try
share_under_way_tried = gets unchanged share_under_way (quiet 2 (one (gives 17 0 ∷ [])))

-- an event more shows whether they are whole: the station can restart
unfoldable pub crashes_tried : Try
crashes_tried = gets unchanged (crashes ++ event RESTART 0 0 0 0 ∷ []) (quiet 1 (one (quiet 1 [])))

-- nothing lost: the token has arrived and is locked
unfoldable pub locked_there_tried : Try
locked_there_tried = gets unchanged locked_there (quiet 1 (one (one (quiet 2 []))))

-- the last share can't be dropped
unfoldable pub only_share_tried : Try
only_share_tried = gets unchanged only_share (quiet 2 (gives 17 0 ∷ []))

-- the token that came back is locked
unfoldable pub back_before_ack_tried : Try
back_before_ack_tried = gets unchanged (back_before_ack ++ locks 0 []) (quiet 1 (one (one (one (one (quiet 1 (one (quiet 2 []))))))))

-- the share that is sent back arrives
unfoldable pub share_back_tried : Try
share_back_tried = gets unchanged (share_back ++ arrives 1 0 1 ∷ []) (quiet 2 (one (one (one (one [])))))

-- THE STATEMENT: these are the machine's answer lines to the lists.
abbrev pub TriesRight : Type 0
TriesRight =
    Right two_jobs_tried
    × Right two_draws_tried
    × Right drawn_in_vain_tried
    × Right drawn_after_crash_tried
    × Right comes_again_tried
    × Right own_draw_tried
    × Right drawn_there_tried
    × Right share_under_way_tried
    × Right crashes_tried
    × Right locked_there_tried
    × Right only_share_tried
    × Right back_before_ack_tried
    × Right share_back_tried
