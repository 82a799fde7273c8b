-- What the four statements rule out: each is false of machines that go wrong in one place.
-- Assumes nothing.
use Rattle.rulebook.specs.Steps.{effect}
use Rattle.rulebook.specs.Run.{Machine}
use Rattle.wrong.specs.Machines.{commit_unstored, commit_first_only, draw_shows, draw_hands_out, restart_from_memory, grant_by_token, read_without_own, read_at_zero, promote_early, crash_keeps_jobs, grant_forgets, drop_last, restart_voids}
use Rattle.serials.specs.Serials.{Serials}
use Rattle.serials.specs.Reads.{Reads}
use Rattle.serials.specs.StaysWhole.{StaysWhole}
use Rattle.serials.specs.NothingLost.{NothingLost}

-- the statement is false of the rulebook's machine with this change
abbrev pub RulesOut : (Machine → Type 0) → (Machine → Machine) → Type 0
RulesOut statement change = statement (change effect) → ⊥

-- THE STATEMENT: each of the statements rules out its machines. A GRANT judged by the token loses one too: a share, sent to a station that
-- holds another.
abbrev pub RuledOut : Type 0
RuledOut =
    (RulesOut Serials commit_unstored
    × RulesOut Serials commit_first_only
    × RulesOut Serials draw_shows
    × RulesOut Serials draw_hands_out
    × RulesOut Serials restart_from_memory
    × RulesOut Serials grant_by_token)
    × (RulesOut Reads read_without_own × RulesOut Reads read_at_zero)
    × (RulesOut StaysWhole promote_early × RulesOut StaysWhole crash_keeps_jobs)
    × (RulesOut NothingLost grant_forgets
    × RulesOut NothingLost drop_last
    × RulesOut NothingLost restart_voids
    × RulesOut NothingLost grant_by_token)
