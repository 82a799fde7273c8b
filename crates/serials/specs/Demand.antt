-- Demand 3 of the rulebook's machine, `effect`.
-- Assumes nothing.
use Rattle.rulebook.specs.Steps.{effect}
use Rattle.serials.specs.Serials.{Serials}
use Rattle.serials.specs.Reads.{Reads}
use Rattle.serials.specs.StaysWhole.{StaysWhole}
use Rattle.serials.specs.NothingLost.{NothingLost}

-- the serials
abbrev pub SerialsHold : Type 0
SerialsHold = Serials effect

-- the reads
abbrev pub ReadsHold : Type 0
ReadsHold = Reads effect

-- whole tables stay whole
abbrev pub WholeHolds : Type 0
WholeHolds = StaysWhole effect

-- nothing is lost
abbrev pub NothingLostHolds : Type 0
NothingLostHolds = NothingLost effect
