-- The holders' answer by the station set alone: "the set's ones give the count, its trailing zeros the lowest holder" in 01.
-- Assumes nothing.
use Rattle.std.specs.Prelude.{ℕ, Ok}
use Rattle.std.specs.Int.Count.{ones, count_trailing_zeros}
use Rattle.words.specs.Numbers.{station_count}
use Rattle.rulebook.specs.declared.Holders.{Holders}

-- a station set with its ones as the count, and its trailing zeros as the lowest station
abbrev pub by_set : ℕ → Holders
by_set set = record { answer = Ok 0; set = set; count = ones set; lowest = count_trailing_zeros station_count set }
