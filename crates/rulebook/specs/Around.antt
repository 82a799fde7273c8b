-- "Around the step" in 01: the empty plant, and the holders of a series.
-- Assumes nothing.
use Rattle.std.specs.Prelude.{ℕ, cond, leb, replicate, Ok, Err}
use Rattle.std.proofs.lemmas.List.Edits.{sets}
use Rattle.words.specs.Answers.{Answer}
use Rattle.words.specs.declared.Refusal.TheVariants.{Short, NotWhole, BadEvent, None}
use Rattle.words.specs.Numbers.{station_count, series_count, job_count, place_count, received_count}
use Rattle.words.specs.Tests.{non, count_below, least_below}
use Rattle.copies.specs.Tables.{Copies, Series, series_at, is_open, held}
use Rattle.copies.specs.Steps.{holder_set}
use Rattle.jobs.specs.Job.{no_job}
use Rattle.rulebook.specs.declared.Holders.{Holders}
use Rattle.rulebook.specs.Tables.{Plant, plant, short_tables}
use Rattle.rulebook.specs.Whole.{whole}
use Rattle.rulebook.specs.Steps.{Effect, done, refused}

-- An empty plant has no series, no jobs and all stations up.
abbrev pub empty_plant : Plant
empty_plant =
    record {
      copies = record {
        firsts = replicate series_count 0;
        lasts = replicate series_count 0;
        kinds = replicate place_count 0;
        values = replicate place_count 0;
        sent = replicate place_count 0;
        rel_to = replicate place_count 0;
        rel_kind = replicate place_count 0;
        rel_value = replicate place_count 0;
        received = replicate received_count 0;
        up = replicate station_count 1;
      };
      jobs = replicate job_count no_job;
    }

-- its lower layer's tables written into lent ones, whose extra entries stay
unfoldable pub emptied_copies : Copies → Copies
emptied_copies t =
    record {
      firsts = sets t.firsts 0 empty_plant.copies.firsts;
      lasts = sets t.lasts 0 empty_plant.copies.lasts;
      kinds = sets t.kinds 0 empty_plant.copies.kinds;
      values = sets t.values 0 empty_plant.copies.values;
      sent = sets t.sent 0 empty_plant.copies.sent;
      rel_to = sets t.rel_to 0 empty_plant.copies.rel_to;
      rel_kind = sets t.rel_kind 0 empty_plant.copies.rel_kind;
      rel_value = sets t.rel_value 0 empty_plant.copies.rel_value;
      received = sets t.received 0 empty_plant.copies.received;
      up = sets t.up 0 empty_plant.copies.up;
    }

-- and the empty plant, with the slots too
unfoldable pub emptied : Plant → Plant
emptied p = plant (emptied_copies p.copies) (sets p.jobs 0 empty_plant.jobs)

-- making one refuses only with 1
unfoldable pub empty_of : Plant → Effect
empty_of p = cond (short_tables p) (refused (Err Short) p) (done 0 (emptied p))

-- The holders of a series: the station set, bit i for station i; the count; the lowest station, 8 if none
abbrev pub holders_in : Series → Holders
holders_in r =
    record {
      answer = Ok 0;
      set = holder_set r;
      count = count_below station_count (held r);
      lowest = least_below station_count (held r);
    }

-- a refusal, with all three 0
abbrev pub no_holders : Answer → Holders
no_holders a = record { answer = a; set = 0; count = 0; lowest = 0 }

-- refusals 3 and 5 of series s, which keeps r
unfoldable pub holders_there : Series → ℕ → Holders
holders_there r s =
    cond (leb series_count s) (no_holders (Err BadEvent)) (cond (non (is_open r)) (no_holders (Err None)) (holders_in r))

-- refusals 1 and 2, and then those
unfoldable pub holders_of : Plant → ℕ → Holders
holders_of p s =
    cond (short_tables p) (no_holders (Err Short))
    (cond (non (whole p)) (no_holders (Err NotWhole)) (holders_there (series_at p.copies s) s))
