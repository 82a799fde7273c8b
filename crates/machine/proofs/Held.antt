-- The holders of a series: a law for each way out of `holders_in` and of `holders`. Assumes nothing.
use Prim.Native.Nat.{ℕ, ◌≤◌, ◌<◌}
use mathlib.Core.Path.{◌≡◌, sym, ap, ◌∙◌}
use mathlib.Core.Bool.{Bool, true, false, not}
use mathlib.Core.List.{List}
use lib.Dec.{eqb, leb}
use lib.ListN.{length}
use borrow.Author.Tests.{le-leb, lt-leb, le-ltb}
use Rattle.words.specs.Answers.{refusal_of}
use Rattle.words.specs.declared.Refusal.TheVariants.{BadEvent, None}
use Rattle.std.specs.Prelude.{Result, Ok, Err}
use Rattle.words.specs.declared.Flaw.{Flaw}
use Rattle.words.specs.declared.Flaw.TheVariants.{Short as TooShort, Broken}
use Rattle.words.specs.Numbers.{station_count, series_count, place_count}
use Rattle.words.specs.Tests.{non, ◌or◌}
use Rattle.words.proofs.Guards.{non_call_true, non_call_false}
use Rattle.words.proofs.Laws.{neither}
use Rattle.copies.specs.Tables.{Copies, Series, series_at, held}
use Rattle.copies.specs.Steps.{holder_set}
use Rattle.copies.specs.Calls.{read, holders}
use Rattle.copies.proofs.Long.{long}
use Rattle.copies.proofs.Reading.{read_open}
use Rattle.jobs.specs.declared.Job.{Job}
use Rattle.rulebook.specs.declared.Holders.{Holders}
use Rattle.rulebook.specs.Tables.{plant, short_tables}
use Rattle.rulebook.specs.Whole.{check}
use Rattle.rulebook.specs.Around.{holders_there, holders_in, no_holders, holders_of}
use Rattle.rulebook.proofs.Checked.{check_whole, check_short, check_broken}
use Rattle.machine.specs.Holding.{by_set}
use Rattle.machine.proofs.Sets.{ones_set, zeros_set}

-- ---- a series of tables that are whole
-- the set's ones count the holders, and its trailing zeros are the lowest
set_right : (r : Series) (set : ℕ) → set ≡ holder_set r → by_set set ≡ holders_in r
set_right r set e = rw (e, ones_set station_count (held r), zeros_set station_count (held r))

-- refusal 3
pub there_bad : (r : Series) (s : ℕ) (h : Holders) → series_count ≤ s → h ≡ no_holders (Err BadEvent) → h ≡ holders_there r s
unfolding holders_there
there_bad r s h l e = rw (le-leb series_count s l) e

-- what `is_open` says of a series
abbrev said_open : Copies → ℕ → Bool
said_open t s = non (eqb (read series_count t.firsts (leb series_count s) s) 0)

module _ (t : Copies) (s : ℕ) (h : Holders) (o : Bool) (l : series_count ≤ length t.firsts) (small : s < series_count) (said : o ≡ said_open t s) where
  -- refusal 5
  pub there_closed : not o ≡ true → h ≡ no_holders (Err None) → h ≡ holders_there (series_at t s) s
  unfolding holders_there
  there_closed flag e =
      let shut = non_call_true o _ (read_open t s o l small said) flag in
      rw (lt-leb series_count s small, shut) e

  -- the set, its ones and its trailing zeros
  pub there_held : (set : ℕ) → place_count ≤ length t.kinds → not o ≡ false → set ≡ holders t.kinds s → h ≡ by_set set → h ≡ holders_there (series_at t s) s
  unfolding holders_there holders ◌or◌
  there_held set k flag e q =
      let opened = non_call_false o _ (read_open t s o l small said) flag in
      let in_range = lt-leb series_count s small in
      let all : set ≡ holder_set (series_at t s) = rw (le-ltb _ _ k, in_range) at e in
      rw (in_range, opened) (q ∙ set_right (series_at t s) set all)

-- ---- all tables
module _ (t : Copies) (bs : List Job) (found : Result (Unit {0}) Flaw) (e : found ≡ check (plant t bs)) where
  -- tables that the check finds whole are not short
  pub whole_long : found ≡ Ok tt → (series_count ≤ length t.firsts) × (place_count ≤ length t.kinds)
  unfolding short_tables
  whole_long w = let l = long (neither _ _ (check_whole (plant t bs) (sym e ∙ w)).0).0 in (l.firsts, l.kinds)

  module _ (s : ℕ) (h : Holders) where
    -- the check finds something wrong: refusal 1 or 2
    pub holders_wrong : (flaw : Flaw) → found ≡ Err flaw → h ≡ no_holders (Err (refusal_of flaw)) → h ≡ holders_of (plant t bs) s
    unfolding holders_of non
    holders_wrong TooShort w q = rw (check_short (plant t bs) (sym e ∙ w)) q
    holders_wrong (Broken rule) w q =
        let broken = check_broken (plant t bs) rule (sym e ∙ w) in rw (broken.0, broken.1) q

    -- neither
    pub holders_whole : found ≡ Ok tt → h ≡ holders_there (series_at t s) s → h ≡ holders_of (plant t bs) s
    unfolding holders_of holders_there non
    holders_whole w q = let fine = check_whole (plant t bs) (sym e ∙ w) in rw (fine.0, fine.1) q
