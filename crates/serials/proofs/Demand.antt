-- Demand 3: the four statements, from what holds at every point of a run.
-- Assumes nothing.
use Rattle.std.specs.Prelude.{Ok}
use Prim.Native.Nat.{ℕ, ◌+◌, ◌<◌}
use mathlib.Core.Path.{◌≡◌, refl, sym, ap, subst, ◌∙◌}
use mathlib.Core.List.{List}
use lib.ListN.{length}
use Rattle.words.specs.Numbers.{series_count}
use Rattle.copies.specs.Tables.{series_at, next}
use Rattle.copies.specs.Facts.{Open}
use Rattle.jobs.specs.Job.{lock_on}
use Rattle.jobs.specs.Slots.{job_at}
use Rattle.rulebook.specs.declared.Event.{Event}
use Rattle.rulebook.specs.Tables.{Plant}
use Rattle.rulebook.specs.Events.{READ}
use Rattle.rulebook.specs.Edges.{event}
use Rattle.rulebook.specs.Steps.{effect}
use Rattle.rulebook.specs.Run.{from_empty}
use Rattle.rulebook.proofs.Checked.{whole_facts}
use Rattle.serials.specs.Draws.{Drawn, draw_at}
use Rattle.serials.specs.Reads.{read_of}
use Rattle.serials.specs.Demand.{SerialsHold, ReadsHold, WholeHolds, NothingLostHolds}
use Rattle.serials.proofs.Wholes.{WholeAt, is_next_lem, some_token}
use Rattle.serials.proofs.Tiling.{chain_once, chain_count, idle_none}
use Rattle.serials.proofs.Leaving.{whole_at_lem}
use Rattle.serials.proofs.Stepping.{keeps_whole}
use Rattle.serials.proofs.Reading.{read_value}
use Rattle.serials.proofs.Showing.{only_commit}
use Rattle.serials.proofs.Delivering.{delivers}
use Rattle.serials.proofs.Running.{Sure, ran}

module _ {p : Plant} {out : List ℕ} {ds : List Drawn} (sure : Sure p out ds) where
  -- an open series is whole
  whole_there : (s : ℕ) → s < series_count → Open (series_at p.copies s) → WholeAt (series_at p.copies s) (next (series_at p.copies s))
  whole_there s l o = whole_at_lem (whole_facts p sure.is_whole).0 l o

  -- the series of a draw is open
  drawn_open : (i : ℕ) → i < length ds → Open (series_at p.copies (draw_at ds i).series)
  drawn_open i l e = idle_none ds ((sure.issued (draw_at ds i).series (sure.known i l)).closed e) i l refl

-- the serials
pub serials : SerialsHold
serials es =
    let sure = (ran es).sure in (
      λ s l o. (_, is_next_lem (whole_there sure s l o), chain_once ((sure.issued s l).opened o)),
      λ i l. (sure.known i l, drawn_open sure i l),
      λ e other. only_commit _ _ e sure.four other,
    )

-- a READ by its fields
read_fields : (es : List Event) (a b c d v : ℕ)
    → (effect (from_empty effect es).plant (from_empty effect es).out (event READ a b c d)).answer ≡ Ok v
    → v ≡ read_of (from_empty effect es) (event READ a b c d)
read_fields es a b c d v said =
    let x = from_empty effect es in
    let w = read_value x.plant x.out a b c d v said in
    w.2 ∙ ap (λ (n : ℕ). n + (lock_on (job_at x.plant.jobs a) b).drawn) (chain_count (((ran es).sure.issued b w.0).opened w.1))

-- the reads
pub reads : ReadsHold
reads es e v isRead =
    subst (λ (k : ℕ). (effect (from_empty effect es).plant (from_empty effect es).out (event k e.a e.b e.c e.d)).answer ≡ Ok v → v ≡ read_of (from_empty effect es) (event k e.a e.b e.c e.d)) (sym isRead)
    (read_fields es e.a e.b e.c e.d v)

-- whole tables stay whole
pub stays_whole : WholeHolds
stays_whole = (keeps_whole, λ es. let x = ran es in (x.sure.is_whole, x.not_short, x.not_broken))

-- nothing is lost
pub nothing_lost : NothingLostHolds
nothing_lost es =
    let sure = (ran es).sure in
    (λ s l o. some_token (whole_there sure s l o), λ s from hs hf way up. delivers _ _ s from sure.long sure.room sure.is_whole hs hf way up)
