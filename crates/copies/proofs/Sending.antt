-- SEND, where its Release is made: the copy becomes void. Assumes nothing.
use Prim.Native.Nat.{ℕ, ◌+◌}
use native.Mathlib.Omega.{arith}
use mathlib.Core.Path.{◌≡◌}
use mathlib.Core.Bool.{Bool, false}
use lib.Dec.{eqb}
use Rattle.std.specs.Prelude.{Ok}
use Rattle.words.specs.Numbers.{void, exclusive}
use Rattle.words.specs.Tests.{non, refuse_if}
use Rattle.words.specs.declared.Refusal.TheVariants.{Wait, Spent}
use Rattle.copies.specs.Tables.{Copies, series_at, is_open, is_up, kind, sent_count, stands}
use Rattle.copies.specs.Steps.{put_kind, released, sent_off, is_spent}
use Rattle.copies.specs.Calls.{outcome, refuse, done, short_sender, bad_transfer, send_in, send}
use Rattle.copies.proofs.Guards.{chain}

-- the tables with the Release, and then with the copy void, are those of SEND
pub sent_void : (t t' : Copies) (free : Bool) (s from to number : ℕ)
    → short_sender t ≡ false → bad_transfer s from to ≡ false
    → non (is_open (series_at t s)) ≡ false → non (is_up t from) ≡ false → non (eqb (kind (series_at t s) from) exclusive) ≡ false → non free ≡ false
    → outcome (Ok number) t' ≡ refuse t Wait (stands (series_at t s) from) (refuse t Spent (is_spent (series_at t s) from) (done (sent_count (series_at t s) from + 1) (released t s from to exclusive)))
    → outcome (Ok number) (put_kind t' s from void) ≡ send t free s from to
unfolding send send_in sent_off refuse_if
sent_void t t' free s from to number short bad opened up exclusive_there free_there made = rw (short, bad, opened, up, exclusive_there, free_there) (grind (arith, chain))
