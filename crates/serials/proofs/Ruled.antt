-- Each statement is false of its wrong machines: of each there is a short list of events after which it doesn't hold, by computation.
-- Assumes nothing.
use Rattle.std.specs.Prelude.{Ok}
use Prim.Native.Nat.{ℕ, zero, suc, ◌<◌}
use native.Mathlib.Omega.{arith}
use mathlib.Core.Path.{◌≡◌, refl, sym, ap, subst, ◌∙◌}
use mathlib.Core.Bool.{Bool, true, false, true≢false}
use mathlib.Core.List.{List, [], ◌∷◌}
use mathlib.Core.Logic.{⊎_elim}
use lib.Dec.{eqb}
use lib.ListN.{length}
use borrow.Author.Tests.{eqb-true}
use Rattle.words.specs.Answers.{Answer, value_of}
use Rattle.words.specs.Numbers.{station_count}
use Rattle.words.specs.Tests.{non, ◌and◌, some_below}
use Rattle.words.proofs.Laws.{both_true}
use Rattle.words.proofs.Reflects.{reflects_eq, reflects_not, reflects_and, reflects_none}
use Rattle.copies.specs.Tables.{Series, series_at, is_open, kind, value, held, undelivered, is_up, rel_to}
use Rattle.copies.specs.Facts.{Open, Held, Undelivered}
use Rattle.copies.proofs.Tokens.{held_reflects, undelivered_reflects}
use Rattle.rulebook.specs.declared.Event.{Event}
use Rattle.rulebook.specs.Run.{Machine, Run, from_empty}
use Rattle.rulebook.proofs.Walked.{whole_walked, whole_walked_lem, effect_walked, same_machine}
use Rattle.rulebook.proofs.Computes.{computes}
use Rattle.serials.specs.Draws.{Drawn, draws_in, draws_shown, draws_after, count_in, Belongs}
use Rattle.serials.specs.Serials.{Serials, series_after, SerialsOnce, OpenOnce, OnlyOpen}
use Rattle.serials.specs.Reads.{Reads, read_of}
use Rattle.serials.specs.StaysWhole.{StaysWhole}
use Rattle.serials.specs.NothingLost.{NothingLost, TokenKept, Deliverable, message}
use Rattle.wrong.specs.Tried.{opens, sends, locks, draws, reads, two_jobs, drawn_after_crash, two_draws, drawn_in_vain, comes_again, own_draw, drawn_there, share_under_way, crashes, only_share, back_before_ack, share_back}
use Rattle.wrong.specs.Machines.{instead, changed_at, commit_unstored, commit_first_only, draw_shows, draw_hands_out, restart_from_memory, grant_by_token, read_without_own, read_at_zero, promote_early, crash_keeps_jobs, grant_forgets, drop_last, restart_voids}
use Rattle.serials.specs.RuledOut.{RulesOut, RuledOut}

-- what is false of the machine that antt can compute, with a change, is false of the rulebook's with that change
by_walking : (statement : Machine → Type 0) (change : Machine → Machine) → (statement (change effect_walked) → ⊥) → RulesOut statement change
by_walking statement change fails holds = fails (subst (λ (m : Machine). statement (change m)) same_machine holds)

-- ---- the serials
-- a draw of serial 1 alone
abbrev serial_one : Drawn
serial_one = record { series = 0; first = 1; count = 1 }

-- it belongs to the first of two such draws, and to the second
in_both : (i : ℕ) → i < 2 → Belongs (serial_one ∷ serial_one ∷ []) 0 1 i 0
in_both zero lt = record { is_draw = omega arith; of_series = refl; is_place = omega arith; stands = refl }
in_both (suc zero) lt = record { is_draw = omega arith; of_series = refl; is_place = omega arith; stands = refl }
in_both (suc (suc i)) lt = absurd (omega arith)

-- so two such draws issue serial 1 twice
issued_twice : (x : Run) → draws_shown x.replies ≡ (serial_one ∷ serial_one ∷ []) → OpenOnce x → OnlyOpen x → ⊥
issued_twice x shown each only =
    let opened = rw shown at only in
    let once = rw shown at (each 0 (omega arith) (opened 0 (omega arith)).1) in
    let same = once.2.once 1 0 0 1 0 (in_both 0 (omega arith)) (in_both 1 (omega arith)) in
    omega (arith, same.0)

-- COMMIT after a crash: serial 1 is drawn again
restored_computed : draws_shown (from_empty (restart_from_memory effect_walked) drawn_after_crash).replies ≡ (serial_one ∷ serial_one ∷ [])
unfolding computes instead changed_at draws_in draws_shown drawn_after_crash
restored_computed = refl

-- RESTART from memory is ruled out
no_memory : RulesOut Serials restart_from_memory
no_memory =
    by_walking Serials restart_from_memory
    (λ holds. issued_twice (from_empty (restart_from_memory effect_walked) drawn_after_crash) restored_computed (holds drawn_after_crash).0 (holds drawn_after_crash).1)

-- the series begins at 1, and its copy at station 0 is held with value v
unfoldable held_with : ℕ → Series → Bool
held_with v r = is_open r and eqb r.first 1 and held r 0 and eqb (value r 0) v

-- the same as facts of the series
held_facts : (v : ℕ) (r : Series) → held_with v r ≡ true → ((Open r × (r.first ≡ 1)) × Held r 0) × (value r 0 ≡ v)
unfolding held_with
held_facts v r =
    (reflects_and _ _ (reflects_and _ _ (reflects_and _ _ (reflects_not _ (reflects_eq _ _)) (reflects_eq _ _)) (held_reflects r 0))
    (reflects_eq _ _)
    ).0

-- then the serials from 1 to just before v are each in one draw, and no other
each_once_below : (v : ℕ) (x : Run) → held_with v (series_after x 0) ≡ true → OpenOnce x → SerialsOnce (draws_after x) 0 1 v
each_once_below v x computed once =
    let facts = held_facts v (series_after x 0) computed in
    let told = once 0 (omega arith) facts.0.0.0 in
    let next = sym (told.1.of_copies 0 (omega arith) facts.0.1) ∙ facts.1 in
    subst (λ (first : ℕ). SerialsOnce (draws_after x) 0 first v) facts.0.0.1
    (subst (λ (n : ℕ). SerialsOnce (draws_after x) 0 (series_after x 0).first n) next told.2)

-- two draws of serial 1, of series 1 and of series 0; the copy of series 0 is not raised
abbrev first_draws : List Drawn
first_draws = record { series = 1; first = 1; count = 1 } ∷ serial_one ∷ []

first_computed : draws_shown (from_empty (commit_first_only effect_walked) two_draws).replies ≡ first_draws
unfolding computes instead draws_in draws_shown two_draws
first_computed = refl

unraised_computed : held_with 1 (series_after (from_empty (commit_first_only effect_walked) two_draws) 0) ≡ true
unfolding computes instead held_with two_draws
unraised_computed = refl

-- then serial 1 is in a draw and yet is the next number
drawn_and_next : (x : Run) → draws_shown x.replies ≡ first_draws → held_with 1 (series_after x 0) ≡ true → OpenOnce x → ⊥
drawn_and_next x shown computed once =
    let each = rw shown at (each_once_below 1 x computed once) in
    let other = each.no_other 1 1 0 (record { is_draw = omega arith; of_series = refl; is_place = omega arith; stands = refl }) in
    omega (arith, other.1)

-- COMMIT of the first draw alone is ruled out
no_first_only : RulesOut Serials commit_first_only
no_first_only =
    by_walking Serials commit_first_only
    (λ holds. drawn_and_next (from_empty (commit_first_only effect_walked) two_draws) first_computed unraised_computed (holds two_draws).0)

-- the series is open, and a job locks it
abbrev ready : Run
ready = from_empty (draw_shows effect_walked) (opens ∷ locks 0 [])

-- a DRAW of one serial after these events writes one draw into the output
ready_computed : length (draw_shows effect_walked ready.plant ready.out draws).draws ≡ 1
unfolding computes instead
ready_computed = refl

-- DRAW that writes the output is ruled out
no_early_output : RulesOut Serials draw_shows
no_early_output =
    by_walking Serials draw_shows
    (λ holds. omega (arith, ready_computed, ap length ((holds (opens ∷ locks 0 [])).2 draws (λ e. omega (arith, e)))))

-- the copy is raised, and no draw is shown
none_computed : draws_shown (from_empty (draw_hands_out effect_walked) drawn_in_vain).replies ≡ []
unfolding computes instead draws_in draws_shown drawn_in_vain
none_computed = refl

raised_computed : held_with 2 (series_after (from_empty (draw_hands_out effect_walked) drawn_in_vain) 0) ≡ true
unfolding computes instead held_with drawn_in_vain
raised_computed = refl

-- then serial 1 is gone and in no draw
in_no_draw : (x : Run) → draws_shown x.replies ≡ [] → held_with 2 (series_after x 0) ≡ true → OpenOnce x → ⊥
in_no_draw x shown computed once =
    let each = rw shown at (each_once_below 2 x computed once) in
    let place = each.belongs 1 (omega arith) (omega arith) in
    omega (arith, place.2.is_draw)

-- DRAW that hands out is ruled out
no_early_serials : RulesOut Serials draw_hands_out
no_early_serials =
    by_walking Serials draw_hands_out
    (λ holds. in_no_draw (from_empty (draw_hands_out effect_walked) drawn_in_vain) none_computed raised_computed (holds drawn_in_vain).0)

-- the series is open, and the copies at stations 0 and 1 are held with different values
unfoldable two_values : Series → Bool
two_values r = is_open r and held r 0 and held r 1 and non (eqb (value r 0) (value r 1))

-- the same as facts of the series
two_values_facts : (r : Series) → two_values r ≡ true → ((Open r × Held r 0) × Held r 1) × (value r 0 ≡ value r 1 → ⊥)
unfolding two_values
two_values_facts r =
    (reflects_and _ _ (reflects_and _ _ (reflects_and _ _ (reflects_not _ (reflects_eq _ _)) (held_reflects r 0)) (held_reflects r 1))
    (reflects_not _ (reflects_eq _ _))
    ).0

-- then no number is the series' next
said_twice : (x : Run) → two_values (series_after x 0) ≡ true → OpenOnce x → ⊥
said_twice x differ once =
    let facts = two_values_facts (series_after x 0) differ in
    let next = (once 0 (omega arith) facts.0.0.0).1 in
    facts.1 (next.of_copies 0 (omega arith) facts.0.0.1 ∙ sym (next.of_copies 1 (omega arith) facts.0.1))

-- both draws that are shown are of serial 1
commit_computed : draws_shown (from_empty (commit_unstored effect_walked) two_jobs).replies ≡ (serial_one ∷ serial_one ∷ [])
unfolding computes instead draws_in draws_shown two_jobs
commit_computed = refl

-- COMMIT that does not store is ruled out
no_unstored : RulesOut Serials commit_unstored
no_unstored =
    by_walking Serials commit_unstored (λ holds. issued_twice (from_empty (commit_unstored effect_walked) two_jobs) commit_computed (holds two_jobs).0 (holds two_jobs).1)

-- the token is then at both stations, with an old value at station 1
grant_computed : two_values (series_after (from_empty (grant_by_token effect_walked) comes_again) 0) ≡ true
unfolding computes instead two_values comes_again
grant_computed = refl

-- GRANT by the token is ruled out
no_second_arrival : RulesOut Serials grant_by_token
no_second_arrival =
    by_walking Serials grant_by_token
    (λ holds. said_twice (from_empty (grant_by_token effect_walked) comes_again) grant_computed (holds comes_again).0)

-- ---- the reads
-- what a machine answers to an event after some others, and what a READ is to return there
abbrev answered : Machine → Run → Event → Answer × ℕ
answered m x e = ((m x.plant x.out e).answer, read_of x e)

-- a READ that returns 1 in the place of 2
misread : (m : Machine) (es : List Event) → answered m (from_empty m es) reads ≡ (Ok 1, 2) → Reads m → ⊥
misread m es computed holds =
    let told = holds es reads 1 refl (ap (λ (x : Answer × ℕ). x.0) computed) in
    omega (arith, told ∙ ap (λ (x : Answer × ℕ). x.1) computed)

-- its READ returns 1, and is to return 2
own_computed : answered (read_without_own effect_walked) (from_empty (read_without_own effect_walked) own_draw) reads ≡ (Ok 1, 2)
unfolding computes instead draws_in draws_shown count_in own_draw
own_computed = refl

-- READ without the job's own draw is ruled out
no_read_without : RulesOut Reads read_without_own
no_read_without = by_walking Reads read_without_own (misread (read_without_own effect_walked) own_draw own_computed)

-- its READ returns 1, and is to return 2
zero_computed : answered (read_at_zero effect_walked) (from_empty (read_at_zero effect_walked) drawn_there) reads ≡ (Ok 1, 2)
unfolding computes instead draws_in draws_shown count_in drawn_there
zero_computed = refl

-- READ at station 0 is ruled out
no_read_elsewhere : RulesOut Reads read_at_zero
no_read_elsewhere = by_walking Reads read_at_zero (misread (read_at_zero effect_walked) drawn_there zero_computed)

-- ---- whole tables
-- tables that aren't whole after a run
broken_after : (m : Machine) (es : List Event) → whole_walked (from_empty m es).plant ≡ false → StaysWhole m → ⊥
broken_after m es computed holds = true≢false (sym (holds.1 es).0 ∙ whole_walked_lem _ ∙ computed)

-- the exclusive copy and the share under way break W2
promote_computed : whole_walked (from_empty (promote_early effect_walked) share_under_way).plant ≡ false
unfolding computes instead share_under_way
promote_computed = refl

-- PROMOTE with a share under way is ruled out
no_early_promote : RulesOut StaysWhole promote_early
no_early_promote = by_walking StaysWhole promote_early (broken_after (promote_early effect_walked) share_under_way promote_computed)

-- the open job at the station that is down breaks W4
crash_computed : whole_walked (from_empty (crash_keeps_jobs effect_walked) crashes).plant ≡ false
unfolding computes instead crashes
crash_computed = refl

-- CRASH that leaves the jobs open is ruled out
no_jobs_kept : RulesOut StaysWhole crash_keeps_jobs
no_jobs_kept = by_walking StaysWhole crash_keeps_jobs (broken_after (crash_keeps_jobs effect_walked) crashes crash_computed)

-- ---- nothing is lost
-- the series is open and has no token
unfoldable is_lost : Series → Bool
is_lost r = is_open r and non (some_below station_count (held r)) and non (some_below station_count (undelivered r))

-- the same as facts of the series
lost_facts : (r : Series) → is_lost r ≡ true
    → (Open r × ((n : ℕ) → n < station_count → Held r n → ⊥)) × ((n : ℕ) → n < station_count → Undelivered r n → ⊥)
unfolding is_lost
lost_facts r =
    (reflects_and _ _
    (reflects_and _ _ (reflects_not _ (reflects_eq _ _))
    (reflects_none (λ n. Held r n → ⊥) station_count (held r) (λ n _. reflects_not _ (held_reflects r n))))
    (reflects_none (λ n. Undelivered r n → ⊥) station_count (undelivered r) (λ n _. reflects_not _ (undelivered_reflects r n)))
    ).0

-- then its token is not kept
token_lost : (x : Run) → is_lost (series_after x 0) ≡ true → TokenKept x → ⊥
token_lost x lost kept =
    let facts = lost_facts (series_after x 0) lost in
    ⊎_elim (λ w. facts.0.1 w.0 w.1 w.2) (λ w. facts.1 w.0 w.1 w.2) (kept 0 (omega arith) facts.0.0)

-- station 0's transfer is undelivered and its receiver is up, but after its message the receiver's copy is void
unfoldable forgets : Machine → Run → Bool
forgets m x =
    undelivered (series_after x 0) 0
    and is_up x.plant.copies (rel_to (series_after x 0) 0)
    and eqb (kind (series_at (m x.plant x.out (message (series_after x 0) 0 0)).plant.copies 0) (rel_to (series_after x 0) 0)) 0

-- then it has not arrived
not_arrived : (m : Machine) (x : Run) → forgets m x ≡ true → Deliverable m x → ⊥
unfolding forgets
not_arrived m x computed holds =
    let all = both_true _ _ computed in
    let two = both_true _ _ all.0 in
    let way = (undelivered_reflects (series_after x 0) 0).0 two.0 in
    way.0 (sym (holds 0 0 (omega arith) (omega arith) way two.1).1.kind_there ∙ eqb-true _ _ all.1)

-- the token has gone off, and its message leaves station 1 without it
forgets_computed : forgets (grant_forgets effect_walked) (from_empty (grant_forgets effect_walked) (opens ∷ sends ∷ [])) ≡ true
unfolding computes instead forgets
forgets_computed = refl

-- GRANT that changes nothing is ruled out
no_forgetting : RulesOut NothingLost grant_forgets
no_forgetting =
    by_walking NothingLost grant_forgets
    (λ holds. not_arrived (grant_forgets effect_walked) (from_empty (grant_forgets effect_walked) (opens ∷ sends ∷ [])) forgets_computed (holds (opens ∷ sends ∷ [])).1)

-- no token is left
drop_computed : is_lost (series_after (from_empty (drop_last effect_walked) only_share) 0) ≡ true
unfolding computes instead only_share is_lost
drop_computed = refl

-- DROP of the last share is ruled out
no_last_drop : RulesOut NothingLost drop_last
no_last_drop =
    by_walking NothingLost drop_last (λ holds. token_lost (from_empty (drop_last effect_walked) only_share) drop_computed (holds only_share).0)

-- no token is left
restart_computed : is_lost (series_after (from_empty (restart_voids effect_walked) back_before_ack) 0) ≡ true
unfolding computes instead changed_at back_before_ack is_lost
restart_computed = refl

-- RESTART that voids by the Releases is ruled out
no_voiding_restart : RulesOut NothingLost restart_voids
no_voiding_restart =
    by_walking NothingLost restart_voids
    (λ holds. token_lost (from_empty (restart_voids effect_walked) back_before_ack) restart_computed (holds back_before_ack).0)

-- station 1's transfer is undelivered and its receiver is up, but its message gets value 0
unfoldable missed : Machine → Run → Bool
missed m x =
    undelivered (series_after x 0) 1
    and is_up x.plant.copies (rel_to (series_after x 0) 1)
    and eqb (value_of (m x.plant x.out (message (series_after x 0) 0 1)).answer) 0

-- then it can't arrive
not_delivered : (m : Machine) (x : Run) → missed m x ≡ true → Deliverable m x → ⊥
unfolding missed
not_delivered m x computed holds =
    let all = both_true _ _ computed in
    let two = both_true _ _ all.0 in
    let told = (holds 0 1 (omega arith) (omega arith) ((undelivered_reflects (series_after x 0) 1).0 two.0) two.1).0 in
    omega (arith, sym (ap (λ (a : Answer). value_of a) told) ∙ eqb-true _ _ all.1)

-- station 0 holds a share, so the message is taken for a repeat
missed_computed : missed (grant_by_token effect_walked) (from_empty (grant_by_token effect_walked) share_back) ≡ true
unfolding computes instead share_back missed
missed_computed = refl

-- GRANT by the token is ruled out by shares too
no_share_lost : RulesOut NothingLost grant_by_token
no_share_lost =
    by_walking NothingLost grant_by_token
    (λ holds. not_delivered (grant_by_token effect_walked) (from_empty (grant_by_token effect_walked) share_back) missed_computed (holds share_back).1)

-- ---- all of them
-- each statement rules out its machines
pub ruled_out : RuledOut
ruled_out =
    ((no_unstored, no_first_only, no_early_output, no_early_serials, no_memory, no_second_arrival), (no_read_without, no_read_elsewhere), (no_early_promote, no_jobs_kept), (no_forgetting, no_last_drop, no_voiding_restart, no_share_lost))
