-- Every refusal has value 0 and changes nothing: of a step, of the making of an empty plant, of the holders.
-- Assumes nothing.
use Rattle.std.specs.Prelude.{Err}
use Rattle.std.specs.Prelude.{Ok}
use mathlib.Core.Path.{◌≡◌, refl}
use mathlib.Core.Bool.{Bool, true, false, cond}
use mathlib.Core.List.{[]}
use lib.Dec.{leb}
use Rattle.words.specs.Answers.{Answer, code_of, value_of}
use Rattle.words.specs.declared.Refusal.TheVariants.{Short, NotWhole, BadEvent, Taken, None, Down, Up, Held, Full, Copy, Locked, NoLock, Drawn, Range, Wait, Spent, Others, NoMessage}
use Rattle.words.specs.Numbers.{series_count}
use Rattle.words.specs.Tests.{non}
use Rattle.copies.specs.Tables.{series_at, is_open}
use Rattle.jobs.specs.Draws.{shown}
use Rattle.rulebook.specs.declared.Event.{Event}
use Rattle.rulebook.specs.declared.Holders.{Holders}
use Rattle.rulebook.specs.Tables.{Plant, short_tables}
use Rattle.rulebook.specs.Whole.{whole}
use Rattle.rulebook.specs.Events.{GRANT, ACK}
use Rattle.rulebook.specs.Edges.{event}
use Rattle.rulebook.specs.Refusals.{refusals}
use Rattle.rulebook.specs.Steps.{Effect, done, refused, do_open, do_begin, do_lockx, do_locks, do_draw, do_read, do_commit, do_abort, do_send, do_demote, do_share, do_drop, do_promote, do_crash, do_restart, accepted, effect, step_of}
use Rattle.rulebook.specs.Around.{emptied, empty_of, holders_in, no_holders, holders_there, holders_of}
use Rattle.rulebook.specs.Keeps.{Refused, StepRefusalKeeps, EmptyRefusalKeeps, HoldersRefusalKeeps, RefusalKeeps}
use Rattle.rulebook.proofs.Judging.{cond_cases, judged_cases, accepted_by_kind, ◌then◌, grant_cases, ack_cases}

-- a refusal has value 0
pub no_value : (a : Answer) → Refused a → value_of a ≡ 0
no_value (Ok v) h = absurd (h refl)
no_value (Err r) h = refl

-- an accepted step's code is 0
unfoldable pub Accepts : Effect → Type 0
Accepts x = code_of x.answer ≡ 0

-- so it is, in the order of the kinds
pub accepted_code : (p : Plant) (e : Event) → Accepts (accepted p e)
unfolding Accepts do_open do_begin do_lockx do_locks do_draw do_read do_commit do_abort do_send do_demote do_share do_drop do_promote do_crash do_restart
accepted_code p =
    accepted_by_kind (λ e x. Accepts x) p
    ((λ a b c d. refl)
    then (λ a b c d. refl)
    then (λ a b c d. refl)
    then (λ a b c d. refl)
    then (λ a b c d. refl)
    then (λ a b c d. refl)
    then (λ a b c d. refl)
    then (λ a b c d. refl)
    then (λ a b c d. refl)
    then (λ a b c d. refl)
    then (λ a b c d. refl)
    then (λ a b c d. refl)
    then (λ a b c d. refl)
    then (λ a b c d. refl)
    then (λ a b c d. grant_cases p (event GRANT a b c d) Accepts (λ _. refl) (λ _. refl))
    then (λ a b c d. ack_cases p (event ACK a b c d) Accepts (λ _. refl) (λ _. refl))
    then (λ a b c d. refl)
    then (λ a b c d. refl)
    then tt)
    (λ e. refl)

-- a refused step leaves tables and output
pub step_refusal_keeps : StepRefusalKeeps
unfolding step_of effect shown Accepts
step_refusal_keeps p out e h =
    let w = judged_cases (λ (x : Effect). Refused x.answer → (value_of x.answer ≡ 0) × (x.plant ≡ p) × (x.draws ≡ [])) (refusals out) p e
    (λ a. λ refusal. (no_value a refusal, refl, refl)) (λ none. λ refusal. absurd (refusal (accepted_code p e))) h in
    (w.0, w.1, rw w.2)

-- where no empty plant is made, the tables are left
pub empty_refusal_keeps : EmptyRefusalKeeps
unfolding empty_of
empty_refusal_keeps p =
    cond_cases (λ (x : Effect). Refused x.answer → (value_of x.answer ≡ 0) × (x.plant ≡ p)) (short_tables p) (refused (Err Short) p) (done 0 (emptied p))
    (λ _ _. (refl, refl)) (λ _ refusal. absurd (refusal refl))

-- where the answer is a refusal, all is 0
unfoldable NoneShown : Holders → Type 0
NoneShown x = Refused x.answer → (value_of x.answer ≡ 0) × (x.set ≡ 0) × (x.count ≡ 0) × (x.lowest ≡ 0)

-- a refusal of the holders, or what follows it
none_or : (b : Bool) (a : Answer) (x : Holders) → NoneShown x → NoneShown (cond b (no_holders a) x)
unfolding NoneShown
none_or true a x h = λ refusal. (no_value a refusal, refl, refl, refl)
none_or false a x h = h

-- where the holders are refused, all three numbers are 0
pub holders_refusal_keeps : HoldersRefusalKeeps
unfolding holders_of holders_there NoneShown
holders_refusal_keeps p s =
    none_or (short_tables p) (Err Short) _
    (none_or (non (whole p)) (Err NotWhole) _
    (none_or (leb series_count s) (Err BadEvent) _
    (none_or (non (is_open (series_at p.copies s))) (Err None) (holders_in (series_at p.copies s)) (λ refusal. absurd (refusal refl)))))

-- all three
pub refusal_keeps : RefusalKeeps
refusal_keeps = (step_refusal_keeps, empty_refusal_keeps, holders_refusal_keeps)
