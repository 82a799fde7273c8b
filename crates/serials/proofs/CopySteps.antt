-- The accepted steps of series, copies and transfers, kind by kind: each is proper.
-- Assumes nothing.
use Prim.Native.Nat.{ℕ, ◌<◌}
use native.Mathlib.Decide.{ℕ_discrete}
use mathlib.Core.Path.{◌≡◌, refl, sym, ap, subst, ◌∙◌}
use mathlib.Core.Logic.{dite, ⊎_elim}
use mathlib.Core.Bool.{true}
use mathlib.Core.List.{List}
use Rattle.words.specs.Numbers.{station_count, series_count, share}
use Rattle.copies.specs.declared.Kept.{Kept}
use Rattle.copies.specs.Tables.{Series, series_at, kind, value, rel_kind, rel_value, received, next}
use Rattle.copies.specs.Steps.{arrived, deleted}
use Rattle.copies.specs.Facts.{Undelivered}
use Rattle.copies.proofs.There.{there_same, there_other, there_cases}
use Rattle.copies.proofs.After.{keeping, with_copy, series_arrived, after_opened, after_sent_off, after_demoted, after_shared, after_dropped, after_promoted, after_arrived, after_deleted}
use Rattle.jobs.specs.Slots.{free}
use Rattle.jobs.specs.Facts.{JobsWhole}
use Rattle.rulebook.specs.declared.Event.{Event}
use Rattle.rulebook.specs.Tables.{Plant, with_copies}
use Rattle.rulebook.specs.Events.{OPEN, SEND, DEMOTE, SHARE, DROP, PROMOTE, GRANT, ACK}
use Rattle.rulebook.specs.Edges.{event}
use Rattle.rulebook.specs.Steps.{Effect, done, do_open, do_send, do_demote, do_share, do_drop, do_promote, do_grant, do_ack}
use Rattle.rulebook.proofs.Judging.{AtKind, grant_cases, ack_cases}
use Rattle.rulebook.proofs.Admits.{Admitted, series_in_lem, station_in, from_in, to_in, first_in, last_in}
use Rattle.serials.proofs.Wholes.{WholeAt, same_whole_at}
use Rattle.serials.proofs.Locked.{Locked, SameCopy, copy_stays, free_locked, locked_copy}
use Rattle.serials.proofs.Tiling.{stop}
use Rattle.serials.proofs.Leaving.{whole_at_lem, leaves_moves}
use Rattle.serials.proofs.Proper.{Proper, proper_same, proper_copies, proper_next}
use Rattle.serials.proofs.Admitting.{transfer_apart, series_opened_lem, copy_exclusive, copy_share, copy_free, no_release, not_spent, other_shares, only_share_lem, none_under_way, Standing, grant_new, ack_delivered, grant_message, ack_message, series_closed, bounds_ordered}
use Rattle.serials.proofs.Turning.{demote_whole, drop_whole, promote_whole}
use Rattle.serials.proofs.Sending.{send_whole, share_whole, ack_whole}
use Rattle.serials.proofs.Arriving.{grant_whole}
use Rattle.serials.proofs.Opening.{open_whole}
use Rattle.serials.proofs.Telling.{way_no_exclusive, way_share}

module _ (p : Plant) (out : List ℕ) where
  -- so it is of a step, at its kind, where no refusal is given
  abbrev pub ProperAt : ℕ → (Plant → Event → Effect) → Type 0
  ProperAt = AtKind (λ e x. Admitted p out e → Proper p x) p

  -- a copy that is free is locked by no job: it may change; the others' copies stay
  free_may_change : (s k : ℕ) (a : Kept) → free p.jobs s k ≡ true
      → (j n : ℕ) → n < station_count → Locked p.jobs j s n → SameCopy (series_at p.copies s) (keeping (series_at p.copies s) k a) n
  free_may_change s k a isFree j n l lock =
      copy_stays refl refl (there_other k a _ (λ q. free_locked p.jobs j s k isFree (rw q at lock)))

  -- a change of the Release leaves each copy
  release_may_change : (s k : ℕ) (a : Kept) → a.kind ≡ kind (series_at p.copies s) k → a.value ≡ value (series_at p.copies s) k
      → (j n : ℕ) → n < station_count → Locked p.jobs j s n → SameCopy (series_at p.copies s) (keeping (series_at p.copies s) k a) n
  release_may_change s k a same_kind same_value j n l lock =
      record {
        same_first = refl;
        same_last = refl;
        same_kind = there_cases (λ (b : Kept). b.kind ≡ kind (series_at p.copies s) n) k a _ n (λ q. rw q same_kind) (λ _. refl);
        same_value = there_cases (λ (b : Kept). b.value ≡ value (series_at p.copies s) n) k a _ n (λ q. rw q same_value) (λ _. refl);
      }

  -- ---- copies
  -- DEMOTE
  pub proper_DEMOTE : ProperAt DEMOTE do_demote
  unfolding do_demote
  proper_DEMOTE a b c d w =
      let s = w.is_sound in
      let hs = series_in_lem s refl in
      let hn = station_in s refl in
      proper_next s.copies s.jobs (after_demoted s.long hs hn)
      (demote_whole hn (copy_exclusive w refl) (whole_at_lem s.copies hs (series_opened_lem w refl)))
      (free_may_change a b _ (copy_free w refl)) 0 refl refl

  -- DROP
  pub proper_DROP : ProperAt DROP do_drop
  unfolding do_drop
  proper_DROP a b c d w =
      let s = w.is_sound in
      let hs = series_in_lem s refl in
      let hn = station_in s refl in
      let other = other_shares w refl in
      proper_next s.copies s.jobs (after_dropped s.long hs hn)
      (drop_whole hn (copy_share w refl refl) other.0 other.1 other.2 other.3 (whole_at_lem s.copies hs (series_opened_lem w refl)))
      (free_may_change a b _ (copy_free w refl)) 0 refl refl

  -- PROMOTE
  pub proper_PROMOTE : ProperAt PROMOTE do_promote
  unfolding do_promote
  proper_PROMOTE a b c d w =
      let s = w.is_sound in
      let hs = series_in_lem s refl in
      let hn = station_in s refl in
      proper_next s.copies s.jobs (after_promoted s.long hs hn)
      (promote_whole hn (copy_share w refl refl) (only_share_lem w refl refl) (none_under_way w refl refl) (whole_at_lem s.copies hs (series_opened_lem w refl)))
      (free_may_change a b _ (copy_free w refl)) 0 refl refl

  -- ---- transfers
  -- SEND
  pub proper_SEND : ProperAt SEND do_send
  unfolding do_send
  proper_SEND a b c d w =
      let s = w.is_sound in
      let hs = series_in_lem s refl in
      let hn = from_in s refl in
      proper_next s.copies s.jobs (after_sent_off s.long hs hn c)
      (send_whole hn (to_in s refl) (transfer_apart w refl) (copy_exclusive w refl) (no_release w refl) (not_spent w refl) (whole_at_lem s.copies hs (series_opened_lem w refl)))
      (free_may_change a b _ (copy_free w refl)) _ refl refl

  -- SHARE
  pub proper_SHARE : ProperAt SHARE do_share
  unfolding do_share
  proper_SHARE a b c d w =
      let s = w.is_sound in
      let hs = series_in_lem s refl in
      let hn = from_in s refl in
      proper_next s.copies s.jobs (after_shared s.long hs hn c)
      (share_whole hn (to_in s refl) (transfer_apart w refl) (copy_share w refl refl) (no_release w refl) (not_spent w refl) (whole_at_lem s.copies hs (series_opened_lem w refl)))
      (release_may_change a b _ refl refl) _ refl refl

  -- ACK
  pub proper_ACK : ProperAt ACK do_ack
  proper_ACK a b c d w =
      ack_cases p (event ACK a b c d) (Proper p) (λ m. gone (ack_delivered _ b c d (ack_message w refl refl) m)) (λ _. proper_same w.is_sound.copies w.is_sound.jobs refl refl)
    where
      gone : (Undelivered (series_at p.copies a) b → ⊥) → Proper p (done 1 (with_copies p (deleted p.copies a b)))
      gone delivered =
          let s = w.is_sound in
          let hs = series_in_lem s refl in
          let hn = from_in s refl in
          proper_next s.copies s.jobs (after_deleted s.long hs hn)
          (ack_whole hn delivered (whole_at_lem s.copies hs (series_opened_lem w refl)))
          (release_may_change a b _ refl refl) 1 refl refl

  -- a transfer that stands and is not yet received is undelivered
  is_undelivered : {r : Series} {from to number : ℕ} → to < station_count → Standing r from to number → received r to from < number
      → Undelivered r from
  is_undelivered l m new = (m.is_standing, rw m.addressed l, rw (m.addressed, m.numbered) new)

  -- a copy that a transfer arrives at, if a job locks it, is a share and stays one with its value
  arrival_may_change : {from to : ℕ} (s number : ℕ) → s < series_count → from < station_count → to < station_count
      → JobsWhole p.copies p.jobs
      → WholeAt (series_at p.copies s) (next (series_at p.copies s)) → Undelivered (series_at p.copies s) from
      → (j n : ℕ) → n < station_count → Locked p.jobs j s n → SameCopy (series_at p.copies s) (series_arrived (series_at p.copies s) from to number) n
  arrival_may_change {from} {to} s number hs hf ht above good way j n l lock =
      dite (ℕ_discrete n to) (λ q. subst (SameCopy r after) (sym q) (there_share (⊎_elim (λ e. e) (λ e. absurd (way_no_exclusive hf ht way e good)) (locked_copy above (rw q at lock)).held)))
      (λ ne. copy_stays refl refl (there_other to _ _ ne))
    where
      r : Series
      r = series_at p.copies s

      after : Series
      after = series_arrived r from to number

      there_share : kind r to ≡ share → SameCopy r after to
      there_share e =
          let same = way_share hf ht way e good in
          let new = there_same to (with_copy (r.kept to) (rel_kind r from) (rel_value r from)) r.kept in
          record {
            same_first = refl;
            same_last = refl;
            same_kind = ap (λ (k : Kept). k.kind) new ∙ same.0 ∙ sym e;
            same_value = ap (λ (k : Kept). k.value) new ∙ same.1;
          }

  -- GRANT
  pub proper_GRANT : ProperAt GRANT do_grant
  proper_GRANT a b c d w =
      grant_cases p (event GRANT a b c d) (Proper p) (λ _. proper_same w.is_sound.copies w.is_sound.jobs refl refl)
      (λ new. let m = grant_new _ b c d (grant_message w refl) new in arrives m.0 m.1)
    where
      arrives : Standing (series_at p.copies a) b c d → received (series_at p.copies a) c b < d
          → Proper p (done 1 (with_copies p (arrived p.copies a b c d)))
      arrives m new =
          let s = w.is_sound in
          let hs = series_in_lem s refl in
          let hf = from_in s refl in
          let ht = to_in s refl in
          let good = whole_at_lem s.copies hs (series_opened_lem w refl) in
          proper_next s.copies s.jobs (after_arrived s.long hs hf ht d)
          (grant_whole hf ht m.is_standing m.addressed m.numbered new good)
          (arrival_may_change a d hs hf ht s.jobs good (is_undelivered ht m new)) 1 refl refl

  -- ---- series
  -- OPEN: no job locks a series that isn't open
  pub proper_OPEN : ProperAt OPEN do_open
  unfolding do_open
  proper_OPEN a b c d w =
      let s = w.is_sound in
      let hs = series_in_lem s refl in
      let hn = station_in s refl in
      let was = series_closed w refl in
      let leaves = after_opened s.long hs hn b c in
      let good = open_whole hn (first_in s refl).0 (bounds_ordered w refl) (last_in s refl).1 (s.copies.closed a hs was) in
      proper_copies s.copies s.jobs leaves good
      (λ j n l lock. absurd ((locked_copy s.jobs lock).opened was)) 0
      (leaves_moves s.copies leaves good
      (record {
        opened = λ o. absurd (o was);
        closed = λ _. (λ x. stop refl, λ _. (same_whole_at leaves.here good).is_next ∙ sym leaves.here.first);
      }))
