-- In whole tables a call of the lower layer is the rulebook's step: kind by kind, its refusals in their order. Assumes nothing.
use Rattle.std.specs.Prelude.{Err}
use Prim.Native.Nat.{ℕ, ◌≤◌, ◌<◌}
use native.Mathlib.Omega.{arith}
use mathlib.Core.Path.{◌≡◌, refl, sym}
use mathlib.Core.Bool.{false}
use mathlib.Core.List.{List}
use lib.Dec.{eqb, ltb}
use borrow.Author.Tests.{le-ltb, lt-leb, ne_eqb}
use Rattle.words.specs.declared.Refusal.TheVariants.{Short, BadEvent, Copy, Down, Locked, NoMessage, None, Others, Spent, Taken, Up, Wait}
use Rattle.words.specs.Numbers.{station_count, series_count, place_count, greatest_serial, greatest_sent}
use Rattle.words.specs.Tests.{◌or◌}
use Rattle.words.proofs.Laws.{or_false}
use Rattle.copies.specs.Tables.{Copies, series_at}
use Rattle.copies.specs.Steps.{is_repeat, matches}
use Rattle.copies.specs.Calls.{Outcome, outcome, lacks, open_series, open_in, send, send_in, demote, demote_in, send_share, share_in, drop, drop_in, promote, promote_in, grant, grant_in, ack, ack_in, restart, restart_in, bad_transfer, bad_message, bad_opening, short_opener, short_sender, short_holder, short_promoter, short_receiver, short_source}
use Rattle.copies.proofs.Long.{Long}
use Rattle.copies.proofs.Reading.{copy_good}
use Rattle.jobs.specs.Slots.{free}
use Rattle.rulebook.specs.Tables.{Plant}
use Rattle.rulebook.specs.Events.{OPEN, SEND, DEMOTE, SHARE, DROP, PROMOTE, GRANT, ACK, RESTART}
use Rattle.rulebook.specs.Edges.{event}
use Rattle.rulebook.specs.Steps.{do_open, do_send, do_demote, do_share, do_drop, do_promote, do_grant, do_ack, do_restart}
use Rattle.rulebook.proofs.Admits.{Sound, series_in_lem, station_in, from_in, to_in, first_in, last_in, number_in}
use Rattle.events.specs.Unchecked.{of_copies}
use Rattle.events.proofs.Judged.{Seen, alike, same, pass, either, judges, after3}

-- ---- refusal 1 of the calls is not given
module _ {t : Copies} (l : Long t) where
  -- of OPEN
  long_opener : short_opener t ≡ false
  unfolding short_opener ◌or◌
  long_opener = rw (le-ltb _ _ l.firsts, le-ltb _ _ l.lasts, le-ltb _ _ l.kinds, le-ltb _ _ l.values, le-ltb _ _ l.up)

  -- of SEND and SHARE
  long_sender : short_sender t ≡ false
  unfolding short_sender ◌or◌
  long_sender = rw (le-ltb _ _ l.firsts, le-ltb _ _ l.kinds, le-ltb _ _ l.values, le-ltb _ _ l.sent, le-ltb _ _ l.rel_to, le-ltb _ _ l.rel_kind, le-ltb _ _ l.rel_value, le-ltb _ _ l.up)

  -- of DEMOTE and DROP
  long_holder : short_holder t ≡ false
  unfolding short_holder ◌or◌
  long_holder = rw (le-ltb _ _ l.firsts, le-ltb _ _ l.kinds, le-ltb _ _ l.up)

  -- of PROMOTE
  long_promoter : short_promoter t ≡ false
  unfolding short_promoter ◌or◌
  long_promoter = rw (le-ltb _ _ l.firsts, le-ltb _ _ l.kinds, le-ltb _ _ l.sent, le-ltb _ _ l.rel_to, le-ltb _ _ l.rel_kind, le-ltb _ _ l.received, le-ltb _ _ l.up)

  -- of GRANT
  long_receiver : short_receiver t ≡ false
  unfolding short_receiver ◌or◌
  long_receiver = rw (le-ltb _ _ l.firsts, le-ltb _ _ l.kinds, le-ltb _ _ l.values, le-ltb _ _ l.sent, le-ltb _ _ l.rel_to, le-ltb _ _ l.rel_kind, le-ltb _ _ l.rel_value, le-ltb _ _ l.received, le-ltb _ _ l.up)

  -- of ACK
  long_source : short_source t ≡ false
  unfolding short_source ◌or◌
  long_source = rw (le-ltb _ _ l.firsts, le-ltb _ _ l.sent, le-ltb _ _ l.rel_to, le-ltb _ _ l.rel_kind, le-ltb _ _ l.rel_value, le-ltb _ _ l.received, le-ltb _ _ l.up)

  -- of RESTART
  long_restart : (lacks place_count t.kinds or lacks station_count t.up) ≡ false
  unfolding ◌or◌
  long_restart = rw (le-ltb _ _ l.kinds, le-ltb _ _ l.up)

-- ---- nor is refusal 3
-- of a transfer
transfer_good : (s from to : ℕ) → s < series_count → from < station_count → to < station_count → eqb from to ≡ false → bad_transfer s from to ≡ false
unfolding bad_transfer ◌or◌
transfer_good s from to hs hf ht e = rw (lt-leb _ _ hs, lt-leb _ _ hf, lt-leb _ _ ht, e)

-- of a message
message_good : (s from to number : ℕ) → bad_transfer s from to ≡ false → (1 ≤ number) × (number ≤ greatest_sent) → bad_message s from to number ≡ false
unfolding bad_message ◌or◌
message_good s from to number e h =
    let some : number ≡ 0 → ⊥ = λ z. omega (arith, h.0) in
    rw (e, ne_eqb _ _ some, le-ltb _ _ h.1)

-- of an OPEN
opening_good : (s first last n : ℕ) → s < series_count → n < station_count → 1 ≤ first → ltb last first ≡ false → last ≤ greatest_serial
    → bad_opening s first last n ≡ false
unfolding bad_opening ◌or◌
opening_good s first last n hs hn hf e hl =
    let some : first ≡ 0 → ⊥ = λ z. omega arith in
    rw (copy_good s n hs hn, ne_eqb _ _ some, e, le-ltb _ _ hl)

module _ (p : Plant) (out : List ℕ) where
  -- what a call of the lower layer leaves
  abbrev lower : Seen Outcome p out
  unfolding judges
  lower = record { leaves = of_copies p out; refusal = λ r. outcome (Err r) p.copies; keeps = λ r. refl }

  -- ---- the calls, kind by kind
  -- OPEN
  pub whole_OPEN : (a b c d : ℕ) → Sound p out (event OPEN a b c d)
      → of_copies p out (open_series p.copies a b c d) ≡ after3 p out (event OPEN a b c d)
  unfolding judges open_series open_in do_open
  whole_OPEN a b c d w =
      pass lower Short _ _ _ (long_opener w.long)
      (pass lower BadEvent _ _ _ (opening_good a b c d (series_in_lem w refl) (station_in w refl) (first_in w refl).0 w.bounds (last_in w refl).1)
      (same lower Taken _ _ _
      (λ _. same lower Down _ _ _
      (λ _. refl))))

  -- SEND
  pub whole_SEND : (a b c d : ℕ) → Sound p out (event SEND a b c d)
      → of_copies p out (send p.copies (free p.jobs a b) a b c) ≡ after3 p out (event SEND a b c d)
  unfolding judges send send_in do_send
  whole_SEND a b c d w =
      pass lower Short _ _ _ (long_sender w.long)
      (pass lower BadEvent _ _ _ (transfer_good a b c (series_in_lem w refl) (from_in w refl) (to_in w refl) w.apart)
      (alike lower None _ _ _ _ (sym (or_false _))
      (λ _. same lower Down _ _ _
      (λ _. same lower Copy _ _ _
      (λ _. same lower Locked _ _ _
      (λ _. same lower Wait _ _ _
      (λ _. same lower Spent _ _ _
      (λ _. refl))))))))

  -- DEMOTE
  pub whole_DEMOTE : (a b c d : ℕ) → Sound p out (event DEMOTE a b c d)
      → of_copies p out (demote p.copies (free p.jobs a b) a b) ≡ after3 p out (event DEMOTE a b c d)
  unfolding judges demote demote_in do_demote
  whole_DEMOTE a b c d w =
      pass lower Short _ _ _ (long_holder w.long)
      (pass lower BadEvent _ _ _ (copy_good a b (series_in_lem w refl) (station_in w refl))
      (alike lower None _ _ _ _ (sym (or_false _))
      (λ _. same lower Down _ _ _
      (λ _. same lower Copy _ _ _
      (λ _. same lower Locked _ _ _
      (λ _. refl))))))

  -- SHARE
  pub whole_SHARE : (a b c d : ℕ) → Sound p out (event SHARE a b c d)
      → of_copies p out (send_share p.copies a b c) ≡ after3 p out (event SHARE a b c d)
  unfolding judges send_share share_in do_share
  whole_SHARE a b c d w =
      pass lower Short _ _ _ (long_sender w.long)
      (pass lower BadEvent _ _ _ (transfer_good a b c (series_in_lem w refl) (from_in w refl) (to_in w refl) w.apart)
      (alike lower None _ _ _ _ (sym (or_false _))
      (λ _. same lower Down _ _ _
      (λ _. same lower Copy _ _ _
      (λ _. same lower Wait _ _ _
      (λ _. same lower Spent _ _ _
      (λ _. refl)))))))

  -- DROP
  pub whole_DROP : (a b c d : ℕ) → Sound p out (event DROP a b c d)
      → of_copies p out (drop p.copies (free p.jobs a b) a b) ≡ after3 p out (event DROP a b c d)
  unfolding judges drop drop_in do_drop
  whole_DROP a b c d w =
      pass lower Short _ _ _ (long_holder w.long)
      (pass lower BadEvent _ _ _ (copy_good a b (series_in_lem w refl) (station_in w refl))
      (alike lower None _ _ _ _ (sym (or_false _))
      (λ _. same lower Down _ _ _
      (λ _. same lower Copy _ _ _
      (λ _. same lower Locked _ _ _
      (λ _. same lower Others _ _ _
      (λ _. refl)))))))

  -- PROMOTE
  pub whole_PROMOTE : (a b c d : ℕ) → Sound p out (event PROMOTE a b c d)
      → of_copies p out (promote p.copies (free p.jobs a b) a b) ≡ after3 p out (event PROMOTE a b c d)
  unfolding judges promote promote_in do_promote
  whole_PROMOTE a b c d w =
      pass lower Short _ _ _ (long_promoter w.long)
      (pass lower BadEvent _ _ _ (copy_good a b (series_in_lem w refl) (station_in w refl))
      (alike lower None _ _ _ _ (sym (or_false _))
      (λ _. same lower Down _ _ _
      (λ _. same lower Copy _ _ _
      (λ _. same lower Locked _ _ _
      (λ _. same lower Others _ _ _
      (λ _. refl)))))))

  -- GRANT
  pub whole_GRANT : (a b c d : ℕ) → Sound p out (event GRANT a b c d)
      → of_copies p out (grant p.copies a b c d) ≡ after3 p out (event GRANT a b c d)
  unfolding judges grant grant_in do_grant
  whole_GRANT a b c d w =
      pass lower Short _ _ _ (long_receiver w.long)
      (pass lower BadEvent _ _ _ (message_good a b c d (transfer_good a b c (series_in_lem w refl) (from_in w refl) (to_in w refl) w.apart) (number_in w refl))
      (alike lower None _ _ _ _ (sym (or_false _))
      (λ _. same lower Down _ _ _
      (λ _. same lower NoMessage _ _ _
      (λ _. either lower (is_repeat (series_at p.copies a) b c d) _ _ _ _ refl refl)))))

  -- ACK
  pub whole_ACK : (a b c d : ℕ) → Sound p out (event ACK a b c d)
      → of_copies p out (ack p.copies a b c d) ≡ after3 p out (event ACK a b c d)
  unfolding judges ack ack_in do_ack
  whole_ACK a b c d w =
      pass lower Short _ _ _ (long_source w.long)
      (pass lower BadEvent _ _ _ (message_good a b c d (transfer_good a b c (series_in_lem w refl) (from_in w refl) (to_in w refl) w.apart) (number_in w refl))
      (alike lower None _ _ _ _ (sym (or_false _))
      (λ _. same lower Down _ _ _
      (λ _. same lower NoMessage _ _ _
      (λ _. either lower (matches (series_at p.copies a) b c d) _ _ _ _ refl refl)))))

  -- RESTART
  pub whole_RESTART : (a b c d : ℕ) → Sound p out (event RESTART a b c d)
      → of_copies p out (restart p.copies a) ≡ after3 p out (event RESTART a b c d)
  unfolding judges restart restart_in do_restart
  whole_RESTART a b c d w =
      pass lower Short _ _ _ (long_restart w.long)
      (pass lower BadEvent _ _ _ (lt-leb _ _ (station_in w refl))
      (same lower Up _ _ _
      (λ _. refl)))
