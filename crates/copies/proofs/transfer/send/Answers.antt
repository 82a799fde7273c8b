-- `copies::transfer::send` meets its contract: what `release` leaves, in the tables of which the columns are lent. Assumes nothing.
use native.Mathlib.Omega.{arith}
use mathlib.Core.Path.{◌≡◌}
use Rattle.words.specs.Tests.{non, refuse_if}
use Rattle.copies.specs.Tables.{tables, place}
use Rattle.copies.specs.Steps.{sent_off, released, is_spent}
use Rattle.copies.specs.Calls.{bad_transfer, short_sender, send_in, send}
use Rattle.copies.proofs.Guards.{chain}
use Rattle.copies.proofs.Sending.{sent_void}
use Rattle.copies.proofs.transfer.send.Goals as goal

pub returns-in_err-number : goal.returns-in_err-number
unfolding send send_in short_sender bad_transfer sent_off released is_spent refuse_if non
returns-in_err-number c ls gs =
    let left = c.release.ensures c.args.firsts.now ls c.args.kinds.now gs c.args.up.now in
    grind (arith, chain)

pub returns : goal.returns
unfolding short_sender bad_transfer refuse_if non
returns c ls gs =
    let before = tables c.args.firsts.now ls c.args.kinds.now c.args.values.now c.args.sent.now c.args.relto.now c.args.relkind.now c.args.relvalue.now gs c.args.up.now in
    let left = tables c.args.firsts.now ls c.args.kinds.now c.args.values.now c.release.new.sent c.release.new.relto c.release.new.relkind c.release.new.relvalue gs c.args.up.now in
    let made = c.release.ensures c.args.firsts.now ls c.args.kinds.now gs c.args.up.now in
    let here : c.in_ok-at.at ≡ place c.args.series c.args.from = grind (arith, chain) in
    rw here
    (sent_void before left c.args.free c.args.series c.args.from c.args.to c.in_ok-number.number (grind (arith, chain)) (grind (arith, chain)) (grind (arith, chain)) (grind (arith, chain)) (grind (arith, chain)) (grind (arith, chain)) (grind (arith, chain)))
