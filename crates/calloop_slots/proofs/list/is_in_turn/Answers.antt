use Rattle.std.proofs.Common.{◌≡◌, ◌∙◌, sym, ap, arith}
use Rattle.calloop_slots.specs.Slots.{is_in_turn}
use Rattle.calloop_slots.proofs.Named.{named_read}
use Rattle.calloop_slots.proofs.list.is_in_turn.Goals as goal

pub returns-in-InTurn : goal.returns-in-InTurn
returns-in-InTurn g c =
    let s = c.in-Some.slot.now in
    let version : s.version ≡ c.args.token.version = omega arith in
    let read = c.in-Some.ensures.lookup in
    let named = named_read c.args.slots.now c.args.token c.slot.result s c.slot.ensures (omega arith) read.1 version in
    sym (ap (λ k. is_in_turn k) (named ∙ c.in-InTurn.is))
