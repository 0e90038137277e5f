use Rattle.std.proofs.Common.{◌≡◌, false, rules, sym, ◌∙◌}
use Rattle.calloop_slots.specs.Tokens.{key_of}
use Rattle.calloop_wake.specs.Cells.{is_own}
use Rattle.calloop_ends.proofs.Pinging.{registers_anew}
use Rattle.calloop_ends.proofs.cell.ReceivingEnd.reregister.Goals as goal

pub returns-clause-registers : goal.returns-clause-registers
returns-clause-registers g c =
    let ok = c.in_ok-next.ensures.ok in
    let other : is_own (key_of c.in_ok-next.next) c.args.self.now.tally.key ≡ false = rw (sym c.self.view_is) (sym c.is_mine.ensures ∙ c.if-is_mine.false) in
    registers_anew _ c.args.self.now.tally c.args.factory.now c.token.new.self c.in_ok-next.next c.attach.result c.attach.new.self.tally ok.0 ok.1 c.attach.ensures.ok c.attach.ensures.err (search rules) other
