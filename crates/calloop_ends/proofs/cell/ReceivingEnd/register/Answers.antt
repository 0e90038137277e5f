use Rattle.std.proofs.Common.{rules, refl}
use Rattle.calloop_ends.specs.cell.CellSources.{AlreadyRegistered}
use Rattle.calloop_ends.proofs.Pinging.{registers}
use Rattle.calloop_ends.proofs.cell.ReceivingEnd.register.Goals as goal

pub returns-clause-registers : goal.returns-clause-registers
returns-clause-registers g c =
    let ok = c.in_ok-token.ensures.ok in
    registers _ c.args.self.now.tally c.args.factory.now c.token.new.self c.in_ok-token.token c.attach.result c.attach.new.self.tally ok.0 ok.1 c.attach.ensures.ok c.attach.ensures.err (search rules)

pub returns-then-is_some-clause-registers : goal.returns-then-is_some-clause-registers
returns-then-is_some-clause-registers g c = (refl, refl, AlreadyRegistered (search rules) (c.from-cause.result, refl, c.from-cause.ensures) refl)
