use Rattle.std.proofs.Common.{rules, ◌≡◌, ◌||◌, true, Some}
use Rattle.calloop_wake.proofs.Inside.{inside-wake, of-bell}
use Rattle.calloop_wake.proofs.executor.ExecutorCore.wake.Goals as goal

pub invariant_of-self-then-wake : goal.invariant_of-self-then-wake
invariant_of-self-then-wake c =
    let i = c.self.inside in
    let after : true ≡ (c.wake.result || i.bell.cell.pinged) = search rules in (
      of-bell (Some c.wake.new.self) i.next i.results true i.bell.cell.draining i.progress i.bell.cell.key i.bell.cell.senders c.ping.new.self.cell (search rules) (search rules)
          (inside-wake i.tasks c.in-Some.tasks c.wake.new.self i.next i.results i.bell.cell.pinged i.bell.cell.draining i.progress i.bell.cell.key i.bell.cell.senders
          c.in-Some.is c.self.invariant.0 c.args.key _ _ after c.wake.ensures.result c.wake.ensures.tasks c.wake.ensures.line),
      search rules,
      search rules,
    )

pub invariant_of-self-else-wake : goal.invariant_of-self-else-wake
invariant_of-self-else-wake c =
    let i = c.self.inside in
    let after : i.bell.cell.pinged ≡ (c.wake.result || i.bell.cell.pinged) = search rules in (
      inside-wake i.tasks c.in-Some.tasks c.wake.new.self i.next i.results i.bell.cell.pinged i.bell.cell.draining i.progress i.bell.cell.key i.bell.cell.senders
          c.in-Some.is c.self.invariant.0 c.args.key _ _ after c.wake.ensures.result c.wake.ensures.tasks c.wake.ensures.line,
      search rules,
      search rules,
    )
