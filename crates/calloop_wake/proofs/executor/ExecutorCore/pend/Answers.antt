use Rattle.std.proofs.Common.{rules}
use Rattle.calloop_wake.proofs.Inside.{inside-pend, gone-polled}
use Rattle.calloop_wake.proofs.executor.ExecutorCore.pend.Goals as goal

pub unreachable-requires : goal.unreachable-requires
unreachable-requires c =
    gone-polled c.self.inside.tasks c.self.inside.next c.self.inside.results c.self.inside.bell.cell.pinged c.self.inside.bell.cell.draining c.self.inside.progress c.self.inside.bell.cell.key c.self.inside.bell.cell.senders c.args.key (search rules) (search rules) c.self.invariant.0

pub invariant_of-self : goal.invariant_of-self
invariant_of-self c =
    (inside-pend _ _ _ _ _ _ _ _ _ _ c.in-Some.is c.self.invariant.0 c.args.key (search rules) c.pend.ensures.tasks c.pend.ensures.line, search rules, search rules)
