use Rattle.std.proofs.Common.{rules}
use Rattle.calloop_wake.proofs.Inside.{inside-gone, inside-take}
use Rattle.calloop_wake.proofs.executor.ExecutorCore.take.Goals as goal

pub invariant_of-self : goal.invariant_of-self
invariant_of-self c =
    (inside-gone _ _ _ _ _ _ _ _ _ c.in_default.is (search rules) c.self.invariant.0, c.self.invariant.1, c.self.invariant.2)

pub invariant_of-self-2 : goal.invariant_of-self-2
invariant_of-self-2 c = (
  inside-take c.self.inside.tasks c.in-Some.tasks c.take.new.self c.self.inside.next c.self.inside.results _ c.self.inside.bell.cell.pinged c.self.inside.bell.cell.draining c.self.inside.progress c.self.inside.bell.cell.key c.self.inside.bell.cell.senders c.in-Some-take.key c.in-Some-take.home
      c.in-Some.is (search rules) (search rules) c.in-Some-take.ensures.first c.in-Some-take.ensures.was c.in-Some-take.ensures.tasks c.self.invariant.0,
  search rules,
  search rules,
)
