use Rattle.std.proofs.Common.{rules}
use Rattle.calloop_wake.proofs.Inside.{of-bell}
use Rattle.calloop_wake.proofs.executor.ExecutorCoreCellCore.drop_sender.Goals as goal

pub invariant_of-self : goal.invariant_of-self
invariant_of-self c =
    let i = c.self.inside in (
      of-bell i.tasks i.next i.results i.bell.cell.pinged i.bell.cell.draining i.progress i.bell.cell.key i.bell.cell.senders c.drop_without_close.new.self.cell (search rules) (search rules) c.self.invariant.0,
      c.self.invariant.1,
      c.self.invariant.2,
    )
