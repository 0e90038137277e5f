use Rattle.std.proofs.Common.{rules, ◌≡◌, ◌+◌, true, Some}
use Rattle.calloop_wake.proofs.Inside.{inside-put, of-bell}
use Rattle.calloop_wake.proofs.executor.ExecutorCore.put.Goals as goal

pub invariant_of-self-2 : goal.invariant_of-self-2
invariant_of-self-2 c =
    let i = c.self.inside in
    let more : c.in-Some-checked_add.next ≡ i.next + 1 = search rules in (
      of-bell (Some c.put.new.self) c.in-Some-checked_add.next i.results true i.bell.cell.draining i.progress i.bell.cell.key i.bell.cell.senders c.ping.new.self.cell (search rules) (search rules)
          (inside-put i.tasks c.in-Some.tasks c.put.new.self i.next i.results i.bell.cell.pinged i.bell.cell.draining i.progress i.bell.cell.key i.bell.cell.senders
          c.in-Some.is c.self.invariant.0 c.in-Ok.slot c.args.home _ more c.in-Ok.ensures.vacant c.in-Ok.ensures.tasks c.in-Ok.ensures.last),
      search rules,
      search rules,
    )
