use Rattle.std.proofs.Common.{rules, ◌≡◌, true, false}
use Rattle.calloop_wake.specs.Executors.{inside_cell, opens, at_start}
use Rattle.calloop_wake.proofs.Inside.{of-bell}
use Rattle.calloop_wake.proofs.ExecutorSteps.{in_turn-keeps}
use Rattle.calloop_wake.proofs.executor.ExecutorCore.begin_turn.Goals as goal

pub invariant_of-self : goal.invariant_of-self
invariant_of-self c =
    let i = c.self.inside in
    let cell = inside_cell i.tasks i.next i.results i.bell.cell.pinged i.bell.cell.draining i.progress i.bell.cell.key i.bell.cell.senders in
    let opened : opens c.args.key cell ≡ true = search rules in (
      of-bell i.tasks i.next i.results false true at_start i.bell.cell.key i.bell.cell.senders c.open.new.self.cell (search rules) (search rules)
          (in_turn-keeps c.args.key cell opened c.self.invariant.0),
      c.self.invariant.1,
      c.self.invariant.2,
    )
