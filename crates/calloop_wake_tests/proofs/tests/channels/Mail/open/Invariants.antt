use Rattle.std.proofs.Common.{deque_len}
use Rattle.std.specs.Arc.{arc_value}
use Rattle.calloop_wake.specs.Passes.{AreOf}
use Rattle.calloop_wake_tests.proofs.tests.channels.Mail.open.Given as goal

abbrev pub invariant-loop-pass : goal.invariant-loop-pass
invariant-loop-pass g l = AreOf (arc_value l.desk.board).tag l.passes.items

abbrev pub decreases-loop-pass : goal.decreases-loop-pass
decreases-loop-pass g l = deque_len l.passes
