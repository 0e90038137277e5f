use Rattle.std.specs.Arc.{arc_value}
use Rattle.std.specs.VecDeque.{deque_len}
use Rattle.calloop_wake.specs.Passes.{AreOf}
use Rattle.calloop_poll.proofs.sys.poll.batch.give_all_back.Given as goal

abbrev pub invariant-loop-pass : goal.invariant-loop-pass
invariant-loop-pass g l = AreOf (arc_value l.hub) l.passes.items

abbrev pub decreases-loop-pass : goal.decreases-loop-pass
decreases-loop-pass g l = deque_len l.passes
