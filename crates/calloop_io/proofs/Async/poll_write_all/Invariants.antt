use Rattle.std.proofs.Common.{length}
use Rattle.calloop_io.proofs.Wholes.{Wrote}
use Rattle.calloop_io.proofs.Async.poll_write_all.Given as goal

abbrev pub invariant-loop-self : goal.invariant-loop-self
invariant-loop-self g l = Wrote l.fn.self l.fn.left.items l.self l.left.items

abbrev pub decreases-loop-self : goal.decreases-loop-self
decreases-loop-self g l = length l.left.items
