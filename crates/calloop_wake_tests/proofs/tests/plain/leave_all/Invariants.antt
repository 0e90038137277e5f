use Rattle.std.specs.Vec.{vec_len}
use Rattle.calloop_wake_tests.proofs.tests.plain.leave_all.Given as goal

abbrev pub decreases-loop-cell : goal.decreases-loop-cell
decreases-loop-cell g l = vec_len l.cells
