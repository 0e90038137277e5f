use Rattle.calloop_wake.proofs.Posted.{fresh}
use Rattle.calloop_wake.proofs.board.Board.new.Goals as goal

pub invariant_of-board : goal.invariant_of-board
invariant_of-board c = fresh c.new.result c.new-2.result.items _ c.new.ensures c.new-2.ensures.items
