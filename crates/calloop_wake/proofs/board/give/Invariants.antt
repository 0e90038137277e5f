use Rattle.std.proofs.Common.{◌≡◌, ◌++◌, map, take, deque_capacity}
use Rattle.calloop_wake.specs.Boards.{fresh_pass}
use Rattle.calloop_wake.proofs.board.give.Given as goal

abbrev pub invariant-loop-key : goal.invariant-loop-key
invariant-loop-key l = record {
  items : l.passes.items ≡ l.initial.passes.items ++ map (fresh_pass l.name) (take l.key-index l.keys);
  capacity : deque_capacity l.passes ≡ deque_capacity l.initial.passes;
}
