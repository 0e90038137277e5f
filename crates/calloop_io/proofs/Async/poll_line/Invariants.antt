use Rattle.std.proofs.Common.{◌≡◌, ◌≢◌, ◌≤◌, length, take, All}
use Rattle.calloop_io.specs.WholePolls.{tries_since}
use Rattle.calloop_io.proofs.Wholes.{HasRead}
use Rattle.calloop_io.proofs.Async.poll_line.Given as goal

abbrev pub invariant-loop : goal.invariant-loop
invariant-loop g l = record {
  read : HasRead l.fn.self l.fn.buffer.items l.self l.buffer.items;
  tries : tries_since l.fn.self l.self ≡ l.counter;
  bound : l.clean ≤ length l.buffer.items;
  clean : All (λ byte. byte ≢ 10) (take l.clean l.buffer.items);
}
