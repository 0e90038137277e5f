use Rattle.std.proofs.Common.{◌∙◌, arith}
use Rattle.calloop_poll.proofs.sys.poll.Poll.reserve.Goals as goal

pub returns-clause-ready : goal.returns-clause-ready
returns-clause-ready g c = record {
  batch = rw c.note_count.ensures (omega (arith, c.in_ok-reserve.ensures.room, c.in-Some.ensures));
  passes = rw c.note_count.ensures c.in_ok-reserve.ensures.pass_room;
  events = c.in_ok-reserve-2.ensures.items ∙ c.clear.ensures.items;
  room = omega (arith, c.in_ok-reserve-2.ensures.ok);
}
