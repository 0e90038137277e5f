use Rattle.std.proofs.Common.{refl}
use Rattle.calloop_poll.proofs.sys.poll.Poll.take_marks.Goals as goal

pub returns-clause-some : goal.returns-clause-some
returns-clause-some g c =
    record {
      taken = c.in-Some.taken.items;
      are = record { same = c.by_slot.ensures.same; order = c.by_slot.ensures.order };
      noted = rw c.in-Some.ensures.some refl;
    }
