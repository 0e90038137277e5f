use Rattle.std.proofs.Common.{length-append, arith}
use Rattle.calloop_poll.specs.sys.Polls.{own_events}
use Rattle.calloop_poll.proofs.Gathering.{joined_in_step}
use Rattle.calloop_poll.proofs.sys.poll.batch.Batch.join.Goals as goal

pub invariant_of-self : goal.invariant_of-self
invariant_of-self c =
    rw c.append_own.ensures.items
    (record {
      in_step = joined_in_step c.self.inside.events.items c.self.inside.passes.items c.args.given.now c.self.invariant.in_step;
      own = c.self.invariant.own;
      own_turn = c.self.invariant.own_turn;
      within = rw (length-append c.self.inside.events.items (own_events c.args.given.now)) (omega (arith, c.self.invariant.within));
    })
