use Rattle.std.proofs.Common.{refl, ◌++◌}
use Rattle.calloop_poll.specs.sys.Polls.{poll_view}
use Rattle.calloop_poll.proofs.Stepping.{stepped-append}
use Rattle.calloop_sources.proofs.transient.replace_state.Goals as goal

pub returns-in-Ok : goal.returns-in-Ok
returns-in-Ok g c =
    let left = c.unregister.ensures in
    let came = c.enter_state.ensures in (
      left.0 ++ came.0,
      record {
        told = c.unregister.result;
        left = c.unregister.new.self;
        first = left.0;
        more = came.0;
        leaves = left.1;
        then = rw (c.in-Ok.is, ← left.2.1) came.1;
        steps_are = refl;
      },
      stepped-append g.P.Poller.outside (poll_view c.args.poll.now) (poll_view c.unregister.new.poll) (poll_view c.enter_state.new.poll)
          left.0 came.0 left.2 came.2,
    )
