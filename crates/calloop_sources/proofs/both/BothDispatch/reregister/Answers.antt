use Rattle.std.proofs.Common.{refl, ◌++◌, []}
use Rattle.calloop_slots.specs.Failures.{with_error}
use Rattle.calloop_poll.specs.sys.Polls.{poll_view}
use Rattle.calloop_poll.proofs.Stepping.{stepped-append}
use Rattle.calloop_sources.proofs.both.BothDispatch.reregister.Goals as goal

pub returns-in-Ok : goal.returns-in-Ok
returns-in-Ok g c =
    let left = c.take_back.ensures in
    let came = c.come_again.ensures in (
      left.0 ++ came.0,
      record {
        told = with_error c.take_back.result c.take_back.new.failure;
        between = c.take_back.new.both;
        one = left.0;
        more = came.0;
        leaves = left.1;
        comes = rw (c.in-Ok.is, ← left.2.1) came.1;
        steps_are = refl;
      },
      stepped-append g.P.Poller.outside (poll_view c.args.poll.now) (poll_view c.take_back.new.poll)
          (poll_view c.come_again.new.poll) left.0 came.0 left.2 came.2,
    )

pub returns-in-Err : goal.returns-in-Err
returns-in-Err g c =
    let left = c.take_back.ensures in (
      left.0 ++ [],
      record {
        told = with_error c.take_back.result c.take_back.new.failure;
        between = c.take_back.new.both;
        one = left.0;
        more = [];
        leaves = left.1;
        comes = rw c.in-Err.is (refl, refl, refl, refl);
        steps_are = refl;
      },
      stepped-append g.P.Poller.outside (poll_view c.args.poll.now) (poll_view c.take_back.new.poll)
          (poll_view c.take_back.new.poll) left.0 [] left.2 (tt, refl),
    )
