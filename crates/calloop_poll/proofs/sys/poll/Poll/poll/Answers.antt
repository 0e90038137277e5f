use Rattle.std.proofs.Common.{ap, subst, ◌∙◌}
use Rattle.calloop_poll.specs.sys.Batches.{ArePosted}
use Rattle.calloop_poll.specs.sys.Polls.{poll_view, after_gather}
use Rattle.calloop_poll.specs.declared.sys.poll.Poll.{Poll}
use Rattle.calloop_poll.proofs.sys.poll.Poll.poll.Goals as goal

pub returns : goal.returns
returns g c =
    let polled = c.wait.new.self in
    let now = c.in_ok-now.now.nanos in
    let posted = c.gather.ensures.0 in (
      now,
      polled.events.items,
      polled.poller,
      polled.batch.watch,
      c.in_ok-now.ensures.ok,
      posted,
      subst (λ (p : Poll g.row.P.Denot g.row.C.Denot g.row.R.Denot). ArePosted p.places posted) c.in_ok-now.ensures.others c.gather.ensures.1,
      c.gather.ensures.2 ∙ ap (λ (p : Poll g.row.P.Denot g.row.C.Denot g.row.R.Denot). after_gather posted polled.events.items now (poll_view p)) c.in_ok-now.ensures.others,
    )
