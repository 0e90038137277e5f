use Rattle.std.proofs.Common.{◌≡◌, get_or, arith, ap}
use Rattle.calloop_wake.specs.Passes.{Taken}
use Rattle.calloop_poll.proofs.Gathering.{rising-at}
use Rattle.calloop_poll.proofs.sys.poll.batch.append_posted.Goals as goal

pub posted_event-requires : goal.posted_event-requires
posted_event-requires c own =
    let here = rising-at c.args.passes.now.items c.loop-i.i c.index.result.now (omega (arith, c.loop-i-test.true, c.args.passes.now.ok.0, c.len-i-end.ensures)) c.loop-i.invariant.tokens in
    let same : c.index.result.now.key ≡ (get_or c.args.passes.now.items c.loop-i.i c.index.result.now).key = ap (λ (t : Taken). t.key) c.index.ensures in
    omega (arith, here.0, same, own, c.key.ensures)
