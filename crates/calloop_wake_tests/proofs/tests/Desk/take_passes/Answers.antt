use Rattle.std.proofs.Common.{[]}
use Rattle.calloop_wake.proofs.Keyed.{are_of-taken}
use Rattle.calloop_wake_tests.proofs.tests.Desk.take_passes.Goals as goal

pub returns-clause-own : goal.returns-clause-own
returns-clause-own g c =
    let named = c.core-board.ensures.fits c.lock-held.ensures.3.1 in
    rw (c.unpost.ensures.gives, c.in_ok-passes.ensures.items, named, c.lock-held.ensures.0, c.deref.ensures) (are_of-taken _ [] _ tt)
