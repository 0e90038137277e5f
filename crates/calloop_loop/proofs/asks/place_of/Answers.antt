use Rattle.std.proofs.Common.{arith}
use Rattle.std.proofs.lemmas.Bool.Decides.{nat_tests}
use Rattle.calloop_loop.proofs.Finding.{stands_at, stands_nowhere, before_next, within, got}
use Rattle.calloop_loop.proofs.asks.place_of.Goals as goal

pub returns-then-answered-ticket-clause-some : goal.returns-then-answered-ticket-clause-some
returns-then-answered-ticket-clause-some g c =
    stands_at c.args.ticket c.loop-place.place c.index-answers-place.result c.args.answers.now (got c.index-answers-place.result c.loop-place.place c.args.answers.now (omega (arith, c.loop-place-test.true)) c.index-answers-place.is) (grind (arith, nat_tests, c.if-answered-ticket.true)) c.loop-place.invariant

pub loop-place-preserved : goal.loop-place-preserved
loop-place-preserved g c = before_next c.args.ticket c.loop-place.place c.index-answers-place.result c.args.answers.now (got c.index-answers-place.result c.loop-place.place c.args.answers.now (omega (arith, c.loop-place-test.true)) c.index-answers-place.is) (grind (arith, nat_tests, c.if-answered-ticket.false)) c.loop-place.invariant

pub returns-clause-none : goal.returns-clause-none
returns-clause-none g c = stands_nowhere c.args.ticket c.args.answers.now (λ k a at. c.loop-place.invariant k a (omega (arith, c.loop-place-test.false, within k a c.args.answers.now at)) at)
