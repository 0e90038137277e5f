use Rattle.calloop_loop.specs.Askings.{OnlyAsks}
use Rattle.calloop_request_tests.proofs.tests.asker.Asker.answer.Given as goal

abbrev pub invariant-loop-wish : goal.invariant-loop-wish
invariant-loop-wish g l = OnlyAsks l.initial.requests l.requests
