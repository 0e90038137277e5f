use Rattle.calloop_loop.proofs.Finding.{NoneBefore}
use Rattle.calloop_loop.proofs.asks.place_of.Given as goal

abbrev pub invariant-loop-place : goal.invariant-loop-place
invariant-loop-place g l = NoneBefore l.ticket l.place l.answers
