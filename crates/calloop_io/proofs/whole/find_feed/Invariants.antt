use Rattle.std.proofs.Common.{◌≢◌, take, All}
use Rattle.calloop_io.proofs.whole.find_feed.Given as goal

abbrev pub invariant-loop-at : goal.invariant-loop-at
invariant-loop-at l = All (λ byte. byte ≢ 10) (take l.at l.bytes)
