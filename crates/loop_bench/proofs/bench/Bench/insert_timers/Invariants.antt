use Rattle.std.proofs.Common.{◌≡◌}
use Rattle.loop_bench.proofs.bench.Bench.insert_timers.Given as goal

abbrev pub invariant-loop-i : goal.invariant-loop-i
invariant-loop-i g l =
    (l.self.calls ≡ l.fn.self.calls) × (l.self.nanoseconds ≡ l.fn.self.nanoseconds)
