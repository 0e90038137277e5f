use Rattle.std.proofs.Common.{◌≡◌, vec_len}
use Rattle.loop_bench.proofs.bench.Bench.insert_read_sockets.Given as goal

abbrev pub invariant-loop : goal.invariant-loop
invariant-loop g l =
    (vec_len l.peers ≡ l.counter)
    × (l.self.calls ≡ l.fn.self.calls)
    × (l.self.nanoseconds ≡ l.fn.self.nanoseconds)
