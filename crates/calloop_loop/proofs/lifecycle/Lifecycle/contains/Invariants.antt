use Rattle.std.proofs.Common.{◌≡◌, drop}
use Rattle.calloop_loop.specs.Held.{is_listed}
use Rattle.calloop_loop.proofs.lifecycle.Lifecycle.contains.Given as goal

abbrev pub invariant-loop-other : goal.invariant-loop-other
invariant-loop-other l = is_listed l.token (drop l.other-index l.self.tokens.items) ≡ is_listed l.token l.self.tokens.items
