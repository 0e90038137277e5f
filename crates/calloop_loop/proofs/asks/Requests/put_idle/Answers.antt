use Rattle.std.proofs.Common.{rules}
use Rattle.calloop_loop.proofs.KeptFor.{by_position, each_within, one_more}
use Rattle.calloop_loop.proofs.asks.Requests.put_idle.Goals as goal

pub invariant_of-self : goal.invariant_of-self
invariant_of-self g c =
    let k = c.self.inside.keepers in
    let kept = one_more k.first k.end c.self.inside.answers.items _ (each_within k.first k.end _ c.self.invariant.3) tt in
    (search rules, search rules, search rules, rw c.push_reserved.ensures.items (by_position k.first k.end _ kept))
