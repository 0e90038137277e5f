use Rattle.std.proofs.Common.{rules}
use Rattle.calloop_loop.proofs.KeptFor.{by_position, each_within, one_more, wider}
use Rattle.calloop_loop.proofs.asks.Requests.put_answer.Goals as goal

pub invariant_of-self : goal.invariant_of-self
invariant_of-self g c =
    let k = c.self.inside.keepers in
    let l = c.with-self-inside.result in
    let before = wider k.first k.end l.first l.end c.self.inside.answers.items c.with-self-inside.ensures.wider.0 c.with-self-inside.ensures.wider.1 (each_within k.first k.end _ c.self.invariant.3) in
    (search rules, search rules, search rules, rw c.push_reserved.ensures.items (by_position l.first l.end _ (one_more l.first l.end c.self.inside.answers.items _ before c.with-self-inside.ensures.has)))
