use Rattle.std.proofs.Common.{rules}
use Rattle.calloop_loop.proofs.KeptFor.{by_position, each_within, of_some}
use Rattle.calloop_loop.proofs.asks.Requests.clear_answers.Goals as goal

pub invariant_of-self : goal.invariant_of-self
invariant_of-self g c =
    let k = c.self.inside.keepers in
    (search rules, search rules, search rules, rw c.drop_old.ensures.items (by_position k.first k.end _ (of_some k.first k.end _ c.self.inside.answers.items (each_within k.first k.end _ c.self.invariant.3))))
