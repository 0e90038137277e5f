use Rattle.std.proofs.Common.{rules, sym, ◌∙◌}
use Rattle.calloop_loop.proofs.KeptFor.{by_position, each_within, let_go, none_for_other}
use Rattle.calloop_loop.proofs.asks.Requests.keep_none_for.Goals as goal

pub invariant_of-self : goal.invariant_of-self
invariant_of-self g c =
    let k = c.self.inside.keepers in
    (search rules, search rules, search rules, rw c.keep_none.ensures.items (by_position k.first k.end _ (let_go k.first k.end c.args.token c.self.inside.answers.items (each_within k.first k.end _ c.self.invariant.3))))

pub returns-else-may_have : goal.returns-else-may_have
returns-else-may_have g c =
    let k = c.self.inside.keepers in
    rw (← c.self.view_is) (none_for_other _ k.first k.end c.args.token (sym c.may_have.ensures ∙ c.if-may_have.false) (each_within k.first k.end _ c.self.invariant.3))
