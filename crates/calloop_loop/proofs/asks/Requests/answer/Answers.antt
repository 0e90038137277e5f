use Rattle.std.proofs.Common.{rules}
use Rattle.calloop_loop.specs.Askings.{Take, asks_on, asks_one}
use Rattle.calloop_loop.proofs.KeptFor.{by_position, each_within, of_others}
use Rattle.calloop_loop.proofs.asks.Requests.answer.Goals as goal

pub returns-clause-asks : goal.returns-clause-asks
returns-clause-asks g c q h = asks_on q _ _ h (asks_one _ _ (Take c.args.ticket.number) (search rules))

pub invariant_of-self : goal.invariant_of-self
invariant_of-self g c =
    let k = c.self.inside.keepers in
    (search rules, search rules, search rules, rw c.take.ensures.rest (by_position k.first k.end _ (of_others k.first k.end c.args.ticket.number c.self.inside.answers.items (each_within k.first k.end _ c.self.invariant.3))))
