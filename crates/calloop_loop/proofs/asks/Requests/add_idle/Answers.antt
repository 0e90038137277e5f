use Rattle.std.proofs.Common.{rules, refl, arith}
use Rattle.calloop_loop.proofs.KeptFor.{at_most_one}
use Rattle.calloop_loop.proofs.asks.Requests.add_idle.Goals as goal

pub returns-in-Err-clause-err : goal.returns-in-Err-clause-err
returns-in-Err-clause-err g c =
    let same = c.next_ticket.ensures.items in
    (refl, rw (← c.self.view_is) c.in-Err.ensures.err, rw (← c.self.view_is, same.0, same.1, same.2, same.3) refl)

pub invariant_of-self : goal.invariant_of-self
invariant_of-self g c = (search rules, search rules, search rules, rw c.next_ticket.ensures.items.1 c.self.invariant.3)

pub invariant_of-self-2 : goal.invariant_of-self-2
invariant_of-self-2 g c =
    let room = c.in-Ok.ensures.room in
    let pushed = c.push_back_reserved.ensures in
    let serving = at_most_one c.self.inside.serving in
    let owed = at_most_one c.self.inside.owed in
    (omega (arith, room, pushed, serving, owed), omega (arith, room, pushed, serving), omega (arith, room, pushed, serving), rw c.next_ticket.ensures.items.1 c.self.invariant.3)
