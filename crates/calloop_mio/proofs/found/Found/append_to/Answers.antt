use Rattle.std.proofs.Common.{arith}
use Rattle.mio.specs.Events.{items}
use Rattle.calloop_mio.proofs.FoundEvents.{few-told}
use Rattle.calloop_mio.proofs.found.Found.append_to.Goals as goal

pub returns-clause-few : goal.returns-clause-few
returns-clause-few c =
    let fewer = few-told (items c.args.self.now.events) in
    let few = c.args.self.now.few in
    omega arith
