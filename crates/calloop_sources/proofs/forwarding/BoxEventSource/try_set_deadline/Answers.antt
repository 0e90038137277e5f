use Rattle.std.proofs.Common.{ap}
use Rattle.std.specs.Box.{with_value}
use Rattle.calloop_sources.proofs.DeadlineSetting.{seen_set}
use Rattle.calloop_sources.proofs.forwarding.BoxEventSource.try_set_deadline.Goals as goal

pub returns : goal.returns
returns g c =
    seen_set (λ s. s.value) g.T.EventSource.means c.args.deadline c.args.self.now (with_value c.args.self.now c.try_set_deadline.new.self) c.try_set_deadline.result
    (λ same. ap (with_value c.args.self.now) same) (rw c.deref_mut.ensures.value at c.try_set_deadline.ensures)
