use Rattle.std.proofs.Common.{refl, [], ◌∷◌}
use Rattle.calloop_loop.specs.Machine.{Polling}
use Rattle.calloop_loop.proofs.LoopHandle.poller_mut.Goals as goal

pub returns : goal.returns
returns g c = (
  (refl, λ w. refl),
  record {
    writes_back = tt;
    value = c.poller_mut.ensures.value;
    machine = λ written. ((Polling written ∷ []) ∷ [], (c.poller_mut.ensures.value, refl), refl);
  },
)
