use Rattle.std.proofs.Common.{refl, inr}
use Rattle.calloop_loop.proofs.LoopHandle.adapt_io.Goals as goal

pub returns-in-Err-clause-err : goal.returns-in-Err-clause-err
returns-in-Err-clause-err g c =
    (c.in_ok-adapter.ensures.socket, inr (c.in_ok-adapter.adapter, c.in-Err.refused, refl, record { token = c.in_ok-adapter.ensures.ok.0; entered = c.in_ok-adapter.ensures.ok.1 }, rw c.place.ensures at c.in-Err.ensures.case))
