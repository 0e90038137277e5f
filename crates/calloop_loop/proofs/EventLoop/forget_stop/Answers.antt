use Rattle.std.proofs.Common.{[], ◌∷◌, refl}
use Rattle.calloop_loop.specs.declared.stops.StopNote.TheVariants.{Forgot}
use Rattle.calloop_loop.specs.Held.{StopNoted}
use Rattle.calloop_loop.specs.Machine.{Holds}
use Rattle.calloop_loop.proofs.EventLoop.forget_stop.Goals as goal

pub returns : goal.returns
returns g c = rw c.note.ensures ((Holds (StopNoted Forgot) ∷ []) ∷ [], refl, refl)
