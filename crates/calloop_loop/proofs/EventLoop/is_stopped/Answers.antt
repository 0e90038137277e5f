use Rattle.std.proofs.Common.{[], ◌∷◌, refl}
use Rattle.calloop_loop.specs.declared.stops.StopNote.TheVariants.{Looked}
use Rattle.calloop_loop.specs.Held.{StopNoted}
use Rattle.calloop_loop.specs.Machine.{Holds}
use Rattle.calloop_loop.proofs.EventLoop.is_stopped.Goals as goal

pub returns : goal.returns
returns g c = rw c.note.ensures ((Holds (StopNoted (Looked c.is_stopped-stopped.result)) ∷ []) ∷ [], refl, refl)
