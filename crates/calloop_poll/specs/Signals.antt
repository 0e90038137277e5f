-- Signals of a loop.
use Rattle.std.specs.Prelude.{◌≡◌}
use Rattle.std.specs.Arc.{arc_value}
use Rattle.calloop_poll.specs.declared.signal.LoopSignal.{LoopSignal}

-- both stop the same loop and end its waits: they share the state that does this
abbrev pub AreOfOneLoop : LoopSignal → LoopSignal → Type 0
AreOfOneLoop signal again = arc_value again.shared ≡ arc_value signal.shared
