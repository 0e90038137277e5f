use Rattle.std.proofs.Common.{◌≡◌, ◌-◌, length}
use Rattle.calloop_poll.specs.sys.Events.{events_left}
use Rattle.calloop_poll.proofs.sys.events.EventIteratorIterator.next.Given as goal

abbrev pub invariant-loop-self : goal.invariant-loop-self
invariant-loop-self l = events_left l.self ≡ events_left l.initial.self

abbrev pub decreases-loop-self : goal.decreases-loop-self
decreases-loop-self l = length l.self.batch.now.items - l.self.at
