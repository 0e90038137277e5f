-- Loops whose poller and clock belong together. Calloop's `try_new` makes a poller of the OS, and timers read the OS's clock.
use Rattle.std.specs.Prelude.{◌≡◌, [], false, vec_capacity}
use Rattle.calloop_mio.specs.declared.MioPoller.{MioPoller}
use Rattle.calloop_mio.specs.declared.clock.SystemClock.{SystemClock}
use Rattle.calloop_script.specs.declared.ScriptPoller.{ScriptPoller}
use Rattle.calloop_loop.specs.declared.EventLoop.{EventLoop}
use Rattle.calloop_poll.specs.declared.signal.LoopSignal.{LoopSignal}

-- the poller of a loop
abbrev pub poller_of : {D P C R X I : Type 0} → EventLoop D P C R X I → P
poller_of l = l.poll.poller

-- the clock of a loop
abbrev pub clock_of : {D P C R X I : Type 0} → EventLoop D P C R X I → C
clock_of l = l.poll.clock

-- the signal of a loop
abbrev pub signal_of : {D P C R X I : Type 0} → EventLoop D P C R X I → LoopSignal
signal_of l = l.signal

-- a poller of the OS of which no call failed
abbrev pub IsFaultless : {C : Type 0} → MioPoller C → Type 0
IsFaultless poller = poller.faults.count ≡ 0

-- the loop's clock and its poller's count from one reading of the OS's clock
abbrev pub CountFromOneReading : {D R X I : Type 0}
    → EventLoop D (MioPoller (SystemClock R)) (SystemClock R) R X I → Type 0
CountFromOneReading l = (poller_of l).clock.start ≡ l.poll.clock.start

-- nothing was scripted yet: the clock is at 0, no answer is there, no wait was asked for, and no call is to fail
abbrev pub IsUnscripted : ScriptPoller → Type 0
IsUnscripted p =
    (p.moment.nanos ≡ 0) × (p.answers.items ≡ []) × (p.waits.items ≡ []) × (vec_capacity p.waits ≡ 0)
    × (p.calls.items ≡ []) × (p.failing ≡ record { add = false; modify = false; delete = false })
    × (p.faults.count ≡ 0)
