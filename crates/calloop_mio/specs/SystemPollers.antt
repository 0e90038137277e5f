-- What the OS poller's calls do, as far as a contract can see: which sockets it waits on, and what becomes ready, is up to
-- the OS. calloop's poller is that of the crate polling, which makes the same system calls.
use Rattle.std.specs.Prelude.{◌≡◌, ℕ, Bool, true, false, List, [], Result, Err, OnErr}
use Rattle.std.specs.declared.io.Error.{Error as IoError}
use Rattle.std.specs.IoError.{error_kind}
use Rattle.std.specs.declared.io.ErrorKind.TheVariants.{InvalidInput}
use Rattle.mio.specs.Events.{items}
use Rattle.calloop_poll.specs.declared.sys.Readiness.{Readiness}
use Rattle.calloop_mio.specs.declared.MioPoller.{MioPoller}
use Rattle.calloop_poll.specs.sys.Pollers.{Outside, Sockets, PollerCall, Add, Modify, Delete, asks, failure_of}
use Rattle.calloop_mio.specs.SystemEvents.{told_events}

-- true if a call asks for something that can be waited for
abbrev pub can_ask : PollerCall → Bool
can_ask (Add key watched) = asks watched.interest
can_ask (Modify key watched) = asks watched.interest
can_ask Delete = true

-- one call for a socket: fails if its interest is empty; calloop passes an empty interest to its poller
pub record SystemCalled {C : Type 0} (p : MioPoller C) (call : PollerCall) (answer : Result (Unit {0}) IoError)
    (q : MioPoller C) : Type 0 where
  pub refused : can_ask call ≡ false → (cause : IoError) × (answer ≡ Err cause) × (error_kind cause ≡ InvalidInput)
  pub poller : q ≡ record p { faults = q.faults }

-- one wait: it returns what the OS found then, and nothing if it failed; it fails if the wait of the OS did, with an error
-- of that kind
pub record SystemWaited {C : Type 0} (p : MioPoller C) (answer : Result (Unit {0}) IoError)
    (given : List (ℕ × Readiness)) (q : MioPoller C) : Type 0 where
  pub told : given ≡ told_events (items q.found.events)
  pub fault : OnErr answer (given ≡ [])
  pub kind : failure_of answer ≡ q.found.failed
  pub poller : q ≡ record p { poll = q.poll; found = q.found; faults = q.faults }

-- the same for each descriptor
abbrev pub system_sockets : {C : Type 0} → Sockets (MioPoller C)
system_sockets p fd call answer q = SystemCalled p call answer q

-- over a clock that may show these moments
abbrev pub system_outside : {C : Type 0} → (shows : C → (now : ℕ) → Type 0) → Outside (MioPoller C)
system_outside shows =
    record {
      reads = λ p now q. shows p.clock now × (q ≡ p);
      waits = λ p asked answer given q. SystemWaited p answer given q;
      calls = λ p call answer q. SystemCalled p call answer q;
      faults = λ p. p.faults.count;
    }
