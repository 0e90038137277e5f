-- How a wait of the OS poller is cut into portions. calloop's poller has the system wait to the nanosecond.
use Rattle.std.specs.Prelude.{◌≡◌, ℕ, ◌+◌, ◌≤◌, Option, Some, None}
use Rattle.std.specs.Duration.{as_nanos}
use Rattle.calloop_mio.specs.declared.portions.Portion.{Portion}
use Rattle.calloop_poll.specs.sys.Pollers.{nanos_of}

-- a portion of a wait for this time: no longer than that
abbrev pub IsPortionOf : (time : ℕ) → Portion → Type 0
IsPortionOf time p = (waiting : ℕ) × (nanos_of p.waiting ≡ Some waiting) × (as_nanos p.asleep + waiting ≤ time)

-- a wait without a timeout is one portion
abbrev pub IsPortion : Option ℕ → Portion → Type 0
IsPortion None p = (as_nanos p.asleep ≡ 0) × (nanos_of p.waiting ≡ None)
IsPortion (Some time) p = IsPortionOf time p
