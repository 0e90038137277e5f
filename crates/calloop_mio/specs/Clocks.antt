-- What an OS clock shows, which calloop's timers read by `std::time::Instant`.
use Rattle.std.specs.Prelude.{ℕ, ◌-◌, ◌^◌, min, Option, Some, None}
use Rattle.std.specs.Time.{instant_nanos}
use Rattle.std.specs.declared.time.Instant.{Instant}

-- the nanoseconds from one reading of the OS clock to another, at most 2^64 - 1; 0 if either failed, and if the clock
-- went back
abbrev pub nanos_between : (start read : Option Instant) → ℕ
nanos_between None read = 0
nanos_between (Some start) None = 0
nanos_between (Some start) (Some read) = min (instant_nanos read - instant_nanos start) (2 ^ 64 - 1)
