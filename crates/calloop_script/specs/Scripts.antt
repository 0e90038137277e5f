-- The list of requested waits that a scripted poller keeps.
use Rattle.std.specs.Prelude.{ℕ, List, [], ◌∷◌, ◌++◌, Option, length, nat_lt, if◌then◌else◌}
use Rattle.std.specs.declared.time.Duration.{Duration}

-- the list with another wait, if there is room for it
abbrev pub kept_waits : List (Option Duration) → (room : ℕ) → Option Duration → List (Option Duration)
kept_waits waits room asked = if nat_lt (length waits) room then waits ++ asked ∷ [] else waits
