-- Room that was made before it is needed.
use Rattle.std.specs.Prelude.{◌≡◌, ◌<◌, Bool, true, vec_len, vec_capacity}
use Rattle.calloop_loop.specs.declared.lifecycle.Lifecycle.{Lifecycle}

-- for another registration, if needed
abbrev pub HasRoom : (needed : Bool) → Lifecycle → Type 0
HasRoom needed l = needed ≡ true → vec_len l.tokens < vec_capacity l.tokens
