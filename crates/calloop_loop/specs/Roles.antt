-- Which entries of slots the calls of a handle name: the caller's own sources, and not those of the loop. calloop's handle names
-- any slot, and panics if it enables or updates an adapter.
use Rattle.std.specs.Prelude.{Bool, true, false}
use Rattle.calloop_slots.specs.declared.list.Content.{Content}
use Rattle.calloop_slots.specs.declared.list.Content.TheVariants.{Vacant, Source, InTurn}
use Rattle.calloop_sources.specs.declared.sources.dispatch.Role.{Role}
use Rattle.calloop_sources.specs.declared.sources.dispatch.Role.TheVariants.{Caller, Adapter, Timeout}
use Rattle.calloop_sources.specs.sources.Meanings.{Meaning}

abbrev pub of_caller : Role → Bool
of_caller Caller = true
of_caller Adapter = false
of_caller Timeout = false

abbrev pub of_adapter : Role → Bool
of_adapter Caller = false
of_adapter Adapter = true
of_adapter Timeout = false

abbrev pub is_callers : {D P T : Type 0} → Meaning D P T → D → Bool
is_callers m d = of_caller (m.role d)

abbrev pub is_adapter : {D P T : Type 0} → Meaning D P T → D → Bool
is_adapter m d = of_adapter (m.role d)

-- a source that passes, else nothing
abbrev pub when : {D : Type 0} → Bool → D → Content D
when true d = Source d
when false d = Vacant

-- the content of a slot, if only sources that pass are seen
abbrev pub only : {D : Type 0} → (D → Bool) → Content D → Content D
only p Vacant = Vacant
only p InTurn = InTurn
only p (Source d) = when (p d) d
