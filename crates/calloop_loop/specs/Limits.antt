-- The number of events for which the sources that are told of a wait may ask before it. calloop's sources answer at most one
-- each, and its list of these grows while there is memory.
use Rattle.std.specs.Prelude.{ℕ, ◌+◌, List, [], ◌∷◌}
use Rattle.calloop_slots.specs.declared.list.Content.{Content}
use Rattle.calloop_slots.specs.declared.list.Content.TheVariants.{Vacant, Source, InTurn}
use Rattle.calloop_slots.specs.declared.list.Slot.{Slot}
use Rattle.calloop_slots.specs.declared.token.RegistrationToken.{RegistrationToken}
use Rattle.calloop_slots.specs.Slots.{content_at}
use Rattle.calloop_sources.specs.sources.Meanings.{Meaning}

-- the limit of a source in a slot
abbrev pub limit_in : {D P T : Type 0} → Meaning D P T → Content D → ℕ
limit_in M Vacant = 0
limit_in M (Source d) = M.limit d
limit_in M InTurn = 0

-- the sum over the sources that these tokens name
abbrev pub all_limits : {D P T : Type 0} → Meaning D P T → List (Slot D) → List RegistrationToken → ℕ
all_limits M slots [] = 0
all_limits M slots (t ∷ ts) = limit_in M (content_at slots t) + all_limits M slots ts
