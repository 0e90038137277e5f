-- The order in which marked adapters are settled. calloop settles none: its adapters call the poller at once.
use Rattle.std.specs.Prelude.{◌≡◌, ℕ, ◌+◌, ◌≤◌, List, Some, slice_get}
use Rattle.calloop_slots.specs.declared.token.RegistrationToken.{RegistrationToken}

-- sorted by slot; a registration that isn't an adapter's any more may be beside the one that took its slot
abbrev pub IsInSlotOrder : List RegistrationToken → Type 0
IsInSlotOrder marked =
    (place : ℕ) (t u : RegistrationToken) → slice_get marked place ≡ Some t → slice_get marked (place + 1) ≡ Some u
    → t.slot ≤ u.slot
