-- What is settled at the beginning of a dispatch: exactly the marked adapters. calloop's adapters call the poller at once.
use Rattle.std.specs.Prelude.{◌≡◌, List, IsPermutation}
use Rattle.calloop_slots.specs.declared.token.RegistrationToken.{RegistrationToken}
use Rattle.calloop_poll.specs.sys.SlotOrder.{IsInSlotOrder}
use Rattle.calloop_poll.specs.sys.Polls.{PollView, marks_taken}

-- the list to settle is the list that was taken, sorted by slot
pub record AreTaken (taken marked : List RegistrationToken) : Type 0 where
  pub same : IsPermutation taken marked
  pub order : IsInSlotOrder marked

-- the marks were taken, and are this list, sorted by slot
pub record HasTaken {P : Type 0} (marked : List RegistrationToken) (v w : PollView P) : Type 0 where
  pub taken : List RegistrationToken
  pub are : AreTaken taken marked
  pub noted : w ≡ marks_taken taken v
