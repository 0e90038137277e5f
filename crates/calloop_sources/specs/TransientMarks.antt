-- What the mark of a transient source says, if nobody else registers the inner source.
use Rattle.std.specs.Prelude.{◌≡◌, ◌+◌, ℕ, List, Bool, true, false, Ok, if◌then◌else◌}
use Rattle.calloop_sources.specs.declared.sources.source.PostAction.{PostAction}
use Rattle.calloop_sources.specs.declared.transient.State.{State}
use Rattle.calloop_sources.specs.declared.transient.State.TheVariants.{Keep, Register, Disable, Remove, Replace, Empty}
use Rattle.calloop_poll.specs.sys.Polls.{PollView, PollStep}
use Rattle.calloop_sources.specs.sources.Deeds.{Deed, Registered, Reregistered, Unregistered, Turned, Slept, Noticed, Heard}
use Rattle.calloop_sources.specs.sources.Meanings.{Meaning}

-- whether a source is registered after a call that succeeded
abbrev pub registered_after : {T : Type 0} → Bool → Deed T → Bool
registered_after before (Registered f answer g) = true
registered_after before (Reregistered f answer g) = true
registered_after before (Unregistered answer) = false
registered_after before (Turned readiness token turn) = before
registered_after before (Slept given answer) = before
registered_after before (Noticed events) = before

abbrev pub Succeeds : {E M T Cause : Type 0} → Deed (Heard E M T Cause) → Type 0
Succeeds (Registered f answer g) = answer ≡ Ok tt
Succeeds (Reregistered f answer g) = answer ≡ Ok tt
Succeeds (Unregistered answer) = answer ≡ Ok tt
Succeeds {E} {M} {T} {Cause} (Turned readiness token turn) = (action : PostAction) × (turn.answer ≡ Ok action)
Succeeds (Slept given answer) = Unit {0}
Succeeds (Noticed events) = Unit {0}

module _ {S P E M T Cause : Type 0} (m : Meaning S P (Heard E M T Cause)) where
  -- the source is registered and unregistered by these calls alone
  abbrev pub IsRegisteredBy : (S → Bool) → Type 0
  IsRegisteredBy registered =
      (s t : S) (v : PollView P) (deed : Deed (Heard E M T Cause)) (steps : List (PollStep P))
      → Succeeds deed → m.does s v deed steps t → registered t ≡ registered_after (registered s) deed

abbrev pub as_many : Bool → ℕ
as_many b = if b then 1 else 0

module _ {S : Type 0} (registered : S → Bool) where
  -- the mark says whether the inner source is registered, and a new one isn't
  abbrev pub IsMarked : State S → Type 0
  IsMarked (Keep s marked) = registered s ≡ marked
  IsMarked (Register s) = registered s ≡ false
  IsMarked (Disable s marked) = registered s ≡ marked
  IsMarked (Remove s marked) = registered s ≡ marked
  IsMarked (Replace new old marked) = (registered old ≡ marked) × (registered new ≡ false)
  IsMarked Empty = Unit {0}

  -- how many inner sources are registered
  abbrev pub registered_within : State S → ℕ
  registered_within (Keep s marked) = as_many (registered s)
  registered_within (Register s) = as_many (registered s)
  registered_within (Disable s marked) = as_many (registered s)
  registered_within (Remove s marked) = as_many (registered s)
  registered_within (Replace new old marked) = as_many (registered old) + as_many (registered new)
  registered_within Empty = 0
