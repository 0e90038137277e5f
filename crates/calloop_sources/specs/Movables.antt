-- A source whose registration can be taken back, and made again by `reregister`. calloop has none: there the parts of a source
-- are registered anew one by one, each beside what the others still have.
use Rattle.std.proofs.Common.{refl}
use Rattle.std.specs.Prelude.{true, false, List, Result, Ok, Err}
use Rattle.calloop_slots.specs.declared.error.Error.{Error}
use Rattle.calloop_slots.specs.declared.token.TokenFactory.{TokenFactory}
use Rattle.calloop_sources.specs.declared.transient.State.{State}
use Rattle.calloop_sources.specs.declared.transient.State.TheVariants.{Keep, Register, Disable, Remove, Replace, Empty}
use Rattle.calloop_sources.specs.declared.movable.Movable.{Movable}
use Rattle.calloop_poll.specs.sys.Polls.{PollView, PollStep}
use Rattle.calloop_sources.specs.sources.Deeds.{Deed, Registered, Reregistered, Unregistered, Turned, Slept, Noticed, Heard}
use Rattle.calloop_sources.specs.declared.sources.dispatch.Role.TheVariants.{Caller}
use Rattle.calloop_sources.specs.sources.Meanings.{Meaning, IsKeeping, KeepsCounters, KeepsHome, seen_as}
use Rattle.calloop_sources.specs.sources.Lawful.{keeping_seen, silent}
use Rattle.calloop_sources.specs.Transients.{Moves, RegisteredAs, ReregisteredAs, coming, state_holds, state_keys, state_fits}
use Rattle.calloop_sources.specs.TransientKeeping.{state_keeps, by_registering}

-- a source that is registered by the first registration
abbrev pub coming_again : {S : Type 0} → S → Movable S
coming_again source = record { source = coming source }

module _ {S P E M T Cause : Type 0} (m : Meaning S P (Heard E M T Cause)) where
  -- a source that is to stay and isn't registered is registered
  abbrev pub ReturnsAs : State S → PollView P → TokenFactory → Result (Unit {0}) Error
      → List (PollStep P) → State S → TokenFactory → Type 0
  ReturnsAs (Keep s false) v f answer steps t g = RegisteredAs m (Keep s false) v f answer steps t g
  ReturnsAs (Keep s true) v f answer steps t g = ReregisteredAs m (Keep s true) v f answer steps t g
  ReturnsAs (Register s) v f answer steps t g = ReregisteredAs m (Register s) v f answer steps t g
  ReturnsAs (Disable s marked) v f answer steps t g = ReregisteredAs m (Disable s marked) v f answer steps t g
  ReturnsAs (Remove s marked) v f answer steps t g = ReregisteredAs m (Remove s marked) v f answer steps t g
  ReturnsAs (Replace new old marked) v f answer steps t g = ReregisteredAs m (Replace new old marked) v f answer steps t g
  ReturnsAs Empty v f answer steps t g = ReregisteredAs m Empty v f answer steps t g

  -- all else is as for a transient source
  abbrev pub MovesAgain : State S → PollView P → Deed (Heard E M T Cause) → List (PollStep P) → State S → Type 0
  MovesAgain state v (Reregistered f answer g) steps t = ReturnsAs state v f answer steps t g
  MovesAgain state v (Registered f answer g) steps t = Moves m state v (Registered f answer g) steps t
  MovesAgain state v (Unregistered answer) steps t = Moves m state v (Unregistered answer) steps t
  MovesAgain state v (Turned readiness token turn) steps t = Moves m state v (Turned readiness token turn) steps t
  MovesAgain state v (Slept given answer) steps t = Moves m state v (Slept given answer) steps t
  MovesAgain state v (Noticed events) steps t = Moves m state v (Noticed events) steps t

  abbrev pub again_meaning : Meaning (State S) P (Heard E M T Cause)
  again_meaning =
      record { holds = state_holds m; keys = state_keys m; fits = state_fits m; needs = λ state. false; limit = λ state. 0; role = λ state. Caller; does = MovesAgain }

  abbrev pub movable_meaning : Meaning (Movable S) P (Heard E M T Cause)
  movable_meaning = seen_as (λ s. s.source.state) again_meaning

-- A movable source keeps the laws if the inner source does. The impl cites these proofs, so they are here.

module _ {S P E M T Cause : Type 0} (m : Meaning S P (Heard E M T Cause)) (k : IsKeeping m) where
  again_counts : KeepsCounters (again_meaning m)
  again_counts (Keep s false) t v (Reregistered f a g) l fits below h =
      (state_keeps m k).counters (Keep s false) t v (Registered f a g) l fits below h
  again_counts (Keep s true) t v (Reregistered f a g) l fits below h =
      (state_keeps m k).counters (Keep s true) t v (Reregistered f a g) l fits below h
  again_counts (Register s) t v (Reregistered f a g) l fits below h =
      (state_keeps m k).counters (Register s) t v (Reregistered f a g) l fits below h
  again_counts (Disable s b) t v (Reregistered f a g) l fits below h =
      (state_keeps m k).counters (Disable s b) t v (Reregistered f a g) l fits below h
  again_counts (Remove s b) t v (Reregistered f a g) l fits below h =
      (state_keeps m k).counters (Remove s b) t v (Reregistered f a g) l fits below h
  again_counts (Replace new old b) t v (Reregistered f a g) l fits below h =
      (state_keeps m k).counters (Replace new old b) t v (Reregistered f a g) l fits below h
  again_counts Empty t v (Reregistered f a g) l fits below h =
      (state_keeps m k).counters Empty t v (Reregistered f a g) l fits below h
  again_counts s t v (Registered f a g) l fits below h =
      (state_keeps m k).counters s t v (Registered f a g) l fits below h
  again_counts s t v (Unregistered a) l fits below h =
      (state_keeps m k).counters s t v (Unregistered a) l fits below h
  again_counts s t v (Turned readiness token turn) l fits below h =
      (state_keeps m k).counters s t v (Turned readiness token turn) l fits below h
  again_counts s t v (Slept gs a) l fits below h = (state_keeps m k).counters s t v (Slept gs a) l fits below h
  again_counts s t v (Noticed es) l fits below h = (state_keeps m k).counters s t v (Noticed es) l fits below h

  again_stays : KeepsHome (again_meaning m)
  again_stays r (Keep s false) t v (Reregistered f a g) l begins h =
      let x = by_registering m k r (Keep s false) t v f g a l begins h in (x.0, λ home. x.1)
  again_stays r (Keep s true) t v (Reregistered f a g) l begins h =
      (state_keeps m k).home r (Keep s true) t v (Reregistered f a g) l begins h
  again_stays r (Register s) t v (Reregistered f a g) l begins h =
      (state_keeps m k).home r (Register s) t v (Reregistered f a g) l begins h
  again_stays r (Disable s b) t v (Reregistered f a g) l begins h =
      (state_keeps m k).home r (Disable s b) t v (Reregistered f a g) l begins h
  again_stays r (Remove s b) t v (Reregistered f a g) l begins h =
      (state_keeps m k).home r (Remove s b) t v (Reregistered f a g) l begins h
  again_stays r (Replace new old b) t v (Reregistered f a g) l begins h =
      (state_keeps m k).home r (Replace new old b) t v (Reregistered f a g) l begins h
  again_stays r Empty t v (Reregistered f a g) l begins h =
      (state_keeps m k).home r Empty t v (Reregistered f a g) l begins h
  again_stays r s t v (Registered f (Ok u) g) l begins h =
      (state_keeps m k).home r s t v (Registered f (Ok u) g) l begins h
  again_stays r s t v (Registered f (Err e) g) l begins h =
      (state_keeps m k).home r s t v (Registered f (Err e) g) l begins h
  again_stays r s t v (Unregistered a) l begins h = (state_keeps m k).home r s t v (Unregistered a) l begins h
  again_stays r s t v (Turned readiness token turn) l begins h =
      (state_keeps m k).home r s t v (Turned readiness token turn) l begins h
  again_stays r s t v (Slept gs a) l begins h = (state_keeps m k).home r s t v (Slept gs a) l begins h
  again_stays r s t v (Noticed es) l begins h = (state_keeps m k).home r s t v (Noticed es) l begins h

  again_keeps : IsKeeping (again_meaning m)
  again_keeps =
      record {
        counters = again_counts;
        home = again_stays;
        limit = silent (again_meaning m) (λ s. refl) (λ s t v given answer steps h. h.0.0);
      }

  pub movable_keeps : IsKeeping (movable_meaning m)
  movable_keeps = keeping_seen (λ s. s.source.state) (again_meaning m) again_keeps
