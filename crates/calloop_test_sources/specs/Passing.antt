-- What a source of the tests with one inner source means: the inner source is called each time, and it alone has counters and
-- keys; what a turn hands out, and how it ends, is up to the outer source.
use Rattle.std.proofs.Common.{refl}
use Rattle.std.specs.Prelude.{◌≡◌, ℕ, [], ◌∷◌, List, Bool, true, false, Ok, Err}
use Rattle.calloop_poll.specs.sys.Polls.{PollView, PollStep}
use Rattle.calloop_sources.specs.sources.Calls.{CallbackCall}
use Rattle.calloop_sources.specs.sources.Lawful.{silent}
use Rattle.calloop_sources.specs.sources.Deeds.{Deed, Registered, Reregistered, Unregistered, Turned, SaysNothing, Slept, Noticed, Heard}
use Rattle.calloop_sources.specs.declared.sources.dispatch.Role.TheVariants.{Caller}
use Rattle.calloop_sources.specs.sources.Meanings.{Meaning, IsKeeping, KeepsCounters, KeepsHome}
use Rattle.calloop_sources.specs.sources.Beside.{within_itself}

-- one call with this number, or none
abbrev pub numbered_calls : (rang : Bool) → (number : ℕ) → List (CallbackCall ℕ (Unit {0}) (Unit {0}))
numbered_calls true number = record { event = number; before = tt; after = tt; answer = tt } ∷ []
numbered_calls false number = []

module _ {D S P E M T Cause E' M' T' Cause' : Type 0} (see : D → S) (m : Meaning S P (Heard E' M' T' Cause')) where
  abbrev pub Passes : D → PollView P → Deed (Heard E M T Cause) → List (PollStep P) → D → Type 0
  Passes s v (Registered f answer g) steps t = m.does (see s) v (Registered f answer g) steps (see t)
  Passes s v (Reregistered f answer g) steps t = m.does (see s) v (Reregistered f answer g) steps (see t)
  Passes s v (Unregistered answer) steps t = m.does (see s) v (Unregistered answer) steps (see t)
  Passes s v (Turned readiness token turn) steps t =
      (inner : Heard E' M' T' Cause') × m.does (see s) v (Turned readiness token inner) steps (see t)
  Passes s v (Slept given answer) steps t = SaysNothing given answer × (steps ≡ []) × (t ≡ s)
  Passes s v (Noticed events) steps t = (steps ≡ []) × (t ≡ s)

  abbrev pub passing : Meaning D P (Heard E M T Cause)
  passing =
      record {
        holds = λ s. m.holds (see s);
        keys = λ s. m.keys (see s);
        fits = λ s. m.fits (see s);
        needs = λ s. false;
        limit = λ s. 0;
        role = λ s. Caller;
        does = Passes;
      }

  -- Proofs, which the impl cites.

  passing_counts : IsKeeping m → KeepsCounters passing
  passing_counts k s t v (Registered f a g) l fits below h =
      k.counters (see s) (see t) v (Registered f a g) l fits below h
  passing_counts k s t v (Reregistered f a g) l fits below h =
      k.counters (see s) (see t) v (Reregistered f a g) l fits below h
  passing_counts k s t v (Unregistered a) l fits below h =
      k.counters (see s) (see t) v (Unregistered a) l fits below h
  passing_counts k s t v (Turned r token turn) l fits below h =
      k.counters (see s) (see t) v (Turned r token h.0) l fits below h.1
  passing_counts k s t v (Slept gs a) l fits below h =
      rw (h.1, h.2) (fits, λ c. within_itself (m.holds (see s) c))
  passing_counts k s t v (Noticed es) l fits below h =
      rw (h.0, h.1) (fits, λ c. within_itself (m.holds (see s) c))

  passing_stays : IsKeeping m → KeepsHome passing
  passing_stays k r s t v (Registered f (Ok u) g) l begins h =
      k.home r (see s) (see t) v (Registered f (Ok u) g) l begins h
  passing_stays k r s t v (Registered f (Err e) g) l begins h =
      k.home r (see s) (see t) v (Registered f (Err e) g) l begins h
  passing_stays k r s t v (Reregistered f a g) l begins h =
      k.home r (see s) (see t) v (Reregistered f a g) l begins h
  passing_stays k r s t v (Unregistered a) l begins h =
      k.home r (see s) (see t) v (Unregistered a) l begins h
  passing_stays k r s t v (Turned readiness token turn) l begins h =
      k.home r (see s) (see t) v (Turned readiness token h.0) l begins h.1
  passing_stays k r s t v (Slept gs a) l begins h = rw (h.1, h.2) (begins, λ home. tt)
  passing_stays k r s t v (Noticed es) l begins h = rw (h.0, h.1) (begins, λ home. tt)

  pub keeping_passing : IsKeeping m → IsKeeping passing
  keeping_passing k =
      record {
        counters = passing_counts k;
        home = passing_stays k;
        limit = silent passing (λ s. refl) (λ s t v given answer steps h. h.0.0);
      }
