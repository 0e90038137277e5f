-- What a source of the tests means that takes tokens for itself before the inner source is registered: the inner source gets
-- the factory as it is then, or isn't called if the tokens have run out. All else is passed on.
use Rattle.std.proofs.Common.{inl, inr, refl, ◌∙◌}
use Rattle.std.specs.Prelude.{◌≡◌, ◌⊎◌, ◌<◌, [], List, false, Result, Ok, Err}
use Rattle.calloop_slots.specs.Widths.{parts}
use Rattle.calloop_slots.specs.declared.error.Error.{Error}
use Rattle.calloop_slots.specs.declared.token.RegistrationToken.{RegistrationToken}
use Rattle.calloop_slots.specs.declared.token.TokenFactory.{TokenFactory}
use Rattle.calloop_poll.specs.sys.Polls.{PollView, PollStep}
use Rattle.calloop_poll.specs.sys.Keys.{IsFactoryOf}
use Rattle.calloop_sources.specs.sources.Lawful.{silent}
use Rattle.calloop_sources.specs.sources.Deeds.{Deed, Registered, Reregistered, Unregistered, Turned, SaysNothing, Slept, Noticed, Heard}
use Rattle.calloop_sources.specs.declared.sources.dispatch.Role.TheVariants.{Caller}
use Rattle.calloop_sources.specs.sources.Meanings.{Meaning, IsKeeping, KeepsCounters, KeepsHome}
use Rattle.calloop_sources.specs.sources.Beside.{within_itself}

-- of the same registration, and its count fits its width if it did before
abbrev pub Spends : (before after : TokenFactory) → Type 0
Spends before after = (after.registration ≡ before.registration) × (before.given < parts → after.given < parts)

spent_of : (r : RegistrationToken) (f g : TokenFactory) → IsFactoryOf r f → Spends f g → IsFactoryOf r g
spent_of r f g is spends = (spends.0 ∙ is.0, spends.1 is.1)

-- the tokens had run out before the inner source was called
abbrev pub IsNotAsked : {D S P : Type 0} → (see : D → S) → D → Result (Unit {0}) Error → List (PollStep P) → D → Type 0
IsNotAsked see s answer steps t = (e : Error) × (answer ≡ Err e) × (steps ≡ []) × (see t ≡ see s)

module _ {D S P E M T Cause E' M' T' Cause' : Type 0} (see : D → S) (m : Meaning S P (Heard E' M' T' Cause')) where
  abbrev pub SpendsFirst : D → PollView P → Deed (Heard E M T Cause) → List (PollStep P) → D → Type 0
  SpendsFirst s v (Registered f answer g) steps t =
      (h : TokenFactory) × Spends f h
      × (m.does (see s) v (Registered h answer g) steps (see t) ⊎ IsNotAsked see s answer steps t)
  SpendsFirst s v (Reregistered f answer g) steps t =
      (h : TokenFactory) × Spends f h
      × (m.does (see s) v (Reregistered h answer g) steps (see t) ⊎ IsNotAsked see s answer steps t)
  SpendsFirst s v (Unregistered answer) steps t = m.does (see s) v (Unregistered answer) steps (see t)
  SpendsFirst s v (Turned readiness token turn) steps t =
      (inner : Heard E' M' T' Cause') × m.does (see s) v (Turned readiness token inner) steps (see t)
  SpendsFirst s v (Slept given answer) steps t = SaysNothing given answer × (steps ≡ []) × (t ≡ s)
  SpendsFirst s v (Noticed events) steps t = (steps ≡ []) × (t ≡ s)

  abbrev pub spending : Meaning D P (Heard E M T Cause)
  spending =
      record {
        holds = λ s. m.holds (see s);
        keys = λ s. m.keys (see s);
        fits = λ s. m.fits (see s);
        needs = λ s. false;
        limit = λ s. 0;
        role = λ s. Caller;
        does = SpendsFirst;
      }

  -- Proofs, which the impl cites.

  spending_counts : IsKeeping m → KeepsCounters spending
  spending_counts k s t v (Registered f a g) l fits below (h, spends, inl done) =
      k.counters (see s) (see t) v (Registered h a g) l fits below done
  spending_counts k s t v (Registered f a g) l fits below (h, spends, inr none) =
      rw (none.2, none.3) (fits, λ c. within_itself (m.holds (see s) c))
  spending_counts k s t v (Reregistered f a g) l fits below (h, spends, inl done) =
      k.counters (see s) (see t) v (Reregistered h a g) l fits below done
  spending_counts k s t v (Reregistered f a g) l fits below (h, spends, inr none) =
      rw (none.2, none.3) (fits, λ c. within_itself (m.holds (see s) c))
  spending_counts k s t v (Unregistered a) l fits below h =
      k.counters (see s) (see t) v (Unregistered a) l fits below h
  spending_counts k s t v (Turned r token turn) l fits below h =
      k.counters (see s) (see t) v (Turned r token h.0) l fits below h.1
  spending_counts k s t v (Slept gs a) l fits below h =
      rw (h.1, h.2) (fits, λ c. within_itself (m.holds (see s) c))
  spending_counts k s t v (Noticed es) l fits below h =
      rw (h.0, h.1) (fits, λ c. within_itself (m.holds (see s) c))

  spending_stays : IsKeeping m → KeepsHome spending
  spending_stays k r s t v (Registered f (Ok u) g) l begins (h, spends, inl done) =
      k.home r (see s) (see t) v (Registered h (Ok u) g) l (spent_of r f h begins spends) done
  spending_stays k r s t v (Registered f (Ok u) g) l begins (h, spends, inr none) = (let e = none.1 in cc)
  spending_stays k r s t v (Registered f (Err e) g) l begins (h, spends, inl done) =
      k.home r (see s) (see t) v (Registered h (Err e) g) l (begins.0, spent_of r f h begins.1 spends) done
  spending_stays k r s t v (Registered f (Err e) g) l begins (h, spends, inr none) =
      rw (none.2, none.3) (begins.0, λ home. tt)
  spending_stays k r s t v (Reregistered f a g) l begins (h, spends, inl done) =
      k.home r (see s) (see t) v (Reregistered h a g) l (begins.0, spent_of r f h begins.1 spends) done
  spending_stays k r s t v (Reregistered f a g) l begins (h, spends, inr none) =
      rw (none.2, none.3) (begins.0, λ home. tt)
  spending_stays k r s t v (Unregistered a) l begins h =
      k.home r (see s) (see t) v (Unregistered a) l begins h
  spending_stays k r s t v (Turned readiness token turn) l begins h =
      k.home r (see s) (see t) v (Turned readiness token h.0) l begins h.1
  spending_stays k r s t v (Slept gs a) l begins h = rw (h.1, h.2) (begins, λ home. tt)
  spending_stays k r s t v (Noticed es) l begins h = rw (h.0, h.1) (begins, λ home. tt)

  pub keeping_spending : IsKeeping m → IsKeeping spending
  keeping_spending k =
      record {
        counters = spending_counts k;
        home = spending_stays k;
        limit = silent spending (λ s. refl) (λ s t v given answer steps h. h.0.0);
      }
