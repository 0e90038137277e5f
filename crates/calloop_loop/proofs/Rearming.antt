-- A timer that is armed for another deadline while it is out of its slot.
use Rattle.std.proofs.Common.{◌≡◌, Bool, true, false, ◌&&◌, [], ◌∷◌, Err, inl, inr, refl, ap, ◌∙◌}
use Rattle.calloop_slots.specs.declared.error.Error.TheVariants.{InvalidToken}
use Rattle.calloop_slots.specs.declared.token.RegistrationToken.{RegistrationToken}
use Rattle.calloop_slots.specs.declared.wheel.Instant.{Instant}
use Rattle.calloop_poll.specs.sys.Pollers.{Outside}
use Rattle.calloop_sources.specs.sources.Deeds.{Lent, Reregistered}
use Rattle.calloop_sources.specs.sources.Meanings.{Meaning}
use Rattle.calloop_sources.specs.sources.SetDeadlines.{SetsDeadline}
use Rattle.calloop_loop.specs.Askings.{Asks}
use Rattle.calloop_loop.specs.Held.{Held, Listed}
use Rattle.calloop_loop.specs.Machine.{View, Polls, Holds, all_viewed}
use Rattle.calloop_loop.specs.Rules.{Outcome, ByOne, RegisteredBy, RearmedBy, is_done, listing_of}
use Rattle.calloop_loop.proofs.RegisteredEntries.{entered_not}

module _ {D I P X : Type 0} (M : Meaning D P (Lent X (Asks D I))) (O : Outside P) (deadline : Instant) (token : RegistrationToken) (listed : Bool) (v : View D I P) (d e : D) where
  pub not_rearmed : SetsDeadline M deadline d false e → ByOne O (RearmedBy M deadline token listed v.poll) (listing_of M token) d (Err InvalidToken) e v v
  not_rearmed same = ([], inl (refl, refl, same), tt, ap (λ (h : Held D I). record v { held = h }) (entered_not (M.needs d) token v.held))

  pub rearmed : (timer : D) (answer : Outcome) (u : View D I P) → SetsDeadline M deadline d true timer
      → ByOne O (RegisteredBy M Reregistered token listed v.poll) (listing_of M token) timer answer e v u → ByOne O (RearmedBy M deadline token listed v.poll) (listing_of M token) d answer e v u
  rearmed timer answer u set r = (r.0, inr (timer, set, r.1), r.2, r.3 ∙ ap (λ (needs : Bool). all_viewed v (Polls r.0 ∷ Holds (Listed (needs && is_done answer) token) ∷ [])) set.1.needs)
