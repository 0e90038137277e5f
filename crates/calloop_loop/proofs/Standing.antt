-- A turn that leaves its source in its slot is one for which the source was taken out and put back.
use Rattle.std.proofs.Common.{◌≡◌, ◌∙◌, ℕ, suc, zero, List, [], ◌∷◌, refl, ap, sym, slice_get, Some, Result, Ok, Err, true}
use Rattle.calloop_slots.specs.declared.error.Error.{Error}
use Rattle.calloop_slots.specs.declared.list.Content.TheVariants.{Source, InTurn}
use Rattle.calloop_slots.specs.declared.list.Slot.{Slot}
use Rattle.calloop_slots.specs.declared.token.RegistrationToken.{RegistrationToken}
use Rattle.calloop_slots.specs.Slots.{content_at, is_empty, is_in_turn, with_change, with_content}
use Rattle.calloop_slots.proofs.Named.{named_slot, named_changed}
use Rattle.calloop_sources.specs.declared.sources.source.PostAction.{PostAction}
use Rattle.calloop_sources.specs.declared.sources.source.PostAction.TheVariants.{Continue, Reregister, Disable, Remove}
use Rattle.calloop_sources.specs.sources.Deeds.{Lent}
use Rattle.calloop_sources.specs.sources.Meanings.{Meaning}
use Rattle.calloop_poll.specs.sys.Pollers.{Outside}
use Rattle.calloop_loop.specs.Askings.{Asks, Runs}
use Rattle.calloop_loop.specs.Held.{Pend, held_after}
use Rattle.calloop_loop.specs.Machine.{View}
use Rattle.calloop_loop.specs.Rules.{Goes, Cutting, Serving, Ending, Returning, action_of}
use Rattle.calloop_loop.proofs.Going.{goes_on, goes_to, turn_served, acted, returned}
use Rattle.calloop_loop.proofs.Inserting.{changed_twice}

-- what is there already is no change
unchanged : {A : Type 0} (f : A → A) (xs : List A) (i : ℕ) (x : A) → slice_get xs i ≡ Some x → f x ≡ x → with_change f xs i ≡ xs
unchanged f [] i x at e = cc
unchanged f (y ∷ ys) zero x at e = let same : y ≡ x = cc in ap (λ z. z ∷ ys) (ap f same ∙ e ∙ sym same)
unchanged f (y ∷ ys) (suc i) x at e = ap (λ zs. y ∷ zs) (unchanged f ys i x at e)

-- putting a source back as it was changes nothing
put_back : {D : Type 0} (ss : List (Slot D)) (token : RegistrationToken) (d : D) → content_at ss token ≡ Source d → with_change (with_content (Source d)) (with_change (with_content InTurn) ss token.slot) token.slot ≡ ss
put_back ss token d is =
    let s = named_slot ss token (ap is_empty is) in
    changed_twice (Source d) InTurn ss token.slot ∙ unchanged (with_content (Source d)) ss token.slot s.0 s.1 (ap (λ c. with_content c s.0) (sym is ∙ s.3))

-- a source that goes on as it is has nothing pending
none_pending : (answer : Result PostAction Error) (pending : PostAction) → action_of answer pending ≡ Ok Continue → pending ≡ Continue
none_pending (Ok Continue) pending e = cc
none_pending (Ok Reregister) pending e = cc
none_pending (Ok Disable) pending e = cc
none_pending (Ok Remove) pending e = cc
none_pending (Err failure) pending e = cc

module _ {D I P X : Type 0} (M : Meaning D P (Lent X (Asks D I))) (runs : Runs D I X) (O : Outside P) where
  -- a source for which nothing is left to do stays in its slot
  pub stayed : (token : RegistrationToken) (v : View D I P) (d : D) (answer : Result PostAction Error) (x : X) → content_at v.slots token ≡ Source d → v.held.asks.written ≡ [] → action_of answer v.held.pending ≡ Ok Continue
      → Goes M runs O (Serving token d answer x) (Cutting x) (record v { slots = with_change (with_content InTurn) v.slots token.slot }) v
  stayed token v d answer x is none goes =
      let out : View D I P = record v { slots = with_change (with_content InTurn) v.slots token.slot } in
      let still : View D I P = record out { held = held_after v.held (Pend Continue) } in
      let still_v : View D I P = record v { held = held_after v.held (Pend Continue) } in
      let here : is_in_turn (content_at out.slots token) ≡ true = ap is_in_turn (named_changed v.slots token InTurn (ap is_empty is)) in
      goes_on M runs O (Serving token d answer x) (Ending token d answer x) (Cutting x) out out v (turn_served M runs O token d answer x [] out out none refl)
      (goes_on M runs O (Ending token d answer x) (Returning token d (Ok tt) x) (Cutting x) out still v (acted M runs O token out d answer (Ok tt) x (rw goes (refl, refl, refl)))
      (goes_to M runs O (Returning token d (Ok tt) x) (Cutting x) still (record still { slots = with_change (with_content (Source d)) out.slots token.slot }) v
      (ap (λ (p : PostAction). record v { held = record v.held { pending = p } }) (none_pending answer v.held.pending goes) ∙ ap (λ (ss : List (Slot D)). record still_v { slots = ss }) (sym (put_back v.slots token d is)))
      (returned M runs O token still d (Ok tt) x here)))
