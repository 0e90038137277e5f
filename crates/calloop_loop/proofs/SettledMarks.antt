-- The adapters that were marked are settled, one after the other.
use Rattle.std.proofs.Common.{◌≡◌, ℕ, ◌≤◌, List, [], ◌∷◌, refl, ap, ◌∙◌, None, Some, Option, Result, Ok, inl, inr, Bool, true, false, length, filter, suc, arith, if◌then◌else◌}
use Rattle.calloop_slots.specs.declared.error.Error.{Error}
use Rattle.calloop_slots.specs.declared.list.Content.{Content}
use Rattle.calloop_slots.specs.declared.list.Content.TheVariants.{Vacant, Source, InTurn}
use Rattle.calloop_slots.specs.declared.list.Slot.{Slot}
use Rattle.calloop_slots.specs.declared.token.RegistrationToken.{RegistrationToken}
use Rattle.calloop_slots.specs.declared.token.TokenFactory.{TokenFactory}
use Rattle.calloop_slots.specs.Slots.{with_change, with_content, content_at, source_of, is_empty, after_turn}
use Rattle.calloop_slots.proofs.Named.{turn_ended, named_changed}
use Rattle.calloop_poll.specs.sys.Pollers.{Outside}
use Rattle.calloop_poll.specs.declared.sys.poll.Poll.{Poll}
use Rattle.calloop_poll.specs.sys.Polls.{PollView, polls_after, IsReady}
use Rattle.calloop_sources.specs.sources.Deeds.{Reregistered, Unregistered, Lent}
use Rattle.calloop_sources.specs.sources.Meanings.{Meaning, Does, fresh_factory, Settles, SettledAs}
use Rattle.calloop_sources.specs.declared.sources.dispatch.Role.{Role}
use Rattle.calloop_sources.specs.declared.sources.dispatch.Role.TheVariants.{Caller, Adapter, Timeout}
use Rattle.calloop_loop.specs.Held.{Unlisted, Warned, Listed, held_after, with_warning}
use Rattle.calloop_loop.specs.Askings.{Asks, Runs}
use Rattle.calloop_loop.specs.Machine.{View, Put, Polls, Holds}
use Rattle.calloop_loop.specs.Roles.{only, is_adapter, of_adapter}
use Rattle.calloop_loop.specs.Rules.{Goes, Settling, Sleeping, SettledIn}
use Rattle.calloop_loop.proofs.Roles.{only_source, only_passes}
use Rattle.calloop_loop.proofs.Going.{goes_by, full_named}
use Rattle.calloop_loop.proofs.Inserting.{changed_twice}

pub fewer_passed : {A : Type 0} (p : A → Bool) (xs : List A) → length (filter p xs) ≤ length xs
fewer_passed p [] = omega arith
fewer_passed p (x ∷ xs) =
    elim (p x) as (λ b. length (if b then x ∷ filter p xs else filter p xs) ≤ suc (length xs))
    [ true ↦ (let h = fewer_passed p xs in omega (arith, h)) | false ↦ (let h = fewer_passed p xs in omega (arith, h)) ]

-- room for more is room for fewer
pub ready_less : {P C R : Type 0} (p : Poll P C R) (n m : ℕ) → m ≤ n → IsReady n p → IsReady m p
ready_less p n m less h = record { batch = omega (arith, less, h.batch); passes = h.passes; events = h.events; room = h.room }

module _ {D I P X : Type 0} (M : Meaning D P (Lent X (Asks D I))) (runs : Runs D I X) (O : Outside P) where
  none_settled : (token : RegistrationToken) (c : Content D) (v : View D I P) → None ≡ source_of c → SettledIn M token c v []
  none_settled token Vacant v h = refl
  none_settled token InTurn v h = refl
  none_settled token (Source d) v h = cc

  pub not_settled : (timeout : Option ℕ) (token : RegistrationToken) (later : List RegistrationToken) (v : View D I P) (x : X) → None ≡ source_of (only (is_adapter M) (content_at v.slots token))
      → Goes M runs O (Settling timeout (token ∷ later) x) (Settling timeout later x) v v
  not_settled timeout token later v x none =
      goes_by M runs O (Settling timeout (token ∷ later) x) (Settling timeout later x) [] v v (none_settled token (only (is_adapter M) (content_at v.slots token)) v none, refl) tt refl

  -- the adapter's interest was taken up
  pub settled : (timeout : Option ℕ) (token : RegistrationToken) (later : List RegistrationToken) (v : View D I P) (x : X) (d e : D) (f : TokenFactory) (p' : PollView P) → only (is_adapter M) (content_at v.slots token) ≡ Source d
      → Does O M d v.poll (Reregistered (fresh_factory token) (Ok tt) f) e p'
      → Goes M runs O (Settling timeout (token ∷ later) x) (Settling timeout later x) v (record v { slots = after_turn (Source e) token (with_change (with_content InTurn) v.slots token.slot); poll = p' })
  settled timeout token later v x d e f p' is r =
      let full : is_empty (content_at v.slots token) ≡ false = ap is_empty (only_source (is_adapter M) (content_at v.slots token) d is) in
      let out = with_change (with_content InTurn) v.slots token.slot in
      goes_by M runs O (Settling timeout (token ∷ later) x) (Settling timeout later x) (Put token.slot InTurn ∷ Polls r.0 ∷ Holds (Listed false token) ∷ Put token.slot (Source e) ∷ []) v
      (record v { slots = after_turn (Source e) token out; poll = p' })
      (rw is (inl (e, r.0, (f, r.1), refl)), refl)
      (full_named v.slots token full, (r.2.0, (tt, (full_named out token (ap is_empty (named_changed v.slots token InTurn full)), tt))))
      (ap (λ (ss : List (Slot D)). record v { slots = ss; poll = p' }) (turn_ended v.slots token (Source e) full)
      ∙ ap (λ (q : PollView P). record v { slots = with_change (with_content (Source e)) out token.slot; poll = q }) r.2.1)

  -- the adapter's `Async` was dropped; a failure is a warning, if there is memory for one
  pub settled_left : (timeout : Option ℕ) (token : RegistrationToken) (later : List RegistrationToken) (v : View D I P) (x : X) (d e : D) (told : Result (Unit {0}) Error) (p' : PollView P) (kept : Bool) (es : List Error)
      → only (is_adapter M) (content_at v.slots token) ≡ Source d → es ≡ with_warning kept told v.held.warnings
      → Does O M d v.poll (Unregistered told) e p'
      → Goes M runs O (Settling timeout (token ∷ later) x) (Settling timeout later x) v (record v { slots = after_turn Vacant token (with_change (with_content InTurn) v.slots token.slot); poll = p'; held = record (held_after v.held (Unlisted token)) { warnings = es } })
  settled_left timeout token later v x d e told p' kept es is now r =
      let full : is_empty (content_at v.slots token) ≡ false = ap is_empty (only_source (is_adapter M) (content_at v.slots token) d is) in
      goes_by M runs O (Settling timeout (token ∷ later) x) (Settling timeout later x) (Put token.slot Vacant ∷ Polls r.0 ∷ Holds (Unlisted token) ∷ Holds (Warned kept told) ∷ []) v
      (record v { slots = after_turn Vacant token (with_change (with_content InTurn) v.slots token.slot); poll = p'; held = record (held_after v.held (Unlisted token)) { warnings = es } })
      (rw is (inr (Some e, (e, told, kept, r.0, r.1, refl, refl))), refl)
      (full_named v.slots token full, (r.2.0, (tt, (tt, tt))))
      (ap (λ (ss : List (Slot D)). record v { slots = ss; poll = p'; held = record (held_after v.held (Unlisted token)) { warnings = es } }) (turn_ended v.slots token Vacant full ∙ changed_twice Vacant InTurn v.slots token.slot)
      ∙ ap (λ (q : PollView P). record v { slots = with_change (with_content Vacant) v.slots token.slot; poll = q; held = record (held_after v.held (Unlisted token)) { warnings = es } }) r.2.1
      ∙ ap (λ (l : List Error). record v { slots = with_change (with_content Vacant) v.slots token.slot; poll = polls_after v.poll r.0; held = record (held_after v.held (Unlisted token)) { warnings = l } }) now)

  adapter_settles : (r : Role) (token : RegistrationToken) (told : Option (Result (Unit {0}) Error)) (d e : D) (p p' : PollView P) → of_adapter r ≡ true → Settles r O M token told d p e p' → SettledAs O M token told d p e p'
  adapter_settles Caller token told d e p p' is h = cc
  adapter_settles Timeout token told d e p p' is h = cc
  adapter_settles Adapter token told d e p p' is h = h

  pub kept : (timeout : Option ℕ) (token : RegistrationToken) (later : List RegistrationToken) (v : View D I P) (x : X) (d e : D) (p' : PollView P) → only (is_adapter M) (content_at v.slots token) ≡ Source d
      → Settles (M.role d) O M token None d v.poll e p'
      → Goes M runs O (Settling timeout (token ∷ later) x) (Settling timeout later x) v (record v { slots = after_turn (Source e) token (with_change (with_content InTurn) v.slots token.slot); poll = p' })
  kept timeout token later v x d e p' is h =
      let r = adapter_settles (M.role d) token None d e v.poll p' (only_passes (is_adapter M) (content_at v.slots token) d is) h in
      settled timeout token later v x d e r.0 p' is r.1

  pub gone : (timeout : Option ℕ) (token : RegistrationToken) (later : List RegistrationToken) (v : View D I P) (x : X) (d e : D) (told : Result (Unit {0}) Error) (p' : PollView P) (kept : Bool) (es : List Error)
      → only (is_adapter M) (content_at v.slots token) ≡ Source d → es ≡ with_warning kept told v.held.warnings
      → Settles (M.role d) O M token (Some told) d v.poll e p'
      → Goes M runs O (Settling timeout (token ∷ later) x) (Settling timeout later x) v (record v { slots = after_turn Vacant token (with_change (with_content InTurn) v.slots token.slot); poll = p'; held = record (held_after v.held (Unlisted token)) { warnings = es } })
  gone timeout token later v x d e told p' kept es is now h =
      settled_left timeout token later v x d e told p' kept es is now (adapter_settles (M.role d) token (Some told) d e v.poll p' (only_passes (is_adapter M) (content_at v.slots token) d is) h)

  pub all_settled : (timeout : Option ℕ) (v : View D I P) (x : X) → Goes M runs O (Settling timeout [] x) (Sleeping timeout v.held.lifecycle x) v v
  all_settled timeout v x = goes_by M runs O (Settling timeout [] x) (Sleeping timeout v.held.lifecycle x) [] v v (refl, refl) tt refl
