-- Insertions, and other calls of one source.
use Rattle.std.proofs.Common.{Bool, ◌≡◌, ◌<◌, ◌^◌, ◌-◌, IfOk, IfErr, Result, ℕ, zero, suc, List, [], ◌∷◌, refl, ap, sym, ◌∙◌, subst, false, None, Some, Ok, Err, inl, inr}
use Rattle.logbook.specs.Pages.{Book}
use Rattle.calloop_slots.specs.Widths.{most_slots}
use Rattle.calloop_loop.specs.declared.asks.Idle.{Idle}
use Rattle.calloop_slots.specs.declared.error.InsertError.{InsertError}
use Rattle.calloop_slots.specs.declared.error.Error.{Error}
use Rattle.calloop_slots.specs.declared.error.Error.TheVariants.{InvalidToken}
use Rattle.calloop_slots.specs.declared.token.TokenFactory.{TokenFactory}
use Rattle.calloop_slots.specs.declared.token.RegistrationToken.{RegistrationToken}
use Rattle.calloop_slots.specs.declared.wheel.Instant.{Instant}
use Rattle.calloop_slots.specs.declared.list.Content.{Content}
use Rattle.calloop_slots.specs.declared.list.Content.TheVariants.{Vacant, Source, InTurn}
use Rattle.calloop_slots.specs.declared.list.Slot.{Slot}
use Rattle.calloop_slots.specs.Slots.{with_change, with_content, content_at, source_of, is_empty, after_turn, first_vacant, next_version, next_registration, after_claim}
use Rattle.calloop_slots.proofs.Named.{turn_ended, named_changed, named_slot}
use Rattle.calloop_slots.proofs.Inserted.{claim_ended}
use Rattle.calloop_slots.proofs.Vacancy.{slice_get-claimed_at}
use Rattle.calloop_poll.specs.sys.Polls.{PollView, PollStep, polls_after}
use Rattle.calloop_poll.specs.sys.Pollers.{Outside}
use Rattle.calloop_loop.specs.declared.LoopCall.TheVariants.{Insert, Enable as EnableCall, Update as UpdateCall, Disable as DisableCall, Remove, Release, Exchange, InsertIdle}
use Rattle.calloop_loop.specs.declared.LoopAnswer.TheVariants.{Inserted, Enabled, Updated, Disabled, Removed, Released, Exchanged, IdleInserted}
use Rattle.calloop_sources.specs.sources.Deeds.{Registered, Reregistered, Unregistered, Lent}
use Rattle.calloop_sources.specs.sources.Meanings.{Meaning, Does}
use Rattle.calloop_loop.specs.declared.registering.RegistrationCall.{RegistrationCall}
use Rattle.calloop_loop.specs.declared.registering.RegistrationCall.TheVariants.{Enable, Update, Disable}
use Rattle.calloop_loop.specs.declared.stops.StopNote.{StopNote}
use Rattle.calloop_loop.specs.Held.{HeldStep, is_listed, IdleNew, Listed, Unlisted, Warned, with_warning, held_after}
use Rattle.calloop_loop.specs.Askings.{Asks, Runs, CannotAsk, with_new_idle}
use Rattle.calloop_loop.specs.Machine.{View, Change, Put, Claim, Swapped, Polls, Holds, AllFit, IsFull, StandsIn, all_viewed}
use Rattle.calloop_loop.proofs.Going.{full_named}
use Rattle.calloop_loop.specs.Roles.{only, is_callers, is_adapter}
use Rattle.calloop_loop.proofs.Roles.{only_source}
use Rattle.calloop_loop.specs.Registering.{loop_call_of, loop_answer_of}
use Rattle.calloop_loop.specs.Rules.{Did, Case, Once, Outcome, ByOne, RegisteredBy, RearmedBy, DeadlineSetBy, listing_of, unlisting_of, CannotInsert, InsertedBy, EnabledBy, UpdatedBy, DisabledBy, RemovedBy, RemovedIn, ReleasedBy, ExchangedIn, ExchangedBy, IdleInsertedBy, AskedIn, factory_of}

-- a slot holds what is put into it last
pub changed_twice : {D : Type 0} (c d : Content D) (ss : List (Slot D)) (i : ℕ) → with_change (with_content c) (with_change (with_content d) ss i) i ≡ with_change (with_content c) ss i
changed_twice c d [] i = refl
changed_twice c d (s ∷ ss) zero = refl
changed_twice c d (s ∷ ss) (suc i) = ap (λ ts. s ∷ ts) (changed_twice c d ss i)

module _ {D I P X : Type 0} (M : Meaning D P (Lent X (Asks D I))) (runs : Runs D I X) (O : Outside P) (v : View D I P) where
  one_step : (R : View D I P → List (Change D I P) → Type 0) (cs : List (Change D I P)) (u : View D I P) → R v cs → AllFit O v cs → u ≡ all_viewed v cs → Did (Once O R) v u
  one_step R cs u r fit is = (cs ∷ [], (r, fit), is)

  pub not_claimed : (d : D) (error : Error) (u : View D I P) → CannotInsert v.slots (M.needs d) error → u ≡ v → Did (Case M runs O (Insert d) (Inserted (Err (record { inserted = d; error = error })))) v u
  not_claimed d error u h same = one_step (InsertedBy M d (Err (record { inserted = d; error = error }))) [] u (inl (refl, h, refl)) tt same

  claim_full : IsFull (after_claim v.slots) (first_vacant v.slots)
  claim_full = (record { version = next_version v.slots; content = InTurn }, slice_get-claimed_at v.slots, refl)

  pub not_registered : (d e : D) (error : Error) (token : RegistrationToken) (f : TokenFactory) (p' : PollView P) → token ≡ next_registration v.slots → token.slot < most_slots
      → Does O M d v.poll (Registered (factory_of token) (Err error) f) e p'
      → Did (Case M runs O (Insert d) (Inserted (Err (record { inserted = e; error = error })))) v (record v { slots = after_turn Vacant token (after_claim v.slots); poll = p' })
  not_registered d e error token f p' is few r =
      let u : View D I P = record v { slots = after_turn Vacant token (after_claim v.slots); poll = p' } in
      let ended : after_turn Vacant token (after_claim v.slots) ≡ with_change (with_content Vacant) (after_claim v.slots) (first_vacant v.slots) =
      ap (λ (t : RegistrationToken). after_turn Vacant t (after_claim v.slots)) is ∙ claim_ended v.slots Vacant in
      one_step (InsertedBy M d (Err (record { inserted = e; error = error }))) (Claim d ∷ Polls r.0 ∷ Put (first_vacant v.slots) Vacant ∷ []) u
      (inr (subst (λ (t : RegistrationToken). t.slot < most_slots) is few, f, r.0, subst (λ (t : RegistrationToken). M.does d v.poll (Registered (factory_of t) (Err error) f) r.0 e) is r.1, refl))
      (tt, (r.2.0, (claim_full, tt)))
      (ap (λ (ss : List (Slot D)). record v { slots = ss; poll = p' }) ended ∙ ap (λ (q : PollView P). record v { slots = with_change (with_content Vacant) (after_claim v.slots) (first_vacant v.slots); poll = q }) r.2.1)

  pub registered : (d e : D) (token : RegistrationToken) (f : TokenFactory) (p' : PollView P) (signal : Book) (es : List Error) (ns : List StopNote) → signal ≡ v.signal → es ≡ v.held.warnings → ns ≡ v.held.stops → token ≡ next_registration v.slots → token.slot < most_slots
      → Does O M d v.poll (Registered (factory_of token) (Ok tt) f) e p'
      → Did (Case M runs O (Insert d) (Inserted (Ok token))) v (record { slots = after_turn (Source e) token (after_claim v.slots); poll = p'; held = record (held_after v.held (Listed (M.needs d) token)) { warnings = es; stops = ns }; signal = signal })
  registered d e token f p' signal es ns same now noted is few r =
      let ended : after_turn (Source e) token (after_claim v.slots) ≡ with_change (with_content (Source e)) (after_claim v.slots) token.slot =
      ap (λ (t : RegistrationToken). after_turn (Source e) t (after_claim v.slots)) is ∙ claim_ended v.slots (Source e) ∙ ap (λ (t : RegistrationToken). with_change (with_content (Source e)) (after_claim v.slots) t.slot) (sym is) in
      one_step (InsertedBy M d (Ok token)) (Claim d ∷ Polls r.0 ∷ Holds (Listed (M.needs d) token) ∷ Put token.slot (Source e) ∷ []) (record { slots = after_turn (Source e) token (after_claim v.slots); poll = p'; held = record (held_after v.held (Listed (M.needs d) token)) { warnings = es; stops = ns }; signal = signal })
      (subst (λ (t : RegistrationToken). t.slot < most_slots) is few, is, e, f, r.0, r.1, refl)
      (tt, (r.2.0, (tt, (subst (λ (t : RegistrationToken). IsFull (after_claim v.slots) t.slot) (sym is) claim_full, tt))))
      (ap (λ (l : List Error). record { slots = after_turn (Source e) token (after_claim v.slots); poll = p'; held = record (held_after v.held (Listed (M.needs d) token)) { warnings = l; stops = ns }; signal = signal }) now
      ∙ ap (λ (l : List StopNote). record { slots = after_turn (Source e) token (after_claim v.slots); poll = p'; held = record (held_after v.held (Listed (M.needs d) token)) { stops = l }; signal = signal }) noted
      ∙ ap (λ (n : Book). record v { slots = after_turn (Source e) token (after_claim v.slots); poll = p'; held = held_after v.held (Listed (M.needs d) token); signal = n }) same
      ∙ ap (λ (ss : List (Slot D)). record v { slots = ss; poll = p'; held = held_after v.held (Listed (M.needs d) token) }) ended ∙ ap (λ (q : PollView P). record v { slots = with_change (with_content (Source e)) (after_claim v.slots) token.slot; poll = q; held = held_after v.held (Listed (M.needs d) token) }) r.2.1)

  none_asked : (R : D → Outcome → List (PollStep P) → D → Type 0) (noted : D → Outcome → HeldStep D I) (token : RegistrationToken) (c : Content D) → None ≡ source_of c → AskedIn R noted token c (Err InvalidToken) []
  none_asked R noted token Vacant h = (refl, refl)
  none_asked R noted token InTurn h = (refl, refl)
  none_asked R noted token (Source d) h = cc

  -- without its source, which goes back to its slot
  abbrev pub out : RegistrationToken → View D I P
  out token = record v { slots = with_change (with_content InTurn) v.slots token.slot }

  abbrev pub back : RegistrationToken → D → View D I P → View D I P
  back token e u = record u { slots = after_turn (Source e) token u.slots }

  asked : (p : D → Bool) (R : D → Outcome → List (PollStep P) → D → Type 0) (noted : D → Outcome → HeldStep D I) (B : View D I P → List (Change D I P) → Type 0) (token : RegistrationToken) (d e : D) (answer : Outcome) (u : View D I P)
      → ((cs : List (Change D I P)) → AskedIn R noted token (only p (content_at v.slots token)) answer cs → B v cs) → only p (content_at v.slots token) ≡ Source d
      → ByOne O R noted d answer e (out token) u → Did (Once O B) v (back token e u)
  asked p R noted B token d e answer u by is r =
      let full : is_empty (content_at v.slots token) ≡ false = ap is_empty (only_source p (content_at v.slots token) d is) in
      let gone = with_change (with_content InTurn) v.slots token.slot in
      let cs = Put token.slot InTurn ∷ Polls r.0 ∷ Holds (noted d answer) ∷ Put token.slot (Source e) ∷ [] in
      one_step B cs (back token e u) (by cs (rw is (e, r.0, r.1, refl)))
      (full_named v.slots token full, (r.2, (tt, (full_named gone token (ap is_empty (named_changed v.slots token InTurn full)), tt))))
      (ap (back token e) r.3 ∙ ap (λ (ss : List (Slot D)). record v { slots = ss; poll = polls_after v.poll r.0; held = held_after v.held (noted d answer) }) (turn_ended v.slots token (Source e) full))

  pub not_changed : (call : RegistrationCall) (token : RegistrationToken) → None ≡ source_of (only (is_callers M) (content_at v.slots token)) → Did (Case M runs O (loop_call_of call token) (loop_answer_of call (Err InvalidToken))) v v
  not_changed Enable token h = one_step (EnabledBy M token (Err InvalidToken)) [] v (none_asked _ _ token (only (is_callers M) (content_at v.slots token)) h) tt refl
  not_changed Update token h = one_step (UpdatedBy M token (Err InvalidToken)) [] v (none_asked _ _ token (only (is_callers M) (content_at v.slots token)) h) tt refl
  not_changed Disable token h = one_step (DisabledBy M token (Err InvalidToken)) [] v (none_asked _ _ token (only (is_callers M) (content_at v.slots token)) h) tt refl

  pub enabled : (token : RegistrationToken) (d e : D) (answer : Outcome) (u : View D I P) → only (is_callers M) (content_at v.slots token) ≡ Source d
      → ByOne O (RegisteredBy M Registered token (is_listed token v.held.lifecycle) v.poll) (listing_of M token) d answer e (out token) u → Did (Case M runs O (EnableCall token) (Enabled answer)) v (back token e u)
  enabled token d e answer u is r = asked (is_callers M) (RegisteredBy M Registered token (is_listed token v.held.lifecycle) v.poll) (listing_of M token) (EnabledBy M token answer) token d e answer u (λ cs h. h) is r

  pub updated : (token : RegistrationToken) (d e : D) (answer : Outcome) (u : View D I P) → only (is_callers M) (content_at v.slots token) ≡ Source d
      → ByOne O (RegisteredBy M Reregistered token (is_listed token v.held.lifecycle) v.poll) (listing_of M token) d answer e (out token) u → Did (Case M runs O (UpdateCall token) (Updated answer)) v (back token e u)
  updated token d e answer u is r = asked (is_callers M) (RegisteredBy M Reregistered token (is_listed token v.held.lifecycle) v.poll) (listing_of M token) (UpdatedBy M token answer) token d e answer u (λ cs h. h) is r

  pub disabled : (token : RegistrationToken) (d e : D) (answer : Outcome) (u : View D I P) → only (is_callers M) (content_at v.slots token) ≡ Source d
      → ByOne O (λ f a steps g. M.does f v.poll (Unregistered a) steps g) (unlisting_of token) d answer e (out token) u → Did (Case M runs O (DisableCall token) (Disabled answer)) v (back token e u)
  disabled token d e answer u is r = asked (is_callers M) (λ f a steps g. M.does f v.poll (Unregistered a) steps g) (unlisting_of token) (DisabledBy M token answer) token d e answer u (λ cs h. h) is r

  pub not_set : (token : RegistrationToken) (deadline : Instant) → None ≡ source_of (only (is_callers M) (content_at v.slots token)) → Did (Once O (DeadlineSetBy M token deadline (Err InvalidToken))) v v
  not_set token deadline h = one_step (DeadlineSetBy M token deadline (Err InvalidToken)) [] v (none_asked _ _ token (only (is_callers M) (content_at v.slots token)) h) tt refl

  pub deadline_set : (token : RegistrationToken) (deadline : Instant) (d e : D) (answer : Outcome) (u : View D I P) → only (is_callers M) (content_at v.slots token) ≡ Source d
      → ByOne O (RearmedBy M deadline token (is_listed token v.held.lifecycle) v.poll) (listing_of M token) d answer e (out token) u → Did (Once O (DeadlineSetBy M token deadline answer)) v (back token e u)
  deadline_set token deadline d e answer u is r = asked (is_callers M) (RearmedBy M deadline token (is_listed token v.held.lifecycle) v.poll) (listing_of M token) (DeadlineSetBy M token deadline answer) token d e answer u (λ cs h. h) is r

  none_removed : (token : RegistrationToken) (c : Content D) → None ≡ source_of c → RemovedIn M token c None v []
  none_removed token Vacant h = (refl, refl)
  none_removed token InTurn h = (refl, refl)
  none_removed token (Source d) h = cc

  -- the slot of a source that was taken out and not put back is vacant, and all others are as they were
  pub vacated : (token : RegistrationToken) (d : D) → only (is_callers M) (content_at v.slots token) ≡ Source d
      → after_turn Vacant token (with_change (with_content InTurn) v.slots token.slot) ≡ with_change (with_content Vacant) v.slots token.slot
  vacated token d is =
      let full : is_empty (content_at v.slots token) ≡ false = ap is_empty (only_source (is_callers M) (content_at v.slots token) d is) in
      turn_ended v.slots token Vacant full ∙ changed_twice Vacant InTurn v.slots token.slot

  pub not_removed : (token : RegistrationToken) → None ≡ source_of (only (is_callers M) (content_at v.slots token)) → Did (Case M runs O (Remove token) (Removed None)) v v
  not_removed token h = one_step (RemovedBy M token None) [] v (none_removed token (only (is_callers M) (content_at v.slots token)) h) tt refl

  pub removed : (token : RegistrationToken) (d e : D) (told : Outcome) (u : View D I P) (kept : Bool) (es : List Error) → es ≡ with_warning kept told u.held.warnings → only (is_callers M) (content_at v.slots token) ≡ Source d
      → ByOne O (λ f a steps g. M.does f v.poll (Unregistered a) steps g) (unlisting_of token) d told e (record v { slots = after_turn Vacant token (with_change (with_content InTurn) v.slots token.slot) }) u
      → Did (Case M runs O (Remove token) (Removed (Some e))) v (record u { held = record u.held { warnings = es } })
  removed token d e told u kept es now is r =
      let full : is_empty (content_at v.slots token) ≡ false = ap is_empty (only_source (is_callers M) (content_at v.slots token) d is) in
      one_step (RemovedBy M token (Some e)) (Put token.slot Vacant ∷ Polls r.0 ∷ Holds (Unlisted token) ∷ Holds (Warned kept told) ∷ []) (record u { held = record u.held { warnings = es } })
      (rw is (e, told, kept, r.0, r.1, refl, refl)) (full_named v.slots token full, (r.2, (tt, (tt, tt))))
      (ap (λ (l : List Error). record u { held = record u.held { warnings = l } }) now
      ∙ ap (λ (t : View D I P). record t { held = held_after t.held (Warned kept told) }) r.3
      ∙ ap (λ (ss : List (Slot D)). record v { slots = ss; poll = polls_after v.poll r.0; held = held_after (held_after v.held (Unlisted token)) (Warned kept told) }) (vacated token d is))

  pub not_released : (token : RegistrationToken) → None ≡ source_of (only (is_adapter M) (content_at v.slots token)) → Did (Case M runs O (Release token) (Released (Err InvalidToken))) v v
  not_released token h = one_step (ReleasedBy M token (Err InvalidToken)) [] v (none_asked _ _ token (only (is_adapter M) (content_at v.slots token)) h) tt refl

  pub kept_back : (token : RegistrationToken) (d e : D) (cause : Error) (u : View D I P) → only (is_adapter M) (content_at v.slots token) ≡ Source d
      → ByOne O (λ f a steps g. M.does f v.poll (Unregistered a) steps g) (unlisting_of token) d (Err cause) e (out token) u → Did (Case M runs O (Release token) (Released (Err cause))) v (back token e u)
  kept_back token d e cause u is r = asked (is_adapter M) (λ f a steps g. M.does f v.poll (Unregistered a) steps g) (unlisting_of token) (ReleasedBy M token (Err cause)) token d e (Err cause) u (λ cs h. h) is r

  pub released : (token : RegistrationToken) (d e : D) (u : View D I P) → only (is_adapter M) (content_at v.slots token) ≡ Source d
      → ByOne O (λ f a steps g. M.does f v.poll (Unregistered a) steps g) (unlisting_of token) d (Ok tt) e (out token) u
      → Did (Case M runs O (Release token) (Released (Ok tt))) v (record u { slots = after_turn Vacant token u.slots })
  released token d e u is r =
      let full : is_empty (content_at v.slots token) ≡ false = ap is_empty (only_source (is_adapter M) (content_at v.slots token) d is) in
      one_step (ReleasedBy M token (Ok tt)) (Put token.slot Vacant ∷ Polls r.0 ∷ Holds (Unlisted token) ∷ Holds (Warned false (Ok tt)) ∷ []) (record u { slots = after_turn Vacant token u.slots })
      (rw is (e, r.0, r.1, refl)) (full_named v.slots token full, (r.2, (tt, (tt, tt))))
      (ap (λ (t : View D I P). record t { slots = after_turn Vacant token t.slots }) r.3
      ∙ ap (λ (ss : List (Slot D)). record v { slots = ss; poll = polls_after v.poll r.0; held = held_after v.held (Unlisted token) }) (turn_ended v.slots token Vacant full ∙ changed_twice Vacant InTurn v.slots token.slot))

  none_exchanged : (token : RegistrationToken) (new : D) (c : Content D) → None ≡ source_of c → ExchangedIn {I = I} {P = P} token new c (Err new) []
  none_exchanged token new Vacant h = (refl, refl)
  none_exchanged token new InTurn h = (refl, refl)
  none_exchanged token new (Source d) h = cc

  pub not_exchanged : (token : RegistrationToken) (new : D) → None ≡ source_of (only (is_callers M) (content_at v.slots token)) → Did (Case M runs O (Exchange token new) (Exchanged (Err new))) v v
  not_exchanged token new h = one_step (ExchangedBy M token new (Err new)) [] v (none_exchanged token new (only (is_callers M) (content_at v.slots token)) h) tt refl

  pub exchanged : (token : RegistrationToken) (old new : D) → only (is_callers M) (content_at v.slots token) ≡ Source old
      → Did (Case M runs O (Exchange token new) (Exchanged (Ok old))) v (record v { slots = with_change (with_content (Source new)) v.slots token.slot })
  exchanged token old new is =
      let there : content_at v.slots token ≡ Source old = only_source (is_callers M) (content_at v.slots token) old is in
      let s = named_slot v.slots token (ap is_empty there) in
      let stands : StandsIn v.slots token.slot old = (s.0, s.1, sym s.3 ∙ there) in
      one_step (ExchangedBy M token new (Ok old)) (Swapped token.slot old new ∷ []) (record v { slots = with_change (with_content (Source new)) v.slots token.slot }) (rw is (refl, refl)) (stands, tt) refl

  -- whatever is written to a source that was lent
  pub written_back : {B : Type 0} (token : RegistrationToken) (answer : Result B Error) (lent : B → D) → IfOk answer (λ b. only (is_callers M) (content_at v.slots token) ≡ Source (lent b))
      → IfOk answer (λ b. (written : D) → Did (Case M runs O (Exchange token written) (Exchanged (Ok (lent b)))) v (record v { slots = with_change (with_content (Source written)) v.slots token.slot }))
  written_back token (Ok b) lent is = λ written. exchanged token (lent b) written is
  written_back token (Err e) lent is = tt

  pub idle_added : (idle : I) (answer : Result Idle (InsertError I)) (asked : Asks D I)
      → IfOk answer (λ i. (v.held.asks.next < 2 ^ 64 - 1) × (i.ticket.number ≡ v.held.asks.next) × (asked ≡ with_new_idle idle v.held.asks))
      → IfErr answer (λ e. (e.inserted ≡ idle) × CannotAsk v.held.asks e.error × (asked ≡ v.held.asks))
      → Did (Case M runs O (InsertIdle idle) (IdleInserted answer)) v (record v { held = record v.held { asks = asked } })
  idle_added idle (Ok made) asked ok err =
      one_step (IdleInsertedBy idle (Ok made)) (Holds (IdleNew idle) ∷ []) (record v { held = record v.held { asks = asked } }) (ok.0, ok.1, refl) (tt, tt) (ap (λ (q : Asks D I). record v { held = record v.held { asks = q } }) ok.2)
  idle_added idle (Err refused) asked ok err =
      one_step (IdleInsertedBy idle (Err refused)) [] (record v { held = record v.held { asks = asked } }) (err.0, err.1, refl) tt (ap (λ (q : Asks D I). record v { held = record v.held { asks = q } }) err.2)
