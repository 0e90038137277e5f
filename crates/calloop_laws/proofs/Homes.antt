-- Each source in a slot is at home there.
use Rattle.std.proofs.Common.{◌≡◌, ◌⊎◌, inl, inr, ℕ, zero, suc, ◌%◌, List, [], ◌∷◌, ◌++◌, map, Bool, true, false, if◌then◌else◌, refl, ap, sym, ◌∙◌, subst, arith, Some, Option, Result, Ok, Err, slice_get}
use Rattle.std.proofs.lemmas.Bool.Decides.{nat_tests}
use Rattle.std.proofs.lemmas.Option.{slice_get-map}
use Rattle.std.specs.Option.{option_map}
use Rattle.std.specs.declared.io.Error.{Error as Cause}
use Rattle.calloop_slots.specs.Widths.{versions}
use Rattle.calloop_slots.specs.declared.error.Error.{Error}
use Rattle.calloop_slots.specs.declared.error.InsertError.{InsertError}
use Rattle.calloop_slots.specs.declared.token.RegistrationToken.{RegistrationToken}
use Rattle.calloop_slots.specs.declared.wheel.Instant.{Instant}
use Rattle.calloop_slots.specs.declared.token.TokenFactory.{TokenFactory}
use Rattle.calloop_slots.specs.declared.token.Token.{Token}
use Rattle.calloop_slots.specs.declared.list.Content.{Content}
use Rattle.calloop_slots.specs.declared.list.Content.TheVariants.{Vacant, Source, InTurn}
use Rattle.calloop_slots.specs.declared.list.Slot.{Slot}
use Rattle.calloop_slots.specs.Tokens.{registration_of}
use Rattle.calloop_slots.specs.Slots.{with_change, with_content, content_at, is_empty, is_vacant, first_vacant, next_registration, after_claim, taken_up}
use Rattle.calloop_slots.proofs.Named.{named_slot}
use Rattle.calloop_slots.proofs.Inserted.{named_claimed}
use Rattle.calloop_poll.specs.declared.sys.Readiness.{Readiness}
use Rattle.calloop_poll.specs.declared.sys.poll.Pending.{Pending}
use Rattle.calloop_sources.specs.declared.sources.source.PostAction.{PostAction}
use Rattle.calloop_sources.specs.declared.sources.source.PostAction.TheVariants.{Continue, Reregister, Disable as DisableIt, Remove}
use Rattle.calloop_poll.specs.sys.Pollers.{Outside, nanos_of}
use Rattle.calloop_poll.specs.sys.Polls.{PollView, PollStep, after_cut, own_event}
use Rattle.calloop_poll.specs.sys.Keys.{IsFactoryOf}
use Rattle.calloop_sources.specs.sources.Deeds.{Registered, Reregistered, Unregistered, Turned, Slept, Lent, lend}
use Rattle.calloop_sources.specs.sources.Meanings.{Meaning, IsAtHome, BeginsIn, KeepsHome}
use Rattle.calloop_loop.specs.declared.LoopCall.{LoopCall}
use Rattle.calloop_loop.specs.declared.LoopCall.TheVariants.{Insert, Enable, Update, Disable, Remove as RemoveCall, Release, Exchange, Dispatch, InsertIdle, Cancel, Answer as AnswerOf, ForgetStop, LookForStop, Poller as NewPoller}
use Rattle.calloop_loop.specs.declared.LoopAnswer.{LoopAnswer}
use Rattle.calloop_loop.specs.declared.LoopAnswer.TheVariants.{Inserted, Enabled, Updated, Disabled, Removed, Released, Exchanged, Dispatched, IdleInserted, Cancelled, Answered, StopForgotten, Stopped, Poller as OldPoller}
use Rattle.calloop_loop.specs.Held.{HeldStep, Begun, Pend}
use Rattle.calloop_loop.specs.declared.asks.Asked.{Asked}
use Rattle.calloop_loop.specs.declared.asks.Idling.{Idling as Waiter}
use Rattle.calloop_loop.specs.declared.asks.Request.{Request}
use Rattle.calloop_loop.specs.declared.asks.Request.TheVariants.{Insert as AskInsert, Enable as AskEnable, Update as AskUpdate, Disable as AskDisable, SetDeadline as AskSetDeadline, Remove as AskRemove, Idle as AskIdle, Cancel as AskCancel}
use Rattle.calloop_loop.specs.Askings.{Asks, Runs, asks_after, of_turn}
use Rattle.calloop_loop.specs.Machine.{World, View, IsNew, Change, Holds, all_viewed, visible, slot_of, after_change, Appended}
use Rattle.calloop_loop.specs.Roles.{only, is_callers, is_adapter}
use Rattle.calloop_loop.proofs.Roles.{Shows, only_is, left_removed}
use Rattle.calloop_loop.specs.Rules.{Doing, Beginning, Settling, Sleeping, Waiting, Gathering, Noticing, Cutting, Serving, Ending, Returning, Idling, RunningIdles, ServingIdle, Leaving, Step, Steps, SleptAs, SleptBy, NoticedBy, told_in, CutTo, CutFrom, ActedBy, ReturnedTo, vacate, after_turn, after_wait, Outcome, RegisteredBy, RearmedBy, Case, Once, Run, InsertedBy, AskedIn, SettledIn, TakesUp, as_listed, EnabledBy, UpdatedBy, DisabledBy, RemovedIn, RemovedBy, ReleasedBy, ExchangedIn, ExchangedBy, IdleInsertedBy, OwnOr, Served, ServedAs, ServedFrom, RunFrom, action_of, factory_of, after_changes, all_traced, appends}
use Rattle.calloop_laws.specs.Homes.{AllAtHome}
use Rattle.calloop_laws.specs.Laws.{HasNoMoreKeys, AllBringNoKey, flatten, changes_of}
use Rattle.calloop_loop.proofs.Seen.{seen-all_traced, viewed-append}

-- Of slots.

-- the slot in this place has this version
abbrev IsThere : {D : Type 0} → List (Slot D) → ℕ → ℕ → Type 0
IsThere {D} slots i version = (s : Slot D) × (slice_get slots i ≡ Some s) × (s.version ≡ version)

-- and this source stands there
abbrev Stands : {D : Type 0} → List (Slot D) → ℕ → ℕ → D → Type 0
Stands {D} slots i version d = (s : Slot D) × (slice_get slots i ≡ Some s) × (s.version ≡ version) × (s.content ≡ Source d)

same_version : {D : Type 0} (slots : List (Slot D)) (i v u : ℕ) → IsThere slots i v → IsThere slots i u → v ≡ u
same_version slots i v u a b = (let e = a.1 in let f = b.1 in let same : a.0 ≡ b.0 = cc in sym a.2 ∙ ap (λ s. s.version) same ∙ b.2)

put : {D : Type 0} (slots : List (Slot D)) (k i v : ℕ) (c : Content D) (d : D) → Stands (with_change (with_content c) slots k) i v d → ((i ≡ k) × (c ≡ Source d) × IsThere slots k v) ⊎ Stands slots i v d
put [] k i v c d h = (let e = h.1 in cc)
put (x ∷ xs) zero zero v c d h = (let e = h.1 in let f = h.3 in let is : with_content c x ≡ h.0 = cc in inl (refl, ap (λ s. s.content) is ∙ f, (x, refl, ap (λ s. s.version) is ∙ h.2)))
put (x ∷ xs) zero (suc i) v c d h = inr (h.0, h.1, h.2, h.3)
put (x ∷ xs) (suc k) zero v c d h = inr (h.0, h.1, h.2, h.3)
put (x ∷ xs) (suc k) (suc i) v c d h = elim (put xs k i v c d h) [ inl e ↦ inl (ap suc e.0, e.1, e.2) | inr e ↦ inr e ]

put_there : {D : Type 0} (slots : List (Slot D)) (k i v : ℕ) (c : Content D) → IsThere slots i v → IsThere (with_change (with_content c) slots k) i v
put_there [] k i v c h = (let e = h.1 in cc)
put_there (x ∷ xs) zero zero v c h = (let e = h.1 in let is : x ≡ h.0 = cc in (with_content c x, refl, ap (λ s. s.version) is ∙ h.2))
put_there (x ∷ xs) zero (suc i) v c h = (h.0, h.1, h.2)
put_there (x ∷ xs) (suc k) zero v c h = (h.0, h.1, h.2)
put_there (x ∷ xs) (suc k) (suc i) v c h = put_there xs k i v c h

claim : {D : Type 0} (slots : List (Slot D)) (i v : ℕ) (d : D) → Stands (after_claim slots) i v d → Stands slots i v d
claim [] zero v d h = (let e = h.1 in let f = h.3 in cc)
claim [] (suc i) v d h = (let e = h.1 in cc)
claim {D} (x ∷ xs) zero v d h =
    elim (is_vacant x) as (λ b. slice_get (if b then taken_up x ∷ xs else x ∷ after_claim xs) 0 ≡ Some h.0 → Stands (x ∷ xs) 0 v d)
    [ true ↦ λ e. (let f = h.3 in cc) | false ↦ λ e. (h.0, e, h.2, h.3) ] h.1
claim {D} (x ∷ xs) (suc i) v d h =
    elim (is_vacant x) as (λ b. slice_get (if b then taken_up x ∷ xs else x ∷ after_claim xs) (suc i) ≡ Some h.0 → Stands (x ∷ xs) (suc i) v d)
    [ true ↦ λ e. (h.0, e, h.2, h.3) | false ↦ λ e. claim xs i v d (h.0, e, h.2, h.3) ] h.1

-- what a token names isn't vacant, so it has the token's version
named_there : {D : Type 0} (slots : List (Slot D)) (token : RegistrationToken) (c : Content D) → content_at slots token ≡ c → is_empty c ≡ false → IsThere slots token.slot token.version
named_there {D} slots token c is full =
    let s = named_slot slots token (ap (λ (x : Content D). is_empty x) is ∙ full) in
    let same = s.2 in
    (s.0, s.1, grind (arith, nat_tests))

named_stands : {D : Type 0} (slots : List (Slot D)) (token : RegistrationToken) (d : D) → content_at slots token ≡ Source d → Stands slots token.slot token.version d
named_stands {D} slots token d is =
    let s = named_slot slots token (ap (λ (x : Content D). is_empty x) is) in
    let same = s.2 in
    (s.0, s.1, grind (arith, nat_tests), sym s.3 ∙ is)

none_there : {D : Type 0} (slots : List (Slot D)) → slots ≡ [] → (i v : ℕ) (d : D) → Stands slots i v d → ⊥
none_there [] none i v d h = (let e = h.1 in cc)
none_there (x ∷ xs) none i v d h = cc

module _ {D I P X : Type 0} (M : Meaning D P (Lent X (Asks D I))) (runs : Runs D I X) (O : Outside P) (law : KeepsHome M) where
  -- each source in a slot is at home there
  abbrev Homely : List (Slot D) → Type 0
  Homely slots = (i v : ℕ) (d : D) → Stands slots i v d → IsAtHome M (record { slot = i; version = v }) d

  -- so is one that is out of its slot
  abbrev AsideHomely : Doing D X → Type 0
  AsideHomely (Serving token d answer x) = IsAtHome M token d
  AsideHomely (Ending token d answer x) = IsAtHome M token d
  AsideHomely (Returning token d told x) = IsAtHome M token d
  AsideHomely a = Unit {0}

  -- what is no source is put into a slot
  homely_without : (slots : List (Slot D)) (k : ℕ) (c : Content D) → ((d : D) → c ≡ Source d → ⊥) → Homely slots → Homely (with_change (with_content c) slots k)
  homely_without slots k c none h i v d at = elim (put slots k i v c d at) [ inl e ↦ absurd (none d e.1) | inr e ↦ h i v d e ]

  homely_back : (slots : List (Slot D)) (token : RegistrationToken) (d : D) → IsThere slots token.slot token.version → IsAtHome M token d → Homely slots → Homely (with_change (with_content (Source d)) slots token.slot)
  homely_back slots token d there home h i v e at =
      elim (put slots token.slot i v (Source d) e at) [
        | inl x ↦ (let f = x.1 in let same : d ≡ e = cc in let version : v ≡ token.version = same_version slots token.slot v token.version x.2 there in rw (x.0, version, ← same) home)
        | inr x ↦ h i v e x
      ]

  -- it goes out of its slot and back into it
  homely_again : (slots : List (Slot D)) (token : RegistrationToken) (d e : D) → content_at slots token ≡ Source d → IsAtHome M token e → Homely slots → Homely (with_change (with_content (Source e)) (with_change (with_content InTurn) slots token.slot) token.slot)
  homely_again slots token d e is home h =
      homely_back (with_change (with_content InTurn) slots token.slot) token e (put_there slots token.slot token.slot token.version InTurn (named_there slots token (Source d) is refl)) home
      (homely_without slots token.slot InTurn (λ d e. cc) h)

  homely_claim : (slots : List (Slot D)) → Homely slots → Homely (after_claim slots)
  homely_claim slots h i v d at = h i v d (claim slots i v d at)

  home_named : (slots : List (Slot D)) (token : RegistrationToken) (d : D) → content_at slots token ≡ Source d → Homely slots → IsAtHome M token d
  home_named slots token d is h = h token.slot token.version d (named_stands slots token d is)

  own_factory : (token : RegistrationToken) → IsFactoryOf token (factory_of token)
  own_factory token = (refl, omega arith)

  begins_first : (token : RegistrationToken) (d : D) (answer : Outcome) (f : TokenFactory) → IsAtHome M token d → BeginsIn {T = Lent X (Asks D I)} (IsAtHome M token d) token (Registered (factory_of token) answer f)
  begins_first token d (Ok u) f home = own_factory token
  begins_first token d (Err e) f home = (home, own_factory token)

  first_home : {listed : Bool} (token : RegistrationToken) (v : PollView P) (d e : D) (answer : Outcome) (l : List (PollStep P)) → RegisteredBy M Registered token listed v d answer l e → IsAtHome M token d → IsAtHome M token e
  first_home token v d e answer l (inl h) home = rw h.3 home
  first_home token v d e answer l (inr h) home = (law token d e v (Registered (factory_of token) answer h.0) l (begins_first token d answer h.0 home) h.1).0

  anew_home : {listed : Bool} (token : RegistrationToken) (v : PollView P) (d e : D) (answer : Outcome) (l : List (PollStep P)) → RegisteredBy M Reregistered token listed v d answer l e → IsAtHome M token d → IsAtHome M token e
  anew_home token v d e answer l (inl h) home = rw h.3 home
  anew_home token v d e answer l (inr h) home = (law token d e v (Reregistered (factory_of token) answer h.0) l (home, own_factory token) h.1).0

  rearmed_home : {listed : Bool} (deadline : Instant) (token : RegistrationToken) (v : PollView P) (d e : D) (answer : Outcome) (l : List (PollStep P)) → RearmedBy M deadline token listed v d answer l e → IsAtHome M token d → IsAtHome M token e
  rearmed_home deadline token v d e answer l (inl h) home = rw h.2 home
  rearmed_home deadline token v d e answer l (inr h) home = anew_home token v h.0 e answer l h.2 (λ key k. home key ((h.1.1.keys key).0 k))

  appends_homely : (given : List (Readiness × Token)) (v : View D I P) → Homely v.slots → Homely (all_viewed v (appends given)).slots
  appends_homely [] v k = k
  appends_homely (e ∷ es) v k = appends_homely es (after_change v (Appended (own_event e))) k

  slept_as : (v : View D I P) (timeout : Option ℕ) (later : List RegistrationToken) (given : List (Readiness × Token)) (answer : Result (Unit {0}) Error) (x : X) (cs : List (Change D I P)) (b : Doing D X) → SleptAs timeout later given answer x cs b → Homely v.slots → Homely (all_viewed v cs).slots × AsideHomely b
  slept_as v timeout later given (Ok u) x cs b h k = rw (h.0, h.1) (appends_homely given v k, tt)
  slept_as v timeout later given (Err e) x cs b h k = rw (h.0, h.1) (k, tt)

  slept_homely : (v : View D I P) (timeout : Option ℕ) (token : RegistrationToken) (later : List RegistrationToken) (x : X) (cs : List (Change D I P)) (b : Doing D X) (c : Content D) → content_at v.slots token ≡ c → SleptBy M timeout token later c v x cs b → Homely v.slots → Homely (all_viewed v cs).slots × AsideHomely b
  slept_homely v timeout token later x cs b Vacant is h k = rw (h.0, h.1) (k, tt)
  slept_homely v timeout token later x cs b InTurn is h k = rw (h.0, h.1) (k, tt)
  slept_homely v timeout token later x cs b (Source d) is h k =
      let home = (law token d h.0 v.poll (Slept h.1 h.2) [] (home_named v.slots token d is k) h.4).0 in
      rw h.6 (slept_as (all_viewed v (told_in token h.0)) timeout later h.1 h.2 x h.3 b h.5 (homely_again v.slots token d h.0 is home k))

  noticed_homely : (v : View D I P) (from : ℕ) (token : RegistrationToken) (later : List RegistrationToken) (x : X) (cs : List (Change D I P)) (b : Doing D X) (c : Content D) → content_at v.slots token ≡ c → NoticedBy M from token later c v x cs b → Homely v.slots → Homely (all_viewed v cs).slots × AsideHomely b
  noticed_homely v from token later x cs b Vacant is h k = rw (h.0, h.1) (k, tt)
  noticed_homely v from token later x cs b InTurn is h k = rw (h.0, h.1) (k, tt)
  noticed_homely v from token later x cs b (Source d) is h k =
      let home = (law token d h.0 v.poll _ [] (home_named v.slots token d is k) h.1).0 in
      rw (h.2, h.3) (homely_again v.slots token d h.0 is home k, tt)

  cut_homely : (v : View D I P) (e : Pending) (x : X) (cs : List (Change D I P)) (b : Doing D X) (c : Content D) → content_at v.slots (registration_of e.token) ≡ c → CutTo M e c v x cs b → Homely v.slots → Homely (all_viewed v cs).slots × AsideHomely b
  cut_homely v e x cs b Vacant is h k = rw (h.0, h.1) (k, tt)
  cut_homely v e x cs b InTurn is h k = rw (h.0, h.1) (k, tt)
  cut_homely v e x cs b (Source d) is h k =
      let token = registration_of e.token in
      let home = (law token d h.0 (after_cut v.poll) (Turned e.readiness e.token (lend x (of_turn (registration_of e.token) v.held.asks) h.1 h.3 (asks_after (of_turn (registration_of e.token) v.held.asks) h.4))) h.2 (home_named v.slots token d is k) h.5).0 in
      rw (h.6, h.7) (homely_without v.slots e.token.slot InTurn (λ d e. cc) k, home)

  from_homely : (v : View D I P) (es : List Pending) (x : X) (cs : List (Change D I P)) (b : Doing D X) → CutFrom M es v x cs b → Homely v.slots → Homely (all_viewed v cs).slots × AsideHomely b
  from_homely v [] x cs b h k = rw (h.0, h.1) (k, tt)
  from_homely v (e ∷ es) x cs b h k = cut_homely v e x cs b (content_at v.slots (registration_of e.token)) refl h k

  emptied_homely : (v : View D I P) (token : RegistrationToken) (c : Content D) → Homely v.slots → Homely (all_viewed v (vacate token c)).slots
  emptied_homely v token Vacant k = k
  emptied_homely v token (Source d) k = k
  emptied_homely v token InTurn k = homely_without v.slots token.slot Vacant (λ d e. cc) k

  acted_homely : (v : View D I P) (token : RegistrationToken) (d : D) (answer : Result PostAction Error) (cs : List (Change D I P)) (e : D) (told : Outcome) → ActedBy M token d answer v cs e told → Homely v.slots → IsAtHome M token d → Homely (all_viewed v cs).slots × IsAtHome M token e
  acted_homely v token d (Ok Continue) cs e told h k home = rw (h.0, h.1) (k, home)
  acted_homely v token d (Ok Reregister) cs e told h k home = rw h.2 (k, anew_home token (v.poll) d e told h.0 h.1 home)
  acted_homely v token d (Ok DisableIt) cs e told h k home = rw h.2 (k, (law token d e (v.poll) (Unregistered told) h.0 home h.1).0)
  acted_homely v token d (Ok Remove) cs e told h k home = rw (h.0, h.1) (emptied_homely (after_change v (Holds (Pend Continue))) token (content_at v.slots token) k, home)
  acted_homely v token d (Err error) cs e told h k home = rw (h.0, h.1) (k, home)

  returned_homely : (v : View D I P) (token : RegistrationToken) (d : D) (c : Content D) (cs : List (Change D I P)) → content_at v.slots token ≡ c → ReturnedTo M token d c v cs → Homely v.slots → IsAtHome M token d → Homely (all_viewed v cs).slots
  returned_homely v token d InTurn cs is h k home = rw h (homely_back v.slots token d (named_there v.slots token InTurn is refl) home k)
  returned_homely v token d Vacant cs is h k home = rw h.5 k
  returned_homely v token d (Source f) cs is h k home = rw h.5 k

  aside_after : (told : Outcome) (x : X) → AsideHomely (after_turn told x)
  aside_after (Ok u) x = tt
  aside_after (Err e) x = tt

  aside_waited : (answer : Result ℕ Cause) (given : List (ℕ × Readiness)) (x : X) → AsideHomely (after_wait answer given x)
  aside_waited (Ok now) given x = tt
  aside_waited (Err cause) given x = tt

  inserted_homely : (v : View D I P) (d : D) (answer : Result RegistrationToken (InsertError D)) (cs : List (Change D I P)) → InsertedBy M d answer v cs → Homely v.slots → Homely (all_viewed v cs).slots
  inserted_homely v d (Ok token) cs h k =
      let home = (law token d h.2 v.poll (Registered (factory_of token) (Ok tt) h.3) h.4 (own_factory token) h.5).0 in
      let there : IsThere (after_claim v.slots) token.slot token.version = subst (λ (t : RegistrationToken). IsThere (after_claim v.slots) t.slot t.version) (sym h.1) (named_there (after_claim v.slots) (next_registration v.slots) InTurn (named_claimed v.slots) refl) in
      rw h.6 (homely_back (after_claim v.slots) token h.2 there home (homely_claim v.slots k))
  inserted_homely v d (Err refused) cs (inl h) k = rw h.2 k
  inserted_homely v d (Err refused) cs (inr h) k = rw h.4 (homely_without (after_claim v.slots) (first_vacant v.slots) Vacant (λ d e. cc) (homely_claim v.slots k))

  asked_homely : (v : View D I P) (R : D → Outcome → List (PollStep P) → D → Type 0) (noted : D → Outcome → HeldStep D I) (token : RegistrationToken) (answer : Outcome) (cs : List (Change D I P)) (c : Content D)
      → ((d e : D) (l : List (PollStep P)) → R d answer l e → IsAtHome M token d → IsAtHome M token e)
      → Shows v.slots token c → AskedIn R noted token c answer cs → Homely v.slots → Homely (all_viewed v cs).slots
  asked_homely v R noted token answer cs Vacant f is h k = rw h.1 k
  asked_homely v R noted token answer cs InTurn f is h k = rw h.1 k
  asked_homely v R noted token answer cs (Source d) f is h k = rw h.3 (homely_again v.slots token d h.0 (is d refl) (f d h.0 h.1 h.2 (home_named v.slots token d (is d refl) k)) k)

  removed_homely : (v : View D I P) (token : RegistrationToken) (answer : Option D) (cs : List (Change D I P)) (c : Content D) → RemovedIn M token c answer v cs → Homely v.slots → Homely (all_viewed v cs).slots
  removed_homely v token answer cs Vacant h k = rw h.1 k
  removed_homely v token answer cs InTurn h k = rw h.1 k
  removed_homely v token answer cs (Source d) h k = rw h.6 (homely_without v.slots token.slot Vacant (λ d e. cc) k)

  -- what stays of slots and sources if only what both hold changes
  told_homely : (v : View D I P) (ds cs : List (Change D I P)) (step : HeldStep D I) → cs ≡ ds ++ Holds step ∷ [] → Homely (all_viewed v ds).slots → Homely (all_viewed v cs).slots
  told_homely v ds cs step is h = rw (is, viewed-append v ds (Holds step ∷ [])) h

  own_or : {A B G : Type 0} (c : Content D) → (c ≡ InTurn → A → G) → (B → G) → OwnOr c A B → G
  own_or InTurn f g h = f refl h
  own_or Vacant f g h = g h
  own_or (Source d) f g h = g h

  served_as_homely : (v : View D I P) (request : Request D I) (answer : Outcome) (cs : List (Change D I P)) → ServedAs M request answer v cs → Homely v.slots → Homely (all_viewed v cs).slots
  served_as_homely v (AskEnable token) answer cs h k = own_or (content_at v.slots token) (λ _ o. rw o.1 k) (λ o. asked_homely v _ _ token answer cs (only (is_callers M) (content_at v.slots token)) (λ d e l u home. first_home token v.poll d e answer l u home) (only_is (is_callers M) v.slots token) o k) h
  served_as_homely v (AskUpdate token) answer cs h k = own_or (content_at v.slots token) (λ _ o. rw o.1 k) (λ o. asked_homely v _ _ token answer cs (only (is_callers M) (content_at v.slots token)) (λ d e l u home. anew_home token v.poll d e answer l u home) (only_is (is_callers M) v.slots token) o k) h
  served_as_homely v (AskDisable token) answer cs h k = own_or (content_at v.slots token) (λ _ o. rw o.1 k) (λ o. asked_homely v _ _ token answer cs (only (is_callers M) (content_at v.slots token)) (λ d e l u home. (law token d e v.poll (Unregistered answer) l home u).0) (only_is (is_callers M) v.slots token) o k) h
  served_as_homely v (AskSetDeadline token deadline) answer cs h k = own_or (content_at v.slots token) (λ _ o. rw o.1 k) (λ o. asked_homely v _ _ token answer cs (only (is_callers M) (content_at v.slots token)) (λ d e l u home. rearmed_home deadline token v.poll d e answer l u home) (only_is (is_callers M) v.slots token) o k) h
  served_as_homely v (AskInsert d) answer cs h k = absurd h
  served_as_homely v (AskRemove token) answer cs h k = absurd h
  served_as_homely v (AskIdle idle) answer cs h k = absurd h
  served_as_homely v (AskCancel ticket) answer cs h k = absurd h

  served_homely : (v : View D I P) (request : Request D I) (cs : List (Change D I P)) → Served M request v cs → Homely v.slots → Homely (all_viewed v cs).slots
  served_homely v (AskInsert d) cs h k = told_homely v h.1 cs _ h.3 (inserted_homely v d h.0 h.1 h.2 k)
  served_homely v (AskEnable token) cs h k = told_homely v h.1 cs _ h.3 (served_as_homely v (AskEnable token) h.0 h.1 h.2 k)
  served_homely v (AskUpdate token) cs h k = told_homely v h.1 cs _ h.3 (served_as_homely v (AskUpdate token) h.0 h.1 h.2 k)
  served_homely v (AskDisable token) cs h k = told_homely v h.1 cs _ h.3 (served_as_homely v (AskDisable token) h.0 h.1 h.2 k)
  served_homely v (AskSetDeadline token deadline) cs h k = told_homely v h.1 cs _ h.3 (served_as_homely v (AskSetDeadline token deadline) h.0 h.1 h.2 k)
  served_homely v (AskRemove token) cs h k =
      own_or (content_at v.slots token) (λ _ o. rw o (homely_without v.slots token.slot Vacant (λ d e. cc) k)) (λ o. told_homely v o.1 cs _ o.3 (removed_homely v token o.0 o.1 (only (is_callers M) (content_at v.slots token)) o.2 k)) h
  served_homely v (AskIdle idle) cs h k = rw h k
  served_homely v (AskCancel ticket) cs h k = rw h k

  served_from_homely : (v : View D I P) (asked : List (Asked D I)) (on next b : Doing D X) (cs : List (Change D I P)) → ServedFrom M asked on next b v cs → Homely v.slots → AsideHomely on → AsideHomely next → Homely (all_viewed v cs).slots × AsideHomely b
  served_from_homely v [] on next b cs h k aside after = rw (h.0, h.1) (k, after)
  served_from_homely v (a ∷ as') on next b cs h k aside after = rw (h.2, h.3) (served_homely (after_change v (Holds Begun)) a.request h.0 h.1 k, aside)

  run_from_homely : (v : View D I P) (idles : List (Waiter I)) (x : X) (cs : List (Change D I P)) (b : Doing D X) → RunFrom runs idles v x cs b → Homely v.slots → Homely (all_viewed v cs).slots × AsideHomely b
  run_from_homely v [] x cs b h k = rw (h.0, h.1) (k, tt)
  run_from_homely v (i ∷ is) x cs b h k = rw (h.3, h.4) (k, tt)

  released_homely : (v : View D I P) (token : RegistrationToken) (answer : Outcome) (cs : List (Change D I P)) → ReleasedBy M token answer v cs → Homely v.slots → Homely (all_viewed v cs).slots
  released_homely v token (Ok u) cs h k = (let r = left_removed M token (only (is_adapter M) (content_at v.slots token)) v cs h in removed_homely v token r.0 cs (only (is_adapter M) (content_at v.slots token)) r.1 k)
  released_homely v token (Err e) cs h k = asked_homely v _ _ token (Err e) cs (only (is_adapter M) (content_at v.slots token)) (λ d f l u home. (law token d f v.poll (Unregistered (Err e)) l home u).0) (only_is (is_adapter M) v.slots token) h k

  settled_homely : (v : View D I P) (token : RegistrationToken) (c : Content D) (cs : List (Change D I P)) → Shows v.slots token c → SettledIn M token c v cs → Homely v.slots → Homely (all_viewed v cs).slots
  settled_homely v token Vacant cs is h k = rw h k
  settled_homely v token InTurn cs is h k = rw h k
  settled_homely v token (Source d) cs is (inl h) k =
      asked_homely v (TakesUp M token v.poll) (as_listed token) token (Ok tt) cs (Source d) (λ d e l u home. (law token d e v.poll (Reregistered (factory_of token) (Ok tt) u.0) l (home, own_factory token) u.1).0) is h k
  settled_homely v token (Source d) cs is (inr h) k = removed_homely v token h.0 cs (Source d) h.1 k

  step_homely : (v : View D I P) (a b : Doing D X) (cs : List (Change D I P)) → Step M runs O v a cs b → Homely v.slots → AsideHomely a → Homely (all_viewed v cs).slots × AsideHomely b
  step_homely v (Beginning timeout x) b cs h k aside = rw (h.4, h.5) (k, tt)
  step_homely v (Settling timeout [] x) b cs h k aside = rw (h.0, h.1) (k, tt)
  step_homely v (Settling timeout (t ∷ later) x) b cs h k aside = rw h.1 (settled_homely v t (only (is_adapter M) (content_at v.slots t)) cs (only_is (is_adapter M) v.slots t) h.0 k, tt)
  step_homely v (Sleeping timeout [] x) b cs h k aside = rw (h.0, h.1) (k, tt)
  step_homely v (Sleeping timeout (t ∷ later) x) b cs h k aside = slept_homely v timeout t later x cs b (content_at v.slots t) refl h k
  step_homely v (Waiting timeout x) b cs h k aside = rw (h.5, h.6) (k, aside_waited h.0 h.1 x)
  step_homely v (Gathering now given x) b cs h k aside = rw (h.1, h.2) (k, tt)
  step_homely v (Noticing from [] x) b cs h k aside = rw (h.0, h.1) (k, tt)
  step_homely v (Noticing from (t ∷ later) x) b cs h k aside = noticed_homely v from t later x cs b (content_at v.slots t) refl h k
  step_homely v (Cutting x) b cs h k aside = from_homely v v.poll.batch x cs b h k
  step_homely v (Serving token d answer x) b cs h k aside = served_from_homely v v.held.asks.written _ _ b cs h k aside aside
  step_homely v (Ending token d answer x) b cs h k aside = rw h.3 (acted_homely v token d (action_of answer v.held.pending) cs h.0 h.1 h.2 k aside)
  step_homely v (Returning token d told x) b cs h k aside = rw h.1 (returned_homely v token d (content_at v.slots token) cs refl h.0 k aside, aside_after told x)
  step_homely v (Idling x) b cs h k aside = rw (h.0, h.1) (k, tt)
  step_homely v (RunningIdles x) b cs h k aside = run_from_homely v v.held.asks.running x cs b h k
  step_homely v (ServingIdle x) b cs h k aside = served_from_homely v v.held.asks.written _ _ b cs h k tt tt
  step_homely v (Leaving answer x) b cs h k aside = absurd h

  steps_homely : (v : View D I P) (a b : Doing D X) (css : List (List (Change D I P))) → Steps M runs O v a css b → Homely v.slots → AsideHomely a → Homely (after_changes v css).slots
  steps_homely v a b [] h k aside = k
  steps_homely v a b (cs ∷ css) h k aside =
      let one = step_homely v a h.0 cs h.1 k aside in
      steps_homely (all_viewed v cs) h.0 b css h.3 one.0 one.1

  exchanged_homely : (v : View D I P) (token : RegistrationToken) (new : D) (c : Content D) (answer : Result D D) (cs : List (Change D I P)) → Shows v.slots token c → AllBringNoKey M cs → ExchangedIn token new c answer cs → Homely v.slots → Homely (all_viewed v cs).slots
  exchanged_homely v token new Vacant answer cs is fresh h k = rw h.1 k
  exchanged_homely v token new InTurn answer cs is fresh h k = rw h.1 k
  exchanged_homely v token new (Source d) answer cs is fresh h k =
      let fewer : HasNoMoreKeys M d new = (rw h.1 at fresh).0 in
      let home = home_named v.slots token d (is d refl) k in
      rw h.1 (homely_back v.slots token new (named_there v.slots token (Source d) (is d refl) refl) (λ key held. home key (fewer key held)) k)

  fresh_first : (cs ds : List (Change D I P)) → AllBringNoKey M (cs ++ ds) → AllBringNoKey M cs
  fresh_first [] ds h = tt
  fresh_first (c ∷ cs) ds h = (h.0, fresh_first cs ds h.1)

  fresh_rest : (cs ds : List (Change D I P)) → AllBringNoKey M (cs ++ ds) → AllBringNoKey M ds
  fresh_rest [] ds h = h
  fresh_rest (c ∷ cs) ds h = fresh_rest cs ds h.1

  once_fresh : (v : View D I P) (R : View D I P → List (Change D I P) → Type 0) (css : List (List (Change D I P))) → AllBringNoKey M (flatten css) → Once O R v css
      → ((cs : List (Change D I P)) → AllBringNoKey M cs → R v cs → Homely (all_viewed v cs).slots) → Homely (after_changes v css).slots
  once_fresh v R [] fresh h f = absurd h
  once_fresh v R (cs ∷ []) fresh h f = f cs (fresh_first cs [] fresh) h.0
  once_fresh v R (cs ∷ ds ∷ css) fresh h f = absurd h

  once_homely : (v : View D I P) (R : View D I P → List (Change D I P) → Type 0) (css : List (List (Change D I P))) → Once O R v css → ((cs : List (Change D I P)) → R v cs → Homely (all_viewed v cs).slots) → Homely (after_changes v css).slots
  once_homely v R [] h f = absurd h
  once_homely v R (cs ∷ []) h f = f cs h.0
  once_homely v R (cs ∷ ds ∷ css) h f = absurd h

  case_homely : (v : View D I P) (call : LoopCall D P X I) (answer : LoopAnswer D P X I) (css : List (List (Change D I P))) → AllBringNoKey M (flatten css) → Case M runs O call answer v css → Homely v.slots → Homely (after_changes v css).slots
  case_homely v (Insert d) (Inserted answer) css fresh h k = once_homely v (InsertedBy M d answer) css h (λ cs r. inserted_homely v d answer cs r k)
  case_homely v (Enable token) (Enabled answer) css fresh h k = once_homely v (EnabledBy M token answer) css h (λ cs r. asked_homely v _ _ token answer cs (only (is_callers M) (content_at v.slots token)) (λ d e l u home. first_home token v.poll d e answer l u home) (only_is (is_callers M) v.slots token) r k)
  case_homely v (Update token) (Updated answer) css fresh h k = once_homely v (UpdatedBy M token answer) css h (λ cs r. asked_homely v _ _ token answer cs (only (is_callers M) (content_at v.slots token)) (λ d e l u home. anew_home token v.poll d e answer l u home) (only_is (is_callers M) v.slots token) r k)
  case_homely v (Disable token) (Disabled answer) css fresh h k = once_homely v (DisabledBy M token answer) css h (λ cs r. asked_homely v _ _ token answer cs (only (is_callers M) (content_at v.slots token)) (λ d e l u home. (law token d e v.poll (Unregistered answer) l home u).0) (only_is (is_callers M) v.slots token) r k)
  case_homely v (RemoveCall token) (Removed answer) css fresh h k = once_homely v (RemovedBy M token answer) css h (λ cs r. removed_homely v token answer cs (only (is_callers M) (content_at v.slots token)) r k)
  case_homely v (Release token) (Released answer) css fresh h k = once_homely v (ReleasedBy M token answer) css h (λ cs r. released_homely v token answer cs r k)
  case_homely v (Exchange token d) (Exchanged answer) css fresh h k =
      once_fresh v (ExchangedBy M token d answer) css fresh h (λ cs less r. exchanged_homely v token d (only (is_callers M) (content_at v.slots token)) answer cs (only_is (is_callers M) v.slots token) less r k)
  case_homely v (Dispatch timeout x) (Dispatched answer x') css fresh (inl h) k = rw h.2 k
  case_homely v (Dispatch timeout x) (Dispatched answer x') css fresh (inr h) k = steps_homely v (Beginning (nanos_of timeout) x) (Leaving answer x') css h k tt
  case_homely v (InsertIdle idle) (IdleInserted (Ok made)) css fresh h k = once_homely v (IdleInsertedBy idle (Ok made)) css h (λ cs r. rw r.2 k)
  case_homely v (InsertIdle idle) (IdleInserted (Err refused)) css fresh h k = once_homely v (IdleInsertedBy idle (Err refused)) css h (λ cs r. rw r.2 k)
  case_homely v (Cancel idle) Cancelled css fresh h k = rw h k
  case_homely v (AnswerOf ticket) (Answered answer) css fresh h k = rw h.1 k
  case_homely v ForgetStop StopForgotten css fresh h k = rw h k
  case_homely v LookForStop (Stopped found) css fresh h k = rw h k
  case_homely v (NewPoller p) (OldPoller q) css fresh h k = rw h.1 k
  case_homely v call answer css fresh h k = absurd h

  run_homely : (calls : List (LoopCall D P X I)) (answers : List (LoopAnswer D P X I)) (csss : List (List (List (Change D I P)))) (w w' : World D I P) → AllBringNoKey M (changes_of csss) → Run M runs O calls answers csss w w' → Homely (visible w).slots → Homely (visible w').slots
  run_homely [] [] [] w w' fresh run k = rw run k
  run_homely (call ∷ calls) (answer ∷ answers) (css ∷ csss) w w' fresh run k =
      run_homely calls answers csss (all_traced w css) w' (fresh_rest (flatten css) (changes_of csss) fresh) run.1
      (subst (λ (v : View D I P). Homely v.slots) (sym (seen-all_traced w css)) (case_homely (visible w) call answer css (fresh_first (flatten css) (changes_of csss) fresh) run.0 k))
  run_homely calls answers csss w w' fresh run k = absurd run

  pub run_home : (calls : List (LoopCall D P X I)) (answers : List (LoopAnswer D P X I)) (csss : List (List (List (Change D I P)))) (w w' : World D I P) → IsNew w → AllBringNoKey M (changes_of csss) → Run M runs O calls answers csss w w' → AllAtHome M w'
  run_home calls answers csss w w' new fresh run i r d here is =
      let none : Homely (visible w).slots = λ j v e at. absurd (none_there (visible w).slots (ap (λ rs. map slot_of rs) new.slots) j v e at) in
      run_homely calls answers csss w w' fresh run none i (r.reuse % versions) d (slot_of r, slice_get-map slot_of w'.slots i ∙ ap (λ o. option_map slot_of o) here, refl, is)
