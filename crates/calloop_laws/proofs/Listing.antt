-- The registrations that are told of waits: each is in the list once, and names what isn't vacant.
use Rattle.std.proofs.Common.{◌≡◌, ◌≢◌, ◌⊎◌, inl, inr, ℕ, zero, suc, List, [], ◌∷◌, ◌++◌, filter, not, Bool, true, false, ◌||◌, nat_eq, if◌then◌else◌, refl, ap, sym, ◌∙◌, subst, arith, Some, Option, Result, Ok, Err, slice_get}
use Rattle.std.proofs.lemmas.Bool.Decides.{nat_tests}
use Rattle.std.specs.declared.io.Error.{Error as Cause}
use Rattle.calloop_slots.specs.declared.error.Error.{Error}
use Rattle.calloop_slots.specs.declared.error.InsertError.{InsertError}
use Rattle.calloop_slots.specs.declared.token.Token.{Token}
use Rattle.calloop_slots.specs.declared.token.RegistrationToken.{RegistrationToken}
use Rattle.calloop_slots.specs.declared.list.Content.{Content}
use Rattle.calloop_slots.specs.declared.list.Content.TheVariants.{Vacant, Source, InTurn}
use Rattle.calloop_slots.specs.declared.list.Slot.{Slot}
use Rattle.calloop_slots.specs.Tokens.{registration_of}
use Rattle.calloop_slots.specs.Slots.{with_change, with_content, content_at, content_under, is_empty, is_vacant, first_vacant, after_claim}
use Rattle.calloop_slots.proofs.Indexed.{slice_get-changed_other}
use Rattle.calloop_slots.proofs.Named.{named_slot, named_changed}
use Rattle.calloop_slots.proofs.Inserted.{named_claimed}
use Rattle.calloop_slots.proofs.Vacancy.{slice_get-claimed_other}
use Rattle.calloop_poll.specs.declared.sys.Readiness.{Readiness}
use Rattle.calloop_poll.specs.declared.sys.poll.Pending.{Pending}
use Rattle.calloop_sources.specs.declared.sources.source.PostAction.{PostAction}
use Rattle.calloop_sources.specs.declared.sources.source.PostAction.TheVariants.{Continue, Reregister, Disable as DisableIt, Remove}
use Rattle.calloop_poll.specs.sys.Pollers.{Outside, nanos_of}
use Rattle.calloop_poll.specs.sys.Polls.{PollStep, own_event}
use Rattle.calloop_sources.specs.sources.Deeds.{Lent}
use Rattle.calloop_sources.specs.sources.Meanings.{Meaning}
use Rattle.calloop_loop.specs.declared.LoopCall.{LoopCall}
use Rattle.calloop_loop.specs.declared.LoopCall.TheVariants.{Insert, Enable, Update, Disable, Remove as RemoveCall, Release, Exchange, Dispatch, InsertIdle, Cancel, Answer as AnswerOf, ForgetStop, LookForStop, Poller as NewPoller}
use Rattle.calloop_loop.specs.declared.LoopAnswer.{LoopAnswer}
use Rattle.calloop_loop.specs.declared.LoopAnswer.TheVariants.{Inserted, Enabled, Updated, Disabled, Removed, Released, Exchanged, Dispatched, IdleInserted, Cancelled, Answered, StopForgotten, Stopped, Poller as OldPoller}
use Rattle.calloop_loop.specs.declared.asks.Answer.{Answer}
use Rattle.calloop_loop.specs.Held.{Held, HeldStep, Begun, Pend, Told, held_after, with_listing, is_listed, is_one, is_another}
use Rattle.calloop_loop.specs.declared.asks.Asked.{Asked}
use Rattle.calloop_loop.specs.declared.asks.Idling.{Idling as Waiter}
use Rattle.calloop_loop.specs.declared.asks.Request.{Request}
use Rattle.calloop_loop.specs.declared.asks.Request.TheVariants.{Insert as AskInsert, Enable as AskEnable, Update as AskUpdate, Disable as AskDisable, SetDeadline as AskSetDeadline, Remove as AskRemove, Idle as AskIdle, Cancel as AskCancel}
use Rattle.calloop_loop.specs.Askings.{Asks, Runs}
use Rattle.calloop_loop.specs.Machine.{World, View, Change, Holds, IsNew, visible, after_change, all_viewed, Appended}
use Rattle.calloop_loop.specs.Roles.{only, is_callers, is_adapter}
use Rattle.calloop_loop.proofs.Roles.{Shows, only_is, left_removed}
use Rattle.calloop_loop.specs.Rules.{Doing, Beginning, Settling, Sleeping, Waiting, Gathering, Noticing, Cutting, Serving, Ending, Returning, Idling, RunningIdles, ServingIdle, Leaving, Outcome, Step, Steps, SleptAs, SleptBy, NoticedBy, told_in, CutTo, CutFrom, ActedBy, ReturnedTo, vacate, listing_of, unlisting_of, after_turn, after_wait, Case, Once, Run, InsertedBy, AskedIn, SettledIn, TakesUp, as_listed, EnabledBy, UpdatedBy, DisabledBy, RemovedIn, RemovedBy, ReleasedBy, ExchangedIn, ExchangedBy, IdleInsertedBy, OwnOr, Served, ServedAs, ServedFrom, RunFrom, action_of, after_changes, all_traced, appends}
use Rattle.calloop_laws.specs.Laws.{AllOnce, IsTold}
use Rattle.calloop_loop.proofs.Seen.{seen-all_traced, viewed-append}

-- Of names.

one_is : (a b : RegistrationToken) → is_one a b ≡ true → a ≡ b
one_is a b e =
    let slots : a.slot ≡ b.slot = grind (arith, nat_tests) in
    let versions : a.version ≡ b.version = grind (arith, nat_tests) in
    ap (λ n. record { slot = n; version = a.version }) slots ∙ ap (λ n. record { slot = b.slot; version = n }) versions

one_self : (a : RegistrationToken) → is_one a a ≡ true
one_self a = grind (arith, nat_tests)

one_sym : (a b : RegistrationToken) → is_one a b ≡ false → is_one b a ≡ false
one_sym a b e = elim (is_one b a) as (λ r. is_one b a ≡ r → r ≡ false) [ true ↦ λ h. (let same : b ≡ a = one_is b a h in let yes : is_one a b ≡ true = ap (λ c. is_one a c) same ∙ one_self a in cc) | false ↦ λ _. refl ] refl

-- Of the list.

or_true : (a b : Bool) → (a || b) ≡ true → (a ≡ true) ⊎ (b ≡ true)
or_true true b e = inl refl
or_true false b e = inr e

or_false : (a b : Bool) → (a || b) ≡ false → (a ≡ false) × (b ≡ false)
or_false true b e = cc
or_false false b e = (refl, e)

listed_behind : (t u : RegistrationToken) (ts : List RegistrationToken) → is_listed t (ts ++ u ∷ []) ≡ true → (is_listed t ts ≡ true) ⊎ (is_one u t ≡ true)
listed_behind t u [] e = elim (or_true (is_one u t) false e) [ inl h ↦ inr h | inr h ↦ inl h ]
listed_behind t u (x ∷ xs) e =
    elim (is_one x t) as (λ b. (b || is_listed t (xs ++ u ∷ [])) ≡ true → ((b || is_listed t xs) ≡ true) ⊎ (is_one u t ≡ true)) [ true ↦ λ _. inl refl | false ↦ λ h. listed_behind t u xs h ] e

unlisted_behind : (t u : RegistrationToken) (ts : List RegistrationToken) → is_listed t ts ≡ false → is_one u t ≡ false → is_listed t (ts ++ u ∷ []) ≡ false
unlisted_behind t u [] e n = rw n refl
unlisted_behind t u (x ∷ xs) e n = let h = or_false (is_one x t) (is_listed t xs) e in rw h.0 (unlisted_behind t u xs h.1 n)

once_behind : (u : RegistrationToken) (ts : List RegistrationToken) → is_listed u ts ≡ false → AllOnce ts → AllOnce (ts ++ u ∷ [])
once_behind u [] e h = (refl, tt)
once_behind u (x ∷ xs) e h = let n = or_false (is_one x u) (is_listed u xs) e in (unlisted_behind x u xs h.0 (one_sym x u n.0), once_behind u xs n.1 h.1)

pub once_listed : (u : RegistrationToken) (ts : List RegistrationToken) → AllOnce ts → AllOnce (with_listing u ts)
once_listed u ts h = elim (is_listed u ts) as (λ b. is_listed u ts ≡ b → AllOnce (if b then ts else ts ++ u ∷ [])) [ true ↦ λ _. h | false ↦ λ e. once_behind u ts e h ] refl

is_in_listed : (t u : RegistrationToken) (ts : List RegistrationToken) → is_listed t (with_listing u ts) ≡ true → (is_listed t ts ≡ true) ⊎ (is_one u t ≡ true)
is_in_listed t u ts e = elim (is_listed u ts) as (λ b. is_listed t (if b then ts else ts ++ u ∷ []) ≡ true → (is_listed t ts ≡ true) ⊎ (is_one u t ≡ true)) [ true ↦ λ h. inl h | false ↦ λ h. listed_behind t u ts h ] e

is_in_left : (t u : RegistrationToken) (ts : List RegistrationToken) → is_listed t (filter (is_another u) ts) ≡ true → (is_listed t ts ≡ true) × (is_one u t ≡ false)
is_in_left t u [] e = cc
is_in_left t u (x ∷ xs) e =
    elim (is_one x u) as (λ b. is_one x u ≡ b → is_listed t (if not b then x ∷ filter (is_another u) xs else filter (is_another u) xs) ≡ true → ((is_one x t || is_listed t xs) ≡ true) × (is_one u t ≡ false)) [
      | true ↦ λ _ h. (let r = is_in_left t u xs h in (elim (is_one x t) as (λ b. (b || is_listed t xs) ≡ true) [ true ↦ refl | false ↦ r.0 ], r.1))
      | false ↦ λ other h.
          elim (is_one x t) as (λ b. is_one x t ≡ b → (b || is_listed t (filter (is_another u) xs)) ≡ true → ((b || is_listed t xs) ≡ true) × (is_one u t ≡ false)) [
            | true ↦ λ here _. (refl, ap (λ c. is_one u c) (sym (one_is x t here)) ∙ one_sym x u other)
            | false ↦ λ _ k. is_in_left t u xs k
          ] refl h
    ] refl e

unlisted_left : (t u : RegistrationToken) (ts : List RegistrationToken) → is_listed t ts ≡ false → is_listed t (filter (is_another u) ts) ≡ false
unlisted_left t u ts e =
    elim (is_listed t (filter (is_another u) ts)) as (λ b. is_listed t (filter (is_another u) ts) ≡ b → b ≡ false) [ true ↦ λ h. (let r = is_in_left t u ts h in let yes : is_listed t ts ≡ true = r.0 in cc) | false ↦ λ _. refl ] refl

once_left : (u : RegistrationToken) (ts : List RegistrationToken) → AllOnce ts → AllOnce (filter (is_another u) ts)
once_left u [] h = tt
once_left u (x ∷ xs) h = elim (is_one x u) as (λ b. AllOnce (if not b then x ∷ filter (is_another u) xs else filter (is_another u) xs)) [ true ↦ once_left u xs h.1 | false ↦ (unlisted_left x u xs h.0, once_left u xs h.1) ]

-- Of slots.

abbrev Full : {D : Type 0} → List (Slot D) → RegistrationToken → Type 0
Full slots t = is_empty (content_at slots t) ≡ false

full_under : {D : Type 0} (c : Content D) → is_empty c ≡ false → (v : ℕ) (xs : List (Slot D)) (k i : ℕ) → is_empty (content_under v (slice_get xs i)) ≡ false → is_empty (content_under v (slice_get (with_change (with_content c) xs k) i)) ≡ false
full_under c full v [] k i h = h
full_under {D} c full v (x ∷ xs) zero zero h =
    elim (nat_eq x.version v) as (λ b. is_empty (if b then x.content else Vacant) ≡ false → is_empty (if b then c else Vacant) ≡ false) [ true ↦ λ _. full | false ↦ λ e. e ] h
full_under c full v (x ∷ xs) zero (suc i) h = h
full_under c full v (x ∷ xs) (suc k) zero h = h
full_under c full v (x ∷ xs) (suc k) (suc i) h = full_under c full v xs k i h

full_put : {D : Type 0} (c : Content D) → is_empty c ≡ false → (xs : List (Slot D)) (k : ℕ) (t : RegistrationToken) → Full xs t → Full (with_change (with_content c) xs k) t
full_put c full xs k t h = full_under c full t.version xs k t.slot h

full_other : {D : Type 0} (xs ys : List (Slot D)) (t : RegistrationToken) → slice_get ys t.slot ≡ slice_get xs t.slot → Full xs t → Full ys t
full_other {D} xs ys t same h = ap (λ (o : Option (Slot D)). is_empty (content_under t.version o)) same ∙ h

vacant_first : {D : Type 0} (xs : List (Slot D)) (s : Slot D) → slice_get xs (first_vacant xs) ≡ Some s → is_empty s.content ≡ true
vacant_first [] s e = cc
vacant_first {D} (x ∷ xs) s e =
    elim (is_vacant x) as (λ b. is_vacant x ≡ b → slice_get (x ∷ xs) (if b then 0 else suc (first_vacant xs)) ≡ Some s → is_empty s.content ≡ true) [
      | true ↦ λ free here. (let same : x ≡ s = cc in ap (λ (y : Slot D). is_empty y.content) (sym same) ∙ free)
      | false ↦ λ _ there. vacant_first xs s there
    ] refl e

-- what is full isn't the slot that is claimed next
not_first : {D : Type 0} (xs : List (Slot D)) (t : RegistrationToken) → Full xs t → t.slot ≢ first_vacant xs
not_first {D} xs t h e =
    let s = named_slot xs t h in
    let free : is_empty s.0.content ≡ true = vacant_first xs s.0 (ap (λ n. slice_get xs n) (sym e) ∙ s.1) in
    let taken : is_empty s.0.content ≡ false = ap (λ (c : Content D). is_empty c) (sym s.3) ∙ h in
    cc

full_claimed : {D : Type 0} (xs : List (Slot D)) (t : RegistrationToken) → Full xs t → Full (after_claim xs) t
full_claimed xs t h = full_other xs (after_claim xs) t (slice_get-claimed_other xs t.slot (not_first xs t h)) h

-- of one slot there is one full name
one_slot : {D : Type 0} (xs : List (Slot D)) (t u : RegistrationToken) → Full xs t → Full xs u → t.slot ≡ u.slot → is_one t u ≡ true
one_slot {D} xs t u h k e =
    let s = named_slot xs t h in
    let r = named_slot xs u k in
    let same : s.0 ≡ r.0 = (let f : Some s.0 ≡ Some r.0 = sym s.1 ∙ ap (λ n. slice_get xs n) e ∙ r.1 in cc) in
    let mine : nat_eq s.0.version t.version ≡ true = s.2 in
    let theirs : nat_eq s.0.version u.version ≡ true = ap (λ (y : Slot D). nat_eq y.version u.version) same ∙ r.2 in
    grind (arith, nat_tests)

-- Of both.

abbrev nobody : RegistrationToken → Bool
nobody t = false

-- all but those that are skipped name what isn't vacant
record Tidy {D : Type 0} (skip : RegistrationToken → Bool) (slots : List (Slot D)) (ts : List RegistrationToken) : Type 0 where
  pub once : AllOnce ts
  pub full : (t : RegistrationToken) → is_listed t ts ≡ true → skip t ≡ false → Full slots t

module _ {D : Type 0} where
  tidy_put : (skip : RegistrationToken → Bool) (c : Content D) (slots : List (Slot D)) (k : ℕ) (ts : List RegistrationToken) → is_empty c ≡ false → Tidy skip slots ts → Tidy skip (with_change (with_content c) slots k) ts
  tidy_put skip c slots k ts full h = record { once = h.once; full = λ t is no. full_put c full slots k t (h.full t is no) }

  tidy_claimed : (slots : List (Slot D)) (ts : List RegistrationToken) → Tidy nobody slots ts → Tidy nobody (after_claim slots) ts
  tidy_claimed slots ts h = record { once = h.once; full = λ t is no. full_claimed slots t (h.full t is no) }

  -- a claim is given up
  tidy_refused : (slots : List (Slot D)) (ts : List RegistrationToken) → Tidy nobody slots ts → Tidy nobody (with_change (with_content Vacant) (after_claim slots) (first_vacant slots)) ts
  tidy_refused slots ts h =
      record {
        once = h.once;
        full = λ t is no.
            let away = not_first slots t (h.full t is no) in
            full_other slots (with_change (with_content Vacant) (after_claim slots) (first_vacant slots)) t (slice_get-changed_other (with_content Vacant) (after_claim slots) (first_vacant slots) t.slot away ∙ slice_get-claimed_other slots t.slot away) (h.full t is no);
      }

  -- a slot is vacated, whose registration is still to be taken out
  tidy_vacated : (slots : List (Slot D)) (token : RegistrationToken) (ts : List RegistrationToken) → Full slots token → Tidy nobody slots ts → Tidy (is_one token) (with_change (with_content Vacant) slots token.slot) ts
  tidy_vacated slots token ts mine h =
      record {
        once = h.once;
        full = λ t is other.
            let away : t.slot ≢ token.slot = λ e. (let yes : is_one token t ≡ true = one_slot slots token t mine (h.full t is refl) (sym e) in cc) in
            full_other slots (with_change (with_content Vacant) slots token.slot) t (slice_get-changed_other (with_content Vacant) slots token.slot t.slot away) (h.full t is refl);
      }

  tidy_less : (skip : RegistrationToken → Bool) (slots : List (Slot D)) (ts : List RegistrationToken) → Tidy nobody slots ts → Tidy skip slots ts
  tidy_less skip slots ts h = record { once = h.once; full = λ t is no. h.full t is refl }

  tidy_out : (token : RegistrationToken) (slots : List (Slot D)) (ts : List RegistrationToken) → Tidy (is_one token) slots ts → Tidy nobody slots (filter (is_another token) ts)
  tidy_out token slots ts h = record { once = once_left token ts h.once; full = λ t is no. (let r = is_in_left t token ts is in h.full t r.0 r.1) }

  tidy_in : (needed : Bool) (token : RegistrationToken) (slots : List (Slot D)) (ts : List RegistrationToken) → Full slots token → Tidy nobody slots ts → Tidy nobody slots (if needed then with_listing token ts else ts)
  tidy_in false token slots ts mine h = h
  tidy_in true token slots ts mine h =
      record {
        once = once_listed token ts h.once;
        full = λ t is no. elim (is_in_listed t token ts is) [ inl k ↦ h.full t k refl | inr k ↦ subst (λ (u : RegistrationToken). Full slots u) (one_is token t k) mine ];
      }

  -- one that is skipped is entered
  tidy_in_skipped : (needed : Bool) (token : RegistrationToken) (slots : List (Slot D)) (ts : List RegistrationToken) → Tidy nobody slots ts → Tidy (is_one token) slots (if needed then with_listing token ts else ts)
  tidy_in_skipped false token slots ts h = tidy_less (is_one token) slots ts h
  tidy_in_skipped true token slots ts h =
      record {
        once = once_listed token ts h.once;
        full = λ t is other. elim (is_in_listed t token ts is) [ inl k ↦ h.full t k refl | inr k ↦ cc ];
      }

  -- the source goes back to its slot
  tidy_back : (c : Content D) (token : RegistrationToken) (slots : List (Slot D)) (ts : List RegistrationToken) → is_empty c ≡ false → Full slots token → Tidy (is_one token) slots ts → Tidy nobody (with_change (with_content c) slots token.slot) ts
  tidy_back c token slots ts full mine h =
      record {
        once = h.once;
        full = λ t is no.
            elim (is_one token t) as (λ b. is_one token t ≡ b → Full (with_change (with_content c) slots token.slot) t) [
              | true ↦ λ same. subst (λ (u : RegistrationToken). Full (with_change (with_content c) slots token.slot) u) (one_is token t same) (ap (λ (x : Content D). is_empty x) (named_changed slots token c mine) ∙ full)
              | false ↦ λ other. full_put c full slots token.slot t (h.full t is other)
            ] refl;
      }

-- what every state keeps, with what the loop is doing in it
abbrev Kept : {D I P X : Type 0} → Doing D X → View D I P → Type 0
Kept (Returning token d told x) v = Tidy (is_one token) v.slots v.held.lifecycle
Kept a v = Tidy nobody v.slots v.held.lifecycle

module _ {D I P X : Type 0} (M : Meaning D P (Lent X (Asks D I))) (runs : Runs D I X) (O : Outside P) where
  source_full : (slots : List (Slot D)) (token : RegistrationToken) (c : Content D) → content_at slots token ≡ c → is_empty c ≡ false → Full slots token
  source_full slots token c is full = ap (λ (x : Content D). is_empty x) is ∙ full

  -- a source was told of a wait
  told_kept : (v : View D I P) (token : RegistrationToken) (d e : D) → content_at v.slots token ≡ Source d → Tidy nobody v.slots v.held.lifecycle
      → Tidy nobody (all_viewed v (told_in token e)).slots v.held.lifecycle
  told_kept v token d e is k = tidy_put nobody (Source e) (with_change (with_content InTurn) v.slots token.slot) token.slot v.held.lifecycle refl (tidy_put nobody InTurn v.slots token.slot v.held.lifecycle refl k)

  appends_kept : (given : List (Readiness × Token)) (v : View D I P) → Tidy nobody v.slots v.held.lifecycle → Tidy nobody (all_viewed v (appends given)).slots (all_viewed v (appends given)).held.lifecycle
  appends_kept [] v k = k
  appends_kept (e ∷ es) v k = appends_kept es (after_change v (Appended (own_event e))) k

  slept_as : (v : View D I P) (timeout : Option ℕ) (later : List RegistrationToken) (given : List (Readiness × Token)) (answer : Result (Unit {0}) Error) (x : X) (cs : List (Change D I P)) (b : Doing D X) → SleptAs timeout later given answer x cs b → Tidy nobody v.slots v.held.lifecycle → Kept b (all_viewed v cs)
  slept_as v timeout later given (Ok u) x cs b h k = rw (h.0, h.1) (appends_kept given v k)
  slept_as v timeout later given (Err e) x cs b h k = rw (h.0, h.1) k

  slept_kept : (v : View D I P) (timeout : Option ℕ) (token : RegistrationToken) (later : List RegistrationToken) (x : X) (cs : List (Change D I P)) (b : Doing D X) (c : Content D) → content_at v.slots token ≡ c → SleptBy M timeout token later c v x cs b → Tidy nobody v.slots v.held.lifecycle → Kept b (all_viewed v cs)
  slept_kept v timeout token later x cs b Vacant is h k = rw (h.0, h.1) k
  slept_kept v timeout token later x cs b InTurn is h k = rw (h.0, h.1) k
  slept_kept v timeout token later x cs b (Source d) is h k = rw h.6 (slept_as (all_viewed v (told_in token h.0)) timeout later h.1 h.2 x h.3 b h.5 (told_kept v token d h.0 is k))

  noticed_kept : (v : View D I P) (from : ℕ) (token : RegistrationToken) (later : List RegistrationToken) (x : X) (cs : List (Change D I P)) (b : Doing D X) (c : Content D) → content_at v.slots token ≡ c → NoticedBy M from token later c v x cs b → Tidy nobody v.slots v.held.lifecycle → Kept b (all_viewed v cs)
  noticed_kept v from token later x cs b Vacant is h k = rw (h.0, h.1) k
  noticed_kept v from token later x cs b InTurn is h k = rw (h.0, h.1) k
  noticed_kept v from token later x cs b (Source d) is h k = rw (h.2, h.3) (told_kept v token d h.0 is k)

  cut_kept : (v : View D I P) (e : Pending) (x : X) (cs : List (Change D I P)) (b : Doing D X) (c : Content D) → content_at v.slots (registration_of e.token) ≡ c → CutTo M e c v x cs b → Tidy nobody v.slots v.held.lifecycle → Kept b (all_viewed v cs)
  cut_kept v e x cs b Vacant is h k = rw (h.0, h.1) k
  cut_kept v e x cs b InTurn is h k = rw (h.0, h.1) k
  cut_kept v e x cs b (Source d) is h k =
      let full = source_full v.slots (registration_of e.token) (Source d) is refl in
      rw (h.6, h.7) (tidy_put nobody InTurn v.slots e.token.slot v.held.lifecycle refl k)

  from_kept : (v : View D I P) (es : List Pending) (x : X) (cs : List (Change D I P)) (b : Doing D X) → CutFrom M es v x cs b → Tidy nobody v.slots v.held.lifecycle → Kept b (all_viewed v cs)
  from_kept v [] x cs b h k = rw (h.0, h.1) k
  from_kept v (e ∷ es) x cs b h k = cut_kept v e x cs b (content_at v.slots (registration_of e.token)) refl h k

  emptied_kept : (v : View D I P) (token : RegistrationToken) (c : Content D) → content_at v.slots token ≡ c → Tidy nobody v.slots v.held.lifecycle → Tidy (is_one token) (all_viewed v (vacate token c)).slots (all_viewed v (vacate token c)).held.lifecycle
  emptied_kept v token Vacant is k = tidy_less (is_one token) v.slots v.held.lifecycle k
  emptied_kept v token (Source d) is k = tidy_less (is_one token) v.slots v.held.lifecycle k
  emptied_kept v token InTurn is k = tidy_vacated v.slots token v.held.lifecycle (source_full v.slots token InTurn is refl) k

  acted_kept : (v : View D I P) (token : RegistrationToken) (d : D) (answer : Result PostAction Error) (cs : List (Change D I P)) (e : D) (told : Outcome) → ActedBy M token d answer v cs e told → Tidy nobody v.slots v.held.lifecycle
      → Tidy (is_one token) (all_viewed v cs).slots (all_viewed v cs).held.lifecycle
  acted_kept v token d (Ok Continue) cs e told h k = rw h.0 (tidy_less (is_one token) v.slots v.held.lifecycle k)
  acted_kept v token d (Ok Reregister) cs e told h k = rw h.2 (tidy_in_skipped _ token v.slots v.held.lifecycle k)
  acted_kept v token d (Ok DisableIt) cs e told h k = rw h.2 (tidy_less (is_one token) v.slots _ (tidy_out token v.slots v.held.lifecycle (tidy_less (is_one token) v.slots v.held.lifecycle k)))
  acted_kept v token d (Ok Remove) cs e told h k = rw h.0 (emptied_kept (after_change v (Holds (Pend Continue))) token (content_at v.slots token) refl k)
  acted_kept v token d (Err error) cs e told h k = rw h.0 (tidy_less (is_one token) v.slots v.held.lifecycle k)

  returned_kept : (v : View D I P) (token : RegistrationToken) (d : D) (c : Content D) (cs : List (Change D I P)) → content_at v.slots token ≡ c → ReturnedTo M token d c v cs → Tidy (is_one token) v.slots v.held.lifecycle → Tidy nobody (all_viewed v cs).slots (all_viewed v cs).held.lifecycle
  returned_kept v token d InTurn cs is h k = rw h (tidy_back (Source d) token v.slots v.held.lifecycle refl (source_full v.slots token InTurn is refl) k)
  returned_kept v token d Vacant cs is h k = rw h.5 (tidy_out token v.slots v.held.lifecycle k)
  returned_kept v token d (Source f) cs is h k = rw h.5 (tidy_out token v.slots v.held.lifecycle k)

  after_kept : (told : Outcome) (x : X) (v : View D I P) → Tidy nobody v.slots v.held.lifecycle → Kept {D = D} (after_turn told x) v
  after_kept (Ok u) x v k = k
  after_kept (Err e) x v k = k

  waited_kept : (answer : Result ℕ Cause) (given : List (ℕ × Readiness)) (x : X) (v : View D I P) → Tidy nobody v.slots v.held.lifecycle → Kept {D = D} (after_wait answer given x) v
  waited_kept (Ok now) given x v k = k
  waited_kept (Err cause) given x v k = k

  inserted_kept : (v : View D I P) (d : D) (answer : Result RegistrationToken (InsertError D)) (cs : List (Change D I P)) → InsertedBy M d answer v cs → Tidy nobody v.slots v.held.lifecycle → Tidy nobody (all_viewed v cs).slots (all_viewed v cs).held.lifecycle
  inserted_kept v d (Ok token) cs h k =
      let mine : Full (after_claim v.slots) token = ap (λ (t : RegistrationToken). is_empty (content_at (after_claim v.slots) t)) h.1 ∙ ap (λ (x : Content D). is_empty x) (named_claimed v.slots) in
      rw h.6 (tidy_put nobody (Source h.2) (after_claim v.slots) token.slot _ refl (tidy_in (M.needs d) token (after_claim v.slots) v.held.lifecycle mine (tidy_claimed v.slots v.held.lifecycle k)))
  inserted_kept v d (Err refused) cs (inl h) k = rw h.2 k
  inserted_kept v d (Err refused) cs (inr h) k = rw h.4 (tidy_refused v.slots v.held.lifecycle k)

  asked_kept : (v : View D I P) (R : D → Outcome → List (PollStep P) → D → Type 0) (noted : D → Outcome → HeldStep D I) (token : RegistrationToken) (answer : Outcome) (cs : List (Change D I P)) (c : Content D)
      → ((d : D) (slots : List (Slot D)) (h : Held D I) → Full slots token → Tidy nobody slots h.lifecycle → Tidy nobody slots (held_after h (noted d answer)).lifecycle)
      → Shows v.slots token c → AskedIn R noted token c answer cs → Tidy nobody v.slots v.held.lifecycle → Tidy nobody (all_viewed v cs).slots (all_viewed v cs).held.lifecycle
  asked_kept v R noted token answer cs Vacant note is h k = rw h.1 k
  asked_kept v R noted token answer cs InTurn note is h k = rw h.1 k
  asked_kept v R noted token answer cs (Source d) note is h k =
      let full = source_full v.slots token (Source d) (is d refl) refl in
      let out = with_change (with_content InTurn) v.slots token.slot in
      rw h.3
      (tidy_put nobody (Source h.0) out token.slot _ refl
      (note d out v.held (ap (λ (x : Content D). is_empty x) (named_changed v.slots token InTurn full)) (tidy_put nobody InTurn v.slots token.slot v.held.lifecycle refl k)))

  entered_kept : (token : RegistrationToken) (answer : Outcome) (d : D) (slots : List (Slot D)) (h : Held D I) → Full slots token → Tidy nobody slots h.lifecycle → Tidy nobody slots (held_after h (listing_of M token d answer)).lifecycle
  entered_kept token answer d slots h full k = tidy_in _ token slots h.lifecycle full k

  left_kept : (token : RegistrationToken) (answer : Outcome) (d : D) (slots : List (Slot D)) (h : Held D I) → Full slots token → Tidy nobody slots h.lifecycle → Tidy nobody slots (held_after h (unlisting_of token d answer)).lifecycle
  left_kept token answer d slots h full k = tidy_out token slots h.lifecycle (tidy_less (is_one token) slots h.lifecycle k)

  removed_kept : (v : View D I P) (token : RegistrationToken) (answer : Option D) (cs : List (Change D I P)) (c : Content D) → Shows v.slots token c → RemovedIn M token c answer v cs → Tidy nobody v.slots v.held.lifecycle → Tidy nobody (all_viewed v cs).slots (all_viewed v cs).held.lifecycle
  removed_kept v token answer cs Vacant is h k = rw h.1 k
  removed_kept v token answer cs InTurn is h k = rw h.1 k
  removed_kept v token answer cs (Source d) is h k =
      let out = with_change (with_content Vacant) v.slots token.slot in
      rw h.6 (tidy_out token out v.held.lifecycle (tidy_vacated v.slots token v.held.lifecycle (source_full v.slots token (Source d) (is d refl) refl) k))

  told_tidy : (v : View D I P) (ds cs : List (Change D I P)) (answer : Answer D) → cs ≡ ds ++ Holds (Told answer) ∷ [] → Tidy nobody (all_viewed v ds).slots (all_viewed v ds).held.lifecycle → Tidy nobody (all_viewed v cs).slots (all_viewed v cs).held.lifecycle
  told_tidy v ds cs answer is h = rw (is, viewed-append v ds (Holds (Told answer) ∷ [])) h

  own_or : {A B G : Type 0} (c : Content D) → (c ≡ InTurn → A → G) → (B → G) → OwnOr c A B → G
  own_or InTurn f g h = f refl h
  own_or Vacant f g h = g h
  own_or (Source d) f g h = g h

  served_as_kept : (v : View D I P) (request : Request D I) (answer : Outcome) (cs : List (Change D I P)) → ServedAs M request answer v cs → Tidy nobody v.slots v.held.lifecycle → Tidy nobody (all_viewed v cs).slots (all_viewed v cs).held.lifecycle
  served_as_kept v (AskEnable token) answer cs h k = own_or (content_at v.slots token) (λ _ o. rw o.1 k) (λ o. asked_kept v _ _ token answer cs (only (is_callers M) (content_at v.slots token)) (entered_kept token answer) (only_is (is_callers M) v.slots token) o k) h
  served_as_kept v (AskUpdate token) answer cs h k = own_or (content_at v.slots token) (λ _ o. rw o.1 k) (λ o. asked_kept v _ _ token answer cs (only (is_callers M) (content_at v.slots token)) (entered_kept token answer) (only_is (is_callers M) v.slots token) o k) h
  served_as_kept v (AskDisable token) answer cs h k = own_or (content_at v.slots token) (λ _ o. rw o.1 k) (λ o. asked_kept v _ _ token answer cs (only (is_callers M) (content_at v.slots token)) (left_kept token answer) (only_is (is_callers M) v.slots token) o k) h
  served_as_kept v (AskSetDeadline token deadline) answer cs h k = own_or (content_at v.slots token) (λ _ o. rw o.1 k) (λ o. asked_kept v _ _ token answer cs (only (is_callers M) (content_at v.slots token)) (entered_kept token answer) (only_is (is_callers M) v.slots token) o k) h
  served_as_kept v (AskInsert d) answer cs h k = absurd h
  served_as_kept v (AskRemove token) answer cs h k = absurd h
  served_as_kept v (AskIdle idle) answer cs h k = absurd h
  served_as_kept v (AskCancel ticket) answer cs h k = absurd h

  served_kept : (v : View D I P) (request : Request D I) (cs : List (Change D I P)) → Served M request v cs → Tidy nobody v.slots v.held.lifecycle → Tidy nobody (all_viewed v cs).slots (all_viewed v cs).held.lifecycle
  served_kept v (AskInsert d) cs h k = told_tidy v h.1 cs _ h.3 (inserted_kept v d h.0 h.1 h.2 k)
  served_kept v (AskEnable token) cs h k = told_tidy v h.1 cs _ h.3 (served_as_kept v (AskEnable token) h.0 h.1 h.2 k)
  served_kept v (AskUpdate token) cs h k = told_tidy v h.1 cs _ h.3 (served_as_kept v (AskUpdate token) h.0 h.1 h.2 k)
  served_kept v (AskDisable token) cs h k = told_tidy v h.1 cs _ h.3 (served_as_kept v (AskDisable token) h.0 h.1 h.2 k)
  served_kept v (AskSetDeadline token deadline) cs h k = told_tidy v h.1 cs _ h.3 (served_as_kept v (AskSetDeadline token deadline) h.0 h.1 h.2 k)
  served_kept v (AskRemove token) cs h k =
      own_or (content_at v.slots token)
      (λ mine o. rw o (tidy_out token (with_change (with_content Vacant) v.slots token.slot) v.held.lifecycle (tidy_vacated v.slots token v.held.lifecycle (source_full v.slots token InTurn mine refl) k)))
      (λ o. told_tidy v o.1 cs _ o.3 (removed_kept v token o.0 o.1 (only (is_callers M) (content_at v.slots token)) (only_is (is_callers M) v.slots token) o.2 k)) h
  served_kept v (AskIdle idle) cs h k = rw h k
  served_kept v (AskCancel ticket) cs h k = rw h k

  served_from_kept : (v : View D I P) (asked : List (Asked D I)) (on next b : Doing D X) (cs : List (Change D I P)) → ServedFrom M asked on next b v cs
      → ((u : View D I P) → Tidy nobody u.slots u.held.lifecycle → Kept on u) → ((u : View D I P) → Tidy nobody u.slots u.held.lifecycle → Kept next u) → Tidy nobody v.slots v.held.lifecycle → Kept b (all_viewed v cs)
  served_from_kept v [] on next b cs h f g k = rw (h.0, h.1) (g v k)
  served_from_kept v (a ∷ as') on next b cs h f g k = rw (h.2, h.3) (f (all_viewed (after_change v (Holds Begun)) h.0) (served_kept (after_change v (Holds Begun)) a.request h.0 h.1 k))

  run_from_kept : (v : View D I P) (idles : List (Waiter I)) (x : X) (cs : List (Change D I P)) (b : Doing D X) → RunFrom runs idles v x cs b → Tidy nobody v.slots v.held.lifecycle → Kept b (all_viewed v cs)
  run_from_kept v [] x cs b h k = rw (h.0, h.1) k
  run_from_kept v (i ∷ is) x cs b h k = rw (h.3, h.4) k

  released_kept : (v : View D I P) (token : RegistrationToken) (answer : Outcome) (cs : List (Change D I P)) → ReleasedBy M token answer v cs → Tidy nobody v.slots v.held.lifecycle → Tidy nobody (all_viewed v cs).slots (all_viewed v cs).held.lifecycle
  released_kept v token (Ok u) cs h k = (let r = left_removed M token (only (is_adapter M) (content_at v.slots token)) v cs h in removed_kept v token r.0 cs (only (is_adapter M) (content_at v.slots token)) (only_is (is_adapter M) v.slots token) r.1 k)
  released_kept v token (Err e) cs h k = asked_kept v _ _ token (Err e) cs (only (is_adapter M) (content_at v.slots token)) (left_kept token (Err e)) (only_is (is_adapter M) v.slots token) h k

  settled_kept : (v : View D I P) (token : RegistrationToken) (c : Content D) (cs : List (Change D I P)) → Shows v.slots token c → SettledIn M token c v cs → Tidy nobody v.slots v.held.lifecycle → Tidy nobody (all_viewed v cs).slots (all_viewed v cs).held.lifecycle
  settled_kept v token Vacant cs is h k = rw h k
  settled_kept v token InTurn cs is h k = rw h k
  settled_kept v token (Source d) cs is (inl h) k = asked_kept v (TakesUp M token v.poll) (as_listed token) token (Ok tt) cs (Source d) (λ d slots held full tidy. tidy) is h k
  settled_kept v token (Source d) cs is (inr h) k = removed_kept v token h.0 cs (Source d) is h.1 k

  step_kept : (v : View D I P) (a b : Doing D X) (cs : List (Change D I P)) → Step M runs O v a cs b → Kept a v → Kept b (all_viewed v cs)
  step_kept v (Beginning timeout x) b cs h k = rw (h.4, h.5) k
  step_kept v (Settling timeout [] x) b cs h k = rw (h.0, h.1) k
  step_kept v (Settling timeout (t ∷ later) x) b cs h k = rw h.1 (settled_kept v t (only (is_adapter M) (content_at v.slots t)) cs (only_is (is_adapter M) v.slots t) h.0 k)
  step_kept v (Sleeping timeout [] x) b cs h k = rw (h.0, h.1) k
  step_kept v (Sleeping timeout (t ∷ later) x) b cs h k = slept_kept v timeout t later x cs b (content_at v.slots t) refl h k
  step_kept v (Waiting timeout x) b cs h k = rw (h.5, h.6) (waited_kept h.0 h.1 x _ k)
  step_kept v (Gathering now given x) b cs h k = rw (h.1, h.2) k
  step_kept v (Noticing from [] x) b cs h k = rw (h.0, h.1) k
  step_kept v (Noticing from (t ∷ later) x) b cs h k = noticed_kept v from t later x cs b (content_at v.slots t) refl h k
  step_kept v (Cutting x) b cs h k = from_kept v v.poll.batch x cs b h k
  step_kept v (Serving token d answer x) b cs h k = served_from_kept v v.held.asks.written _ _ b cs h (λ u t. t) (λ u t. t) k
  step_kept v (Ending token d answer x) b cs h k = rw h.3 (acted_kept v token d (action_of answer v.held.pending) cs h.0 h.1 h.2 k)
  step_kept v (Returning token d told x) b cs h k = rw h.1 (after_kept told x (all_viewed v cs) (returned_kept v token d (content_at v.slots token) cs refl h.0 k))
  step_kept v (Idling x) b cs h k = rw (h.0, h.1) k
  step_kept v (RunningIdles x) b cs h k = run_from_kept v v.held.asks.running x cs b h k
  step_kept v (ServingIdle x) b cs h k = served_from_kept v v.held.asks.written _ _ b cs h (λ u t. t) (λ u t. t) k
  step_kept v (Leaving answer x) b cs h k = absurd h

  steps_kept : (v : View D I P) (a b : Doing D X) (css : List (List (Change D I P))) → Steps M runs O v a css b → Kept a v → Kept b (after_changes v css)
  steps_kept v a b [] h k = rw h k
  steps_kept v a b (cs ∷ css) h k = steps_kept (all_viewed v cs) h.0 b css h.3 (step_kept v a h.0 cs h.1 k)

  exchanged_kept : (v : View D I P) (token : RegistrationToken) (new : D) (c : Content D) (answer : Result D D) (cs : List (Change D I P)) → ExchangedIn token new c answer cs → Tidy nobody v.slots v.held.lifecycle → Tidy nobody (all_viewed v cs).slots (all_viewed v cs).held.lifecycle
  exchanged_kept v token new Vacant answer cs h k = rw h.1 k
  exchanged_kept v token new InTurn answer cs h k = rw h.1 k
  exchanged_kept v token new (Source d) answer cs h k = rw h.1 (tidy_put nobody (Source new) v.slots token.slot v.held.lifecycle refl k)

  once_kept : (v : View D I P) (R : View D I P → List (Change D I P) → Type 0) (css : List (List (Change D I P))) → Once O R v css
      → ((cs : List (Change D I P)) → R v cs → Tidy nobody (all_viewed v cs).slots (all_viewed v cs).held.lifecycle) → Tidy nobody (after_changes v css).slots (after_changes v css).held.lifecycle
  once_kept v R [] h f = absurd h
  once_kept v R (cs ∷ []) h f = f cs h.0
  once_kept v R (cs ∷ ds ∷ css) h f = absurd h

  case_kept : (v : View D I P) (call : LoopCall D P X I) (answer : LoopAnswer D P X I) (css : List (List (Change D I P))) → Case M runs O call answer v css → Tidy nobody v.slots v.held.lifecycle → Tidy nobody (after_changes v css).slots (after_changes v css).held.lifecycle
  case_kept v (Insert d) (Inserted answer) css h k = once_kept v (InsertedBy M d answer) css h (λ cs r. inserted_kept v d answer cs r k)
  case_kept v (Enable token) (Enabled answer) css h k = once_kept v (EnabledBy M token answer) css h (λ cs r. asked_kept v _ _ token answer cs (only (is_callers M) (content_at v.slots token)) (entered_kept token answer) (only_is (is_callers M) v.slots token) r k)
  case_kept v (Update token) (Updated answer) css h k = once_kept v (UpdatedBy M token answer) css h (λ cs r. asked_kept v _ _ token answer cs (only (is_callers M) (content_at v.slots token)) (entered_kept token answer) (only_is (is_callers M) v.slots token) r k)
  case_kept v (Disable token) (Disabled answer) css h k = once_kept v (DisabledBy M token answer) css h (λ cs r. asked_kept v _ _ token answer cs (only (is_callers M) (content_at v.slots token)) (left_kept token answer) (only_is (is_callers M) v.slots token) r k)
  case_kept v (RemoveCall token) (Removed answer) css h k = once_kept v (RemovedBy M token answer) css h (λ cs r. removed_kept v token answer cs (only (is_callers M) (content_at v.slots token)) (only_is (is_callers M) v.slots token) r k)
  case_kept v (Release token) (Released answer) css h k = once_kept v (ReleasedBy M token answer) css h (λ cs r. released_kept v token answer cs r k)
  case_kept v (Exchange token d) (Exchanged answer) css h k = once_kept v (ExchangedBy M token d answer) css h (λ cs r. exchanged_kept v token d (only (is_callers M) (content_at v.slots token)) answer cs r k)
  case_kept v (Dispatch timeout x) (Dispatched answer x') css (inl h) k = rw h.2 k
  case_kept v (Dispatch timeout x) (Dispatched answer x') css (inr h) k = steps_kept v (Beginning (nanos_of timeout) x) (Leaving answer x') css h k
  case_kept v (InsertIdle idle) (IdleInserted (Ok made)) css h k = once_kept v (IdleInsertedBy idle (Ok made)) css h (λ cs r. rw r.2 k)
  case_kept v (InsertIdle idle) (IdleInserted (Err refused)) css h k = once_kept v (IdleInsertedBy idle (Err refused)) css h (λ cs r. rw r.2 k)
  case_kept v (Cancel idle) Cancelled css h k = rw h k
  case_kept v (AnswerOf ticket) (Answered answer) css h k = rw h.1 k
  case_kept v ForgetStop StopForgotten css h k = rw h k
  case_kept v LookForStop (Stopped found) css h k = rw h k
  case_kept v (NewPoller p) (OldPoller q) css h k = rw h.1 k
  case_kept v call answer css h k = absurd h

  run_kept : (calls : List (LoopCall D P X I)) (answers : List (LoopAnswer D P X I)) (csss : List (List (List (Change D I P)))) (w w' : World D I P) → Run M runs O calls answers csss w w' → Tidy nobody (visible w).slots (visible w).held.lifecycle → Tidy nobody (visible w').slots (visible w').held.lifecycle
  run_kept [] [] [] w w' run k = rw run k
  run_kept (call ∷ calls) (answer ∷ answers) (css ∷ csss) w w' run k =
      run_kept calls answers csss (all_traced w css) w' run.1
      (subst (λ (v : View D I P). Tidy nobody v.slots v.held.lifecycle) (sym (seen-all_traced w css)) (case_kept (visible w) call answer css run.0 k))
  run_kept calls answers csss w w' run k = absurd run

  pub run_told : (calls : List (LoopCall D P X I)) (answers : List (LoopAnswer D P X I)) (csss : List (List (List (Change D I P)))) (w w' : World D I P) → IsNew w → Run M runs O calls answers csss w w' → IsTold w'
  run_told calls answers csss w w' new run =
      let first : Tidy nobody (visible w).slots (visible w).held.lifecycle = record { once = rw (ap (λ h. h.lifecycle) new.held) tt; full = λ t is no. (let e : is_listed t w.held.lifecycle ≡ true = is in let f : is_listed t w.held.lifecycle ≡ false = rw (ap (λ h. h.lifecycle) new.held) refl in cc) } in
      let k = run_kept calls answers csss w w' run first in
      record { once = k.once; full = λ t is. k.full t is refl }
