-- Of a dispatch that returns `Ok`: what its watch notes, and that each event of its batch is handed out.
use Rattle.std.specs.List.{Contains, slice_index_or}
use Rattle.std.proofs.lemmas.List.Elements.{Contains-append_left, Contains-append_right}
use Rattle.std.proofs.Common.{◌≡◌, ℕ, zero, suc, length, ◌⊎◌, ◌<◌, List, [], ◌∷◌, ◌++◌, refl, ap, sym, ◌∙◌, subst, arith, None, Option, Result, Ok, Err, Bool, inl, inr, true, false, if◌then◌else◌}
use Rattle.std.specs.declared.io.Error.{Error as Cause}
use Rattle.calloop_slots.specs.declared.error.Error.{Error}
use Rattle.calloop_slots.specs.declared.error.InsertError.{InsertError}
use Rattle.calloop_slots.specs.declared.token.RegistrationToken.{RegistrationToken}
use Rattle.calloop_slots.specs.declared.list.Content.{Content}
use Rattle.calloop_slots.specs.declared.list.Content.TheVariants.{Vacant, Source, InTurn}
use Rattle.calloop_wake.specs.declared.watch.Watch.{Watch}
use Rattle.calloop_wake.specs.declared.notes.Note.{Note}
use Rattle.calloop_wake.specs.declared.notes.Note.TheVariants.{Counted, Looked, Unposted, Marked}
use Rattle.calloop_wake.specs.Watches.{with_note}
use Rattle.calloop_slots.specs.Tokens.{registration_of}
use Rattle.calloop_slots.specs.Slots.{content_at}
use Rattle.calloop_poll.specs.declared.sys.Readiness.{Readiness}
use Rattle.calloop_slots.specs.declared.token.Token.{Token}
use Rattle.calloop_poll.specs.declared.sys.poll.Pending.{Pending}
use Rattle.calloop_sources.specs.declared.sources.source.PostAction.{PostAction}
use Rattle.calloop_sources.specs.declared.sources.source.PostAction.TheVariants.{Continue, Reregister, Disable as DisableIt, Remove}
use Rattle.calloop_poll.specs.sys.Pollers.{Outside}
use Rattle.calloop_poll.specs.sys.Polls.{PollView, PollStep, TakePass, PutBack, Arm, ArmAgain, Cancel, Call, ReadClock, Socket, Fault, poll_after, polls_after, cut_from, with_turn_of, tail_of, head_of, with_pass, posted_event, posted_events, polled_events, timer_events}
use Rattle.calloop_slots.specs.Deadlines.{due}
use Rattle.calloop_poll.specs.sys.Waits.{Interruption, after_looks}
use Rattle.calloop_sources.specs.sources.Deeds.{Lent}
use Rattle.calloop_sources.specs.sources.Meanings.{Meaning}
use Rattle.calloop_loop.specs.declared.asks.Asked.{Asked}
use Rattle.calloop_loop.specs.declared.asks.Idling.{Idling as Waiter}
use Rattle.calloop_loop.specs.declared.asks.Request.{Request}
use Rattle.calloop_loop.specs.declared.asks.Request.TheVariants.{Insert as AskInsert, Enable as AskEnable, Update as AskUpdate, Disable as AskDisable, SetDeadline as AskSetDeadline, Remove as AskRemove, Idle as AskIdle, Cancel as AskCancel}
use Rattle.calloop_loop.specs.Askings.{Asks, Runs}
use Rattle.calloop_loop.specs.Machine.{World, visible, View, Change, Put, Claim, Swapped, Polls, Polling, Watching, Counting, Holds, Appended, Gathered, Cut, Ended, after_change, all_viewed}
use Rattle.calloop_loop.specs.Roles.{only, is_callers, is_adapter}
use Rattle.calloop_loop.specs.Rules.{Doing, Beginning, Settling, Sleeping, Waiting, Gathering, Noticing, Cutting, Serving, Ending, Returning, Idling, RunningIdles, ServingIdle, Leaving, Outcome, Step, Steps, SleptAs, SleptBy, NoticedBy, CutTo, CutFrom, ActedBy, ReturnedTo, vacate, InsertedBy, AskedIn, SettledIn, RemovedIn, OwnOr, Served, ServedAs, ServedFrom, RunFrom, DispatchedBy, action_of, after_turn, after_wait, after_changes, appends, all_traced, Case, Run, Once, EnabledBy, UpdatedBy, DisabledBy, RemovedBy, ReleasedBy, LeftIn, ExchangedBy, ExchangedIn, IdleInsertedBy}
use Rattle.calloop_loop.specs.declared.asks.Idle.{Idle}
use Rattle.calloop_loop.specs.declared.LoopCall.{LoopCall}
use Rattle.calloop_loop.specs.declared.LoopCall.TheVariants.{Insert as CallInsert, Enable as CallEnable, Update as CallUpdate, Disable as CallDisable, Remove as CallRemove, Release, Exchange, Dispatch, InsertIdle, Cancel as CancelIdle, Answer as AnswerOf, ForgetStop, LookForStop, Poller as NewPoller}
use Rattle.calloop_loop.specs.declared.LoopAnswer.{LoopAnswer}
use Rattle.calloop_loop.specs.declared.LoopAnswer.TheVariants.{Inserted, Enabled, Updated, Disabled, Removed, Released, Exchanged, Dispatched, IdleInserted, Cancelled, Answered, StopForgotten, Stopped, Poller as OldPoller}
use Rattle.calloop_loop.proofs.Seen.{seen-all_traced}
use Rattle.calloop_loop.specs.Held.{HeldStep, Begun, Cleared}
use Rattle.calloop_laws.specs.Handed.{IsHandedOut, IsNotedDispatch, looked}

-- Changes of which the watch has no note.

abbrev pub Blind : {D I P : Type 0} → Change D I P → Type 0
Blind (Gathered posted given now) = ⊥
Blind (Watching watch) = ⊥
Blind (Counting places) = ⊥
Blind c = Unit {0}

abbrev pub AllBlind : {D I P : Type 0} → List (Change D I P) → Type 0
AllBlind [] = Unit {0}
AllBlind (c ∷ cs) = Blind c × AllBlind cs

-- and that leave the batch unchanged
abbrev pub Still : {D I P : Type 0} → Change D I P → Type 0
Still (Gathered posted given now) = ⊥
Still (Watching watch) = ⊥
Still (Counting places) = ⊥
Still (Appended event) = ⊥
Still (Cut slot) = ⊥
Still c = Unit {0}

abbrev pub AllStill : {D I P : Type 0} → List (Change D I P) → Type 0
AllStill [] = Unit {0}
AllStill (c ∷ cs) = Still c × AllStill cs

-- or only append events
abbrev pub Joining : {D I P : Type 0} → Change D I P → Type 0
Joining (Gathered posted given now) = ⊥
Joining (Watching watch) = ⊥
Joining (Counting places) = ⊥
Joining (Cut slot) = ⊥
Joining c = Unit {0}

abbrev pub AllJoining : {D I P : Type 0} → List (Change D I P) → Type 0
AllJoining [] = Unit {0}
AllJoining (c ∷ cs) = Joining c × AllJoining cs

still-append : {D I P : Type 0} (cs ds : List (Change D I P)) → AllStill cs → AllStill ds → AllStill (cs ++ ds)
still-append [] ds h k = k
still-append (c ∷ cs) ds h k = (h.0, still-append cs ds h.1 k)

append_assoc : {A : Type 0} (a b c : List A) → (a ++ b) ++ c ≡ a ++ (b ++ c)
append_assoc [] b c = refl
append_assoc (x ∷ xs) b c = rw (append_assoc xs b c) refl

append_nil : {A : Type 0} (a : List A) → a ++ [] ≡ a
append_nil [] = refl
append_nil (x ∷ xs) = rw (append_nil xs) refl

batch_step : {P : Type 0} (p : PollView P) (s : PollStep P) → ((poll_after p s).batch ≡ p.batch) × ((poll_after p s).watch ≡ p.watch) × ((poll_after p s).places ≡ p.places)
batch_step p TakePass = (refl, refl, refl)
batch_step p (PutBack pass) = (refl, refl, refl)
batch_step p (Arm deadline token) = (refl, refl, refl)
batch_step p (ArmAgain counter deadline token) = (refl, refl, refl)
batch_step p (Cancel counter) = (refl, refl, refl)
batch_step p (Call counter deadline) = (refl, refl, refl)
batch_step p (ReadClock now after) = (refl, refl, refl)
batch_step p (Socket edit after) = (refl, refl, refl)
batch_step p (Fault call cause after) = (refl, refl, refl)

batch_steps : {P : Type 0} (p : PollView P) (ss : List (PollStep P)) → ((polls_after p ss).batch ≡ p.batch) × ((polls_after p ss).watch ≡ p.watch) × ((polls_after p ss).places ≡ p.places)
batch_steps p [] = (refl, refl, refl)
batch_steps p (s ∷ ss) =
    let h = batch_steps (poll_after p s) ss in
    let k = batch_step p s in
    (h.0 ∙ k.0, h.1 ∙ k.1, h.2 ∙ k.2)

begun : {P : Type 0} (p : PollView P) (e : Pending) → ((with_turn_of e p).batch ≡ tail_of p.batch) × ((with_turn_of e p).watch ≡ p.watch) × ((with_turn_of e p).places ≡ p.places)
begun {P} p e =
    elim e.posted as (λ b. ((if b then record (with_pass (head_of p.passes) p) { batch = tail_of p.batch; passes = tail_of p.passes } else record (with_pass None p) { batch = tail_of p.batch }).batch ≡ tail_of p.batch) × ((if b then record (with_pass (head_of p.passes) p) { batch = tail_of p.batch; passes = tail_of p.passes } else record (with_pass None p) { batch = tail_of p.batch }).watch ≡ p.watch) × ((if b then record (with_pass (head_of p.passes) p) { batch = tail_of p.batch; passes = tail_of p.passes } else record (with_pass None p) { batch = tail_of p.batch }).places ≡ p.places))
    [ true ↦ (refl, refl, refl) | false ↦ (refl, refl, refl) ]

begun_from : {P : Type 0} (p : PollView P) (es : List Pending) → ((cut_from es p).watch ≡ p.watch) × ((cut_from es p).places ≡ p.places)
begun_from p [] = (refl, refl)
begun_from p (e ∷ es) = (let k = begun p e in (k.1, k.2))

behind_cut : {P : Type 0} (p : PollView P) (e : Pending) (es : List Pending) → p.batch ≡ e ∷ es → (cut_from p.batch p).batch ≡ es
behind_cut {P} p e es is =
    subst (λ (l : List Pending). (cut_from l p).batch ≡ es) (sym is) ((begun p e).0 ∙ ap tail_of is)

blind_still : {D I P : Type 0} (cs : List (Change D I P)) → AllStill cs → AllBlind cs
blind_still [] h = tt
blind_still (Put slot content ∷ cs) h = (tt, blind_still cs h.1)
blind_still (Swapped slot old new ∷ cs) h = (tt, blind_still cs h.1)
blind_still (Claim source ∷ cs) h = (tt, blind_still cs h.1)
blind_still (Polls steps ∷ cs) h = (tt, blind_still cs h.1)
blind_still (Polling poller ∷ cs) h = (tt, blind_still cs h.1)
blind_still (Watching watch ∷ cs) h = absurd h.0
blind_still (Counting places ∷ cs) h = absurd h.0
blind_still (Holds step ∷ cs) h = (tt, blind_still cs h.1)
blind_still (Appended event ∷ cs) h = absurd h.0
blind_still (Gathered posted given now ∷ cs) h = absurd h.0
blind_still (Cut slot ∷ cs) h = absurd h.0
blind_still (Ended ∷ cs) h = (tt, blind_still cs h.1)

still_batch : {D I P : Type 0} (v : View D I P) (cs : List (Change D I P)) → AllStill cs → (all_viewed v cs).poll.batch ≡ v.poll.batch
still_batch v [] h = refl
still_batch v (Put slot content ∷ cs) h = still_batch (after_change v (Put slot content)) cs h.1
still_batch v (Swapped slot old new ∷ cs) h = still_batch (after_change v (Swapped slot old new)) cs h.1
still_batch v (Claim source ∷ cs) h = still_batch (after_change v (Claim source)) cs h.1
still_batch v (Polls steps ∷ cs) h = still_batch (after_change v (Polls steps)) cs h.1 ∙ (batch_steps v.poll steps).0
still_batch v (Polling poller ∷ cs) h = still_batch (after_change v (Polling poller)) cs h.1
still_batch v (Watching watch ∷ cs) h = absurd h.0
still_batch v (Counting places ∷ cs) h = absurd h.0
still_batch v (Holds step ∷ cs) h = still_batch (after_change v (Holds step)) cs h.1
still_batch v (Appended event ∷ cs) h = absurd h.0
still_batch v (Gathered posted given now ∷ cs) h = absurd h.0
still_batch v (Cut slot ∷ cs) h = absurd h.0
still_batch v (Ended ∷ cs) h = still_batch (after_change v Ended) cs h.1

blind_watch : {D I P : Type 0} (v : View D I P) (cs : List (Change D I P)) → AllBlind cs → (all_viewed v cs).poll.watch ≡ v.poll.watch
blind_watch v [] h = refl
blind_watch v (Put slot content ∷ cs) h = blind_watch (after_change v (Put slot content)) cs h.1
blind_watch v (Swapped slot old new ∷ cs) h = blind_watch (after_change v (Swapped slot old new)) cs h.1
blind_watch v (Claim source ∷ cs) h = blind_watch (after_change v (Claim source)) cs h.1
blind_watch v (Polls steps ∷ cs) h = blind_watch (after_change v (Polls steps)) cs h.1 ∙ (batch_steps v.poll steps).1
blind_watch v (Polling poller ∷ cs) h = blind_watch (after_change v (Polling poller)) cs h.1
blind_watch v (Watching watch ∷ cs) h = absurd h.0
blind_watch v (Counting places ∷ cs) h = absurd h.0
blind_watch v (Holds step ∷ cs) h = blind_watch (after_change v (Holds step)) cs h.1
blind_watch v (Appended event ∷ cs) h = blind_watch (after_change v (Appended event)) cs h.1
blind_watch v (Gathered posted given now ∷ cs) h = absurd h.0
blind_watch v (Cut slot ∷ cs) h = blind_watch (after_change v (Cut slot)) cs h.1 ∙ (begun_from v.poll v.poll.batch).0
blind_watch v (Ended ∷ cs) h = blind_watch (after_change v Ended) cs h.1

blind_places : {D I P : Type 0} (v : View D I P) (cs : List (Change D I P)) → AllBlind cs → (all_viewed v cs).poll.places ≡ v.poll.places
blind_places v [] h = refl
blind_places v (Put slot content ∷ cs) h = blind_places (after_change v (Put slot content)) cs h.1
blind_places v (Swapped slot old new ∷ cs) h = blind_places (after_change v (Swapped slot old new)) cs h.1
blind_places v (Claim source ∷ cs) h = blind_places (after_change v (Claim source)) cs h.1
blind_places v (Polls steps ∷ cs) h = blind_places (after_change v (Polls steps)) cs h.1 ∙ (batch_steps v.poll steps).2
blind_places v (Polling poller ∷ cs) h = blind_places (after_change v (Polling poller)) cs h.1
blind_places v (Watching watch ∷ cs) h = absurd h.0
blind_places v (Counting places ∷ cs) h = absurd h.0
blind_places v (Holds step ∷ cs) h = blind_places (after_change v (Holds step)) cs h.1
blind_places v (Appended event ∷ cs) h = blind_places (after_change v (Appended event)) cs h.1
blind_places v (Gathered posted given now ∷ cs) h = absurd h.0
blind_places v (Cut slot ∷ cs) h = blind_places (after_change v (Cut slot)) cs h.1 ∙ (begun_from v.poll v.poll.batch).1
blind_places v (Ended ∷ cs) h = blind_places (after_change v Ended) cs h.1

blind_joining : {D I P : Type 0} (cs : List (Change D I P)) → AllJoining cs → AllBlind cs
blind_joining [] h = tt
blind_joining (Put slot content ∷ cs) h = (tt, blind_joining cs h.1)
blind_joining (Swapped slot old new ∷ cs) h = (tt, blind_joining cs h.1)
blind_joining (Claim source ∷ cs) h = (tt, blind_joining cs h.1)
blind_joining (Polls steps ∷ cs) h = (tt, blind_joining cs h.1)
blind_joining (Polling poller ∷ cs) h = (tt, blind_joining cs h.1)
blind_joining (Watching watch ∷ cs) h = absurd h.0
blind_joining (Counting places ∷ cs) h = absurd h.0
blind_joining (Holds step ∷ cs) h = (tt, blind_joining cs h.1)
blind_joining (Appended event ∷ cs) h = (tt, blind_joining cs h.1)
blind_joining (Gathered posted given now ∷ cs) h = absurd h.0
blind_joining (Cut slot ∷ cs) h = absurd h.0
blind_joining (Ended ∷ cs) h = (tt, blind_joining cs h.1)

still_joining : {D I P : Type 0} (cs : List (Change D I P)) → AllStill cs → AllJoining cs
still_joining [] h = tt
still_joining (Put slot content ∷ cs) h = (tt, still_joining cs h.1)
still_joining (Swapped slot old new ∷ cs) h = (tt, still_joining cs h.1)
still_joining (Claim source ∷ cs) h = (tt, still_joining cs h.1)
still_joining (Polls steps ∷ cs) h = (tt, still_joining cs h.1)
still_joining (Polling poller ∷ cs) h = (tt, still_joining cs h.1)
still_joining (Watching watch ∷ cs) h = absurd h.0
still_joining (Counting places ∷ cs) h = absurd h.0
still_joining (Holds step ∷ cs) h = (tt, still_joining cs h.1)
still_joining (Appended event ∷ cs) h = absurd h.0
still_joining (Gathered posted given now ∷ cs) h = absurd h.0
still_joining (Cut slot ∷ cs) h = absurd h.0
still_joining (Ended ∷ cs) h = (tt, still_joining cs h.1)

joining_batch : {D I P : Type 0} (v : View D I P) (cs : List (Change D I P)) → AllJoining cs → (e : Pending) → Contains v.poll.batch e → Contains (all_viewed v cs).poll.batch e
joining_batch v [] h e there = there
joining_batch v (Put slot content ∷ cs) h e there = joining_batch (after_change v (Put slot content)) cs h.1 e there
joining_batch v (Swapped slot old new ∷ cs) h e there = joining_batch (after_change v (Swapped slot old new)) cs h.1 e there
joining_batch v (Claim source ∷ cs) h e there = joining_batch (after_change v (Claim source)) cs h.1 e there
joining_batch v (Polls steps ∷ cs) h e there = joining_batch (after_change v (Polls steps)) cs h.1 e (subst (λ (l : List Pending). Contains l e) (sym (batch_steps v.poll steps).0) there)
joining_batch v (Polling poller ∷ cs) h e there = joining_batch (after_change v (Polling poller)) cs h.1 e there
joining_batch v (Watching watch ∷ cs) h e there = absurd h.0
joining_batch v (Counting places ∷ cs) h e there = absurd h.0
joining_batch v (Holds step ∷ cs) h e there = joining_batch (after_change v (Holds step)) cs h.1 e there
joining_batch v (Appended event ∷ cs) h e there = joining_batch (after_change v (Appended event)) cs h.1 e (Contains-append_left v.poll.batch (event ∷ []) e there)
joining_batch v (Gathered posted given now ∷ cs) h e there = absurd h.0
joining_batch v (Cut slot ∷ cs) h e there = absurd h.0
joining_batch v (Ended ∷ cs) h e there = joining_batch (after_change v Ended) cs h.1 e there

module _ {D I P X : Type 0} (M : Meaning D P (Lent X (Asks D I))) (runs : Runs D I X) (O : Outside P) where
  -- Each step but a cut leaves the batch unchanged.

  emptied_still : (token : RegistrationToken) (c : Content D) → AllStill (vacate {D = D} {I = I} {P = P} token c)
  emptied_still token Vacant = tt
  emptied_still token (Source d) = tt
  emptied_still token InTurn = (tt, tt)

  acted_still : (v : View D I P) (token : RegistrationToken) (d : D) (answer : Result PostAction Error) (cs : List (Change D I P)) (e : D) (told : Result (Unit {0}) Error) → ActedBy M token d answer v cs e told → AllStill cs
  acted_still v token d (Ok Continue) cs e told h = rw h.0 (tt, tt)
  acted_still v token d (Ok Reregister) cs e told h = rw h.2 (tt, (tt, (tt, tt)))
  acted_still v token d (Ok DisableIt) cs e told h = rw h.2 (tt, (tt, (tt, tt)))
  acted_still v token d (Ok Remove) cs e told h = rw h.0 (tt, emptied_still token (content_at v.slots token))
  acted_still v token d (Err error) cs e told h = rw h.0 (tt, tt)

  returned_still : (v : View D I P) (token : RegistrationToken) (d : D) (c : Content D) (cs : List (Change D I P)) → ReturnedTo M token d c v cs → AllStill cs
  returned_still v token d InTurn cs h = rw h (tt, tt)
  returned_still v token d Vacant cs h = rw h.5 (tt, (tt, (tt, (tt, tt))))
  returned_still v token d (Source f) cs h = rw h.5 (tt, (tt, (tt, (tt, tt))))

  noticed_still : (v : View D I P) (from : ℕ) (token : RegistrationToken) (later : List RegistrationToken) (x : X) (cs : List (Change D I P)) (b : Doing D X) (c : Content D) → NoticedBy M from token later c v x cs b → AllStill cs
  noticed_still v from token later x cs b Vacant h = rw h.0 tt
  noticed_still v from token later x cs b InTurn h = rw h.0 tt
  noticed_still v from token later x cs b (Source d) h = rw h.2 (tt, (tt, (tt, tt)))

  inserted_still : (v : View D I P) (d : D) (answer : Result RegistrationToken (InsertError D)) (cs : List (Change D I P)) → InsertedBy M d answer v cs → AllStill cs
  inserted_still v d (Ok token) cs h = rw h.6 (tt, (tt, (tt, (tt, tt))))
  inserted_still v d (Err refused) cs h = elim h [ inl k ↦ rw k.2 tt | inr k ↦ rw k.4 (tt, (tt, (tt, tt))) ]

  asked_still : (R : D → Outcome → List (PollStep P) → D → Type 0) (noted : D → Outcome → HeldStep D I) → (token : RegistrationToken) (c : Content D) (answer : Outcome) (cs : List (Change D I P)) → AskedIn R noted token c answer cs → AllStill cs
  asked_still R noted token Vacant answer cs h = rw h.1 tt
  asked_still R noted token InTurn answer cs h = rw h.1 tt
  asked_still R noted token (Source d) answer cs h = rw h.3 (tt, (tt, (tt, (tt, tt))))

  removed_still : (v : View D I P) (token : RegistrationToken) (c : Content D) (answer : Option D) (cs : List (Change D I P)) → RemovedIn M token c answer v cs → AllStill cs
  removed_still v token Vacant answer cs h = rw h.1 tt
  removed_still v token InTurn answer cs h = rw h.1 tt
  removed_still v token (Source d) answer cs h = rw h.6 (tt, (tt, (tt, (tt, tt))))

  own_or : {A B G : Type 0} (c : Content D) → (A → G) → (B → G) → OwnOr c A B → G
  own_or InTurn f g h = f h
  own_or Vacant f g h = g h
  own_or (Source d) f g h = g h

  -- a request, and its answer after it
  told_still : (ds cs : List (Change D I P)) (step : HeldStep D I) → cs ≡ ds ++ Holds step ∷ [] → AllStill ds → AllStill cs
  told_still ds cs step is h = rw is (still-append ds (Holds step ∷ []) h (tt, tt))

  served_as_still : (v : View D I P) (request : Request D I) (answer : Outcome) (cs : List (Change D I P)) → ServedAs M request answer v cs → AllStill cs
  served_as_still v (AskEnable token) answer cs h = own_or (content_at v.slots token) (λ k. rw k.1 tt) (λ k. asked_still _ _ token (only (is_callers M) (content_at v.slots token)) answer cs k) h
  served_as_still v (AskUpdate token) answer cs h = own_or (content_at v.slots token) (λ k. rw k.1 (tt, tt)) (λ k. asked_still _ _ token (only (is_callers M) (content_at v.slots token)) answer cs k) h
  served_as_still v (AskDisable token) answer cs h = own_or (content_at v.slots token) (λ k. rw k.1 (tt, tt)) (λ k. asked_still _ _ token (only (is_callers M) (content_at v.slots token)) answer cs k) h
  served_as_still v (AskSetDeadline token deadline) answer cs h = own_or (content_at v.slots token) (λ k. rw k.1 tt) (λ k. asked_still _ _ token (only (is_callers M) (content_at v.slots token)) answer cs k) h
  served_as_still v (AskInsert d) answer cs h = absurd h
  served_as_still v (AskRemove token) answer cs h = absurd h
  served_as_still v (AskIdle idle) answer cs h = absurd h
  served_as_still v (AskCancel ticket) answer cs h = absurd h

  served_still : (v : View D I P) (request : Request D I) (cs : List (Change D I P)) → Served M request v cs → AllStill cs
  served_still v (AskInsert d) cs h = told_still h.1 cs _ h.3 (inserted_still v d h.0 h.1 h.2)
  served_still v (AskEnable token) cs h = told_still h.1 cs _ h.3 (served_as_still v (AskEnable token) h.0 h.1 h.2)
  served_still v (AskUpdate token) cs h = told_still h.1 cs _ h.3 (served_as_still v (AskUpdate token) h.0 h.1 h.2)
  served_still v (AskDisable token) cs h = told_still h.1 cs _ h.3 (served_as_still v (AskDisable token) h.0 h.1 h.2)
  served_still v (AskSetDeadline token deadline) cs h = told_still h.1 cs _ h.3 (served_as_still v (AskSetDeadline token deadline) h.0 h.1 h.2)
  served_still v (AskRemove token) cs h =
      own_or (content_at v.slots token) (λ k. rw k (tt, (tt, (tt, tt)))) (λ k. told_still k.1 cs _ k.3 (removed_still v token (only (is_callers M) (content_at v.slots token)) k.0 k.1 k.2)) h
  served_still v (AskIdle idle) cs h = rw h (tt, tt)
  served_still v (AskCancel ticket) cs h = rw h (tt, (tt, tt))

  served_from_still : (v : View D I P) (asked : List (Asked D I)) (on next b : Doing D X) (cs : List (Change D I P)) → ServedFrom M asked on next b v cs → AllStill cs
  served_from_still v [] on next b cs h = rw h.0 tt
  served_from_still v (a ∷ as') on next b cs h = rw h.2 (tt, served_still (after_change v (Holds Begun)) a.request h.0 h.1)

  run_from_still : (v : View D I P) (idles : List (Waiter I)) (x : X) (cs : List (Change D I P)) (b : Doing D X) → RunFrom runs idles v x cs b → AllStill cs
  run_from_still v [] x cs b h = rw h.0 tt
  run_from_still v (i ∷ is) x cs b h = rw h.3 (tt, (tt, tt))

  -- A cut hands out the first event.

  cut_blind : (v : View D I P) (e : Pending) (x : X) (cs : List (Change D I P)) (b : Doing D X) (c : Content D) → CutTo M e c v x cs b → AllBlind cs
  cut_blind v e x cs b Vacant h = rw h.0 (tt, (tt, tt))
  cut_blind v e x cs b InTurn h = rw h.0 (tt, (tt, tt))
  cut_blind v e x cs b (Source d) h = rw h.6 (tt, (tt, (tt, (tt, (tt, tt)))))

  cut_rest : (v : View D I P) (e : Pending) (es : List Pending) (x : X) (cs : List (Change D I P)) (b : Doing D X) (c : Content D) → v.poll.batch ≡ e ∷ es → CutTo M e c v x cs b → (all_viewed v cs).poll.batch ≡ es
  cut_rest v e es x cs b Vacant is h = rw h.0 (behind_cut v.poll e es is)
  cut_rest v e es x cs b InTurn is h = rw h.0 (behind_cut v.poll e es is)
  cut_rest v e es x cs b (Source d) is h = rw h.6 ((batch_steps (cut_from v.poll.batch v.poll) h.2).0 ∙ behind_cut v.poll e es is)

  from_blind : (v : View D I P) (es : List Pending) (x : X) (cs : List (Change D I P)) (b : Doing D X) → CutFrom M es v x cs b → AllBlind cs
  from_blind v [] x cs b h = rw h.0 tt
  from_blind v (e ∷ es) x cs b h = cut_blind v e x cs b (content_at v.slots (registration_of e.token)) h

  -- what the loop does after the gathering
  abbrev IsBehind : Doing D X → Type 0
  IsBehind (Beginning timeout x) = ⊥
  IsBehind (Settling timeout later x) = ⊥
  IsBehind (Sleeping timeout later x) = ⊥
  IsBehind (Waiting timeout x) = ⊥
  IsBehind (Gathering now given x) = ⊥
  IsBehind a = Unit {0}

  -- once the batch was cut, it is empty
  abbrev IsEmptied : View D I P → Doing D X → Type 0
  IsEmptied v (Idling x) = v.poll.batch ≡ []
  IsEmptied v (RunningIdles x) = v.poll.batch ≡ []
  IsEmptied v (ServingIdle x) = v.poll.batch ≡ []
  IsEmptied v (Leaving (Ok u) x) = v.poll.batch ≡ []
  IsEmptied v a = Unit {0}

  -- this step hands the event out
  record HandsOut (v : View D I P) (cs : List (Change D I P)) (e : Pending) : Type 0 where
    others : List Pending
    first : v.poll.batch ≡ e ∷ others
    x : X
    next : Doing D X
    cut : CutTo M e (content_at v.slots (registration_of e.token)) v x cs next

  -- a step after the gathering
  record GoesOn (v : View D I P) (cs : List (Change D I P)) (b : Doing D X) : Type 0 where
    blind : AllBlind cs
    late : IsBehind b
    emptied : IsEmptied (all_viewed v cs) b
    kept : (e : Pending) → Contains v.poll.batch e → HandsOut v cs e ⊎ Contains (all_viewed v cs).poll.batch e

  in_at : (f : Pending) (fs : List Pending) (y : Pending) (k : ℕ) → k < length (f ∷ fs) → slice_index_or (f ∷ fs) k y ≡ y → (f ≡ y) ⊎ Contains fs y
  in_at f fs y zero lt is = inl is
  in_at f fs y (suc k) lt is = inr (k, omega (arith, lt), is)

  in_cons : (f : Pending) (fs : List Pending) (y : Pending) → Contains (f ∷ fs) y → (f ≡ y) ⊎ Contains fs y
  in_cons f fs y h = in_at f fs y h.0 h.1 h.2

  from_kept : (v : View D I P) (es : List Pending) (x : X) (cs : List (Change D I P)) (b : Doing D X) → v.poll.batch ≡ es → CutFrom M es v x cs b → (e : Pending) → Contains es e → HandsOut v cs e ⊎ Contains (all_viewed v cs).poll.batch e
  from_kept v [] x cs b is h e there = absurd (omega (arith, there.1))
  from_kept v (f ∷ fs) x cs b is h e there =
      elim (in_cons f fs e there) [
        | inl same ↦ inl (subst (λ (y : Pending). HandsOut v cs y) same (record { others = fs; first = is; x = x; next = b; cut = h }))
        | inr k ↦ inr (subst (λ (l : List Pending). Contains l e) (sym (cut_rest v f fs x cs b (content_at v.slots (registration_of f.token)) is h)) k)
      ]

  still_kept : (v : View D I P) (cs : List (Change D I P)) → AllStill cs → (e : Pending) → Contains v.poll.batch e → HandsOut v cs e ⊎ Contains (all_viewed v cs).poll.batch e
  still_kept v cs s e there = inr (subst (λ (l : List Pending). Contains l e) (sym (still_batch v cs s)) there)

  noticed_on : (v : View D I P) (from : ℕ) (token : RegistrationToken) (later : List RegistrationToken) (x : X) (cs : List (Change D I P)) (b : Doing D X) (c : Content D) → NoticedBy M from token later c v x cs b → b ≡ Noticing from later x
  noticed_on v from token later x cs b Vacant h = h.1
  noticed_on v from token later x cs b InTurn h = h.1
  noticed_on v from token later x cs b (Source d) h = h.3

  cut_on : (v u : View D I P) (e : Pending) (x : X) (cs : List (Change D I P)) (b : Doing D X) (c : Content D) → CutTo M e c v x cs b → IsBehind b × IsEmptied u b
  cut_on v u e x cs b Vacant h = rw h.1 (tt, tt)
  cut_on v u e x cs b InTurn h = rw h.1 (tt, tt)
  cut_on v u e x cs b (Source d) h = rw h.7 (tt, tt)

  from_on : (v : View D I P) (es : List Pending) (x : X) (cs : List (Change D I P)) (b : Doing D X) → v.poll.batch ≡ es → CutFrom M es v x cs b → IsBehind b × IsEmptied (all_viewed v cs) b
  from_on v [] x cs b is h = rw (h.1, h.0) (tt, is)
  from_on v (e ∷ es) x cs b is h = cut_on v (all_viewed v cs) e x cs b (content_at v.slots (registration_of e.token)) h

  returned_on : (u : View D I P) (told : Outcome) (x : X) → IsBehind (after_turn told x) × IsEmptied u (after_turn told x)
  returned_on u (Ok t) x = (tt, tt)
  returned_on u (Err e) x = (tt, tt)

  serving_on : (v u : View D I P) (asked : List (Asked D I)) (token : RegistrationToken) (d : D) (answer : Result PostAction Error) (x : X) (b : Doing D X) (cs : List (Change D I P)) → ServedFrom M asked (Serving token d answer x) (Ending token d answer x) b v cs → IsBehind b × IsEmptied u b
  serving_on v u [] token d answer x b cs h = rw h.1 (tt, tt)
  serving_on v u (a ∷ as') token d answer x b cs h = rw h.3 (tt, tt)

  idle_on : (v u : View D I P) (asked : List (Asked D I)) (x : X) (b : Doing D X) (cs : List (Change D I P)) → u.poll.batch ≡ [] → ServedFrom M asked (ServingIdle x) (RunningIdles x) b v cs → IsBehind b × IsEmptied u b
  idle_on v u [] x b cs is h = rw h.1 (tt, is)
  idle_on v u (a ∷ as') x b cs is h = rw h.3 (tt, is)

  run_on : (v u : View D I P) (idles : List (Waiter I)) (x : X) (cs : List (Change D I P)) (b : Doing D X) → u.poll.batch ≡ [] → RunFrom runs idles v x cs b → IsBehind b × IsEmptied u b
  run_on v u [] x cs b is h = rw h.1 (tt, is)
  run_on v u (i ∷ idles) x cs b is h = rw h.4 (tt, is)

  still_on : (v : View D I P) (cs : List (Change D I P)) (b : Doing D X) → AllStill cs → IsBehind b × IsEmptied (all_viewed v cs) b → GoesOn v cs b
  still_on v cs b s k = record { blind = blind_still cs s; late = k.0; emptied = k.1; kept = still_kept v cs s }

  goes_on : (v : View D I P) (a b : Doing D X) (cs : List (Change D I P)) → IsBehind a → IsEmptied v a → Step M runs O v a cs b → GoesOn v cs b
  goes_on v (Beginning timeout x) b cs late none h = absurd late
  goes_on v (Settling timeout later x) b cs late none h = absurd late
  goes_on v (Sleeping timeout later x) b cs late none h = absurd late
  goes_on v (Waiting timeout x) b cs late none h = absurd late
  goes_on v (Gathering now given x) b cs late none h = absurd late
  goes_on v (Noticing from [] x) b cs late none h = still_on v cs b (rw h.0 tt) (rw h.1 (tt, tt))
  goes_on v (Noticing from (t ∷ later) x) b cs late none h =
      let is = noticed_on v from t later x cs b (content_at v.slots t) h in
      still_on v cs b (noticed_still v from t later x cs b (content_at v.slots t) h) (rw is (tt, tt))
  goes_on v (Cutting x) b cs late none h =
      let k = from_on v v.poll.batch x cs b refl h in
      record { blind = from_blind v v.poll.batch x cs b h; late = k.0; emptied = k.1; kept = from_kept v v.poll.batch x cs b refl h }
  goes_on v (Serving token d answer x) b cs late none h =
      still_on v cs b (served_from_still v v.held.asks.written _ _ b cs h) (serving_on v (all_viewed v cs) v.held.asks.written token d answer x b cs h)
  goes_on v (Ending token d answer x) b cs late none h =
      still_on v cs b (acted_still v token d (action_of answer v.held.pending) cs h.0 h.1 h.2) (rw h.3 (tt, tt))
  goes_on v (Returning token d told x) b cs late none h =
      still_on v cs b (returned_still v token d (content_at v.slots token) cs h.0) (rw h.1 (returned_on (all_viewed v cs) told x))
  goes_on v (Idling x) b cs late none h = still_on v cs b (rw h.0 (tt, tt)) (rw (h.1, h.0) (tt, none))
  goes_on v (RunningIdles x) b cs late none h =
      let s = run_from_still v v.held.asks.running x cs b h in
      still_on v cs b s (run_on v (all_viewed v cs) v.held.asks.running x cs b (still_batch v cs s ∙ none) h)
  goes_on v (ServingIdle x) b cs late none h =
      let s = served_from_still v v.held.asks.written _ _ b cs h in
      still_on v cs b s (idle_on v (all_viewed v cs) v.held.asks.written x b cs (still_batch v cs s ∙ none) h)
  goes_on v (Leaving answer x) b cs late none h = absurd h

  handed_later : (v : View D I P) (cs : List (Change D I P)) (css : List (List (Change D I P))) (e : Pending) → IsHandedOut M (all_viewed v cs) css e → IsHandedOut M v (cs ∷ css) e
  handed_later v cs css e f =
      record {
        ahead = cs ∷ f.ahead;
        changes = f.changes;
        behind = f.behind;
        is = ap (λ (l : List (List (Change D I P))). cs ∷ l) f.is;
        others = f.others;
        first = f.first;
        x = f.x;
        next = f.next;
        cut = f.cut;
      }

  -- each event that waits after the gathering is handed out
  all_handed : (v : View D I P) (a : Doing D X) (x' : X) (css : List (List (Change D I P))) → IsBehind a → IsEmptied v a → Steps M runs O v a css (Leaving (Ok tt) x') → (e : Pending) → Contains v.poll.batch e → IsHandedOut M v css e
  all_handed v a x' [] late none h e there =
      let empty : v.poll.batch ≡ [] = subst (λ (b : Doing D X). IsEmptied v b) (sym h) none in
      let gone = subst (λ (l : List Pending). Contains l e) empty there in
      absurd (omega (arith, gone.1))
  all_handed v a x' (cs ∷ css) late none h e there =
      let k = goes_on v a h.0 cs late none h.1 in
      elim (k.kept e there) [
        | inl g ↦ record { ahead = []; changes = cs; behind = css; is = refl; others = g.others; first = g.first; x = g.x; next = g.next; cut = g.cut }
        | inr t ↦ handed_later v cs css e (all_handed (all_viewed v cs) h.0 x' css k.late k.emptied h.3 e t)
      ]

  -- and nothing more is noted
  late_watch : (v : View D I P) (a b : Doing D X) (css : List (List (Change D I P))) → IsBehind a → IsEmptied v a → Steps M runs O v a css b → (after_changes v css).poll.watch ≡ v.poll.watch
  late_watch v a b [] late none h = refl
  late_watch v a b (cs ∷ css) late none h =
      let k = goes_on v a h.0 cs late none h.1 in
      late_watch (all_viewed v cs) h.0 b css k.late k.emptied h.3 ∙ blind_watch v cs k.blind

  -- Before the gathering.

  settled_joining : (v : View D I P) (token : RegistrationToken) (c : Content D) (cs : List (Change D I P)) → SettledIn M token c v cs → AllJoining cs
  settled_joining v token Vacant cs h = rw h tt
  settled_joining v token InTurn cs h = rw h tt
  settled_joining v token (Source d) cs (inl h) = (let e = h.3 in rw e (tt, (tt, (tt, (tt, tt)))))
  settled_joining v token (Source d) cs (inr h) = (let e = h.1.6 in rw e (tt, (tt, (tt, (tt, tt)))))

  abbrev IsEarly : Doing D X → Type 0
  IsEarly (Settling timeout later x) = Unit {0}
  IsEarly (Sleeping timeout later x) = Unit {0}
  IsEarly (Waiting timeout x) = Unit {0}
  IsEarly (Gathering now given x) = Unit {0}
  IsEarly (Leaving (Err e) x) = Unit {0}
  IsEarly a = ⊥

  appends_joining : (given : List (Readiness × Token)) → AllJoining {D = D} {I = I} {P = P} (appends given)
  appends_joining [] = tt
  appends_joining (e ∷ es) = (tt, appends_joining es)

  slept_as_joining : (timeout : Option ℕ) (later : List RegistrationToken) (given : List (Readiness × Token)) (answer : Outcome) (x : X) (cs : List (Change D I P)) (b : Doing D X) → SleptAs timeout later given answer x cs b → AllJoining cs × IsEarly b
  slept_as_joining timeout later given (Ok u) x cs b h = (rw h.0 (appends_joining given), rw h.1 tt)
  slept_as_joining timeout later given (Err e) x cs b h = (rw h.0 tt, rw h.1 tt)

  slept_joining : (v : View D I P) (timeout : Option ℕ) (token : RegistrationToken) (later : List RegistrationToken) (x : X) (cs : List (Change D I P)) (b : Doing D X) (c : Content D) → SleptBy M timeout token later c v x cs b → AllJoining cs × IsEarly b
  slept_joining v timeout token later x cs b Vacant h = (rw h.0 tt, rw h.1 tt)
  slept_joining v timeout token later x cs b InTurn h = (rw h.0 tt, rw h.1 tt)
  slept_joining v timeout token later x cs b (Source d) h =
      let k = slept_as_joining timeout later h.1 h.2 x h.3 b h.5 in
      (rw h.6 (tt, (tt, (tt, k.0))), k.1)

  waited_early : (answer : Result ℕ Cause) (given : List (ℕ × Readiness)) (x : X) → IsEarly (after_wait answer given x)
  waited_early (Ok now) given x = tt
  waited_early (Err cause) given x = tt

  -- what is noted from here up to the taking, and that what it took is handed out
  record IsNoted (v : View D I P) (css : List (List (Change D I P))) : Type 0 where
    looks : List Bool
    keys : List ℕ
    notes : (after_changes v css).poll.watch.notes ≡ v.poll.watch.notes ++ (looked looks ++ Unposted v.poll.places keys ∷ [])
    handed : (k : ℕ) → Contains keys k → IsHandedOut M v css (posted_event k)
    left_over : (e : Pending) → Contains v.poll.batch e → IsHandedOut M v css e

  noted_joining : (v : View D I P) (cs : List (Change D I P)) (css : List (List (Change D I P))) → AllJoining cs → IsNoted (all_viewed v cs) css → IsNoted v (cs ∷ css)
  noted_joining v cs css j f =
      let b = blind_joining cs j in
      record {
        looks = f.looks;
        keys = f.keys;
        notes =
            subst (λ (n : ℕ). (after_changes (all_viewed v cs) css).poll.watch.notes ≡ v.poll.watch.notes ++ (looked f.looks ++ Unposted n f.keys ∷ [])) (blind_places v cs b)
            (subst (λ (w : Watch). (after_changes (all_viewed v cs) css).poll.watch.notes ≡ w.notes ++ (looked f.looks ++ Unposted (all_viewed v cs).poll.places f.keys ∷ [])) (blind_watch v cs b) f.notes);
        handed = λ k there. handed_later v cs css (posted_event k) (f.handed k there);
        left_over = λ e there. handed_later v cs css e (f.left_over e (joining_batch v cs j e there));
      }

  abbrev found_in : List (Interruption P) → List Bool
  found_in [] = []
  found_in (i ∷ is) = i.posted ∷ found_in is

  looks_notes : (is : List (Interruption P)) (w : Watch) → (after_looks is w).notes ≡ w.notes ++ looked (found_in is)
  looks_notes [] w = sym (append_nil w.notes)
  looks_notes (i ∷ is) w = looks_notes is (with_note (Looked i.posted) w) ∙ append_assoc w.notes (Looked i.posted ∷ []) (looked (found_in is))

  looked_append : (a b : List Bool) (rest : List Note) → looked (a ++ b) ++ rest ≡ looked a ++ (looked b ++ rest)
  looked_append [] b rest = refl
  looked_append (x ∷ xs) b rest = ap (λ (l : List Note). Looked x ∷ l) (looked_append xs b rest)

  noted_wait : (v : View D I P) (p : P) (posted : Bool) (is : List (Interruption P)) (w : Watch) (css : List (List (Change D I P))) → w ≡ after_looks is (with_note (Looked posted) v.poll.watch)
      → IsNoted (all_viewed v (Polling p ∷ Watching w ∷ [])) css → IsNoted v ((Polling p ∷ Watching w ∷ []) ∷ css)
  noted_wait v p posted is w css at f =
      record {
        looks = (posted ∷ found_in is) ++ f.looks;
        keys = f.keys;
        notes =
            (let tail = looked f.looks ++ Unposted v.poll.places f.keys ∷ [] in
            let ns : w.notes ≡ v.poll.watch.notes ++ looked (posted ∷ found_in is) =
            ap (λ (u : Watch). u.notes) at ∙ looks_notes is (with_note (Looked posted) v.poll.watch) ∙ append_assoc v.poll.watch.notes (Looked posted ∷ []) (looked (found_in is)) in
            f.notes ∙ ap (λ (l : List Note). l ++ tail) ns ∙ append_assoc v.poll.watch.notes (looked (posted ∷ found_in is)) tail
            ∙ ap (λ (l : List Note). v.poll.watch.notes ++ l) (sym (looked_append (posted ∷ found_in is) f.looks (Unposted v.poll.places f.keys ∷ []))));
        handed = λ k there. handed_later v (Polling p ∷ Watching w ∷ []) css (posted_event k) (f.handed k there);
        left_over = λ e there. handed_later v (Polling p ∷ Watching w ∷ []) css e (f.left_over e there);
      }

  key_at : (f : ℕ) (fs : List ℕ) (y : ℕ) (k : ℕ) → k < length (f ∷ fs) → slice_index_or (f ∷ fs) k y ≡ y → (f ≡ y) ⊎ Contains fs y
  key_at f fs y zero lt is = inl is
  key_at f fs y (suc k) lt is = inr (k, omega (arith, lt), is)

  posted_there : (ks : List ℕ) (k : ℕ) → Contains ks k → Contains (posted_events ks) (posted_event k)
  posted_there [] k h = absurd (omega (arith, h.1))
  posted_there (j ∷ js) k h =
      elim (key_at j js k h.0 h.1 h.2) [
        | inl same ↦ (0, omega arith, ap posted_event same)
        | inr r ↦ Contains-append_right (posted_event j ∷ []) (posted_events js) (posted_event k) (posted_there js k r)
      ]

  noted_gathering : (v : View D I P) (posted : List ℕ) (given : List (ℕ × Readiness)) (now from : ℕ) (later : List RegistrationToken) (x x' : X) (css : List (List (Change D I P)))
      → Steps M runs O (after_change v (Gathered posted given now)) (Noticing from later x) css (Leaving (Ok tt) x') → IsNoted v ((Gathered posted given now ∷ []) ∷ css)
  noted_gathering v posted given now from later x x' css h =
      let u = after_change v (Gathered posted given now) in
      record {
        looks = [];
        keys = posted;
        notes = ap (λ (w : Watch). w.notes) (late_watch u (Noticing from later x) (Leaving (Ok tt) x') css tt tt h);
        handed = λ k there.
            handed_later v (Gathered posted given now ∷ []) css (posted_event k)
            (all_handed u (Noticing from later x) x' css tt tt h (posted_event k)
            (Contains-append_left ((v.poll.batch ++ posted_events posted) ++ polled_events given) (timer_events (due now v.poll.deadlines.entries)) (posted_event k)
            (Contains-append_left (v.poll.batch ++ posted_events posted) (polled_events given) (posted_event k)
            (Contains-append_right v.poll.batch (posted_events posted) (posted_event k) (posted_there posted k there)))));
        left_over = λ e there.
            handed_later v (Gathered posted given now ∷ []) css e
            (all_handed u (Noticing from later x) x' css tt tt h e
            (Contains-append_left ((v.poll.batch ++ posted_events posted) ++ polled_events given) (timer_events (due now v.poll.deadlines.entries)) e
            (Contains-append_left (v.poll.batch ++ posted_events posted) (polled_events given) e
            (Contains-append_left v.poll.batch (posted_events posted) e there))));
      }

  is_noted : (v : View D I P) (a : Doing D X) (x' : X) (css : List (List (Change D I P))) → IsEarly a → Steps M runs O v a css (Leaving (Ok tt) x') → IsNoted v css
  is_noted v (Settling timeout later x) x' [] early h = cc
  is_noted v (Sleeping timeout later x) x' [] early h = cc
  is_noted v (Waiting timeout x) x' [] early h = cc
  is_noted v (Gathering now given x) x' [] early h = cc
  is_noted v (Leaving (Err e) x) x' [] early h = cc
  is_noted v (Settling timeout [] x) x' (cs ∷ css) early h =
      noted_joining v cs css (let s = h.1 in rw s.0 tt) (is_noted (all_viewed v cs) h.0 x' css (let s = h.1 in rw s.1 tt) h.3)
  is_noted v (Settling timeout (t ∷ later) x) x' (cs ∷ css) early h =
      noted_joining v cs css (settled_joining v t (only (is_adapter M) (content_at v.slots t)) cs h.1.0) (is_noted (all_viewed v cs) h.0 x' css (let s = h.1 in rw s.1 tt) h.3)
  is_noted v (Sleeping timeout [] x) x' (cs ∷ css) early h =
      noted_joining v cs css (let s = h.1 in rw s.0 tt) (is_noted (all_viewed v cs) h.0 x' css (let s = h.1 in rw s.1 tt) h.3)
  is_noted v (Sleeping timeout (t ∷ later) x) x' (cs ∷ css) early h =
      let k = slept_joining v timeout t later x cs h.0 (content_at v.slots t) h.1 in
      noted_joining v cs css k.0 (is_noted (all_viewed v cs) h.0 x' css k.1 h.3)
  is_noted v (Waiting timeout x) x' (cs ∷ css) early h =
      let s = h.1 in
      let f = is_noted (all_viewed v cs) h.0 x' css (rw s.6 (waited_early s.0 s.1 x)) h.3 in
      subst (λ (ds : List (Change D I P)). IsNoted v (ds ∷ css)) (sym s.5)
      (noted_wait v s.2 s.4.3 s.4.4 s.3 css s.4.6 (subst (λ (ds : List (Change D I P)). IsNoted (all_viewed v ds) css) s.5 f))
  is_noted v (Gathering now given x) x' (cs ∷ css) early h =
      let s = h.1 in
      let from = subst (λ (ds : List (Change D I P)). Steps M runs O (all_viewed v ds) h.0 css (Leaving (Ok tt) x')) s.1 h.3 in
      let there = subst (λ (c : Doing D X). Steps M runs O (after_change v (Gathered s.0 given now)) c css (Leaving (Ok tt) x')) s.2 from in
      subst (λ (ds : List (Change D I P)). IsNoted v (ds ∷ css)) (sym s.1) (noted_gathering v s.0 given now _ _ x x' css there)
  is_noted v (Leaving (Err e) x) x' (cs ∷ css) early h = absurd h.1
  is_noted v (Leaving (Ok u) x) x' css early h = absurd early
  is_noted v (Beginning timeout x) x' css early h = absurd early
  is_noted v (Noticing from later x) x' css early h = absurd early
  is_noted v (Cutting x) x' css early h = absurd early
  is_noted v (Serving token d answer x) x' css early h = absurd early
  is_noted v (Ending token d answer x) x' css early h = absurd early
  is_noted v (Returning token d told x) x' css early h = absurd early
  is_noted v (Idling x) x' css early h = absurd early
  is_noted v (RunningIdles x) x' css early h = absurd early
  is_noted v (ServingIdle x) x' css early h = absurd early

  noted_beginning : (v : View D I P) (places : ℕ) (taken : List RegistrationToken) (css : List (List (Change D I P)))
      → IsNoted (all_viewed v (Counting places ∷ Holds Cleared ∷ Watching (with_note (Marked taken) (with_note (Counted places) v.poll.watch)) ∷ [])) css
      → IsNotedDispatch M v ((Counting places ∷ Holds Cleared ∷ Watching (with_note (Marked taken) (with_note (Counted places) v.poll.watch)) ∷ []) ∷ css)
  noted_beginning v places taken css f =
      record {
        places = places;
        marks = taken;
        looks = f.looks;
        keys = f.keys;
        notes =
            (let tail = looked f.looks ++ Unposted places f.keys ∷ [] in
            f.notes ∙ append_assoc (v.poll.watch.notes ++ Counted places ∷ []) (Marked taken ∷ []) tail ∙ append_assoc v.poll.watch.notes (Counted places ∷ []) (Marked taken ∷ tail));
        handed_out = λ k there. handed_later v (Counting places ∷ Holds Cleared ∷ Watching (with_note (Marked taken) (with_note (Counted places) v.poll.watch)) ∷ []) css (posted_event k) (f.handed k there);
        left_over = λ e there. handed_later v (Counting places ∷ Holds Cleared ∷ Watching (with_note (Marked taken) (with_note (Counted places) v.poll.watch)) ∷ []) css e (f.left_over e there);
      }

  begun_noted : (timeout : Option ℕ) (x x' : X) (v : View D I P) (css : List (List (Change D I P))) → Steps M runs O v (Beginning timeout x) css (Leaving (Ok tt) x') → IsNotedDispatch M v css
  begun_noted timeout x x' v [] h = cc
  begun_noted timeout x x' v (cs ∷ css) h =
      let s = h.1 in
      let f = is_noted (all_viewed v cs) h.0 x' css (rw s.5 tt) h.3 in
      subst (λ (ds : List (Change D I P)). IsNotedDispatch M v (ds ∷ css)) (sym s.4)
      (noted_beginning v s.0 s.2 css (subst (λ (ds : List (Change D I P)). IsNoted (all_viewed v ds) css) s.4 f))

  pub noted : (timeout : Option ℕ) (x x' : X) (v : View D I P) (css : List (List (Change D I P))) → DispatchedBy M runs O timeout x (Ok tt) x' v css → IsNotedDispatch M v css
  noted timeout x x' v css (inl h) = (let e = h.0 in cc)
  noted timeout x x' v css (inr h) = begun_noted timeout x x' v css h

  -- Over a run, notes are added alone.

  record NotesMore (v u : View D I P) : Type 0 where
    pub more : List Note
    pub are : u.poll.watch.notes ≡ v.poll.watch.notes ++ more

  more_blind : (v : View D I P) (cs : List (Change D I P)) → AllBlind cs → NotesMore v (all_viewed v cs)
  more_blind v cs b = record { more = []; are = ap (λ (w : Watch). w.notes) (blind_watch v cs b) ∙ sym (append_nil v.poll.watch.notes) }

  more_still : (v : View D I P) (cs : List (Change D I P)) → AllStill cs → NotesMore v (all_viewed v cs)
  more_still v cs s = more_blind v cs (blind_still cs s)

  more_both : (v u t : View D I P) → NotesMore v u → NotesMore u t → NotesMore v t
  more_both v u t m k = record { more = m.more ++ k.more; are = k.are ∙ ap (λ (l : List Note). l ++ k.more) m.are ∙ append_assoc v.poll.watch.notes m.more k.more }

  more_begun : (v : View D I P) (places : ℕ) (taken : List RegistrationToken) → NotesMore v (all_viewed v (Counting places ∷ Holds Cleared ∷ Watching (with_note (Marked taken) (with_note (Counted places) v.poll.watch)) ∷ []))
  more_begun v places taken = record { more = Counted places ∷ Marked taken ∷ []; are = append_assoc v.poll.watch.notes (Counted places ∷ []) (Marked taken ∷ []) }

  more_waited : (v : View D I P) (p : P) (posted : Bool) (is : List (Interruption P)) (w : Watch) → w ≡ after_looks is (with_note (Looked posted) v.poll.watch) → NotesMore v (all_viewed v (Polling p ∷ Watching w ∷ []))
  more_waited v p posted is w at =
      record {
        more = looked (posted ∷ found_in is);
        are = ap (λ (u : Watch). u.notes) at ∙ looks_notes is (with_note (Looked posted) v.poll.watch) ∙ append_assoc v.poll.watch.notes (Looked posted ∷ []) (looked (found_in is));
      }

  more_gathered : (v : View D I P) (posted : List ℕ) (given : List (ℕ × Readiness)) (now : ℕ) → NotesMore v (all_viewed v (Gathered posted given now ∷ []))
  more_gathered v posted given now = record { more = Unposted v.poll.places posted ∷ []; are = refl }

  step_more : (v : View D I P) (a b : Doing D X) (cs : List (Change D I P)) → Step M runs O v a cs b → NotesMore v (all_viewed v cs)
  step_more v (Beginning timeout x) b cs h = subst (λ (ds : List (Change D I P)). NotesMore v (all_viewed v ds)) (sym h.4) (more_begun v h.0 h.2)
  step_more v (Settling timeout [] x) b cs h = more_still v cs (rw h.0 tt)
  step_more v (Settling timeout (t ∷ later) x) b cs h = more_blind v cs (blind_joining cs (settled_joining v t (only (is_adapter M) (content_at v.slots t)) cs h.0))
  step_more v (Sleeping timeout [] x) b cs h = more_still v cs (rw h.0 tt)
  step_more v (Sleeping timeout (t ∷ later) x) b cs h = more_blind v cs (blind_joining cs (slept_joining v timeout t later x cs b (content_at v.slots t) h).0)
  step_more v (Waiting timeout x) b cs h = subst (λ (ds : List (Change D I P)). NotesMore v (all_viewed v ds)) (sym h.5) (more_waited v h.2 h.4.3 h.4.4 h.3 h.4.6)
  step_more v (Gathering now given x) b cs h = subst (λ (ds : List (Change D I P)). NotesMore v (all_viewed v ds)) (sym h.1) (more_gathered v h.0 given now)
  step_more v (Noticing from [] x) b cs h = more_still v cs (rw h.0 tt)
  step_more v (Noticing from (t ∷ later) x) b cs h = more_still v cs (noticed_still v from t later x cs b (content_at v.slots t) h)
  step_more v (Cutting x) b cs h = more_blind v cs (from_blind v v.poll.batch x cs b h)
  step_more v (Serving token d answer x) b cs h = more_still v cs (served_from_still v v.held.asks.written _ _ b cs h)
  step_more v (Ending token d answer x) b cs h = more_still v cs (acted_still v token d (action_of answer v.held.pending) cs h.0 h.1 h.2)
  step_more v (Returning token d told x) b cs h = more_still v cs (returned_still v token d (content_at v.slots token) cs h.0)
  step_more v (Idling x) b cs h = more_still v cs (rw h.0 (tt, tt))
  step_more v (RunningIdles x) b cs h = more_still v cs (run_from_still v v.held.asks.running x cs b h)
  step_more v (ServingIdle x) b cs h = more_still v cs (served_from_still v v.held.asks.written _ _ b cs h)
  step_more v (Leaving answer x) b cs h = absurd h

  steps_more : (v : View D I P) (a b : Doing D X) (css : List (List (Change D I P))) → Steps M runs O v a css b → NotesMore v (after_changes v css)
  steps_more v a b [] h = more_still v [] tt
  steps_more v a b (cs ∷ css) h = more_both v (all_viewed v cs) (after_changes (all_viewed v cs) css) (step_more v a h.0 cs h.1) (steps_more (all_viewed v cs) h.0 b css h.3)

  left_still : (v : View D I P) (token : RegistrationToken) (c : Content D) (cs : List (Change D I P)) → LeftIn M token c v cs → AllStill cs
  left_still v token Vacant cs h = absurd h
  left_still v token InTurn cs h = absurd h
  left_still v token (Source d) cs h = rw h.3 (tt, (tt, (tt, (tt, tt))))

  released_still : (v : View D I P) (token : RegistrationToken) (answer : Outcome) (cs : List (Change D I P)) → ReleasedBy M token answer v cs → AllStill cs
  released_still v token (Ok u) cs h = left_still v token (only (is_adapter M) (content_at v.slots token)) cs h
  released_still v token (Err e) cs h = asked_still _ _ token (only (is_adapter M) (content_at v.slots token)) (Err e) cs h

  exchanged_still : (token : RegistrationToken) (new : D) (c : Content D) (answer : Result D D) (cs : List (Change D I P)) → ExchangedIn token new c answer cs → AllStill cs
  exchanged_still token new Vacant answer cs h = rw h.1 tt
  exchanged_still token new InTurn answer cs h = rw h.1 tt
  exchanged_still token new (Source d) answer cs h = rw h.1 (tt, tt)

  idle_inserted_still : (v : View D I P) (idle : I) (answer : Result Idle (InsertError I)) (cs : List (Change D I P)) → IdleInsertedBy idle answer v cs → AllStill cs
  idle_inserted_still v idle (Ok made) cs h = rw h.2 (tt, tt)
  idle_inserted_still v idle (Err refused) cs h = rw h.2 tt

  once_more : (v : View D I P) (R : View D I P → List (Change D I P) → Type 0) (css : List (List (Change D I P))) → ((cs : List (Change D I P)) → R v cs → AllStill cs) → Once O R v css → NotesMore v (after_changes v css)
  once_more v R [] s h = absurd h
  once_more v R (cs ∷ []) s h = more_still v cs (s cs h.0)
  once_more v R (cs ∷ ds ∷ css) s h = absurd h

  these_more : (v : View D I P) (cs : List (Change D I P)) (css : List (List (Change D I P))) → AllStill cs → css ≡ cs ∷ [] → NotesMore v (after_changes v css)
  these_more v cs css s is = subst (λ (dss : List (List (Change D I P))). NotesMore v (after_changes v dss)) (sym is) (more_still v cs s)

  case_more : (v : View D I P) (call : LoopCall D P X I) (answer : LoopAnswer D P X I) (css : List (List (Change D I P))) → Case M runs O call answer v css → NotesMore v (after_changes v css)
  case_more v (CallInsert d) (Inserted answer) css h = once_more v (InsertedBy M d answer) css (λ cs k. inserted_still v d answer cs k) h
  case_more v (CallEnable token) (Enabled answer) css h = once_more v (EnabledBy M token answer) css (λ cs k. asked_still _ _ token (only (is_callers M) (content_at v.slots token)) answer cs k) h
  case_more v (CallUpdate token) (Updated answer) css h = once_more v (UpdatedBy M token answer) css (λ cs k. asked_still _ _ token (only (is_callers M) (content_at v.slots token)) answer cs k) h
  case_more v (CallDisable token) (Disabled answer) css h = once_more v (DisabledBy M token answer) css (λ cs k. asked_still _ _ token (only (is_callers M) (content_at v.slots token)) answer cs k) h
  case_more v (CallRemove token) (Removed answer) css h = once_more v (RemovedBy M token answer) css (λ cs k. removed_still v token (only (is_callers M) (content_at v.slots token)) answer cs k) h
  case_more v (Release token) (Released answer) css h = once_more v (ReleasedBy M token answer) css (λ cs k. released_still v token answer cs k) h
  case_more v (Exchange token d) (Exchanged answer) css h = once_more v (ExchangedBy M token d answer) css (λ cs k. exchanged_still token d (only (is_callers M) (content_at v.slots token)) answer cs k) h
  case_more v (Dispatch timeout x) (Dispatched answer x') css (inl h) = subst (λ (dss : List (List (Change D I P))). NotesMore v (after_changes v dss)) (sym h.2) (more_still v [] tt)
  case_more v (Dispatch timeout x) (Dispatched answer x') css (inr h) = steps_more v _ _ css h
  case_more v (InsertIdle idle) (IdleInserted answer) css h = once_more v (IdleInsertedBy idle answer) css (λ cs k. idle_inserted_still v idle answer cs k) h
  case_more v (CancelIdle idle) Cancelled css h = these_more v _ css (tt, tt) h
  case_more v (AnswerOf ticket) (Answered answer) css h = these_more v _ css (tt, tt) h.1
  case_more v ForgetStop StopForgotten css h = these_more v _ css (tt, tt) h
  case_more v LookForStop (Stopped found) css h = these_more v _ css (tt, tt) h
  case_more v (NewPoller p) (OldPoller q) css h = these_more v _ css (tt, tt) h.1
  case_more v call answer css h = absurd h

  pub run_more : (calls : List (LoopCall D P X I)) (answers : List (LoopAnswer D P X I)) (csss : List (List (List (Change D I P)))) (w w' : World D I P) → Run M runs O calls answers csss w w'
      → (more : List Note) × (w'.poll.watch.notes ≡ w.poll.watch.notes ++ more)
  run_more [] [] [] w w' h = ([], ap (λ (u : World D I P). u.poll.watch.notes) h ∙ sym (append_nil w.poll.watch.notes))
  run_more (call ∷ calls) (answer ∷ answers) (css ∷ csss) w w' h =
      let m = case_more (visible w) call answer css h.0 in
      let k = run_more calls answers csss (all_traced w css) w' h.1 in
      let seen : (all_traced w css).poll.watch.notes ≡ w.poll.watch.notes ++ m.more = ap (λ (v : View D I P). v.poll.watch.notes) (seen-all_traced w css) ∙ m.are in
      (m.more ++ k.0, k.1 ∙ ap (λ (l : List Note). l ++ k.0) seen ∙ append_assoc w.poll.watch.notes m.more k.0)
  run_more calls answers csss w w' h = absurd h
