-- The requests of callbacks are carried out, one after the other.
use Rattle.std.proofs.Common.{◌≡◌, ℕ, suc, ◌+◌, ◌<◌, ◌≤◌, length, filter, not, nat_eq, if◌then◌else◌, arith, List, [], ◌∷◌, ◌++◌, refl, rules, ap, sym, ◌∙◌, subst, true, false, Some, None, Option, Result, Ok, Err, inl, inr}
use Rattle.calloop_slots.specs.declared.error.InsertError.{InsertError}
use Rattle.calloop_slots.specs.declared.list.Content.{Content}
use Rattle.calloop_slots.specs.declared.list.Content.TheVariants.{Vacant, Source, InTurn}
use Rattle.calloop_slots.specs.declared.token.RegistrationToken.{RegistrationToken}
use Rattle.calloop_slots.specs.Slots.{content_at, is_empty, is_in_turn}
use Rattle.calloop_poll.specs.sys.Pollers.{Outside}
use Rattle.calloop_poll.specs.sys.Polls.{PollStep}
use Rattle.calloop_sources.specs.sources.Deeds.{Lent}
use Rattle.calloop_sources.specs.sources.Meanings.{Meaning}
use Rattle.calloop_loop.specs.declared.asks.Answer.{Answer}
use Rattle.calloop_loop.specs.declared.asks.Asked.{Asked}
use Rattle.calloop_loop.specs.declared.asks.Idling.{Idling as Waiter}
use Rattle.calloop_loop.specs.declared.asks.Request.{Request}
use Rattle.calloop_loop.specs.declared.asks.Request.TheVariants.{Insert as AskInsert, Enable as AskEnable, Update as AskUpdate, Disable as AskDisable, SetDeadline as AskSetDeadline, Remove as AskRemove, Idle as AskIdle, Cancel as AskCancel}
use Rattle.calloop_loop.specs.declared.registering.RegistrationCall.{RegistrationCall}
use Rattle.calloop_loop.specs.declared.registering.RegistrationCall.TheVariants.{Enable, Update, Disable}
use Rattle.calloop_loop.specs.Askings.{Asks, AskStep, Write, Take, Reaches, ask_after, asks_after, all_but_first, begun_from, idle_begun, is_other_idle, request_of, running_of}
use Rattle.calloop_loop.specs.Held.{HeldStep, Begun, Told, held_after}
use Rattle.calloop_loop.specs.Machine.{View, Change, Holds, AllFit, after_change, all_viewed}
use Rattle.calloop_loop.specs.Roles.{only, is_callers}
use Rattle.calloop_loop.specs.Registering.{request_for}
use Rattle.calloop_loop.specs.Rules.{Did, Once, OwnOr, Served, ServedAs, InsertedBy, AskedIn, RemovedIn, Outcome, after_changes, done_answer}
use Rattle.calloop_loop.specs.Serving.{Serves, ServesFirst, FirstServed, AllServed}
use Rattle.calloop_loop.proofs.Going.{batch-stepped}
use Rattle.calloop_loop.proofs.Seen.{viewed-append}

pub own_is : {A : Type 0} (B : Type 0) {D : Type 0} (c : Content D) → is_in_turn c ≡ true → A → OwnOr c A B
own_is B Vacant is a = cc
own_is B (Source d) is a = cc
own_is B InTurn is a = a

pub other_is : (A : Type 0) {B : Type 0} {D : Type 0} (c : Content D) → is_in_turn c ≡ false → B → OwnOr c A B
other_is A Vacant is b = b
other_is A (Source d) is b = b
other_is A InTurn is b = cc

pub turn_full : {D : Type 0} (c : Content D) → is_in_turn c ≡ true → is_empty c ≡ false
turn_full Vacant is = cc
turn_full (Source d) is = cc
turn_full InTurn is = refl

module _ {D I P : Type 0} (O : Outside P) where
  fit-append : (v : View D I P) (cs ds : List (Change D I P)) → AllFit O v cs → AllFit O (all_viewed v cs) ds → AllFit O v (cs ++ ds)
  fit-append v [] ds h k = k
  fit-append v (c ∷ cs) ds h k = (h.0, fit-append (after_change v c) cs ds h.1 k)

  -- an answer behind what was done
  abbrev pub answered : Answer D → View D I P → View D I P
  answered answer v = record v { held = held_after v.held (Told answer) }

  pub closed : (R : View D I P → List (Change D I P) → Type 0) (v u : View D I P) (answer : Answer D) → ((cs : List (Change D I P)) × R v cs × AllFit O v cs × (u ≡ all_viewed v cs))
      → (ds : List (Change D I P)) × R v ds × AllFit O v (ds ++ Holds (Told answer) ∷ []) × (answered answer u ≡ all_viewed v (ds ++ Holds (Told answer) ∷ []))
  closed R v u answer h = (h.0, h.1, fit-append v h.0 (Holds (Told answer) ∷ []) h.2 (tt, tt), ap (λ (t : View D I P). answered answer t) h.3 ∙ sym (viewed-append v h.0 (Holds (Told answer) ∷ [])))

  -- a call of one step
  pub one_done : (R : View D I P → List (Change D I P) → Type 0) (v u : View D I P) → Did (Once O R) v u → (cs : List (Change D I P)) × R v cs × AllFit O v cs × (u ≡ all_viewed v cs)
  one_done R v u ([], h, is) = absurd h
  one_done R v u (cs ∷ [], h, is) = (cs, h.0, h.1, is)
  one_done R v u (cs ∷ ds ∷ css, h, is) = absurd h

module _ {D I P X : Type 0} (M : Meaning D P (Lent X (Asks D I))) (O : Outside P) where
  pub serves_first : (as' : List (Asked D I)) (request : Request D I) (v u : View D I P) → request_of as' ≡ Some request
      → Serves M O request (after_change v (Holds Begun)) u → ServesFirst M O as' true v u
  serves_first [] request v u is h = search rules
  serves_first (a ∷ as') request v u is h = search rules

  -- a change of a registration, with its answer
  pub change_served : (call : RegistrationCall) (token : RegistrationToken) (answer : Outcome) (v : View D I P) (cs : List (Change D I P)) → ServedAs M (request_for call token) answer v cs
      → Served M (request_for call token) v (cs ++ Holds (Told (done_answer answer)) ∷ [])
  change_served Enable token answer v cs h = (answer, cs, h, refl)
  change_served Update token answer v cs h = (answer, cs, h, refl)
  change_served Disable token answer v cs h = (answer, cs, h, refl)

  -- the batch stays, no request is added, and no idle joins those that run
  pub record Steady (v u : View D I P) : Type 0 where
    pub batch : u.poll.batch ≡ v.poll.batch
    pub written : u.held.asks.written ≡ v.held.asks.written
    pub running : length u.held.asks.running ≤ length v.held.asks.running

  still_steady : (v u : View D I P) → u.poll.batch ≡ v.poll.batch → u.held.asks.written ≡ v.held.asks.written → u.held.asks.running ≡ v.held.asks.running → Steady v u
  still_steady v u batch written running = record { batch = batch; written = written; running = omega (arith, ap (λ (l : List (Waiter I)). length l) running) }

  shorter : (ticket : ℕ) (is : List (Waiter I)) → length (filter (is_other_idle ticket) is) ≤ length is
  shorter ticket [] = omega arith
  shorter ticket (i ∷ is) =
      elim (nat_eq i.ticket ticket) as (λ b. length (if not b then i ∷ filter (is_other_idle ticket) is else filter (is_other_idle ticket) is) ≤ suc (length is))
      [ true ↦ (let h = shorter ticket is in omega (arith, h)) | false ↦ (let h = shorter ticket is in omega (arith, h)) ]

  inserted_steady : (v : View D I P) (d : D) (answer : Result RegistrationToken (InsertError D)) (cs : List (Change D I P)) → InsertedBy M d answer v cs → Steady v (all_viewed v cs)
  inserted_steady v d (Ok token) cs h = rw h.6 (still_steady v _ (batch-stepped v.poll h.4) refl refl)
  inserted_steady v d (Err refused) cs (inl h) = rw h.2 (still_steady v v refl refl refl)
  inserted_steady v d (Err refused) cs (inr h) = rw h.4 (still_steady v _ (batch-stepped v.poll h.2) refl refl)

  asked_steady : (v : View D I P) (R : D → Outcome → List (PollStep P) → D → Type 0) (noted : D → Outcome → HeldStep D I) (token : RegistrationToken) (answer : Outcome) (cs : List (Change D I P)) (c : Content D)
      → ((d : D) → ((held_after v.held (noted d answer)).asks.written ≡ v.held.asks.written) × ((held_after v.held (noted d answer)).asks.running ≡ v.held.asks.running)) → AskedIn R noted token c answer cs → Steady v (all_viewed v cs)
  asked_steady v R noted token answer cs Vacant same h = rw h.1 (still_steady v v refl refl refl)
  asked_steady v R noted token answer cs InTurn same h = rw h.1 (still_steady v v refl refl refl)
  asked_steady v R noted token answer cs (Source d) same h = rw h.3 (still_steady v _ (batch-stepped v.poll h.1) (same d).0 (same d).1)

  removed_steady : (v : View D I P) (token : RegistrationToken) (answer : Option D) (cs : List (Change D I P)) (c : Content D) → RemovedIn M token c answer v cs → Steady v (all_viewed v cs)
  removed_steady v token answer cs Vacant h = rw h.1 (still_steady v v refl refl refl)
  removed_steady v token answer cs InTurn h = rw h.1 (still_steady v v refl refl refl)
  removed_steady v token answer cs (Source d) h = rw h.6 (still_steady v _ (batch-stepped v.poll h.3) refl refl)

  own_or : {A B G : Type 0} (c : Content D) → (A → G) → (B → G) → OwnOr c A B → G
  own_or InTurn f g h = f h
  own_or Vacant f g h = g h
  own_or (Source d) f g h = g h

  told_steady : (v : View D I P) (ds cs : List (Change D I P)) (answer : Answer D) → cs ≡ ds ++ Holds (Told answer) ∷ [] → Steady v (all_viewed v ds) → Steady v (all_viewed v cs)
  told_steady v ds cs answer is h = rw (is, viewed-append v ds (Holds (Told answer) ∷ [])) (record { batch = h.batch; written = h.written; running = h.running })

  served_as_steady : (v : View D I P) (request : Request D I) (answer : Outcome) (cs : List (Change D I P)) → ServedAs M request answer v cs → Steady v (all_viewed v cs)
  served_as_steady v (AskEnable token) answer cs h = own_or (content_at v.slots token) (λ o. rw o.1 (still_steady v v refl refl refl)) (λ o. asked_steady v _ _ token answer cs (only (is_callers M) (content_at v.slots token)) (λ d. (refl, refl)) o) h
  served_as_steady v (AskUpdate token) answer cs h = own_or (content_at v.slots token) (λ o. rw o.1 (still_steady v _ refl refl refl)) (λ o. asked_steady v _ _ token answer cs (only (is_callers M) (content_at v.slots token)) (λ d. (refl, refl)) o) h
  served_as_steady v (AskDisable token) answer cs h = own_or (content_at v.slots token) (λ o. rw o.1 (still_steady v _ refl refl refl)) (λ o. asked_steady v _ _ token answer cs (only (is_callers M) (content_at v.slots token)) (λ d. (refl, refl)) o) h
  served_as_steady v (AskSetDeadline token deadline) answer cs h = own_or (content_at v.slots token) (λ o. rw o.1 (still_steady v v refl refl refl)) (λ o. asked_steady v _ _ token answer cs (only (is_callers M) (content_at v.slots token)) (λ d. (refl, refl)) o) h
  served_as_steady v (AskInsert d) answer cs h = absurd h
  served_as_steady v (AskRemove token) answer cs h = absurd h
  served_as_steady v (AskIdle idle) answer cs h = absurd h
  served_as_steady v (AskCancel ticket) answer cs h = absurd h

  served_steady : (v : View D I P) (request : Request D I) (cs : List (Change D I P)) → Served M request v cs → Steady v (all_viewed v cs)
  served_steady v (AskInsert d) cs h = told_steady v h.1 cs _ h.3 (inserted_steady v d h.0 h.1 h.2)
  served_steady v (AskEnable token) cs h = told_steady v h.1 cs _ h.3 (served_as_steady v (AskEnable token) h.0 h.1 h.2)
  served_steady v (AskUpdate token) cs h = told_steady v h.1 cs _ h.3 (served_as_steady v (AskUpdate token) h.0 h.1 h.2)
  served_steady v (AskDisable token) cs h = told_steady v h.1 cs _ h.3 (served_as_steady v (AskDisable token) h.0 h.1 h.2)
  served_steady v (AskSetDeadline token deadline) cs h = told_steady v h.1 cs _ h.3 (served_as_steady v (AskSetDeadline token deadline) h.0 h.1 h.2)
  served_steady v (AskRemove token) cs h =
      own_or (content_at v.slots token) (λ o. rw o (record { batch = refl; written = refl; running = omega arith })) (λ o. told_steady v o.1 cs _ o.3 (removed_steady v token o.0 o.1 (only (is_callers M) (content_at v.slots token)) o.2)) h
  served_steady v (AskIdle idle) cs h = rw h (record { batch = refl; written = refl; running = omega arith })
  served_steady v (AskCancel ticket) cs h = rw h (record { batch = refl; written = refl; running = shorter ticket v.held.asks.running })

  fewer_written : (asked : List (Asked D I)) (v : View D I P) (cs : List (Change D I P)) → v.held.asks.written ≡ asked → FirstServed M asked v cs
      → ((all_viewed v cs).poll.batch ≡ v.poll.batch) × (length (all_viewed v cs).held.asks.written + 1 ≡ length asked) × (length (all_viewed v cs).held.asks.running ≤ length v.held.asks.running)
  fewer_written [] v cs is h = absurd h
  fewer_written (a ∷ as') v cs is h =
      let s = served_steady (after_change v (Holds Begun)) a.request h.0 h.1 in
      let left : (all_viewed (after_change v (Holds Begun)) h.0).held.asks.written ≡ as' = s.written ∙ ap (λ (l : List (Asked D I)). (begun_from l v.held.asks).written) is in
      let running : (begun_from v.held.asks.written v.held.asks).running ≡ v.held.asks.running = ap (λ (l : List (Asked D I)). (begun_from l v.held.asks).running) is in
      rw h.2 (s.batch, omega (arith, ap (λ (l : List (Asked D I)). length l) left), omega (arith, s.running, ap (λ (l : List (Waiter I)). length l) running))

  -- all requests
  pub all_steady : (v : View D I P) (css : List (List (Change D I P))) → AllServed M O v css → ((after_changes v css).poll.batch ≡ v.poll.batch) × (length (after_changes v css).held.asks.running ≤ length v.held.asks.running)
  all_steady v [] h = (refl, omega arith)
  all_steady v (cs ∷ css) h =
      let one = fewer_written v.held.asks.written v cs refl h.0 in
      let rest = all_steady (all_viewed v cs) css h.2 in
      (rest.0 ∙ one.0, omega (arith, rest.1, one.2))

  first_from : (asked : List (Asked D I)) (v u : View D I P) → ServesFirst M O asked true v u → (cs : List (Change D I P)) × FirstServed M asked v cs × AllFit O v cs × (u ≡ all_viewed v cs)
  first_from [] v u h = (let e = h.0 in cc)
  first_from (a ∷ as') v u h = (Holds Begun ∷ h.1.0, (h.1.0, h.1.1, refl), (tt, h.1.2), h.1.3)

  -- one request before the others
  pub first_then : (v u t : View D I P) → ServesFirst M O v.held.asks.written true v u → Did (AllServed M O) u t → Did (AllServed M O) v t
  first_then v u t h k =
      let f = first_from v.held.asks.written v u h in
      (f.0 ∷ k.0, (f.1, f.2, subst (λ (x : View D I P). AllServed M O x k.0) f.3 k.1), k.2 ∙ ap (λ (x : View D I P). after_changes x k.0) f.3)

  none_written : (asked : List (Asked D I)) (v u : View D I P) → ServesFirst M O asked false v u → (asked ≡ []) × (u ≡ v)
  none_written [] v u h = (refl, h.1)
  none_written (a ∷ as') v u h = (let e = h.0 in cc)

  -- no request is left
  pub none_left : (v u : View D I P) → ServesFirst M O v.held.asks.written false v u → Did (AllServed M O) v u
  none_left v u h = (let n = none_written v.held.asks.written v u h in ([], n.0, n.1))

  pub fewer_left : (v u : View D I P) → ServesFirst M O v.held.asks.written true v u → length u.held.asks.written < length v.held.asks.written
  fewer_left v u h =
      let f = first_from v.held.asks.written v u h in
      let n = fewer_written v.held.asks.written v f.0 refl f.1 in
      omega (arith, n.1, ap (λ (x : View D I P). length x.held.asks.written) f.3)

-- callbacks leave the idles that run as they are
asked_running : {D I : Type 0} (q : Asks D I) (steps : List (AskStep D I)) → (asks_after q steps).running ≡ q.running
asked_running q [] = refl
asked_running q (Write request ∷ ss) = asked_running (ask_after q (Write request)) ss
asked_running q (Take ticket ∷ ss) = asked_running (ask_after q (Take ticket)) ss

less_one : {I : Type 0} (is : List (Waiter I)) (idle : I) → Some idle ≡ running_of is → length (all_but_first is) + 1 ≡ length is
less_one [] idle h = cc
less_one (i ∷ is) idle h = omega arith

pub fewer_running : {D I : Type 0} (q r : Asks D I) (idle : I) → Some idle ≡ running_of q.running → Reaches (idle_begun q) r → length r.running < length q.running
fewer_running {D} {I} q r idle first h =
    let same : r.running ≡ all_but_first q.running = ap (λ (x : Asks D I). x.running) h.is ∙ asked_running (idle_begun q) h.steps in
    omega (arith, ap (λ (l : List (Waiter I)). length l) same, less_one q.running idle first)

nothing_runs : {I : Type 0} (is : List (Waiter I)) → None ≡ running_of is → all_but_first is ≡ is
nothing_runs [] h = refl
nothing_runs (i ∷ is) h = cc

pub none_left_over : {D I : Type 0} (q : Asks D I) → None ≡ running_of q.running → idle_begun q ≡ q
none_left_over {D} {I} q h = ap (λ (l : List (Waiter I)). record q { running = l }) (nothing_runs q.running h)
