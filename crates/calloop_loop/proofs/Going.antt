-- Steps of a dispatch, one after the other.
use Rattle.std.proofs.Common.{◌≡◌, ℕ, ◌+◌, length, drop, arith, List, [], ◌∷◌, ◌++◌, refl, ap, sym, ◌∙◌, subst, Some, None, Option, Result, Ok, Err, inl, inr, Bool, true, false, if◌then◌else◌, append_assoc, append-nil}
use Rattle.std.specs.declared.io.Error.{Error as Cause}
use Rattle.calloop_slots.specs.declared.error.Error.{Error}
use Rattle.calloop_slots.specs.declared.error.Error.TheVariants.{IoError, OutOfMemory}
use Rattle.calloop_slots.specs.declared.list.Content.{Content}
use Rattle.calloop_slots.specs.declared.list.Content.TheVariants.{Vacant, Source, InTurn}
use Rattle.calloop_slots.specs.declared.list.Slot.{Slot}
use Rattle.calloop_slots.specs.declared.token.RegistrationToken.{RegistrationToken}
use Rattle.calloop_slots.specs.Tokens.{registration_of}
use Rattle.calloop_slots.specs.Slots.{with_change, with_content, content_at, source_of, is_empty, is_in_turn, after_turn, after_turn as ended}
use Rattle.calloop_slots.proofs.Named.{source_is, named_slot, turn_ended, named_changed}
use Rattle.calloop_poll.specs.declared.sys.poll.Pending.{Pending}
use Rattle.calloop_sources.specs.declared.sources.source.PostAction.{PostAction}
use Rattle.calloop_sources.specs.declared.sources.source.PostAction.TheVariants.{Continue, Remove}
use Rattle.calloop_slots.specs.declared.token.Token.{Token}
use Rattle.calloop_poll.specs.declared.sys.Readiness.{Readiness}
use Rattle.calloop_poll.specs.sys.Pollers.{Outside}
use Rattle.calloop_poll.specs.sys.Waits.{Polled}
use Rattle.calloop_poll.specs.sys.Events.{events_of}
use Rattle.calloop_poll.specs.sys.Polls.{PollView, PollStep, with_new_poller, with_watch, after_count, with_pass, after_cut, cut_from, with_turn_of, tail_of, head_of, poll_after, polls_after, TakePass, PutBack, Arm, ArmAgain, Cancel, Call, ReadClock, Socket, Fault, own_event, own_events, with_events}
use Rattle.calloop_sources.specs.sources.Deeds.{Turned, Unregistered, Slept, Noticed, Lent, lend}
use Rattle.calloop_sources.specs.sources.Meanings.{Meaning, Does}
use Rattle.calloop_loop.specs.declared.asks.Answer.TheVariants.{Removed as RemovedAnswer}
use Rattle.calloop_loop.specs.declared.asks.Asked.{Asked}
use Rattle.calloop_loop.specs.declared.asks.Idling.{Idling as Waiter}
use Rattle.calloop_loop.specs.Held.{HeldStep, Unlisted, Pend, Asking, AskingIn, Paid, Cleared, Warned, with_warning, IdlesTaken, IdleBegun, held_after}
use Rattle.calloop_loop.specs.Askings.{Asks, AskStep, Runs, Reaches, asks_after, of_turn, without_old, idle_begun, running_of}
use Rattle.calloop_loop.specs.Machine.{with_marks_taken, View, Change, Put, Polls, Polling, Watching, Counting, Holds, Gathered, Cut, Ended, all_viewed, AllFit, IsFull, Appended, after_change}
use Rattle.calloop_poll.specs.sys.TakenMarks.{AreTaken}
use Rattle.calloop_wake.specs.Watches.{with_note}
use Rattle.calloop_wake.specs.declared.notes.Note.TheVariants.{Counted, Marked}
use Rattle.calloop_loop.specs.Rules.{Goes, Steps, Step, Doing, Beginning, Settling, Sleeping, Waiting, Gathering, Noticing, Cutting, Serving, Ending, Returning, Idling, RunningIdles, ServingIdle, Leaving, Outcome, ByOne, unlisting_of, after_changes, told_in, SleptAs, SleptBy, NoticedBy, ActedBy, ReturnedTo, vacate, after_turn as after, CutTo, CutFrom, ServedFrom, RunFrom, action_of, DispatchedBy, Did, appends}
use Rattle.calloop_loop.specs.Serving.{FirstServed, AllServed}

traced-append : {D I P : Type 0} (v : View D I P) (css dss : List (List (Change D I P))) → after_changes v (css ++ dss) ≡ after_changes (after_changes v css) dss
traced-append v [] dss = refl
traced-append v (cs ∷ css) dss = traced-append (all_viewed v cs) css dss

nil_of_head : (es : List Pending) → None ≡ head_of es → es ≡ []
nil_of_head [] h = refl
nil_of_head (e ∷ es) h = cc

cons_of_head : (es : List Pending) (e : Pending) → Some e ≡ head_of es → (rest : List Pending) × (es ≡ e ∷ rest)
cons_of_head [] e h = cc
cons_of_head (f ∷ es) e h = (es, cc)

-- a source's steps leave the batch as it is
batch-after : {P : Type 0} (v : PollView P) (s : PollStep P) → (poll_after v s).batch ≡ v.batch
batch-after v TakePass = refl
batch-after v (PutBack pass) = refl
batch-after v (Arm deadline token) = refl
batch-after v (ArmAgain counter deadline token) = refl
batch-after v (Cancel counter) = refl
batch-after v (Call counter deadline) = refl
batch-after v (ReadClock now after) = refl
batch-after v (Socket edit after) = refl
batch-after v (Fault call cause after) = refl

pub batch-stepped : {P : Type 0} (v : PollView P) (steps : List (PollStep P)) → (polls_after v steps).batch ≡ v.batch
batch-stepped v [] = refl
batch-stepped v (s ∷ ss) = batch-stepped (poll_after v s) ss ∙ batch-after v s

length-begun : {P : Type 0} (e : Pending) (v : PollView P) (rest : List Pending) → v.batch ≡ e ∷ rest → length (with_turn_of e v).batch + 1 ≡ length (e ∷ rest)
length-begun {P} e v rest is =
    let left : (with_turn_of e v).batch ≡ tail_of v.batch = elim e.posted as (λ b. (if b then record (with_pass (head_of v.passes) v) { batch = tail_of v.batch; passes = tail_of v.passes } else record (with_pass None v) { batch = tail_of v.batch }).batch ≡ tail_of v.batch) [ true ↦ refl | false ↦ refl ] in
    omega (arith, ap length left, ap (λ es. length (tail_of es)) is)

pub length-cut : {P : Type 0} (v : PollView P) (e : Pending) → Some e ≡ head_of v.batch → length (after_cut v).batch + 1 ≡ length v.batch
length-cut v e first =
    let f = cons_of_head v.batch e first in
    ap (λ es. length (cut_from es v).batch + 1) f.1 ∙ length-begun e v f.0 f.1 ∙ sym (ap length f.1)

-- a source was put back, or handed back
pub was_in_turn : {D : Type 0} (b : Bool) (d : D) → None ≡ (if b then None else Some d) → b ≡ true
was_in_turn true d h = refl
was_in_turn false d h = cc

pub not_in_turn : {D : Type 0} (b : Bool) (d e : D) → Some e ≡ (if b then None else Some d) → (b ≡ false) × (e ≡ d)
not_in_turn true d e h = cc
not_in_turn false d e h = (refl, cc)

-- a slot that a token names is full
pub full_named : {D : Type 0} (slots : List (Slot D)) (token : RegistrationToken) → is_empty (content_at slots token) ≡ false → IsFull slots token.slot
full_named slots token e = let s = named_slot slots token e in (s.0, s.1, sym (ap is_empty s.3) ∙ e)

module _ {D I P X : Type 0} (M : Meaning D P (Lent X (Asks D I))) (runs : Runs D I X) (O : Outside P) where
  steps-append : (v : View D I P) (a b c : Doing D X) (css dss : List (List (Change D I P))) → Steps M runs O v a css b → Steps M runs O (after_changes v css) b dss c → Steps M runs O v a (css ++ dss) c
  steps-append v a b c [] dss h k = rw (← h) k
  steps-append v a b c (cs ∷ css) dss h k = (h.0, h.1, h.2, steps-append (all_viewed v cs) h.0 b c css dss h.3 k)

  -- one after the other
  pub goes_on : (a b c : Doing D X) (v u t : View D I P) → Goes M runs O a b v u → Goes M runs O b c u t → Goes M runs O a c v t
  goes_on a b c v u t h k = (
    h.0 ++ k.0,
    steps-append v a b c h.0 k.0 h.1 (subst (λ (x : View D I P). Steps M runs O x b k.0 c) h.2 k.1),
    k.2 ∙ ap (λ (x : View D I P). after_changes x k.0) h.2 ∙ sym (traced-append v h.0 k.0),
  )

  -- to what is the same
  pub goes_to : (a b : Doing D X) (v u t : View D I P) → t ≡ u → Goes M runs O a b v u → Goes M runs O a b v t
  goes_to a b v u t e h = (h.0, h.1, e ∙ h.2)

  pub goes_nowhere : (a : Doing D X) (v : View D I P) → Goes M runs O a a v v
  goes_nowhere a v = ([], refl, refl)

  -- one step
  pub goes_by : (a b : Doing D X) (cs : List (Change D I P)) (v u : View D I P) → Step M runs O v a cs b → AllFit O v cs → u ≡ all_viewed v cs → Goes M runs O a b v u
  goes_by a b cs v u step fit is = (cs ∷ [], (b, step, fit, refl), is)

  first_from : (asked : List (Asked D I)) (on next : Doing D X) (v : View D I P) (cs : List (Change D I P)) → FirstServed M asked v cs → ServedFrom M asked on next on v cs
  first_from [] on next v cs h = absurd h
  first_from (a ∷ as') on next v cs h = (h.0, h.1, h.2, refl)

  none_running : (idles : List (Waiter I)) (x : X) (v : View D I P) → None ≡ running_of idles → RunFrom runs idles v x [] (Leaving (Ok tt) x)
  none_running [] x v none = (refl, refl)
  none_running (i ∷ is) x v none = cc

  one_running : (idles : List (Waiter I)) (x x' : X) (v : View D I P) (idle : I) (asked : List (AskStep D I)) → Some idle ≡ running_of idles → runs idle x (idle_begun v.held.asks) x' (asks_after (idle_begun v.held.asks) asked)
      → RunFrom runs idles v x (Holds IdleBegun ∷ Holds (Asking asked) ∷ []) (ServingIdle x')
  one_running [] x x' v idle asked first ran = cc
  one_running (i ∷ is) x x' v idle asked first ran = (let same : idle ≡ i.idle = cc in (x', asked, subst (λ (j : I). runs j x (idle_begun v.held.asks) x' (asks_after (idle_begun v.held.asks) asked)) same ran, refl, refl))

  -- nothing is pending any more
  abbrev pub still_v : View D I P → View D I P
  still_v v = record v { held = held_after v.held (Pend Continue) }

  -- room for the batch
  abbrev pub ready : (places : ℕ) → View D I P → View D I P
  ready places v = record v { poll = after_count places v.poll; held = held_after v.held Cleared }

  pub begun_with : (v : View D I P) (places : ℕ) (marked taken : List RegistrationToken) → AreTaken taken marked → (timeout : Option ℕ) (x : X) → Goes M runs O (Beginning timeout x) (Settling timeout marked x) v (with_marks_taken taken (ready places v))
  begun_with v places marked taken are timeout x = goes_by (Beginning timeout x) (Settling timeout marked x) (Counting places ∷ Holds Cleared ∷ Watching (with_note (Marked taken) (with_note (Counted places) v.poll.watch)) ∷ []) v (with_marks_taken taken (ready places v)) (places, marked, taken, are, refl, refl) (tt, (tt, (tt, tt))) refl

  -- and what follows
  pub begun_then : (v u : View D I P) (places : ℕ) (p' : PollView P) (asked : Asks D I) (es : List Error) (marked taken : List RegistrationToken) (are : AreTaken taken marked) (timeout : Option ℕ) (x : X) (b : Doing D X) → p' ≡ after_count places v.poll → asked ≡ without_old v.held.asks → es ≡ []
      → Goes M runs O (Settling timeout marked x) b (with_marks_taken taken (record v { poll = p'; held = record v.held { asks = asked; warnings = es } })) u → Goes M runs O (Beginning timeout x) b v u
  begun_then v u places p' asked es marked taken are timeout x b polls asks none h =
      let a : Doing D X = Settling timeout marked x in
      let now : View D I P = with_marks_taken taken (record v { poll = p'; held = record v.held { asks = asked; warnings = es } }) in
      goes_on (Beginning timeout x) a b v now u
      (goes_to (Beginning timeout x) a v (with_marks_taken taken (ready places v)) now
      (ap (λ (q : PollView P). with_marks_taken taken (record v { poll = q; held = record v.held { asks = asked; warnings = es } })) polls ∙ ap (λ (r : Asks D I). with_marks_taken taken (record v { poll = after_count places v.poll; held = record v.held { asks = r; warnings = es } })) asks
      ∙ ap (λ (l : List Error). with_marks_taken taken (record v { poll = after_count places v.poll; held = record v.held { asks = without_old v.held.asks; warnings = l } })) none) (begun_with v places marked taken are timeout x)) h

  -- the wait and the gathering
  pub polled : (v : View D I P) (p' : PollView P) (timeout : Option ℕ) (x : X) → Polled O timeout (Ok tt) v.poll p' → Goes M runs O (Waiting timeout x) (Noticing (length v.poll.batch) v.held.lifecycle x) v (record v { poll = p' })
  polled v p' timeout x h =
      let now = h.0 in
      let given = h.1 in
      let p = h.2 in
      let w = h.3 in
      let u : View D I P = record v { poll = with_watch w (with_new_poller p v.poll) } in
      let told : Doing D X = Noticing (length v.poll.batch) v.held.lifecycle x in
      goes_on (Waiting timeout x) (Gathering now given x) told v u (record v { poll = p' })
      (goes_by (Waiting timeout x) (Gathering now given x) (Polling p ∷ Watching w ∷ []) v u (Ok now, given, p, w, h.4, refl, refl) (tt, (tt, tt)) refl)
      (goes_by (Gathering now given x) told (Gathered h.5 given now ∷ []) u (record v { poll = p' }) (h.5, refl, refl) (h.6, tt)
      (ap (λ (q : PollView P). record v { poll = q }) h.7))

  pub not_polled : (v : View D I P) (p' : PollView P) (timeout : Option ℕ) (x : X) (cause : Cause) → Polled O timeout (Err cause) v.poll p' → Goes M runs O (Waiting timeout x) (Leaving (Err (IoError cause)) x) v (record v { poll = p' })
  not_polled v p' timeout x cause h =
      goes_by (Waiting timeout x) (Leaving (Err (IoError cause)) x) (Polling h.1 ∷ Watching h.2 ∷ []) v (record v { poll = p' }) (Err cause, h.0, h.1, h.2, h.3, refl, refl) (tt, (tt, tt))
      (ap (λ (q : PollView P). record v { poll = q }) h.4)

  -- a batch without events
  pub no_event : (v : View D I P) (x : X) → None ≡ head_of v.poll.batch → Goes M runs O (Cutting x) (Idling x) v (record v { poll = after_cut v.poll })
  no_event v x none =
      let nil : v.poll.batch ≡ [] = nil_of_head v.poll.batch none in
      goes_by (Cutting x) (Idling x) [] v (record v { poll = after_cut v.poll }) (rw nil (refl, refl)) tt (ap (λ es. record v { poll = cut_from es v.poll }) nil)

  from_cons : (es rest : List Pending) (e : Pending) (v : View D I P) (x : X) (cs : List (Change D I P)) (b : Doing D X) → es ≡ e ∷ rest → CutTo M e (content_at v.slots (registration_of e.token)) v x cs b → CutFrom M es v x cs b
  from_cons es rest e v x cs b is h = rw is h

  none_named : (e : Pending) (v : View D I P) (x : X) (c : Content D) → None ≡ source_of c → CutTo M e c v x (Cut None ∷ Ended ∷ []) (Cutting x)
  none_named e v x Vacant h = (refl, refl)
  none_named e v x InTurn h = (refl, refl)
  none_named e v x (Source d) h = cc

  -- an event whose token names no source
  pub cut_none : (e : Pending) (v : View D I P) (x : X) → Some e ≡ head_of v.poll.batch → None ≡ source_of (content_at v.slots (registration_of e.token))
      → Goes M runs O (Cutting x) (Cutting x) v (record v { poll = with_pass None (after_cut v.poll) })
  cut_none e v x first none =
      let f = cons_of_head v.poll.batch e first in
      goes_by (Cutting x) (Cutting x) (Cut None ∷ Ended ∷ []) v (record v { poll = with_pass None (after_cut v.poll) })
      (from_cons v.poll.batch f.0 e v x (Cut None ∷ Ended ∷ []) (Cutting x) f.1 (none_named e v x (content_at v.slots (registration_of e.token)) none)) (tt, (tt, tt)) refl

  -- an event whose token names a source has its turn
  pub turned : (e : Pending) (v : View D I P) (d d' : D) (answer : Result PostAction Error) (q p' : PollView P) (x x' : X) (given asked : Asks D I) → Some e ≡ head_of v.poll.batch → Some d ≡ source_of (content_at v.slots (registration_of e.token)) → q ≡ after_cut v.poll
      → given ≡ of_turn (registration_of e.token) v.held.asks
      → Does O M d q (Turned e.readiness e.token (lend x given answer x' asked)) d' p' → Reaches given asked
      → Goes M runs O (Cutting x) (Serving (registration_of e.token) d' answer x') v (record v { slots = with_change (with_content InTurn) v.slots e.token.slot; poll = with_pass None p'; held = record v.held { asks = asked } })
  turned e v d d' answer q p' x x' given asked first named_as is begun u asks =
      let f = cons_of_head v.poll.batch e first in
      let token = registration_of e.token in
      let full = source_is (content_at v.slots token) d (sym named_as) in
      let t = subst (λ (r : PollView P). Does O M d r (Turned e.readiness e.token (lend x given answer x' asked)) d' p') is u in
      let a : Doing D X = Serving token d' answer x' in
      let became : asked ≡ asks_after (of_turn token v.held.asks) asks.steps = asks.is ∙ ap (λ (r : Asks D I). asks_after r asks.steps) begun in
      let cs : List (Change D I P) = Cut (Some e.token.slot) ∷ Put e.token.slot InTurn ∷ Polls t.0 ∷ Ended ∷ Holds (AskingIn token asks.steps) ∷ [] in
      let does = subst (λ (r : Asks D I). M.does d (after_cut v.poll) (Turned e.readiness e.token (lend x r answer x' (asks_after (of_turn token v.held.asks) asks.steps))) t.0 d') begun
      (subst (λ (r : Asks D I). M.does d (after_cut v.poll) (Turned e.readiness e.token (lend x given answer x' r)) t.0 d') became t.1) in
      goes_by (Cutting x) a cs v (record v { slots = with_change (with_content InTurn) v.slots e.token.slot; poll = with_pass None p'; held = record v.held { asks = asked } })
      (from_cons v.poll.batch f.0 e v x cs a f.1 (rw full (d', answer, t.0, x', asks.steps, does, refl, refl)))
      (tt, (full_named v.slots (registration_of e.token) (ap is_empty full), (t.2.0, (tt, (tt, tt)))))
      (ap (λ (r : Asks D I). record v { slots = with_change (with_content InTurn) v.slots e.token.slot; poll = with_pass None p'; held = record v.held { asks = r } }) became
      ∙ ap (λ (r : PollView P). record v { slots = with_change (with_content InTurn) v.slots e.token.slot; poll = with_pass None r; held = record v.held { asks = asks_after (of_turn token v.held.asks) asks.steps } }) t.2.1)

  -- what was asked for is carried out
  pub turn_served : (token : RegistrationToken) (d : D) (answer : Result PostAction Error) (x : X) (css : List (List (Change D I P))) (v u : View D I P) → AllServed M O v css → u ≡ after_changes v css → Goes M runs O (Serving token d answer x) (Ending token d answer x) v u
  turn_served token d answer x [] v u h is = goes_by (Serving token d answer x) (Ending token d answer x) [] v u (rw h (refl, refl)) tt is
  turn_served token d answer x (cs ∷ css) v u h is =
      let a : Doing D X = Serving token d answer x in
      goes_on a a (Ending token d answer x) v (all_viewed v cs) u (goes_by a a cs v (all_viewed v cs) (first_from v.held.asks.written a (Ending token d answer x) v cs h.0) h.1 refl) (turn_served token d answer x css (all_viewed v cs) u h.2 is)

  pub idle_served : (x : X) (css : List (List (Change D I P))) (v u : View D I P) → AllServed M O v css → u ≡ after_changes v css → Goes M runs O (ServingIdle x) (RunningIdles x) v u
  idle_served x [] v u h is = goes_by (ServingIdle x) (RunningIdles x) [] v u (rw h (refl, refl)) tt is
  idle_served x (cs ∷ css) v u h is =
      let a : Doing D X = ServingIdle x in
      goes_on a a (RunningIdles x) v (all_viewed v cs) u (goes_by a a cs v (all_viewed v cs) (first_from v.held.asks.written a (RunningIdles x) v cs h.0) h.1 refl) (idle_served x css (all_viewed v cs) u h.2 is)

  -- a round of idles
  pub round_begun : (x : X) (v : View D I P) → Goes M runs O (Idling x) (RunningIdles x) v (record v { held = held_after v.held IdlesTaken })
  round_begun x v = goes_by (Idling x) (RunningIdles x) (Holds IdlesTaken ∷ []) v (record v { held = held_after v.held IdlesTaken }) (refl, refl) (tt, tt) refl

  pub no_idle : (x : X) (v : View D I P) → None ≡ running_of v.held.asks.running → Goes M runs O (RunningIdles x) (Leaving (Ok tt) x) v v
  no_idle x v none = goes_by (RunningIdles x) (Leaving (Ok tt) x) [] v v (none_running v.held.asks.running x v none) tt refl

  pub idle_run : (x x' : X) (v : View D I P) (idle : I) (asked : Asks D I) → Some idle ≡ running_of v.held.asks.running → runs idle x (idle_begun v.held.asks) x' asked → Reaches (idle_begun v.held.asks) asked
      → Goes M runs O (RunningIdles x) (ServingIdle x') v (record v { held = record v.held { asks = asked } })
  idle_run x x' v idle asked first ran asks =
      goes_by (RunningIdles x) (ServingIdle x') (Holds IdleBegun ∷ Holds (Asking asks.steps) ∷ []) v (record v { held = record v.held { asks = asked } })
      (one_running v.held.asks.running x x' v idle asks.steps first (subst (λ (r : Asks D I). runs idle x (idle_begun v.held.asks) x' r) asks.is ran)) (tt, (tt, tt))
      (ap (λ (r : Asks D I). record v { held = record v.held { asks = r } }) asks.is)

  -- a post action without steps
  pub acted : (token : RegistrationToken) (v : View D I P) (d : D) (answer : Result PostAction Error) (told : Result (Unit {0}) Error) (x : X) → ActedBy M token d (action_of answer v.held.pending) v (Holds (Pend Continue) ∷ []) d told
      → Goes M runs O (Ending token d answer x) (Returning token d told x) v (still_v v)
  acted token v d answer told x h = goes_by (Ending token d answer x) (Returning token d told x) (Holds (Pend Continue) ∷ []) v (still_v v) (d, told, h, refl) (tt, tt) refl

  -- a post action with steps of the source
  pub acted_with : (R : D → Outcome → List (PollStep P) → D → Type 0) (entry : D → Outcome → HeldStep D I) (token : RegistrationToken) (v u : View D I P) (d e : D) (answer : Result PostAction Error) (told : Outcome) (x : X)
      → ((steps : List (PollStep P)) → R d told steps e → ActedBy M token d (action_of answer v.held.pending) v (Holds (Pend Continue) ∷ Polls steps ∷ Holds (entry d told) ∷ []) e told)
      → ByOne O R entry d told e (still_v v) u
      → Goes M runs O (Ending token d answer x) (Returning token e told x) v u
  acted_with R entry token v u d e answer told x by r =
      goes_by (Ending token d answer x) (Returning token e told x) (Holds (Pend Continue) ∷ Polls r.0 ∷ Holds (entry d told) ∷ []) v u (e, told, by r.0 r.1, refl) (tt, (r.2, (tt, tt))) r.3

  emptied_fit : (token : RegistrationToken) (v : View D I P) (c : Content D) → content_at v.slots token ≡ c → AllFit O v (vacate token c)
  emptied_fit token v Vacant is = tt
  emptied_fit token v (Source d) is = tt
  emptied_fit token v InTurn is = (full_named v.slots token (ap is_empty is), tt)

  emptied_view : (token : RegistrationToken) (v : View D I P) (c : Content D) → record v { slots = (if is_in_turn c then with_change (with_content Vacant) v.slots token.slot else v.slots) } ≡ all_viewed v (vacate token c)
  emptied_view token v Vacant = refl
  emptied_view token v (Source d) = refl
  emptied_view token v InTurn = refl

  -- the post action that empties the slot
  pub acted_leaving : (token : RegistrationToken) (v : View D I P) (d : D) (answer : Result PostAction Error) (x : X) → action_of answer v.held.pending ≡ Ok Remove
      → Goes M runs O (Ending token d answer x) (Returning token d (Ok tt) x) v (record (still_v v) { slots = after_turn Vacant token v.slots })
  acted_leaving token v d answer x is =
      goes_by (Ending token d answer x) (Returning token d (Ok tt) x) (Holds (Pend Continue) ∷ vacate token (content_at v.slots token)) v (record (still_v v) { slots = after_turn Vacant token v.slots }) (d, Ok tt, rw is (refl, refl, refl), refl)
      (tt, emptied_fit token (still_v v) (content_at v.slots token) refl) (emptied_view token (still_v v) (content_at v.slots token))

  turn_is : (c : Content D) → is_in_turn c ≡ true → c ≡ InTurn
  turn_is Vacant e = cc
  turn_is (Source d) e = cc
  turn_is InTurn e = refl

  -- the source goes back to its slot
  pub returned : (token : RegistrationToken) (v : View D I P) (d : D) (told : Result (Unit {0}) Error) (x : X) → is_in_turn (content_at v.slots token) ≡ true
      → Goes M runs O (Returning token d told x) (after told x) v (record v { slots = with_change (with_content (Source d)) v.slots token.slot })
  returned token v d told x here =
      let is = turn_is (content_at v.slots token) here in
      goes_by (Returning token d told x) (after told x) (Put token.slot (Source d) ∷ []) v (record v { slots = with_change (with_content (Source d)) v.slots token.slot }) (rw is refl, refl) (full_named v.slots token (ap is_empty is), tt) refl

  gone_by : (token : RegistrationToken) (v : View D I P) (d e : D) (c : Content D) (answer : Outcome) (kept : Bool) (steps : List (PollStep P)) → is_in_turn c ≡ false → M.does d v.poll (Unregistered answer) steps e
      → ReturnedTo M token d c v (Polls steps ∷ Holds (Unlisted token) ∷ Holds (Warned kept answer) ∷ Holds (Paid (RemovedAnswer (Some e))) ∷ [])
  gone_by token v d e Vacant answer kept steps none h = (e, answer, kept, steps, h, refl)
  gone_by token v d e (Source f) answer kept steps none h = (e, answer, kept, steps, h, refl)
  gone_by token v d e InTurn answer kept steps none h = cc

  -- the source left the loop
  pub gone : (token : RegistrationToken) (v u : View D I P) (d e : D) (told answer : Outcome) (kept : Bool) (es : List Error) (x : X) → is_in_turn (content_at v.slots token) ≡ false
      → ByOne O (λ f a steps g. M.does f v.poll (Unregistered a) steps g) (unlisting_of token) d answer e v u → es ≡ with_warning kept answer u.held.warnings
      → Goes M runs O (Returning token d told x) (after told x) v (record u { held = held_after (record u.held { warnings = es }) (Paid (RemovedAnswer (Some e))) })
  gone token v u d e told answer kept es x none r now =
      goes_by (Returning token d told x) (after told x) (Polls r.0 ∷ Holds (Unlisted token) ∷ Holds (Warned kept answer) ∷ Holds (Paid (RemovedAnswer (Some e))) ∷ []) v (record u { held = held_after (record u.held { warnings = es }) (Paid (RemovedAnswer (Some e))) })
      (gone_by token v d e (content_at v.slots token) answer kept r.0 none r.1, refl) (r.2, (tt, (tt, (tt, tt))))
      (ap (λ (l : List Error). record u { held = held_after (record u.held { warnings = l }) (Paid (RemovedAnswer (Some e))) }) now
      ∙ ap (λ (t : View D I P). record t { held = held_after (held_after t.held (Warned kept answer)) (Paid (RemovedAnswer (Some e))) }) r.3)

  -- a source that is told of a wait was taken out and put back
  abbrev pub told : RegistrationToken → D → View D I P → View D I P
  told token e v = record v { slots = ended (Source e) token (with_change (with_content InTurn) v.slots token.slot) }

  told_by : (a b : Doing D X) (token : RegistrationToken) (v : View D I P) (d e : D) (joined : List (Change D I P)) → content_at v.slots token ≡ Source d → Step M runs O v a (told_in token e ++ joined) b
      → ((u : View D I P) → AllFit O u joined) → Goes M runs O a b v (all_viewed (told token e v) joined)
  told_by a b token v d e joined is step fit =
      let full : is_empty (content_at v.slots token) ≡ false = ap is_empty is in
      let out = with_change (with_content InTurn) v.slots token.slot in
      goes_by a b (told_in token e ++ joined) v (all_viewed (told token e v) joined) step
      (full_named v.slots token full, (tt, (full_named out token (ap is_empty (named_changed v.slots token InTurn full)), fit _)))
      (ap (λ (ss : List (Slot D)). all_viewed (record v { slots = ss }) joined) (turn_ended v.slots token (Source e) full))

  none_slept : (timeout : Option ℕ) (token : RegistrationToken) (later : List RegistrationToken) (c : Content D) (v : View D I P) (x : X) → None ≡ source_of c → SleptBy M timeout token later c v x [] (Sleeping timeout later x)
  none_slept timeout token later Vacant v x h = (refl, refl)
  none_slept timeout token later InTurn v x h = (refl, refl)
  none_slept timeout token later (Source d) v x h = cc

  pub not_slept : (timeout : Option ℕ) (token : RegistrationToken) (later : List RegistrationToken) (v : View D I P) (x : X) → None ≡ source_of (content_at v.slots token)
      → Goes M runs O (Sleeping timeout (token ∷ later) x) (Sleeping timeout later x) v v
  not_slept timeout token later v x none =
      goes_by (Sleeping timeout (token ∷ later) x) (Sleeping timeout later x) [] v v (none_slept timeout token later (content_at v.slots token) v x none) tt refl

  slept : (timeout : Option ℕ) (token : RegistrationToken) (later : List RegistrationToken) (v : View D I P) (x : X) (d e : D) (given : List (Readiness × Token)) (answer : Result (Unit {0}) Error) (joined : List (Change D I P)) (b : Doing D X)
      → content_at v.slots token ≡ Source d → M.does d v.poll (Slept given answer) [] e → SleptAs timeout later given answer x joined b → ((u : View D I P) → AllFit O u joined)
      → Goes M runs O (Sleeping timeout (token ∷ later) x) b v (all_viewed (told token e v) joined)
  slept timeout token later v x d e given answer joined b is does joins fit =
      told_by (Sleeping timeout (token ∷ later) x) b token v d e joined is (rw is (e, given, answer, joined, does, joins, refl)) fit

  -- the events that it asks for join the batch
  appends_fit : (given : List (Readiness × Token)) (u : View D I P) → AllFit O u (appends given)
  appends_fit [] u = tt
  appends_fit (e ∷ es) u = (refl, appends_fit es (after_change u (Appended (own_event e))))

  appends_viewed : (given : List (Readiness × Token)) (u : View D I P) → record u { poll = with_events given u.poll } ≡ all_viewed u (appends given)
  appends_viewed [] u = ap (λ (es : List Pending). record u { poll = record u.poll { batch = es } }) (append-nil u.poll.batch)
  appends_viewed (e ∷ es) u =
      ap (λ (all : List Pending). record u { poll = record u.poll { batch = all } }) (sym (append_assoc u.poll.batch (own_event e ∷ []) (own_events es)))
      ∙ appends_viewed es (after_change u (Appended (own_event e)))

  pub slept_well : (timeout : Option ℕ) (token : RegistrationToken) (later : List RegistrationToken) (v : View D I P) (x : X) (d e : D) (given : List (Readiness × Token))
      → content_at v.slots token ≡ Source d → M.does d v.poll (Slept given (Ok tt)) [] e
      → Goes M runs O (Sleeping timeout (token ∷ later) x) (Sleeping timeout later x) v (record (told token e v) { poll = with_events given v.poll })
  slept_well timeout token later v x d e given is does =
      subst (λ (u : View D I P). Goes M runs O (Sleeping timeout (token ∷ later) x) (Sleeping timeout later x) v u) (sym (appends_viewed given (told token e v)))
      (slept timeout token later v x d e given (Ok tt) (appends given) (Sleeping timeout later x) is does (refl, refl) (appends_fit given))

  pub slept_badly : (timeout : Option ℕ) (token : RegistrationToken) (later : List RegistrationToken) (v : View D I P) (x : X) (d e : D) (given : List (Readiness × Token)) (error : Error)
      → content_at v.slots token ≡ Source d → M.does d v.poll (Slept given (Err error)) [] e
      → Goes M runs O (Sleeping timeout (token ∷ later) x) (Leaving (Err error) x) v (told token e v)
  slept_badly timeout token later v x d e given error is does =
      slept timeout token later v x d e given (Err error) [] (Leaving (Err error) x) is does (refl, refl) (λ u. tt)

  none_noticed : (from : ℕ) (token : RegistrationToken) (later : List RegistrationToken) (c : Content D) (v : View D I P) (x : X) → None ≡ source_of c → NoticedBy M from token later c v x [] (Noticing from later x)
  none_noticed from token later Vacant v x h = (refl, refl)
  none_noticed from token later InTurn v x h = (refl, refl)
  none_noticed from token later (Source d) v x h = cc

  pub not_noticed : (from : ℕ) (token : RegistrationToken) (later : List RegistrationToken) (v : View D I P) (x : X) → None ≡ source_of (content_at v.slots token)
      → Goes M runs O (Noticing from (token ∷ later) x) (Noticing from later x) v v
  not_noticed from token later v x none =
      goes_by (Noticing from (token ∷ later) x) (Noticing from later x) [] v v (none_noticed from token later (content_at v.slots token) v x none) tt refl

  pub noticed : (from : ℕ) (token : RegistrationToken) (later : List RegistrationToken) (v : View D I P) (x : X) (d e : D) → content_at v.slots token ≡ Source d → M.does d v.poll (Noticed (events_of token (drop from v.poll.batch))) [] e
      → Goes M runs O (Noticing from (token ∷ later) x) (Noticing from later x) v (told token e v)
  noticed from token later v x d e is does =
      told_by (Noticing from (token ∷ later) x) (Noticing from later x) token v d e [] is (rw is (e, does, refl, refl)) (λ u. tt)

  -- all of them were told
  pub all_slept : (timeout : Option ℕ) (v : View D I P) (x : X) → Goes M runs O (Sleeping timeout [] x) (Waiting timeout x) v v
  all_slept timeout v x = goes_by (Sleeping timeout [] x) (Waiting timeout x) [] v v (refl, refl) tt refl

  pub all_noticed : (from : ℕ) (v : View D I P) (x : X) → Goes M runs O (Noticing from [] x) (Cutting x) v v
  all_noticed from v x = goes_by (Noticing from [] x) (Cutting x) [] v v (refl, refl) tt refl

  pub dispatched : (v u : View D I P) (timeout : Option ℕ) (x x' : X) (answer : Result (Unit {0}) Error) → Goes M runs O (Beginning timeout x) (Leaving answer x') v u → Did (DispatchedBy M runs O timeout x answer x') v u
  dispatched v u timeout x x' answer h = (h.0, inr h.1, h.2)

  pub refused : (v : View D I P) (timeout : Option ℕ) (x : X) (e : Error) → e ≡ OutOfMemory → Did (DispatchedBy M runs O timeout x (Err e) x) v v
  refused v timeout x e is = ([], inl (ap (λ (r : Error). Err r) is, refl, refl), refl)
