-- A dispatch that returns `Ok` has cut all that it gathered.
use Rattle.std.proofs.lemmas.List.Elements.{Contains-append_left, Contains-append_right}
use Rattle.std.specs.List.{Contains, slice_index_or}
use Rattle.std.proofs.Common.{◌≡◌, ℕ, filter, not, cond, nat_eq, suc, zero, length, ◌⊎◌, ◌+◌, ◌<◌, ◌≤◌, List, [], ◌∷◌, ◌++◌, refl, ap, sym, ◌∙◌, subst, arith, None, Option, Result, Ok, Err, inl, inr, true, false, if◌then◌else◌, nat_le}
use Rattle.std.proofs.lemmas.Bool.Decides.{nat_tests}
use Rattle.std.specs.declared.io.Error.{Error as Cause}
use Rattle.calloop_slots.specs.declared.error.Error.{Error}
use Rattle.calloop_slots.specs.declared.error.InsertError.{InsertError}
use Rattle.calloop_slots.specs.declared.token.Token.{Token}
use Rattle.calloop_slots.specs.declared.token.RegistrationToken.{RegistrationToken}
use Rattle.calloop_slots.specs.declared.wheel.Entry.{Entry}
use Rattle.calloop_slots.specs.Deadlines.{Deadlines, is_due, is_other, entry_of, front, behind_front, due, not_due, AllBelow, IsAhead, IsSorted, IsOrdered}
use Rattle.calloop_slots.proofs.Sorting.{IsSorted-filter, IsSorted-inserted, AllBelow-filter, AllBelow-inserted, AllBelow-more, AllBelow-free}
use Rattle.calloop_poll.specs.declared.sys.Readiness.{Readiness}
use Rattle.calloop_slots.specs.declared.list.Content.{Content}
use Rattle.calloop_slots.specs.declared.list.Content.TheVariants.{Vacant, Source, InTurn}
use Rattle.calloop_slots.specs.Tokens.{registration_of}
use Rattle.calloop_slots.specs.Slots.{content_at}
use Rattle.calloop_poll.specs.declared.sys.poll.Pending.{Pending}
use Rattle.calloop_sources.specs.declared.sources.source.PostAction.{PostAction}
use Rattle.calloop_sources.specs.declared.sources.source.PostAction.TheVariants.{Continue, Reregister, Disable as DisableIt, Remove}
use Rattle.calloop_poll.specs.sys.Pollers.{Outside}
use Rattle.calloop_poll.specs.sys.Polls.{PollView, PollStep, TakePass, PutBack, Arm, ArmAgain, Cancel, Call, ReadClock, Socket, Fault, poll_after, polls_after, AllAllowed, cut_from, with_turn_of, tail_of, head_of, with_pass, posted_events, polled_events, timer_event, timer_events}
use Rattle.calloop_sources.specs.sources.Deeds.{Lent}
use Rattle.calloop_sources.specs.sources.Meanings.{Meaning}
use Rattle.calloop_loop.specs.declared.asks.Asked.{Asked}
use Rattle.calloop_loop.specs.declared.asks.Idling.{Idling as Waiter}
use Rattle.calloop_loop.specs.declared.asks.Request.{Request}
use Rattle.calloop_loop.specs.declared.asks.Request.TheVariants.{Insert as AskInsert, Enable as AskEnable, Update as AskUpdate, Disable as AskDisable, SetDeadline as AskSetDeadline, Remove as AskRemove, Idle as AskIdle, Cancel as AskCancel}
use Rattle.calloop_loop.specs.Askings.{Asks, AskStep, Write, Take, Runs, ask_after, asks_after, of_turn, begun_from, all_but_first, is_other_idle}
use Rattle.calloop_loop.specs.Machine.{World, View, IsNew, visible, Change, Put, Claim, Swapped, Polls, Polling, Watching, Counting, Holds, Appended, Gathered, Cut, Ended, AllFit, after_change, all_viewed}
use Rattle.calloop_loop.specs.Roles.{only, is_callers, is_adapter}
use Rattle.calloop_loop.specs.Rules.{Doing, Beginning, Settling, Sleeping, Waiting, Gathering, Noticing, Cutting, Serving, Ending, Returning, Idling, RunningIdles, ServingIdle, Leaving, Outcome, Step, Steps, SleptAs, SleptBy, NoticedBy, CutTo, CutFrom, ActedBy, ReturnedTo, vacate, InsertedBy, AskedIn, SettledIn, RemovedIn, OwnOr, Served, ServedAs, ServedFrom, RunFrom, DispatchedBy, Run, all_traced, action_of, after_turn, after_wait, appends}
use Rattle.calloop_loop.specs.Held.{HeldStep, Listed, Unlisted, Pend, Asking, AskingIn, Begun, Told, Owe, Paid, Cleared, Warned, StopNoted, IdleIn, IdleNew, IdleOut, IdlesTaken, IdleBegun}
use Rattle.calloop_laws.specs.Laws.{flatten}
use Rattle.calloop_laws.specs.Served.{Account, first_of, events_cut, gatherings, Gathers, idles_begun, idles_cancelled, rounds, RunsRound, IsAccountOf, NothingIsLeft, AllAreCut, AllLater, NoneIsLate, DueAreCut, IdlesRan}
use Rattle.calloop_loop.specs.declared.LoopCall.{LoopCall}
use Rattle.calloop_loop.specs.declared.LoopAnswer.{LoopAnswer}
use Rattle.calloop_laws.proofs.Gone.{case_fit, viewed-joined}
use Rattle.calloop_loop.proofs.Seen.{viewed-append, seen-all_traced}

-- Changes that put nothing into the batch, and begin no round of idles.

abbrev pub NoRound : {D I : Type 0} → HeldStep D I → Type 0
NoRound IdlesTaken = ⊥
NoRound s = Unit {0}

abbrev pub Tame : {D I P : Type 0} → Change D I P → Type 0
Tame (Gathered posted given now) = ⊥
Tame (Appended event) = ⊥
Tame (Holds step) = NoRound step
Tame c = Unit {0}

abbrev pub AllTame : {D I P : Type 0} → List (Change D I P) → Type 0
AllTame [] = Unit {0}
AllTame (c ∷ cs) = Tame c × AllTame cs

-- those that may begin one
abbrev pub Loose : {D I P : Type 0} → Change D I P → Type 0
Loose (Gathered posted given now) = ⊥
Loose (Appended event) = ⊥
Loose c = Unit {0}

abbrev pub AllLoose : {D I P : Type 0} → List (Change D I P) → Type 0
AllLoose [] = Unit {0}
AllLoose (c ∷ cs) = Loose c × AllLoose cs

-- those that neither gather, nor cut, nor begin one
abbrev pub Plain : {D I P : Type 0} → Change D I P → Type 0
Plain (Gathered posted given now) = ⊥
Plain (Cut slot) = ⊥
Plain (Holds step) = NoRound step
Plain c = Unit {0}

abbrev pub AllPlain : {D I P : Type 0} → List (Change D I P) → Type 0
AllPlain [] = Unit {0}
AllPlain (c ∷ cs) = Plain c × AllPlain cs

-- and those that begin none
abbrev pub Quiet : {D I P : Type 0} → Change D I P → Type 0
Quiet (Holds step) = NoRound step
Quiet c = Unit {0}

abbrev pub AllQuiet : {D I P : Type 0} → List (Change D I P) → Type 0
AllQuiet [] = Unit {0}
AllQuiet (c ∷ cs) = Quiet c × AllQuiet cs

loose_tame : {D I P : Type 0} (cs : List (Change D I P)) → AllTame cs → AllLoose cs
loose_tame [] h = tt
loose_tame (Put slot content ∷ cs) h = (tt, loose_tame cs h.1)
loose_tame (Swapped slot old new ∷ cs) h = (tt, loose_tame cs h.1)
loose_tame (Claim source ∷ cs) h = (tt, loose_tame cs h.1)
loose_tame (Polls steps ∷ cs) h = (tt, loose_tame cs h.1)
loose_tame (Polling poller ∷ cs) h = (tt, loose_tame cs h.1)
loose_tame (Watching watch ∷ cs) h = (tt, loose_tame cs h.1)
loose_tame (Counting places ∷ cs) h = (tt, loose_tame cs h.1)
loose_tame (Holds step ∷ cs) h = (tt, loose_tame cs h.1)
loose_tame (Appended event ∷ cs) h = absurd h.0
loose_tame (Gathered posted given now ∷ cs) h = absurd h.0
loose_tame (Cut slot ∷ cs) h = (tt, loose_tame cs h.1)
loose_tame (Ended ∷ cs) h = (tt, loose_tame cs h.1)

quiet_tame : {D I P : Type 0} (cs : List (Change D I P)) → AllTame cs → AllQuiet cs
quiet_tame [] h = tt
quiet_tame (Put slot content ∷ cs) h = (tt, quiet_tame cs h.1)
quiet_tame (Swapped slot old new ∷ cs) h = (tt, quiet_tame cs h.1)
quiet_tame (Claim source ∷ cs) h = (tt, quiet_tame cs h.1)
quiet_tame (Polls steps ∷ cs) h = (tt, quiet_tame cs h.1)
quiet_tame (Polling poller ∷ cs) h = (tt, quiet_tame cs h.1)
quiet_tame (Watching watch ∷ cs) h = (tt, quiet_tame cs h.1)
quiet_tame (Counting places ∷ cs) h = (tt, quiet_tame cs h.1)
quiet_tame (Holds step ∷ cs) h = (h.0, quiet_tame cs h.1)
quiet_tame (Appended event ∷ cs) h = absurd h.0
quiet_tame (Gathered posted given now ∷ cs) h = absurd h.0
quiet_tame (Cut slot ∷ cs) h = (tt, quiet_tame cs h.1)
quiet_tame (Ended ∷ cs) h = (tt, quiet_tame cs h.1)

quiet_plain : {D I P : Type 0} (cs : List (Change D I P)) → AllPlain cs → AllQuiet cs
quiet_plain [] h = tt
quiet_plain (Put slot content ∷ cs) h = (tt, quiet_plain cs h.1)
quiet_plain (Swapped slot old new ∷ cs) h = (tt, quiet_plain cs h.1)
quiet_plain (Claim source ∷ cs) h = (tt, quiet_plain cs h.1)
quiet_plain (Polls steps ∷ cs) h = (tt, quiet_plain cs h.1)
quiet_plain (Polling poller ∷ cs) h = (tt, quiet_plain cs h.1)
quiet_plain (Watching watch ∷ cs) h = (tt, quiet_plain cs h.1)
quiet_plain (Counting places ∷ cs) h = (tt, quiet_plain cs h.1)
quiet_plain (Holds step ∷ cs) h = (h.0, quiet_plain cs h.1)
quiet_plain (Appended event ∷ cs) h = (tt, quiet_plain cs h.1)
quiet_plain (Gathered posted given now ∷ cs) h = absurd h.0
quiet_plain (Cut slot ∷ cs) h = absurd h.0
quiet_plain (Ended ∷ cs) h = (tt, quiet_plain cs h.1)

none_gathers : {D I P : Type 0} (cs : List (Change D I P)) → AllLoose cs → gatherings cs ≡ 0
none_gathers [] h = refl
none_gathers (Put slot content ∷ cs) h = none_gathers cs h.1
none_gathers (Swapped slot old new ∷ cs) h = none_gathers cs h.1
none_gathers (Claim source ∷ cs) h = none_gathers cs h.1
none_gathers (Polls steps ∷ cs) h = none_gathers cs h.1
none_gathers (Polling poller ∷ cs) h = none_gathers cs h.1
none_gathers (Watching watch ∷ cs) h = none_gathers cs h.1
none_gathers (Counting places ∷ cs) h = none_gathers cs h.1
none_gathers (Holds step ∷ cs) h = none_gathers cs h.1
none_gathers (Appended event ∷ cs) h = absurd h.0
none_gathers (Gathered posted given now ∷ cs) h = absurd h.0
none_gathers (Cut slot ∷ cs) h = none_gathers cs h.1
none_gathers (Ended ∷ cs) h = none_gathers cs h.1

tame-append : {D I P : Type 0} (cs ds : List (Change D I P)) → AllTame cs → AllTame ds → AllTame (cs ++ ds)
tame-append [] ds h k = k
tame-append (c ∷ cs) ds h k = (h.0, tame-append cs ds h.1 k)

none_round : {D I P : Type 0} (cs : List (Change D I P)) → AllQuiet cs → rounds cs ≡ 0
none_round [] h = refl
none_round (Put slot content ∷ cs) h = none_round cs h.1
none_round (Swapped slot old new ∷ cs) h = none_round cs h.1
none_round (Claim source ∷ cs) h = none_round cs h.1
none_round (Polls steps ∷ cs) h = none_round cs h.1
none_round (Polling poller ∷ cs) h = none_round cs h.1
none_round (Watching watch ∷ cs) h = none_round cs h.1
none_round (Counting places ∷ cs) h = none_round cs h.1
none_round (Holds (Listed needed token) ∷ cs) h = none_round cs h.1
none_round (Holds (Unlisted token) ∷ cs) h = none_round cs h.1
none_round (Holds (Pend action) ∷ cs) h = none_round cs h.1
none_round (Holds (Asking steps) ∷ cs) h = none_round cs h.1
none_round (Holds (AskingIn token steps) ∷ cs) h = none_round cs h.1
none_round (Holds Begun ∷ cs) h = none_round cs h.1
none_round (Holds (Told answer) ∷ cs) h = none_round cs h.1
none_round (Holds Owe ∷ cs) h = none_round cs h.1
none_round (Holds (Paid answer) ∷ cs) h = none_round cs h.1
none_round (Holds Cleared ∷ cs) h = none_round cs h.1
none_round (Holds (Warned kept told) ∷ cs) h = none_round cs h.1
none_round (Holds (StopNoted note) ∷ cs) h = none_round cs h.1
none_round (Holds (IdleIn idle) ∷ cs) h = none_round cs h.1
none_round (Holds (IdleNew idle) ∷ cs) h = none_round cs h.1
none_round (Holds (IdleOut ticket) ∷ cs) h = none_round cs h.1
none_round (Holds IdlesTaken ∷ cs) h = absurd h.0
none_round (Holds IdleBegun ∷ cs) h = none_round cs h.1
none_round (Appended event ∷ cs) h = none_round cs h.1
none_round (Gathered posted given now ∷ cs) h = none_round cs h.1
none_round (Cut slot ∷ cs) h = none_round cs h.1
none_round (Ended ∷ cs) h = none_round cs h.1

loose-append : {D I P : Type 0} (cs ds : List (Change D I P)) → AllLoose cs → AllLoose ds → AllLoose (cs ++ ds)
loose-append [] ds h k = k
loose-append (c ∷ cs) ds h k = (h.0, loose-append cs ds h.1 k)

quiet-append : {D I P : Type 0} (cs ds : List (Change D I P)) → AllQuiet cs → AllQuiet ds → AllQuiet (cs ++ ds)
quiet-append [] ds h k = k
quiet-append (c ∷ cs) ds h k = (h.0, quiet-append cs ds h.1 k)

-- What is cut of the batch.

append_assoc : {A : Type 0} (a b c : List A) → (a ++ b) ++ c ≡ a ++ (b ++ c)
append_assoc [] b c = refl
append_assoc (x ∷ xs) b c = rw (append_assoc xs b c) refl

append_nil : {A : Type 0} (a : List A) → a ++ [] ≡ a
append_nil [] = refl
append_nil (x ∷ xs) = rw (append_nil xs) refl

no_front : {A : Type 0} (a b : List A) → a ++ b ≡ [] → b ≡ []
no_front [] b h = h
no_front (x ∷ xs) b h = cc

batch_step : {P : Type 0} (p : PollView P) (s : PollStep P) → (poll_after p s).batch ≡ p.batch
batch_step p TakePass = refl
batch_step p (PutBack pass) = refl
batch_step p (Arm deadline token) = refl
batch_step p (ArmAgain counter deadline token) = refl
batch_step p (Cancel counter) = refl
batch_step p (Call counter deadline) = refl
batch_step p (ReadClock now after) = refl
batch_step p (Socket edit after) = refl
batch_step p (Fault call cause after) = refl

batch_steps : {P : Type 0} (p : PollView P) (ss : List (PollStep P)) → (polls_after p ss).batch ≡ p.batch
batch_steps p [] = refl
batch_steps p (s ∷ ss) = batch_steps (poll_after p s) ss ∙ batch_step p s

batch_begun : {P : Type 0} (p : PollView P) (e : Pending) → (with_turn_of e p).batch ≡ tail_of p.batch
batch_begun {P} p e =
    elim e.posted as (λ b. ◌≡◌ {A = List Pending} (if b then record (with_pass (head_of p.passes) p) { batch = tail_of p.batch; passes = tail_of p.passes } else record (with_pass None p) { batch = tail_of p.batch }).batch (tail_of p.batch))
    [ true ↦ refl | false ↦ refl ]

batch_cut : {P : Type 0} (p : PollView P) (es : List Pending) → p.batch ≡ es → first_of es ++ (cut_from es p).batch ≡ es
batch_cut p [] is = is
batch_cut p (e ∷ es) is = ap (λ l. e ∷ l) (batch_begun p e ∙ ap tail_of is)

-- what such changes cut, and what is left then, is what was there
all_cut : {D I P : Type 0} (v : View D I P) (cs : List (Change D I P)) → AllLoose cs → events_cut v cs ++ (all_viewed v cs).poll.batch ≡ v.poll.batch
all_cut v [] h = refl
all_cut v (Put slot content ∷ cs) h = all_cut (after_change v (Put slot content)) cs h.1
all_cut v (Swapped slot old new ∷ cs) h = all_cut (after_change v (Swapped slot old new)) cs h.1
all_cut v (Claim source ∷ cs) h = all_cut (after_change v (Claim source)) cs h.1
all_cut v (Polls steps ∷ cs) h = all_cut (after_change v (Polls steps)) cs h.1 ∙ batch_steps v.poll steps
all_cut v (Polling poller ∷ cs) h = all_cut (after_change v (Polling poller)) cs h.1
all_cut v (Watching watch ∷ cs) h = all_cut (after_change v (Watching watch)) cs h.1
all_cut v (Counting places ∷ cs) h = all_cut (after_change v (Counting places)) cs h.1
all_cut v (Holds step ∷ cs) h = all_cut (after_change v (Holds step)) cs h.1
all_cut v (Appended event ∷ cs) h = absurd h.0
all_cut v (Gathered posted given now ∷ cs) h = absurd h.0
all_cut v (Cut slot ∷ cs) h =
    append_assoc (first_of v.poll.batch) (events_cut (after_change v (Cut slot)) cs) (all_viewed (after_change v (Cut slot)) cs).poll.batch
    ∙ ap (λ l. first_of v.poll.batch ++ l) (all_cut (after_change v (Cut slot)) cs h.1)
    ∙ batch_cut v.poll v.poll.batch refl
all_cut v (Ended ∷ cs) h = all_cut (after_change v Ended) cs h.1

-- an empty batch stays empty
stays_empty : {D I P : Type 0} (v : View D I P) (cs : List (Change D I P)) → AllLoose cs → v.poll.batch ≡ [] → (all_viewed v cs).poll.batch ≡ []
stays_empty v cs h is = no_front (events_cut v cs) (all_viewed v cs).poll.batch (all_cut v cs h ∙ is)

-- Deadlines.

in_at : {A : Type 0} (x : A) (xs : List A) (y : A) (k : ℕ) → k < length (x ∷ xs) → slice_index_or (x ∷ xs) k y ≡ y → (x ≡ y) ⊎ Contains xs y
in_at x xs y zero lt is = inl is
in_at x xs y (suc k) lt is = inr (k, omega (arith, lt), is)

in_cons : {A : Type 0} (x : A) (xs : List A) (y : A) → Contains (x ∷ xs) y → (x ≡ y) ⊎ Contains xs y
in_cons x xs y h = in_at x xs y h.0 h.1 h.2

all_later : (now : ℕ) (e : Entry) (es : List Entry) → nat_le e.deadline.nanos now ≡ false → IsAhead e es → AllLater now es
all_later now e [] off h = tt
all_later now e (y ∷ ys) off h = (let b = h.0 in grind (arith, nat_tests), all_later now e ys off h.2)

not_due_later : (now : ℕ) (es : List Entry) → IsSorted es → AllLater now (not_due now es)
not_due_later now [] h = tt
not_due_later now (e ∷ es) h =
    elim (nat_le e.deadline.nanos now) as (λ b. nat_le e.deadline.nanos now ≡ b → AllLater now (if b then behind_front (is_due now) es else e ∷ es))
    [ true ↦ λ _. not_due_later now es h.1 | false ↦ λ off. (grind (arith, nat_tests), all_later now e es off h.0) ] refl

later_has : (now : ℕ) (es : List Entry) (e : Entry) → AllLater now es → Contains es e → now < e.deadline.nanos
later_has now [] e h there = absurd (omega (arith, there.1))
later_has now (x ∷ xs) e h there =
    elim (in_cons x xs e there) [ inl is ↦ subst (λ (y : Entry). now < y.deadline.nanos) is h.0 | inr k ↦ later_has now xs e h.1 k ]

due_has : (now : ℕ) (es : List Entry) (e : Entry) → IsSorted es → Contains es e → e.deadline.nanos ≤ now → Contains (timer_events (due now es)) (timer_event e)
due_has now [] e s there come = absurd (omega (arith, there.1))
due_has now (x ∷ xs) e s there come =
    elim (nat_le x.deadline.nanos now) as (λ b. nat_le x.deadline.nanos now ≡ b → Contains (timer_events (if b then x ∷ front (is_due now) xs else [])) (timer_event e)) [
      | true ↦ λ _. elim (in_cons x xs e there) [
        | inl is ↦ (0, omega arith, ap timer_event is)
        | inr k ↦ Contains-append_right (timer_event x ∷ []) (timer_events (due now xs)) (timer_event e) (due_has now xs e s.1 k come)
      ]
      | false ↦ λ off.
          (let late : AllLater now (x ∷ xs) = (grind (arith, nat_tests), all_later now x xs off s.0) in
          absurd (omega (arith, come, later_has now (x ∷ xs) e late there)))
    ] refl

sorted_behind : (now : ℕ) (es : List Entry) → IsSorted es → IsSorted (not_due now es)
sorted_behind now [] h = tt
sorted_behind now (e ∷ es) h = elim (is_due now e) as (λ b. IsSorted (if b then behind_front (is_due now) es else e ∷ es)) [ true ↦ sorted_behind now es h.1 | false ↦ h ]

below_behind : (now n : ℕ) (es : List Entry) → AllBelow n es → AllBelow n (not_due now es)
below_behind now n [] h = tt
below_behind now n (e ∷ es) h = elim (is_due now e) as (λ b. AllBelow n (if b then behind_front (is_due now) es else e ∷ es)) [ true ↦ below_behind now n es h.1 | false ↦ h ]

-- Idles.

running_asks : {D I : Type 0} (q : Asks D I) (ss : List (AskStep D I)) → (asks_after q ss).running ≡ q.running
running_asks q [] = refl
running_asks q (Write request ∷ ss) = running_asks (ask_after q (Write request)) ss
running_asks q (Take ticket ∷ ss) = running_asks (ask_after q (Take ticket)) ss

running_begun : {D I : Type 0} (as' : List (Asked D I)) (q : Asks D I) → (begun_from as' q).running ≡ q.running
running_begun [] q = refl
running_begun (a ∷ as') q = refl

-- one that isn't of this ticket is still there when that is cancelled
still_there : {I : Type 0} (ticket : ℕ) (is : List (Waiter I)) (i : Waiter I) → nat_eq i.ticket ticket ≡ false → Contains is i → Contains (filter (is_other_idle ticket) is) i
still_there ticket [] i off h = absurd (omega (arith, h.1))
still_there {I} ticket (x ∷ xs) i off h =
    elim (nat_eq x.ticket ticket) as (λ b. nat_eq x.ticket ticket ≡ b → Contains (cond (not b) (x ∷ filter (is_other_idle ticket) xs) (filter (is_other_idle ticket) xs)) i) [
      | true ↦ λ e. elim (in_cons x xs i h) [
        | inl same ↦ (let f : nat_eq i.ticket ticket ≡ true = subst (λ (y : Waiter I). nat_eq y.ticket ticket ≡ true) same e in absurd (cc))
        | inr k ↦ still_there ticket xs i off k
      ]
      | false ↦ λ e. elim (in_cons x xs i h) [
        | inl same ↦ (0, omega arith, same)
        | inr k ↦ Contains-append_right (x ∷ []) (filter (is_other_idle ticket) xs) i (still_there ticket xs i off k)
      ]
    ] refl

-- the first one begins, and each other one is still to run
begins_or : {I : Type 0} (is : List (Waiter I)) (i : Waiter I) → Contains is i → Contains (first_of is) i ⊎ Contains (all_but_first is) i
begins_or [] i h = absurd (omega (arith, h.1))
begins_or (x ∷ xs) i h = elim (in_cons x xs i h) [ inl same ↦ inl (0, omega arith, same) | inr k ↦ inr k ]

-- it has begun, was cancelled, or is still to run
abbrev pub IsOver : {D I P : Type 0} → View D I P → List (Change D I P) → Waiter I → Type 0
IsOver v cs i = Contains (idles_begun v cs) i ⊎ (Contains (idles_cancelled cs) i.ticket ⊎ Contains (all_viewed v cs).held.asks.running i)

over_out : {D I P : Type 0} (v : View D I P) (ticket : ℕ) (cs : List (Change D I P)) (i : Waiter I) → IsOver (after_change v (Holds (IdleOut ticket))) cs i → IsOver v (Holds (IdleOut ticket) ∷ cs) i
over_out v ticket cs i (inl h) = inl h
over_out v ticket cs i (inr (inl h)) = inr (inl (Contains-append_right (ticket ∷ []) (idles_cancelled cs) i.ticket h))
over_out v ticket cs i (inr (inr h)) = inr (inr h)

over_begun : {D I P : Type 0} (v : View D I P) (cs : List (Change D I P)) (i : Waiter I) → IsOver (after_change v (Holds IdleBegun)) cs i → IsOver v (Holds IdleBegun ∷ cs) i
over_begun v cs i (inl h) = inl (Contains-append_right (first_of v.held.asks.running) (idles_begun (after_change v (Holds IdleBegun)) cs) i h)
over_begun v cs i (inr h) = inr h

is_over : {D I P : Type 0} (v : View D I P) (cs : List (Change D I P)) → AllQuiet cs → (i : Waiter I) → Contains v.held.asks.running i → IsOver v cs i
is_over v [] q i h = inr (inr h)
is_over v (Put slot content ∷ cs) q i h = is_over (after_change v (Put slot content)) cs q.1 i h
is_over v (Swapped slot old new ∷ cs) q i h = is_over (after_change v (Swapped slot old new)) cs q.1 i h
is_over v (Claim source ∷ cs) q i h = is_over (after_change v (Claim source)) cs q.1 i h
is_over v (Polls steps ∷ cs) q i h = is_over (after_change v (Polls steps)) cs q.1 i h
is_over v (Polling poller ∷ cs) q i h = is_over (after_change v (Polling poller)) cs q.1 i h
is_over v (Watching watch ∷ cs) q i h = is_over (after_change v (Watching watch)) cs q.1 i h
is_over v (Counting places ∷ cs) q i h = is_over (after_change v (Counting places)) cs q.1 i h
is_over {D} {I} {P} v (Holds (Listed needed token) ∷ cs) q i h = is_over (after_change v (Holds (Listed needed token))) cs q.1 i h
is_over {D} {I} {P} v (Holds (Unlisted token) ∷ cs) q i h = is_over (after_change v (Holds (Unlisted token))) cs q.1 i h
is_over {D} {I} {P} v (Holds (Pend action) ∷ cs) q i h = is_over (after_change v (Holds (Pend action))) cs q.1 i h
is_over {D} {I} {P} v (Holds (Asking steps) ∷ cs) q i h = is_over (after_change v (Holds (Asking steps))) cs q.1 i (subst (λ (l : List (Waiter I)). Contains l i) (sym (running_asks v.held.asks steps)) h)
is_over {D} {I} {P} v (Holds (AskingIn token steps) ∷ cs) q i h = is_over (after_change v (Holds (AskingIn token steps))) cs q.1 i (subst (λ (l : List (Waiter I)). Contains l i) (sym (running_asks (of_turn token v.held.asks) steps)) h)
is_over {D} {I} {P} v (Holds Begun ∷ cs) q i h = is_over (after_change v (Holds Begun)) cs q.1 i (subst (λ (l : List (Waiter I)). Contains l i) (sym (running_begun v.held.asks.written v.held.asks)) h)
is_over {D} {I} {P} v (Holds (Told answer) ∷ cs) q i h = is_over (after_change v (Holds (Told answer))) cs q.1 i h
is_over {D} {I} {P} v (Holds Owe ∷ cs) q i h = is_over (after_change v (Holds Owe)) cs q.1 i h
is_over {D} {I} {P} v (Holds (Paid answer) ∷ cs) q i h = is_over (after_change v (Holds (Paid answer))) cs q.1 i h
is_over {D} {I} {P} v (Holds Cleared ∷ cs) q i h = is_over (after_change v (Holds Cleared)) cs q.1 i h
is_over {D} {I} {P} v (Holds (Warned kept told) ∷ cs) q i h = is_over (after_change v (Holds (Warned kept told))) cs q.1 i h
is_over {D} {I} {P} v (Holds (StopNoted note) ∷ cs) q i h = is_over (after_change v (Holds (StopNoted note))) cs q.1 i h
is_over {D} {I} {P} v (Holds (IdleIn idle) ∷ cs) q i h = is_over (after_change v (Holds (IdleIn idle))) cs q.1 i h
is_over {D} {I} {P} v (Holds (IdleNew idle) ∷ cs) q i h = is_over (after_change v (Holds (IdleNew idle))) cs q.1 i h
is_over {D} {I} {P} v (Holds (IdleOut ticket) ∷ cs) q i h =
    elim (nat_eq i.ticket ticket) as (λ b. nat_eq i.ticket ticket ≡ b → IsOver v (Holds (IdleOut ticket) ∷ cs) i) [
      | true ↦ λ e. inr (inl (0, omega arith, (let same : i.ticket ≡ ticket = grind (arith, nat_tests) in sym same)))
      | false ↦ λ off. over_out v ticket cs i (is_over (after_change v (Holds (IdleOut ticket))) cs q.1 i (still_there ticket v.held.asks.running i off h))
    ] refl
is_over {D} {I} {P} v (Holds IdlesTaken ∷ cs) q i h = absurd q.0
is_over {D} {I} {P} v (Holds IdleBegun ∷ cs) q i h =
    elim (begins_or v.held.asks.running i h) [
      | inl k ↦ inl (Contains-append_left (first_of v.held.asks.running) (idles_begun (after_change v (Holds IdleBegun)) cs) i k)
      | inr k ↦ over_begun v cs i (is_over (after_change v (Holds IdleBegun)) cs q.1 i k)
    ]
is_over v (Appended event ∷ cs) q i h = is_over (after_change v (Appended event)) cs q.1 i h
is_over v (Gathered posted given now ∷ cs) q i h = is_over (after_change v (Gathered posted given now)) cs q.1 i h
is_over v (Cut slot ∷ cs) q i h = is_over (after_change v (Cut slot)) cs q.1 i h
is_over v (Ended ∷ cs) q i h = is_over (after_change v Ended) cs q.1 i h

module _ {D I P X : Type 0} (M : Meaning D P (Lent X (Asks D I))) (runs : Runs D I X) (O : Outside P) where
  ordered_steps : (p : PollView P) (ss : List (PollStep P)) → AllAllowed O p ss → IsOrdered p.deadlines → IsOrdered (polls_after p ss).deadlines
  ordered_steps p [] a h = h
  ordered_steps p (TakePass ∷ ss) a h = ordered_steps (poll_after p TakePass) ss a.1 h
  ordered_steps p (PutBack pass ∷ ss) a h = ordered_steps (poll_after p (PutBack pass)) ss a.1 h
  ordered_steps p (Arm deadline token ∷ ss) a h =
      ordered_steps (poll_after p (Arm deadline token)) ss a.1
      (record {
        sorted = IsSorted-inserted (entry_of p.deadlines.next deadline token) p.deadlines.entries (AllBelow-free p.deadlines.next p.deadlines.entries h.below) h.sorted;
        below = AllBelow-inserted (p.deadlines.next + 1) (entry_of p.deadlines.next deadline token) p.deadlines.entries (omega arith) (AllBelow-more p.deadlines.next (p.deadlines.next + 1) p.deadlines.entries (omega arith) h.below);
      })
  ordered_steps p (ArmAgain counter deadline token ∷ ss) a h =
      ordered_steps (poll_after p (ArmAgain counter deadline token)) ss a.1
      (record {
        sorted = IsSorted-inserted (entry_of counter deadline token) p.deadlines.entries a.0.0 h.sorted;
        below = AllBelow-inserted p.deadlines.next (entry_of counter deadline token) p.deadlines.entries a.0.1 h.below;
      })
  ordered_steps p (Cancel counter ∷ ss) a h =
      ordered_steps (poll_after p (Cancel counter)) ss a.1
      (record { sorted = IsSorted-filter (is_other counter) p.deadlines.entries h.sorted; below = AllBelow-filter (is_other counter) p.deadlines.next p.deadlines.entries h.below })
  ordered_steps p (Call counter deadline ∷ ss) a h = ordered_steps (poll_after p (Call counter deadline)) ss a.1 h
  ordered_steps p (ReadClock now after ∷ ss) a h = ordered_steps (poll_after p (ReadClock now after)) ss a.1 h
  ordered_steps p (Socket edit after ∷ ss) a h = ordered_steps (poll_after p (Socket edit after)) ss a.1 h
  ordered_steps p (Fault call cause after ∷ ss) a h = ordered_steps (poll_after p (Fault call cause after)) ss a.1 h

  deadlines_cut : (p : PollView P) (es : List Pending) → (cut_from es p).deadlines ≡ p.deadlines
  deadlines_cut p [] = refl
  deadlines_cut p (e ∷ es) =
      elim e.posted as (λ b. ◌≡◌ {A = Deadlines} (if b then record (with_pass (head_of p.passes) p) { batch = tail_of p.batch; passes = tail_of p.passes } else record (with_pass None p) { batch = tail_of p.batch }).deadlines p.deadlines)
      [ true ↦ refl | false ↦ refl ]

  ordered_all : (v : View D I P) (cs : List (Change D I P)) → AllFit O v cs → IsOrdered v.poll.deadlines → IsOrdered (all_viewed v cs).poll.deadlines
  ordered_all v [] f h = h
  ordered_all v (Put slot content ∷ cs) f h = ordered_all (after_change v (Put slot content)) cs f.1 h
  ordered_all v (Swapped slot old new ∷ cs) f h = ordered_all (after_change v (Swapped slot old new)) cs f.1 h
  ordered_all v (Claim source ∷ cs) f h = ordered_all (after_change v (Claim source)) cs f.1 h
  ordered_all v (Polls steps ∷ cs) f h = ordered_all (after_change v (Polls steps)) cs f.1 (ordered_steps v.poll steps f.0 h)
  ordered_all v (Polling poller ∷ cs) f h = ordered_all (after_change v (Polling poller)) cs f.1 h
  ordered_all v (Watching watch ∷ cs) f h = ordered_all (after_change v (Watching watch)) cs f.1 h
  ordered_all v (Counting places ∷ cs) f h = ordered_all (after_change v (Counting places)) cs f.1 h
  ordered_all v (Holds step ∷ cs) f h = ordered_all (after_change v (Holds step)) cs f.1 h
  ordered_all v (Appended event ∷ cs) f h = ordered_all (after_change v (Appended event)) cs f.1 h
  ordered_all v (Gathered posted given now ∷ cs) f h = ordered_all (after_change v (Gathered posted given now)) cs f.1 (record { sorted = sorted_behind now v.poll.deadlines.entries h.sorted; below = below_behind now v.poll.deadlines.next v.poll.deadlines.entries h.below })
  ordered_all v (Cut slot ∷ cs) f h = ordered_all (after_change v (Cut slot)) cs f.1 (subst (λ (d : Deadlines). IsOrdered d) (sym (deadlines_cut v.poll v.poll.batch)) h)
  ordered_all v (Ended ∷ cs) f h = ordered_all (after_change v Ended) cs f.1 h

  -- Each step after the gathering puts nothing into the batch.

  cut_tame : (v : View D I P) (e : Pending) (x : X) (cs : List (Change D I P)) (b : Doing D X) (c : Content D) → CutTo M e c v x cs b → AllTame cs
  cut_tame v e x cs b Vacant h = rw h.0 (tt, (tt, tt))
  cut_tame v e x cs b InTurn h = rw h.0 (tt, (tt, tt))
  cut_tame v e x cs b (Source d) h = rw h.6 (tt, (tt, (tt, (tt, (tt, tt)))))

  from_tame : (v : View D I P) (es : List Pending) (x : X) (cs : List (Change D I P)) (b : Doing D X) → CutFrom M es v x cs b → AllTame cs
  from_tame v [] x cs b h = rw h.0 tt
  from_tame v (e ∷ es) x cs b h = cut_tame v e x cs b (content_at v.slots (registration_of e.token)) h

  emptied_tame : (token : RegistrationToken) (c : Content D) → AllTame (vacate {D = D} {I = I} {P = P} token c)
  emptied_tame token Vacant = tt
  emptied_tame token (Source d) = tt
  emptied_tame token InTurn = (tt, tt)

  acted_tame : (v : View D I P) (token : RegistrationToken) (d : D) (answer : Result PostAction Error) (cs : List (Change D I P)) (e : D) (told : Result (Unit {0}) Error) → ActedBy M token d answer v cs e told → AllTame cs
  acted_tame v token d (Ok Continue) cs e told h = rw h.0 (tt, tt)
  acted_tame v token d (Ok Reregister) cs e told h = rw h.2 (tt, (tt, (tt, tt)))
  acted_tame v token d (Ok DisableIt) cs e told h = rw h.2 (tt, (tt, (tt, tt)))
  acted_tame v token d (Ok Remove) cs e told h = rw h.0 (tt, emptied_tame token (content_at v.slots token))
  acted_tame v token d (Err error) cs e told h = rw h.0 (tt, tt)

  returned_tame : (v : View D I P) (token : RegistrationToken) (d : D) (c : Content D) (cs : List (Change D I P)) → ReturnedTo M token d c v cs → AllTame cs
  returned_tame v token d InTurn cs h = rw h (tt, tt)
  returned_tame v token d Vacant cs h = rw h.5 (tt, (tt, (tt, (tt, tt))))
  returned_tame v token d (Source f) cs h = rw h.5 (tt, (tt, (tt, (tt, tt))))

  noticed_tame : (v : View D I P) (from : ℕ) (token : RegistrationToken) (later : List RegistrationToken) (x : X) (cs : List (Change D I P)) (b : Doing D X) (c : Content D) → NoticedBy M from token later c v x cs b → AllTame cs
  noticed_tame v from token later x cs b Vacant h = rw h.0 tt
  noticed_tame v from token later x cs b InTurn h = rw h.0 tt
  noticed_tame v from token later x cs b (Source d) h = rw h.2 (tt, (tt, (tt, tt)))

  inserted_tame : (v : View D I P) (d : D) (answer : Result RegistrationToken (InsertError D)) (cs : List (Change D I P)) → InsertedBy M d answer v cs → AllTame cs
  inserted_tame v d (Ok token) cs h = rw h.6 (tt, (tt, (tt, (tt, tt))))
  inserted_tame v d (Err refused) cs h = elim h [ inl k ↦ rw k.2 tt | inr k ↦ rw k.4 (tt, (tt, (tt, tt))) ]

  asked_tame : (R : D → Outcome → List (PollStep P) → D → Type 0) (noted : D → Outcome → HeldStep D I) → ((d : D) (a : Outcome) → NoRound (noted d a)) → (token : RegistrationToken) (c : Content D) (answer : Outcome) (cs : List (Change D I P)) → AskedIn R noted token c answer cs → AllTame cs
  asked_tame R noted q token Vacant answer cs h = rw h.1 tt
  asked_tame R noted q token InTurn answer cs h = rw h.1 tt
  asked_tame R noted q token (Source d) answer cs h = rw h.3 (tt, (tt, (q d answer, (tt, tt))))

  removed_tame : (v : View D I P) (token : RegistrationToken) (c : Content D) (answer : Option D) (cs : List (Change D I P)) → RemovedIn M token c answer v cs → AllTame cs
  removed_tame v token Vacant answer cs h = rw h.1 tt
  removed_tame v token InTurn answer cs h = rw h.1 tt
  removed_tame v token (Source d) answer cs h = rw h.6 (tt, (tt, (tt, (tt, tt))))

  own_or : {A B G : Type 0} (c : Content D) → (A → G) → (B → G) → OwnOr c A B → G
  own_or InTurn f g h = f h
  own_or Vacant f g h = g h
  own_or (Source d) f g h = g h

  -- a request, and its answer after it
  told_tame : (ds cs : List (Change D I P)) (step : HeldStep D I) → NoRound step → cs ≡ ds ++ Holds step ∷ [] → AllTame ds → AllTame cs
  told_tame ds cs step q is h = rw is (tame-append ds (Holds step ∷ []) h (q, tt))

  served_as_tame : (v : View D I P) (request : Request D I) (answer : Outcome) (cs : List (Change D I P)) → ServedAs M request answer v cs → AllTame cs
  served_as_tame v (AskEnable token) answer cs h = own_or (content_at v.slots token) (λ k. rw k.1 tt) (λ k. asked_tame _ _ (λ d a. tt) token (only (is_callers M) (content_at v.slots token)) answer cs k) h
  served_as_tame v (AskUpdate token) answer cs h = own_or (content_at v.slots token) (λ k. rw k.1 (tt, tt)) (λ k. asked_tame _ _ (λ d a. tt) token (only (is_callers M) (content_at v.slots token)) answer cs k) h
  served_as_tame v (AskDisable token) answer cs h = own_or (content_at v.slots token) (λ k. rw k.1 (tt, tt)) (λ k. asked_tame _ _ (λ d a. tt) token (only (is_callers M) (content_at v.slots token)) answer cs k) h
  served_as_tame v (AskSetDeadline token deadline) answer cs h = own_or (content_at v.slots token) (λ k. rw k.1 tt) (λ k. asked_tame _ _ (λ d a. tt) token (only (is_callers M) (content_at v.slots token)) answer cs k) h
  served_as_tame v (AskInsert d) answer cs h = absurd h
  served_as_tame v (AskRemove token) answer cs h = absurd h
  served_as_tame v (AskIdle idle) answer cs h = absurd h
  served_as_tame v (AskCancel ticket) answer cs h = absurd h

  served_tame : (v : View D I P) (request : Request D I) (cs : List (Change D I P)) → Served M request v cs → AllTame cs
  served_tame v (AskInsert d) cs h = told_tame h.1 cs _ tt h.3 (inserted_tame v d h.0 h.1 h.2)
  served_tame v (AskEnable token) cs h = told_tame h.1 cs _ tt h.3 (served_as_tame v (AskEnable token) h.0 h.1 h.2)
  served_tame v (AskUpdate token) cs h = told_tame h.1 cs _ tt h.3 (served_as_tame v (AskUpdate token) h.0 h.1 h.2)
  served_tame v (AskDisable token) cs h = told_tame h.1 cs _ tt h.3 (served_as_tame v (AskDisable token) h.0 h.1 h.2)
  served_tame v (AskSetDeadline token deadline) cs h = told_tame h.1 cs _ tt h.3 (served_as_tame v (AskSetDeadline token deadline) h.0 h.1 h.2)
  served_tame v (AskRemove token) cs h =
      own_or (content_at v.slots token) (λ k. rw k (tt, (tt, (tt, tt)))) (λ k. told_tame k.1 cs _ tt k.3 (removed_tame v token (only (is_callers M) (content_at v.slots token)) k.0 k.1 k.2)) h
  served_tame v (AskIdle idle) cs h = rw h (tt, tt)
  served_tame v (AskCancel ticket) cs h = rw h (tt, (tt, tt))

  served_from_tame : (v : View D I P) (asked : List (Asked D I)) (on next b : Doing D X) (cs : List (Change D I P)) → ServedFrom M asked on next b v cs → AllTame cs
  served_from_tame v [] on next b cs h = rw h.0 tt
  served_from_tame v (a ∷ as') on next b cs h = rw h.2 (tt, served_tame (after_change v (Holds Begun)) a.request h.0 h.1)

  run_from_tame : (v : View D I P) (idles : List (Waiter I)) (x : X) (cs : List (Change D I P)) (b : Doing D X) → RunFrom runs idles v x cs b → AllTame cs
  run_from_tame v [] x cs b h = rw h.0 tt
  run_from_tame v (i ∷ is) x cs b h = rw h.3 (tt, (tt, tt))

  -- what the loop does after the gathering, and before it, or if that failed
  abbrev IsLate : Doing D X → Type 0
  IsLate (Beginning timeout x) = ⊥
  IsLate (Settling timeout later x) = ⊥
  IsLate (Sleeping timeout later x) = ⊥
  IsLate (Waiting timeout x) = ⊥
  IsLate (Gathering now given x) = ⊥
  IsLate a = Unit {0}

  abbrev IsEarly : Doing D X → Type 0
  IsEarly (Beginning timeout x) = Unit {0}
  IsEarly (Settling timeout later x) = Unit {0}
  IsEarly (Sleeping timeout later x) = Unit {0}
  IsEarly (Waiting timeout x) = Unit {0}
  IsEarly (Gathering now given x) = Unit {0}
  IsEarly (Leaving (Err e) x) = Unit {0}
  IsEarly a = ⊥

  -- what holds once the batch was cut
  abbrev Stands : View D I P → Doing D X → Type 0
  Stands v (Idling x) = v.poll.batch ≡ []
  Stands v (RunningIdles x) = v.poll.batch ≡ []
  Stands v (ServingIdle x) = v.poll.batch ≡ []
  Stands v (Leaving (Ok u) x) = (v.poll.batch ≡ []) × (v.held.asks.running ≡ [])
  Stands v a = Unit {0}

  -- a step after the gathering
  record GoesOn (v : View D I P) (cs : List (Change D I P)) (b : Doing D X) : Type 0 where
    tame : AllLoose cs
    late : IsLate b
    stands : Stands (all_viewed v cs) b

  noticed_on : (v : View D I P) (from : ℕ) (token : RegistrationToken) (later : List RegistrationToken) (x : X) (cs : List (Change D I P)) (b : Doing D X) (c : Content D) → NoticedBy M from token later c v x cs b → b ≡ Noticing from later x
  noticed_on v from token later x cs b Vacant h = h.1
  noticed_on v from token later x cs b InTurn h = h.1
  noticed_on v from token later x cs b (Source d) h = h.3

  cut_on : (v : View D I P) (e : Pending) (x : X) (cs : List (Change D I P)) (b : Doing D X) (c : Content D) → CutTo M e c v x cs b → IsLate b × Stands (all_viewed v cs) b
  cut_on v e x cs b Vacant h = rw h.1 (tt, tt)
  cut_on v e x cs b InTurn h = rw h.1 (tt, tt)
  cut_on v e x cs b (Source d) h = rw h.7 (tt, tt)

  from_on : (v : View D I P) (es : List Pending) (x : X) (cs : List (Change D I P)) (b : Doing D X) → v.poll.batch ≡ es → CutFrom M es v x cs b → IsLate b × Stands (all_viewed v cs) b
  from_on v [] x cs b is h = rw (h.1, h.0) (tt, is)
  from_on v (e ∷ es) x cs b is h = cut_on v e x cs b (content_at v.slots (registration_of e.token)) h

  returned_on : (u : View D I P) (told : Outcome) (x : X) → IsLate (after_turn told x) × Stands u (after_turn told x)
  returned_on u (Ok t) x = (tt, tt)
  returned_on u (Err e) x = (tt, tt)

  serving_on : (v u : View D I P) (asked : List (Asked D I)) (token : RegistrationToken) (d : D) (answer : Result PostAction Error) (x : X) (b : Doing D X) (cs : List (Change D I P)) → ServedFrom M asked (Serving token d answer x) (Ending token d answer x) b v cs → IsLate b × Stands u b
  serving_on v u [] token d answer x b cs h = rw h.1 (tt, tt)
  serving_on v u (a ∷ as') token d answer x b cs h = rw h.3 (tt, tt)

  idle_on : (v u : View D I P) (asked : List (Asked D I)) (x : X) (b : Doing D X) (cs : List (Change D I P)) → u.poll.batch ≡ [] → ServedFrom M asked (ServingIdle x) (RunningIdles x) b v cs → IsLate b × Stands u b
  idle_on v u [] x b cs is h = rw h.1 (tt, is)
  idle_on v u (a ∷ as') x b cs is h = rw h.3 (tt, is)

  run_on : (v : View D I P) (idles : List (Waiter I)) (x : X) (cs : List (Change D I P)) (b : Doing D X) → v.held.asks.running ≡ idles → (all_viewed v cs).poll.batch ≡ [] → RunFrom runs idles v x cs b → IsLate b × Stands (all_viewed v cs) b
  run_on v [] x cs b none is h = rw h.1 (tt, (is, rw h.0 none))
  run_on v (i ∷ idles) x cs b none is h = rw h.4 (tt, is)

  goes_on : (v : View D I P) (a b : Doing D X) (cs : List (Change D I P)) → IsLate a → Stands v a → Step M runs O v a cs b → GoesOn v cs b
  goes_on v (Beginning timeout x) b cs late s h = absurd late
  goes_on v (Settling timeout later x) b cs late s h = absurd late
  goes_on v (Sleeping timeout later x) b cs late s h = absurd late
  goes_on v (Waiting timeout x) b cs late s h = absurd late
  goes_on v (Gathering now given x) b cs late s h = absurd late
  goes_on v (Noticing from [] x) b cs late s h = record { tame = rw h.0 tt; late = rw h.1 tt; stands = rw h.1 tt }
  goes_on v (Noticing from (t ∷ later) x) b cs late s h =
      let is = noticed_on v from t later x cs b (content_at v.slots t) h in
      record { tame = loose_tame cs (noticed_tame v from t later x cs b (content_at v.slots t) h); late = rw is tt; stands = rw is tt }
  goes_on v (Cutting x) b cs late s h =
      let k = from_on v v.poll.batch x cs b refl h in
      record { tame = loose_tame cs (from_tame v v.poll.batch x cs b h); late = k.0; stands = k.1 }
  goes_on v (Serving token d answer x) b cs late s h =
      let k = serving_on v (all_viewed v cs) v.held.asks.written token d answer x b cs h in
      record { tame = loose_tame cs (served_from_tame v v.held.asks.written _ _ b cs h); late = k.0; stands = k.1 }
  goes_on v (Ending token d answer x) b cs late s h =
      record { tame = loose_tame cs (acted_tame v token d (action_of answer v.held.pending) cs h.0 h.1 h.2); late = rw h.3 tt; stands = rw h.3 tt }
  goes_on v (Returning token d told x) b cs late s h =
      let k = returned_on (all_viewed v cs) told x in
      record { tame = loose_tame cs (returned_tame v token d (content_at v.slots token) cs h.0); late = rw h.1 k.0; stands = rw h.1 k.1 }
  goes_on v (Idling x) b cs late s h = record { tame = rw h.0 (tt, tt); late = rw h.1 tt; stands = rw (h.1, h.0) s }
  goes_on v (RunningIdles x) b cs late s h =
      let t = loose_tame cs (run_from_tame v v.held.asks.running x cs b h) in
      let k = run_on v v.held.asks.running x cs b refl (stays_empty v cs t s) h in
      record { tame = t; late = k.0; stands = k.1 }
  goes_on v (ServingIdle x) b cs late s h =
      let t = loose_tame cs (served_from_tame v v.held.asks.written _ _ b cs h) in
      let k = idle_on v (all_viewed v cs) v.held.asks.written x b cs (stays_empty v cs t s) h in
      record { tame = t; late = k.0; stands = k.1 }
  goes_on v (Leaving answer x) b cs late s h = absurd h

  -- all steps after the gathering
  all_go_on : (v : View D I P) (a b : Doing D X) (css : List (List (Change D I P))) → IsLate a → Stands v a → Steps M runs O v a css b → AllLoose (flatten css) × Stands (all_viewed v (flatten css)) b
  all_go_on v a b [] late s h = (tt, rw h s)
  all_go_on v a b (cs ∷ css) late s h =
      let k = goes_on v a h.0 cs late s h.1 in
      let rest = all_go_on (all_viewed v cs) h.0 b css k.late k.stands h.3 in
      (loose-append cs (flatten css) k.tame rest.0, subst (λ (u : View D I P). Stands u b) (sym (viewed-append v cs (flatten css))) rest.1)

  -- Before the gathering.

  settled_early : (v : View D I P) (token : RegistrationToken) (c : Content D) (cs : List (Change D I P)) → SettledIn M token c v cs → AllPlain cs
  settled_early v token Vacant cs h = rw h tt
  settled_early v token InTurn cs h = rw h tt
  settled_early v token (Source d) cs (inl h) = (let e = h.3 in rw e (tt, (tt, (tt, (tt, tt)))))
  settled_early v token (Source d) cs (inr h) = (let e = h.1.6 in rw e (tt, (tt, (tt, (tt, tt)))))

  appends_plain : (given : List (Readiness × Token)) → AllPlain {D = D} {I = I} {P = P} (appends given)
  appends_plain [] = tt
  appends_plain (e ∷ es) = (tt, appends_plain es)

  slept_as_early : (timeout : Option ℕ) (later : List RegistrationToken) (given : List (Readiness × Token)) (answer : Outcome) (x : X) (cs : List (Change D I P)) (b : Doing D X) → SleptAs timeout later given answer x cs b → AllPlain cs × IsEarly b
  slept_as_early timeout later given (Ok u) x cs b h = (rw h.0 (appends_plain given), rw h.1 tt)
  slept_as_early timeout later given (Err e) x cs b h = (rw h.0 tt, rw h.1 tt)

  slept_early : (v : View D I P) (timeout : Option ℕ) (token : RegistrationToken) (later : List RegistrationToken) (x : X) (cs : List (Change D I P)) (b : Doing D X) (c : Content D) → SleptBy M timeout token later c v x cs b → AllPlain cs × IsEarly b
  slept_early v timeout token later x cs b Vacant h = (rw h.0 tt, rw h.1 tt)
  slept_early v timeout token later x cs b InTurn h = (rw h.0 tt, rw h.1 tt)
  slept_early v timeout token later x cs b (Source d) h =
      let k = slept_as_early timeout later h.1 h.2 x h.3 b h.5 in
      (rw h.6 (tt, (tt, (tt, k.0))), k.1)

  waited_early : (answer : Result ℕ Cause) (given : List (ℕ × Readiness)) (x : X) → IsEarly (after_wait answer given x)
  waited_early (Ok now) given x = tt
  waited_early (Err cause) given x = tt

  -- what is found of a gathering in these changes
  record Found (v : View D I P) (cs : List (Change D I P)) : Type 0 where
    now : ℕ
    right_before : View D I P
    right_behind : View D I P
    cut_then : List Pending
    gathers : Gathers now right_before right_behind cut_then v cs
    all : cut_then ≡ right_behind.poll.batch
    later : IsOrdered v.poll.deadlines → AllLater now right_behind.poll.deadlines.entries
    due_cut : IsOrdered v.poll.deadlines → (e : Entry) → Contains right_before.poll.deadlines.entries e → e.deadline.nanos ≤ now → Contains cut_then (timer_event e)
    empty : (all_viewed v cs).poll.batch ≡ []

  gathers_behind : (now : ℕ) (t u : View D I P) (es : List Pending) (v : View D I P) (cs ds : List (Change D I P)) → AllPlain cs → Gathers now t u es (all_viewed v cs) ds → Gathers now t u es v (cs ++ ds)
  gathers_behind now t u es v [] ds p h = h
  gathers_behind now t u es v (Put slot content ∷ cs) ds p h = gathers_behind now t u es (after_change v (Put slot content)) cs ds p.1 h
  gathers_behind now t u es v (Swapped slot old new ∷ cs) ds p h = gathers_behind now t u es (after_change v (Swapped slot old new)) cs ds p.1 h
  gathers_behind now t u es v (Claim source ∷ cs) ds p h = gathers_behind now t u es (after_change v (Claim source)) cs ds p.1 h
  gathers_behind now t u es v (Polls steps ∷ cs) ds p h = gathers_behind now t u es (after_change v (Polls steps)) cs ds p.1 h
  gathers_behind now t u es v (Polling poller ∷ cs) ds p h = gathers_behind now t u es (after_change v (Polling poller)) cs ds p.1 h
  gathers_behind now t u es v (Watching watch ∷ cs) ds p h = gathers_behind now t u es (after_change v (Watching watch)) cs ds p.1 h
  gathers_behind now t u es v (Counting places ∷ cs) ds p h = gathers_behind now t u es (after_change v (Counting places)) cs ds p.1 h
  gathers_behind now t u es v (Holds step ∷ cs) ds p h = gathers_behind now t u es (after_change v (Holds step)) cs ds p.1 h
  gathers_behind now t u es v (Appended event ∷ cs) ds p h = gathers_behind now t u es (after_change v (Appended event)) cs ds p.1 h
  gathers_behind now t u es v (Gathered posted given moment ∷ cs) ds p h = absurd p.0
  gathers_behind now t u es v (Cut slot ∷ cs) ds p h = absurd p.0
  gathers_behind now t u es v (Ended ∷ cs) ds p h = gathers_behind now t u es (after_change v Ended) cs ds p.1 h

  found_behind : (v : View D I P) (cs ds : List (Change D I P)) → AllPlain cs → AllFit O v cs → Found (all_viewed v cs) ds → Found v (cs ++ ds)
  found_behind v cs ds p fits f =
      record {
        now = f.now;
        right_before = f.right_before;
        right_behind = f.right_behind;
        cut_then = f.cut_then;
        gathers = gathers_behind f.now f.right_before f.right_behind f.cut_then v cs ds p f.gathers;
        all = f.all;
        later = λ h. f.later (ordered_all v cs fits h);
        due_cut = λ h. f.due_cut (ordered_all v cs fits h);
        empty = subst (λ (u : View D I P). u.poll.batch ≡ []) (sym (viewed-append v cs ds)) f.empty;
      }

  found_there : (v : View D I P) (posted : List ℕ) (given : List (ℕ × Readiness)) (now : ℕ) (from : ℕ) (later : List RegistrationToken) (x x' : X) (css : List (List (Change D I P))) → Steps M runs O (after_change v (Gathered posted given now)) (Noticing from later x) css (Leaving (Ok tt) x') → Found v (Gathered posted given now ∷ flatten css)
  found_there v posted given now from later x x' css h =
      let u = after_change v (Gathered posted given now) in
      let k = all_go_on u (Noticing from later x) (Leaving (Ok tt) x') css tt tt h in
      let all = sym (append_nil (events_cut u (flatten css))) ∙ ap (λ l. events_cut u (flatten css) ++ l) (sym k.1.0) ∙ all_cut u (flatten css) k.0 in
      record {
        now = now;
        right_before = v;
        right_behind = u;
        cut_then = events_cut u (flatten css);
        gathers = (refl, refl, refl, refl, none_gathers (flatten css) k.0);
        all = all;
        later = λ o. not_due_later now v.poll.deadlines.entries o.sorted;
        due_cut = λ o e there come.
            subst (λ (es : List Pending). Contains es (timer_event e)) (sym all)
            (Contains-append_right ((v.poll.batch ++ posted_events posted) ++ polled_events given) (timer_events (due now v.poll.deadlines.entries)) (timer_event e) (due_has now v.poll.deadlines.entries e o.sorted there come));
        empty = k.1.0;
      }

  found : (v : View D I P) (a : Doing D X) (x' : X) (css : List (List (Change D I P))) → IsEarly a → Steps M runs O v a css (Leaving (Ok tt) x') → Found v (flatten css)
  found v (Beginning timeout x) x' [] early h = cc
  found v (Settling timeout later x) x' [] early h = cc
  found v (Sleeping timeout later x) x' [] early h = cc
  found v (Waiting timeout x) x' [] early h = cc
  found v (Gathering now given x) x' [] early h = cc
  found v (Leaving (Err e) x) x' [] early h = cc
  found v (Beginning timeout x) x' (cs ∷ css) early h =
      found_behind v cs (flatten css) (let s = h.1 in rw s.4 (tt, (tt, (tt, tt)))) h.2 (found (all_viewed v cs) h.0 x' css (let s = h.1 in rw s.5 tt) h.3)
  found v (Settling timeout [] x) x' (cs ∷ css) early h =
      found_behind v cs (flatten css) (let s = h.1 in rw s.0 tt) h.2 (found (all_viewed v cs) h.0 x' css (let s = h.1 in rw s.1 tt) h.3)
  found v (Settling timeout (t ∷ later) x) x' (cs ∷ css) early h =
      found_behind v cs (flatten css) (settled_early v t (only (is_adapter M) (content_at v.slots t)) cs h.1.0) h.2 (found (all_viewed v cs) h.0 x' css (let s = h.1 in rw s.1 tt) h.3)
  found v (Sleeping timeout [] x) x' (cs ∷ css) early h =
      found_behind v cs (flatten css) (let s = h.1 in rw s.0 tt) h.2 (found (all_viewed v cs) h.0 x' css (let s = h.1 in rw s.1 tt) h.3)
  found v (Sleeping timeout (t ∷ later) x) x' (cs ∷ css) early h =
      let k = slept_early v timeout t later x cs h.0 (content_at v.slots t) h.1 in
      found_behind v cs (flatten css) k.0 h.2 (found (all_viewed v cs) h.0 x' css k.1 h.3)
  found v (Waiting timeout x) x' (cs ∷ css) early h =
      found_behind v cs (flatten css) (let s = h.1 in rw s.5 (tt, (tt, tt))) h.2 (found (all_viewed v cs) h.0 x' css (let s = h.1 in rw s.6 (waited_early s.0 s.1 x)) h.3)
  found v (Gathering now given x) x' (cs ∷ css) early h =
      let s = h.1 in
      let from = subst (λ (ds : List (Change D I P)). Steps M runs O (all_viewed v ds) h.0 css (Leaving (Ok tt) x')) s.1 h.3 in
      let there = subst (λ (c : Doing D X). Steps M runs O (after_change v (Gathered s.0 given now)) c css (Leaving (Ok tt) x')) s.2 from in
      subst (λ (ds : List (Change D I P)). Found v (ds ++ flatten css)) (sym s.1) (found_there v s.0 given now _ _ x x' css there)
  found v (Leaving (Err e) x) x' (cs ∷ css) early h = absurd h.1
  found v (Leaving (Ok u) x) x' css early h = absurd early
  found v (Noticing from later x) x' css early h = absurd early
  found v (Cutting x) x' css early h = absurd early
  found v (Serving token d answer x) x' css early h = absurd early
  found v (Ending token d answer x) x' css early h = absurd early
  found v (Returning token d told x) x' css early h = absurd early
  found v (Idling x) x' css early h = absurd early
  found v (RunningIdles x) x' css early h = absurd early
  found v (ServingIdle x) x' css early h = absurd early

  found_in : (timeout : Option ℕ) (x x' : X) (v : View D I P) (css : List (List (Change D I P))) → DispatchedBy M runs O timeout x (Ok tt) x' v css → Found v (flatten css)
  found_in timeout x x' v css (inl h) = (let e = h.0 in cc)
  found_in timeout x x' v css (inr h) = found v (Beginning timeout x) x' css tt h

  -- The round of idles.

  -- what comes before it
  abbrev IsBeforeRound : Doing D X → Type 0
  IsBeforeRound (RunningIdles x) = ⊥
  IsBeforeRound (ServingIdle x) = ⊥
  IsBeforeRound (Leaving (Ok u) x) = ⊥
  IsBeforeRound a = Unit {0}

  -- and in it, up to its end
  abbrev InRound : View D I P → Doing D X → Type 0
  InRound v (RunningIdles x) = Unit {0}
  InRound v (ServingIdle x) = Unit {0}
  InRound v (Leaving (Ok u) x) = v.held.asks.running ≡ []
  InRound v a = ⊥

  early_ahead : (b : Doing D X) → IsEarly b → IsBeforeRound b
  early_ahead (Beginning timeout x) h = tt
  early_ahead (Settling timeout later x) h = tt
  early_ahead (Sleeping timeout later x) h = tt
  early_ahead (Waiting timeout x) h = tt
  early_ahead (Gathering now given x) h = tt
  early_ahead (Leaving (Err e) x) h = tt
  early_ahead (Leaving (Ok u) x) h = absurd h
  early_ahead (Noticing from later x) h = tt
  early_ahead (Cutting x) h = tt
  early_ahead (Serving token d answer x) h = tt
  early_ahead (Ending token d answer x) h = tt
  early_ahead (Returning token d told x) h = tt
  early_ahead (Idling x) h = tt
  early_ahead (RunningIdles x) h = absurd h
  early_ahead (ServingIdle x) h = absurd h

  cut_ahead : (v : View D I P) (e : Pending) (x : X) (cs : List (Change D I P)) (b : Doing D X) (c : Content D) → CutTo M e c v x cs b → IsBeforeRound b
  cut_ahead v e x cs b Vacant h = rw h.1 tt
  cut_ahead v e x cs b InTurn h = rw h.1 tt
  cut_ahead v e x cs b (Source d) h = rw h.7 tt

  from_ahead : (v : View D I P) (es : List Pending) (x : X) (cs : List (Change D I P)) (b : Doing D X) → CutFrom M es v x cs b → IsBeforeRound b
  from_ahead v [] x cs b h = rw h.1 tt
  from_ahead v (e ∷ es) x cs b h = cut_ahead v e x cs b (content_at v.slots (registration_of e.token)) h

  returned_ahead : (told : Outcome) (x : X) → IsBeforeRound (after_turn told x)
  returned_ahead (Ok t) x = tt
  returned_ahead (Err e) x = tt

  serving_ahead : (v : View D I P) (asked : List (Asked D I)) (token : RegistrationToken) (d : D) (answer : Result PostAction Error) (x : X) (b : Doing D X) (cs : List (Change D I P)) → ServedFrom M asked (Serving token d answer x) (Ending token d answer x) b v cs → IsBeforeRound b
  serving_ahead v [] token d answer x b cs h = rw h.1 tt
  serving_ahead v (a ∷ as') token d answer x b cs h = rw h.3 tt

  -- what is found of it in these changes
  record RoundFound (v : View D I P) (cs : List (Change D I P)) : Type 0 where
    round : List (Waiter I)
    begun' : List (Waiter I)
    cancelled : List ℕ
    takes : RunsRound round begun' cancelled v cs
    over : (i : Waiter I) → Contains round i → Contains begun' i ⊎ Contains cancelled i.ticket

  takes_behind : (is js : List (Waiter I)) (ns : List ℕ) (v : View D I P) (cs ds : List (Change D I P)) → AllQuiet cs → RunsRound is js ns (all_viewed v cs) ds → RunsRound is js ns v (cs ++ ds)
  takes_behind is js ns v [] ds q h = h
  takes_behind is js ns v (Put slot content ∷ cs) ds q h = takes_behind is js ns (after_change v (Put slot content)) cs ds q.1 h
  takes_behind is js ns v (Swapped slot old new ∷ cs) ds q h = takes_behind is js ns (after_change v (Swapped slot old new)) cs ds q.1 h
  takes_behind is js ns v (Claim source ∷ cs) ds q h = takes_behind is js ns (after_change v (Claim source)) cs ds q.1 h
  takes_behind is js ns v (Polls steps ∷ cs) ds q h = takes_behind is js ns (after_change v (Polls steps)) cs ds q.1 h
  takes_behind is js ns v (Polling poller ∷ cs) ds q h = takes_behind is js ns (after_change v (Polling poller)) cs ds q.1 h
  takes_behind is js ns v (Watching watch ∷ cs) ds q h = takes_behind is js ns (after_change v (Watching watch)) cs ds q.1 h
  takes_behind is js ns v (Counting places ∷ cs) ds q h = takes_behind is js ns (after_change v (Counting places)) cs ds q.1 h
  takes_behind is js ns v (Holds (Listed needed token) ∷ cs) ds q h = takes_behind is js ns (after_change v (Holds (Listed needed token))) cs ds q.1 h
  takes_behind is js ns v (Holds (Unlisted token) ∷ cs) ds q h = takes_behind is js ns (after_change v (Holds (Unlisted token))) cs ds q.1 h
  takes_behind is js ns v (Holds (Pend action) ∷ cs) ds q h = takes_behind is js ns (after_change v (Holds (Pend action))) cs ds q.1 h
  takes_behind is js ns v (Holds (Asking steps) ∷ cs) ds q h = takes_behind is js ns (after_change v (Holds (Asking steps))) cs ds q.1 h
  takes_behind is js ns v (Holds (AskingIn token steps) ∷ cs) ds q h = takes_behind is js ns (after_change v (Holds (AskingIn token steps))) cs ds q.1 h
  takes_behind is js ns v (Holds Begun ∷ cs) ds q h = takes_behind is js ns (after_change v (Holds Begun)) cs ds q.1 h
  takes_behind is js ns v (Holds (Told answer) ∷ cs) ds q h = takes_behind is js ns (after_change v (Holds (Told answer))) cs ds q.1 h
  takes_behind is js ns v (Holds Owe ∷ cs) ds q h = takes_behind is js ns (after_change v (Holds Owe)) cs ds q.1 h
  takes_behind is js ns v (Holds (Paid answer) ∷ cs) ds q h = takes_behind is js ns (after_change v (Holds (Paid answer))) cs ds q.1 h
  takes_behind is js ns v (Holds Cleared ∷ cs) ds q h = takes_behind is js ns (after_change v (Holds Cleared)) cs ds q.1 h
  takes_behind is js ns v (Holds (Warned kept told) ∷ cs) ds q h = takes_behind is js ns (after_change v (Holds (Warned kept told))) cs ds q.1 h
  takes_behind is js ns v (Holds (StopNoted note) ∷ cs) ds q h = takes_behind is js ns (after_change v (Holds (StopNoted note))) cs ds q.1 h
  takes_behind is js ns v (Holds (IdleIn idle) ∷ cs) ds q h = takes_behind is js ns (after_change v (Holds (IdleIn idle))) cs ds q.1 h
  takes_behind is js ns v (Holds (IdleNew idle) ∷ cs) ds q h = takes_behind is js ns (after_change v (Holds (IdleNew idle))) cs ds q.1 h
  takes_behind is js ns v (Holds (IdleOut ticket) ∷ cs) ds q h = takes_behind is js ns (after_change v (Holds (IdleOut ticket))) cs ds q.1 h
  takes_behind is js ns v (Holds IdlesTaken ∷ cs) ds q h = absurd q.0
  takes_behind is js ns v (Holds IdleBegun ∷ cs) ds q h = takes_behind is js ns (after_change v (Holds IdleBegun)) cs ds q.1 h
  takes_behind is js ns v (Appended event ∷ cs) ds q h = takes_behind is js ns (after_change v (Appended event)) cs ds q.1 h
  takes_behind is js ns v (Gathered posted given now ∷ cs) ds q h = takes_behind is js ns (after_change v (Gathered posted given now)) cs ds q.1 h
  takes_behind is js ns v (Cut slot ∷ cs) ds q h = takes_behind is js ns (after_change v (Cut slot)) cs ds q.1 h
  takes_behind is js ns v (Ended ∷ cs) ds q h = takes_behind is js ns (after_change v Ended) cs ds q.1 h

  round_behind : (v : View D I P) (cs ds : List (Change D I P)) → AllQuiet cs → RoundFound (all_viewed v cs) ds → RoundFound v (cs ++ ds)
  round_behind v cs ds q f = record { round = f.round; begun' = f.begun'; cancelled = f.cancelled; takes = takes_behind f.round f.begun' f.cancelled v cs ds q f.takes; over = f.over }

  idle_in : (v u : View D I P) (asked : List (Asked D I)) (x : X) (b : Doing D X) (cs : List (Change D I P)) → ServedFrom M asked (ServingIdle x) (RunningIdles x) b v cs → InRound u b
  idle_in v u [] x b cs h = rw h.1 tt
  idle_in v u (a ∷ as') x b cs h = rw h.3 tt

  run_in : (v : View D I P) (idles : List (Waiter I)) (x : X) (cs : List (Change D I P)) (b : Doing D X) → v.held.asks.running ≡ idles → RunFrom runs idles v x cs b → InRound (all_viewed v cs) b
  run_in v [] x cs b none h = rw (h.1, h.0) none
  run_in v (i ∷ idles) x cs b none h = rw h.4 tt

  -- the steps of a round, up to the end
  in_round : (v : View D I P) (a : Doing D X) (x' : X) (css : List (List (Change D I P))) → InRound v a → Steps M runs O v a css (Leaving (Ok tt) x') → AllQuiet (flatten css) × ((all_viewed v (flatten css)).held.asks.running ≡ [])
  in_round v a x' [] r h = (tt, subst (λ (b : Doing D X). InRound v b) (sym h) r)
  in_round v (RunningIdles x) x' (cs ∷ css) r h =
      let rest = in_round (all_viewed v cs) h.0 x' css (run_in v v.held.asks.running x cs h.0 refl h.1) h.3 in (
        quiet-append cs (flatten css) (quiet_tame cs (run_from_tame v v.held.asks.running x cs h.0 h.1)) rest.0,
        subst (λ (u : View D I P). u.held.asks.running ≡ []) (sym (viewed-append v cs (flatten css))) rest.1,
      )
  in_round v (ServingIdle x) x' (cs ∷ css) r h =
      let rest = in_round (all_viewed v cs) h.0 x' css (idle_in v (all_viewed v cs) v.held.asks.written x h.0 cs h.1) h.3 in (
        quiet-append cs (flatten css) (quiet_tame cs (served_from_tame v v.held.asks.written _ _ h.0 cs h.1)) rest.0,
        subst (λ (u : View D I P). u.held.asks.running ≡ []) (sym (viewed-append v cs (flatten css))) rest.1,
      )
  in_round v (Leaving answer x) x' (cs ∷ css) r h = absurd h.1
  in_round v (Beginning timeout x) x' (cs ∷ css) r h = absurd r
  in_round v (Settling timeout later x) x' (cs ∷ css) r h = absurd r
  in_round v (Sleeping timeout later x) x' (cs ∷ css) r h = absurd r
  in_round v (Waiting timeout x) x' (cs ∷ css) r h = absurd r
  in_round v (Gathering now given x) x' (cs ∷ css) r h = absurd r
  in_round v (Noticing from later x) x' (cs ∷ css) r h = absurd r
  in_round v (Cutting x) x' (cs ∷ css) r h = absurd r
  in_round v (Serving token d answer x) x' (cs ∷ css) r h = absurd r
  in_round v (Ending token d answer x) x' (cs ∷ css) r h = absurd r
  in_round v (Returning token d told x) x' (cs ∷ css) r h = absurd r
  in_round v (Idling x) x' (cs ∷ css) r h = absurd r

  over_by : (v : View D I P) (cs : List (Change D I P)) → (all_viewed v cs).held.asks.running ≡ [] → (i : Waiter I) → IsOver v cs i → Contains (idles_begun v cs) i ⊎ Contains (idles_cancelled cs) i.ticket
  over_by v cs none i (inl h) = inl h
  over_by v cs none i (inr (inl h)) = inr h
  over_by v cs none i (inr (inr h)) = (let k = subst (λ (l : List (Waiter I)). Contains l i) none h in absurd (omega (arith, k.1)))

  round_there : (v : View D I P) (x x' : X) (css : List (List (Change D I P))) → Steps M runs O (after_change v (Holds IdlesTaken)) (RunningIdles x) css (Leaving (Ok tt) x') → RoundFound v (Holds IdlesTaken ∷ flatten css)
  round_there v x x' css h =
      let u = after_change v (Holds IdlesTaken) in
      let k = in_round u (RunningIdles x) x' css tt h in
      record {
        round = u.held.asks.running;
        begun' = idles_begun u (flatten css);
        cancelled = idles_cancelled (flatten css);
        takes = (refl, refl, refl, none_round (flatten css) k.0);
        over = λ i there. over_by u (flatten css) k.1 i (is_over u (flatten css) k.0 i there);
      }

  round_found : (v : View D I P) (a : Doing D X) (x' : X) (css : List (List (Change D I P))) → IsBeforeRound a → Steps M runs O v a css (Leaving (Ok tt) x') → RoundFound v (flatten css)
  round_found v a x' [] r h = absurd (subst (λ (b : Doing D X). IsBeforeRound b) (sym h) r)
  round_found v (Beginning timeout x) x' (cs ∷ css) r h =
      round_behind v cs (flatten css) (let s = h.1 in rw s.4 (tt, (tt, (tt, tt)))) (round_found (all_viewed v cs) h.0 x' css (let s = h.1 in rw s.5 tt) h.3)
  round_found v (Settling timeout [] x) x' (cs ∷ css) r h =
      round_behind v cs (flatten css) (let s = h.1 in rw s.0 tt) (round_found (all_viewed v cs) h.0 x' css (let s = h.1 in rw s.1 tt) h.3)
  round_found v (Settling timeout (t ∷ later) x) x' (cs ∷ css) r h =
      round_behind v cs (flatten css) (quiet_plain cs (settled_early v t (only (is_adapter M) (content_at v.slots t)) cs h.1.0)) (round_found (all_viewed v cs) h.0 x' css (let s = h.1 in rw s.1 tt) h.3)
  round_found v (Sleeping timeout [] x) x' (cs ∷ css) r h =
      round_behind v cs (flatten css) (let s = h.1 in rw s.0 tt) (round_found (all_viewed v cs) h.0 x' css (let s = h.1 in rw s.1 tt) h.3)
  round_found v (Sleeping timeout (t ∷ later) x) x' (cs ∷ css) r h =
      let k = slept_early v timeout t later x cs h.0 (content_at v.slots t) h.1 in
      round_behind v cs (flatten css) (quiet_plain cs k.0) (round_found (all_viewed v cs) h.0 x' css (early_ahead h.0 k.1) h.3)
  round_found v (Waiting timeout x) x' (cs ∷ css) r h =
      round_behind v cs (flatten css) (let s = h.1 in rw s.5 (tt, (tt, tt))) (round_found (all_viewed v cs) h.0 x' css (let s = h.1 in rw s.6 (early_ahead (after_wait s.0 s.1 x) (waited_early s.0 s.1 x))) h.3)
  round_found v (Gathering now given x) x' (cs ∷ css) r h =
      round_behind v cs (flatten css) (let s = h.1 in rw s.1 (tt, tt)) (round_found (all_viewed v cs) h.0 x' css (let s = h.1 in rw s.2 tt) h.3)
  round_found v (Noticing from [] x) x' (cs ∷ css) r h =
      round_behind v cs (flatten css) (let s = h.1 in rw s.0 tt) (round_found (all_viewed v cs) h.0 x' css (let s = h.1 in rw s.1 tt) h.3)
  round_found v (Noticing from (t ∷ later) x) x' (cs ∷ css) r h =
      let is = noticed_on v from t later x cs h.0 (content_at v.slots t) h.1 in
      round_behind v cs (flatten css) (quiet_tame cs (noticed_tame v from t later x cs h.0 (content_at v.slots t) h.1)) (round_found (all_viewed v cs) h.0 x' css (rw is tt) h.3)
  round_found v (Cutting x) x' (cs ∷ css) r h =
      round_behind v cs (flatten css) (quiet_tame cs (from_tame v v.poll.batch x cs h.0 h.1)) (round_found (all_viewed v cs) h.0 x' css (from_ahead v v.poll.batch x cs h.0 h.1) h.3)
  round_found v (Serving token d answer x) x' (cs ∷ css) r h =
      round_behind v cs (flatten css) (quiet_tame cs (served_from_tame v v.held.asks.written _ _ h.0 cs h.1)) (round_found (all_viewed v cs) h.0 x' css (serving_ahead v v.held.asks.written token d answer x h.0 cs h.1) h.3)
  round_found v (Ending token d answer x) x' (cs ∷ css) r h =
      let s = h.1 in
      round_behind v cs (flatten css) (quiet_tame cs (acted_tame v token d (action_of answer v.held.pending) cs s.0 s.1 s.2)) (round_found (all_viewed v cs) h.0 x' css (rw s.3 tt) h.3)
  round_found v (Returning token d told x) x' (cs ∷ css) r h =
      let s = h.1 in
      round_behind v cs (flatten css) (quiet_tame cs (returned_tame v token d (content_at v.slots token) cs s.0)) (round_found (all_viewed v cs) h.0 x' css (rw s.1 (returned_ahead told x)) h.3)
  round_found v (Idling x) x' (cs ∷ css) r h =
      let s = h.1 in
      let from = subst (λ (ds : List (Change D I P)). Steps M runs O (all_viewed v ds) h.0 css (Leaving (Ok tt) x')) s.0 h.3 in
      let there = subst (λ (c : Doing D X). Steps M runs O (after_change v (Holds IdlesTaken)) c css (Leaving (Ok tt) x')) s.1 from in
      subst (λ (ds : List (Change D I P)). RoundFound v (ds ++ flatten css)) (sym s.0) (round_there v x x' css there)
  round_found v (Leaving (Err e) x) x' (cs ∷ css) r h = absurd h.1
  round_found v (Leaving (Ok u) x) x' (cs ∷ css) r h = absurd r
  round_found v (RunningIdles x) x' (cs ∷ css) r h = absurd r
  round_found v (ServingIdle x) x' (cs ∷ css) r h = absurd r

  round_in : (timeout : Option ℕ) (x x' : X) (v : View D I P) (css : List (List (Change D I P))) → DispatchedBy M runs O timeout x (Ok tt) x' v css → RoundFound v (flatten css)
  round_in timeout x x' v css (inl h) = (let e = h.0 in cc)
  round_in timeout x x' v css (inr h) = round_found v (Beginning timeout x) x' css tt h

  pub served_all : (timeout : Option ℕ) (x x' : X) (v : View D I P) (css : List (List (Change D I P))) → DispatchedBy M runs O timeout x (Ok tt) x' v css
      → (a : Account D I P) × IsAccountOf a v (flatten css) × (NothingIsLeft a × AllAreCut a × NoneIsLate a × DueAreCut a × IdlesRan a)
  served_all timeout x x' v css h =
      let f = found_in timeout x x' v css h in
      let r = round_in timeout x x' v css h in (
        record { began = v; now = f.now; before = f.right_before; gathered = f.right_behind; cut = f.cut_then; round = r.round; begun = r.begun'; cancelled = r.cancelled; ended = all_viewed v (flatten css) },
        (refl, refl, f.gathers, r.takes),
        (f.empty, f.all, f.later, f.due_cut, r.over),
      )

  pub run_sorted : (calls : List (LoopCall D P X I)) (answers : List (LoopAnswer D P X I)) (csss : List (List (List (Change D I P)))) (w w' : World D I P) → Run M runs O calls answers csss w w' → IsOrdered w.poll.deadlines → IsOrdered w'.poll.deadlines
  run_sorted [] [] [] w w' run h = rw run h
  run_sorted (call ∷ calls) (answer ∷ answers) (css ∷ csss) w w' run h =
      let kept = ordered_all (visible w) (flatten css) (case_fit M runs O (visible w) call answer css run.0) h in
      run_sorted calls answers csss (all_traced w css) w' run.1
      (subst (λ (v : View D I P). IsOrdered v.poll.deadlines) (viewed-joined M runs O (visible w) css ∙ sym (seen-all_traced w css)) kept)
  run_sorted calls answers csss w w' run h = absurd run

pub new_sorted : {D I P : Type 0} (w : World D I P) → IsNew w → IsOrdered w.poll.deadlines
new_sorted w h = rw h.deadlines (record { sorted = tt; below = tt })
