-- Every step of a source, each gathering and each cut keep what the ledger says, as long as a source makes steps only of
-- counters that it alone holds.
use Rattle.std.proofs.Common.{◌≡◌, ◌≢◌, ◌⊎◌, inl, inr, ℕ, ◌+◌, ◌<◌, ◌≤◌, List, [], ◌∷◌, ◌++◌, map, filter, refl, ap, sym, ◌∙◌, arith, Some, None, true, false, if◌then◌else◌, nat_eq}
use Rattle.std.proofs.lemmas.Bool.Decides.{nat_tests}
use Rattle.calloop_slots.specs.declared.token.Token.{Token}
use Rattle.calloop_slots.specs.declared.wheel.Instant.{Instant}
use Rattle.calloop_slots.specs.Deadlines.{is_armed, entry_of, after_insert, without_counter, not_due}
use Rattle.calloop_poll.specs.declared.sys.Readiness.{Readiness}
use Rattle.calloop_poll.specs.declared.sys.poll.Pending.{Pending}
use Rattle.calloop_poll.specs.sys.Pollers.{Outside}
use Rattle.calloop_poll.specs.sys.Polls.{PollView, PollStep, TakePass, PutBack, Arm, ArmAgain, Cancel, Call, ReadClock, Socket, Fault, poll_after, polls_after, AllAllowed, after_gather, with_event, posted_events, polled_events, after_cut, cut_from, with_turn_of, tail_of, head_of, with_pass}
use Rattle.calloop_sources.specs.sources.Holdings.{Holding, Free, Spent, Standing, with_hold, IsWithin, Keeps}
use Rattle.calloop_loop.specs.Ledgers.{Ledger, Arming, NumberedEntry, TimerCall, latest, arm, step_noted, steps_noted, gathering_noted, appended_noted, cut_noted, is_under, number_of, from_elsewhere, from_deadline, due_in}
use Rattle.calloop_laws.specs.Laws.{IsLedgerOf, one, how_many, is_armed_as, waits_as, is_number, is_call_as, came_timely, timely, event_of}
use Rattle.calloop_laws.proofs.Counting.{counted-append, counted-armed_among, counted-split, counted-number_of, counted-due, counted-elsewhere, counted-cut, next_number, not_yet, on_time-append, on_time-elsewhere, on_time-due, on_time-tail, on_time-heads, own-append, entries-armed_among, entries-filter, entries-not_due, events-due, events-elsewhere, events-append, events-tail, own_more, is_armed_by, kept-by, unarmed, gathered-by, timely-elsewhere, timely-least, Falls, latest_apart}

-- the ledger, with its armings in the order of their making
pub record IsNoted {P : Type 0} (l : Ledger) (v : PollView P) : Type 0 where
  pub kept : IsLedgerOf l v
  pub falls : Falls l.count l.made

-- a counter whose last arming, for this deadline, wasn't called for: it stands in the deadlines, or was gathered in time
pub record IsUncalled (counter : ℕ) (deadline : Instant) (l : Ledger) : Type 0 where
  pub arming : Arming
  pub last : latest counter l.made ≡ Some arming
  pub under : arming.counter ≡ counter
  pub for_it : arming.deadline ≡ deadline
  pub uncalled : how_many (is_call_as arming.number) l.calls ≡ 0
  pub stands : 1 ≤ how_many (is_armed_by arming) l.armed + timely l arming

-- what is held was given, and what stands wasn't called for
pub record IsGood (l : Ledger) (next : ℕ) (held : ℕ → Holding) : Type 0 where
  pub below : (c : ℕ) → held c ≢ Free → c < next
  pub standing : (c : ℕ) (deadline : Instant) → held c ≡ Standing deadline → IsUncalled c deadline l

-- no counter is held by both
abbrev pub IsApart : (ℕ → Holding) → (ℕ → Holding) → Type 0
IsApart h o = (c : ℕ) → (h c ≡ Free) ⊎ (o c ≡ Free)

pub apart_sym : (h o : ℕ → Holding) → IsApart h o → IsApart o h
apart_sym h o a c = elim (a c) [ inl e ↦ inr e | inr e ↦ inl e ]

standing_held : (h : Holding) (deadline : Instant) → h ≡ Standing deadline → h ≢ Free
standing_held h deadline e f = cc

other_free : (h o : ℕ → Holding) (c : ℕ) → IsApart h o → h c ≢ Free → o c ≡ Free
other_free h o c a held = elim (a c) [ inl e ↦ absurd (held e) | inr e ↦ e ]

free_above : (x : Holding) (next : ℕ) → (x ≢ Free → next < next) → x ≡ Free
free_above Free next h = refl
free_above Spent next h = absurd (let lt = h (λ e. cc) in omega (arith, lt))
free_above (Standing deadline) next h = absurd (let lt = h (λ e. cc) in omega (arith, lt))

-- with a counter held otherwise
with_cases : (Q : Holding → Type 0) (n c : ℕ) (x : Holding) (h : ℕ → Holding) → (nat_eq c n ≡ true → Q x) → (nat_eq c n ≡ false → Q (h c)) → Q (with_hold n x h c)
with_cases Q n c x h here there = elim (nat_eq c n) as (λ b. nat_eq c n ≡ b → Q (if b then x else h c)) [ true ↦ here | false ↦ there ] refl

apart_with : (n : ℕ) (x : Holding) (h o : ℕ → Holding) → o n ≡ Free → IsApart h o → IsApart (with_hold n x h) o
apart_with n x h o free a c =
    elim (nat_eq c n) as (λ b. nat_eq c n ≡ b → ((if b then x else h c) ≡ Free) ⊎ (o c ≡ Free))
    [ true ↦ λ e. (let same : c ≡ n = grind (arith, nat_tests) in inr (ap o same ∙ free)) | false ↦ λ e. a c ] refl

-- arming another counter
uncalled_armed : (l : Ledger) (n c : ℕ) (deadline at : Instant) (token : Token) → nat_eq n c ≡ false → IsUncalled c deadline l → IsUncalled c deadline (arm l n at token)
uncalled_armed l n c deadline at token differs g =
    record {
      arming = g.arming;
      last = rw differs g.last;
      under = g.under;
      for_it = g.for_it;
      uncalled = g.uncalled;
      stands = omega (arith, g.stands, counted-armed_among (is_armed_by g.arming) (record { entry = entry_of n at token; number = l.count }) l.armed);
    }

uncalled_cancelled : {P : Type 0} (l : Ledger) (v : PollView P) (n c : ℕ) (deadline : Instant) → nat_eq n c ≡ false → IsUncalled c deadline l → IsUncalled c deadline (step_noted l v (Cancel n))
uncalled_cancelled l v n c deadline differs g =
    record { arming = g.arming; last = g.last; under = g.under; for_it = g.for_it; uncalled = g.uncalled; stands = omega (arith, g.stands, kept-by n g.arming l.armed (rw g.under differs)) }

uncalled_called : {P : Type 0} (l : Ledger) (v : PollView P) (n c : ℕ) (deadline at : Instant) → Falls l.count l.made → nat_eq n c ≡ false → IsUncalled n at l → IsUncalled c deadline l → IsUncalled c deadline (step_noted l v (Call n at))
uncalled_called l v n c deadline at falls differs h g =
    let apart : nat_eq h.arming.number g.arming.number ≡ false = latest_apart l.count n c l.made h.arming g.arming falls h.last g.last differs in
    let more : how_many (is_call_as g.arming.number) (l.calls ++ record { deadline = at; arming = latest n l.made } ∷ []) ≡ 0 =
    counted-append (is_call_as g.arming.number) l.calls (record { deadline = at; arming = latest n l.made } ∷ []) ∙ rw (h.last, apart, g.uncalled) refl in
    record { arming = g.arming; last = g.last; under = g.under; for_it = g.for_it; uncalled = more; stands = g.stands }

-- the arming that comes next was never called for
uncalled_next : {P : Type 0} (l : Ledger) (v : PollView P) → IsLedgerOf l v → how_many (is_call_as l.count) l.calls ≡ 0
uncalled_next l v k = omega (arith, k.gathered l.count, k.placed l.count, not_yet l.count)

eq_self : (n : ℕ) → nat_eq n n ≡ true
eq_self n = grind (arith, nat_tests)

-- a counter that was armed just now
uncalled_new : {P : Type 0} (l : Ledger) (v : PollView P) (n : ℕ) (at : Instant) (token : Token) → IsLedgerOf l v → IsUncalled n at (arm l n at token)
uncalled_new l v n at token k =
    record {
      arming = record { number = l.count; counter = n; deadline = at };
      last = rw (eq_self n) refl;
      under = refl;
      for_it = refl;
      uncalled = uncalled_next l v k;
      stands =
          let made : Arming = record { number = l.count; counter = n; deadline = at } in
          let first : one (is_armed_by made) (record { entry = entry_of n at token; number = l.count }) ≡ 1 = rw (eq_self n, eq_self l.count, eq_self at.nanos) refl in
          omega (arith, first, counted-armed_among (is_armed_by made) (record { entry = entry_of n at token; number = l.count }) l.armed);
    }

noted_armed : {P : Type 0} (l : Ledger) (v v' : PollView P) (n : ℕ) (at : Instant) (token : Token) → v'.deadlines.entries ≡ after_insert (entry_of n at token) v.deadlines.entries → v'.batch ≡ v.batch → IsNoted l v → IsNoted (arm l n at token) v'
noted_armed l v v' n at token entries batch h =
    let a : NumberedEntry = record { entry = entry_of n at token; number = l.count } in
    record {
      kept =
          record {
            entries = entries-armed_among a l.armed ∙ ap (λ es. after_insert (entry_of n at token) es) h.kept.entries ∙ sym entries;
            events = h.kept.events ∙ sym batch;
            placed = λ number. omega (arith, h.kept.placed number, counted-armed_among (is_armed_as number) a l.armed, next_number number l.count);
            batch_on_time = h.kept.batch_on_time;
            cut_on_time = h.kept.cut_on_time;
            own = h.kept.own;
            once = h.kept.once;
            gathered = h.kept.gathered;
          };
      falls = (omega arith, h.falls);
    }

noted_cancelled : {P : Type 0} (l : Ledger) (v : PollView P) (n : ℕ) → IsNoted l v → IsNoted (step_noted l v (Cancel n)) (poll_after v (Cancel n))
noted_cancelled l v n h =
    record {
      kept =
          record {
            entries = entries-filter n l.armed ∙ ap (λ es. without_counter n es) h.kept.entries;
            events = h.kept.events;
            placed = λ number.
                omega (arith, h.kept.placed number, counted-split (is_armed_as number) n l.armed, counted-append (is_number number) l.cancelled (map number_of (filter (is_under n) l.armed)), counted-number_of number (filter (is_under n) l.armed));
            batch_on_time = h.kept.batch_on_time;
            cut_on_time = h.kept.cut_on_time;
            own = h.kept.own;
            once = h.kept.once;
            gathered = h.kept.gathered;
          };
      falls = h.falls;
    }

one_more : (n m c : ℕ) (bound : ℕ) → c ≤ bound → (nat_eq m n ≡ true → c + 1 ≤ bound) → c + ((if nat_eq m n then 1 else 0) + 0) ≤ bound
one_more n m c bound most here = elim (nat_eq m n) as (λ b. (b ≡ true → c + 1 ≤ bound) → c + ((if b then 1 else 0) + 0) ≤ bound) [ true ↦ λ h. omega (arith, h refl) | false ↦ λ _. omega (arith, most) ] here

noted_called : {P : Type 0} (l : Ledger) (v : PollView P) (n : ℕ) (at : Instant) → is_armed n v.deadlines ≡ false → IsUncalled n at l → IsNoted l v → IsNoted (step_noted l v (Call n at)) (poll_after v (Call n at))
noted_called l v n at idle g h =
    let call : TimerCall = record { deadline = at; arming = latest n l.made } in
    let none_armed : how_many (is_armed_by g.arming) l.armed ≡ 0 = unarmed g.arming l.armed (rw g.under (rw (← h.kept.entries) at idle)) in
    let in_time : 1 ≤ timely l g.arming = omega (arith, none_armed, g.stands) in
    let more : (number : ℕ) → how_many (is_call_as number) (l.calls ++ call ∷ []) ≡ how_many (is_call_as number) l.calls + ((if nat_eq g.arming.number number then 1 else 0) + 0) =
    λ number. counted-append (is_call_as number) l.calls (call ∷ []) ∙ rw g.last refl in
    record {
      kept =
          record {
            entries = h.kept.entries;
            events = h.kept.events;
            placed = h.kept.placed;
            batch_on_time = h.kept.batch_on_time;
            cut_on_time = h.kept.cut_on_time;
            own = own-append (timely l) l.calls (call ∷ []) h.kept.own ((g.arming, g.last, g.for_it, in_time), tt);
            once = λ number.
                rw (more number) (one_more number g.arming.number (how_many (is_call_as number) l.calls) 1 (h.kept.once number) (λ here. let same : g.arming.number ≡ number = grind (arith, nat_tests) in let none : how_many (is_call_as number) l.calls ≡ 0 = ap (λ k. how_many (is_call_as k) l.calls) (sym same) ∙ g.uncalled in omega (arith, none)));
            gathered = λ number.
                rw (more number)
                (one_more number g.arming.number (how_many (is_call_as number) l.calls) (how_many (waits_as number) l.batch + how_many (waits_as number) l.cut) (h.kept.gathered number)
                (λ here.
                let same : g.arming.number ≡ number = grind (arith, nat_tests) in
                let none : how_many (is_call_as number) l.calls ≡ 0 = ap (λ k. how_many (is_call_as k) l.calls) (sym same) ∙ g.uncalled in
                let out : 1 ≤ how_many (waits_as g.arming.number) l.batch + how_many (waits_as g.arming.number) l.cut = omega (arith, in_time, timely-least g.arming l.batch, timely-least g.arming l.cut) in
                omega (arith, none, rw same at out)));
          };
      falls = h.falls;
    }

-- a step that notes nothing
noted_same : {P : Type 0} (l : Ledger) (v v' : PollView P) → v'.deadlines ≡ v.deadlines → v'.batch ≡ v.batch → IsNoted l v → IsNoted l v'
noted_same {P} l v v' deadlines batch h =
    record {
      kept =
          record {
            entries = h.kept.entries ∙ ap (λ d. d.entries) (sym deadlines);
            events = h.kept.events ∙ sym batch;
            placed = h.kept.placed;
            batch_on_time = h.kept.batch_on_time;
            cut_on_time = h.kept.cut_on_time;
            own = h.kept.own;
            once = h.kept.once;
            gathered = h.kept.gathered;
          };
      falls = h.falls;
    }

pub noted_alike : {P : Type 0} (l : Ledger) (v v' : PollView P) → v'.deadlines ≡ v.deadlines → v'.batch ≡ v.batch → IsNoted l v → IsNoted l v'
noted_alike l v v' deadlines batch h = noted_same l v v' deadlines batch h

timely_sum : (l : Ledger) (posted : List ℕ) (given : List (ℕ × Readiness)) (now : ℕ) (a : Arming)
    → timely (gathering_noted l posted given now) a ≡ timely l a + how_many (came_timely a) (map (from_deadline now) (due_in now l.armed))
timely_sum l posted given now a =
    let e = map from_elsewhere (posted_events posted) in
    let f = map from_elsewhere (polled_events given) in
    let d = map (from_deadline now) (due_in now l.armed) in
    omega (arith, counted-append (came_timely a) ((l.batch ++ e) ++ f) d, counted-append (came_timely a) (l.batch ++ e) f, counted-append (came_timely a) l.batch e, timely-elsewhere a (posted_events posted), timely-elsewhere a (polled_events given))

timely_gathered : (l : Ledger) (posted : List ℕ) (given : List (ℕ × Readiness)) (now : ℕ) (a : Arming) → timely l a ≤ timely (gathering_noted l posted given now) a
timely_gathered l posted given now a = omega (arith, timely_sum l posted given now a)

-- the batch is put together
pub noted_gathered : {P : Type 0} (l : Ledger) (v : PollView P) (posted : List ℕ) (given : List (ℕ × Readiness)) (now : ℕ) → IsNoted l v → IsNoted (gathering_noted l posted given now) (after_gather posted given now v)
noted_gathered l v posted given now h =
    let a = map from_elsewhere (posted_events posted) in
    let b = map from_elsewhere (polled_events given) in
    let d = map (from_deadline now) (due_in now l.armed) in
    let sum : (n : ℕ) → how_many (waits_as n) (((l.batch ++ a) ++ b) ++ d) ≡ how_many (waits_as n) l.batch + how_many (waits_as n) d =
    λ n.
    omega (arith, counted-append (waits_as n) ((l.batch ++ a) ++ b) d, counted-append (waits_as n) (l.batch ++ a) b, counted-append (waits_as n) l.batch a, counted-elsewhere n (posted_events posted), counted-elsewhere n (polled_events given)) in
    record {
      kept =
          record {
            entries = entries-not_due now l.armed ∙ ap (λ es. not_due now es) h.kept.entries;
            events =
                events-append ((l.batch ++ a) ++ b) d ∙ ap (λ es. es ++ map event_of d) (events-append (l.batch ++ a) b ∙ ap (λ es. es ++ map event_of b) (events-append l.batch a))
                ∙ rw (h.kept.events, events-elsewhere (posted_events posted), events-elsewhere (polled_events given), events-due now l.armed, h.kept.entries) refl;
            placed = λ n. omega (arith, sum n, counted-due n now l.armed, h.kept.placed n);
            batch_on_time = on_time-append _ _ (on_time-append _ _ (on_time-append _ _ h.kept.batch_on_time (on_time-elsewhere (posted_events posted))) (on_time-elsewhere (polled_events given))) (on_time-due now l.armed);
            cut_on_time = h.kept.cut_on_time;
            own = own_more (timely l) (timely (gathering_noted l posted given now)) l.calls (λ x. timely_gathered l posted given now x) h.kept.own;
            once = h.kept.once;
            gathered = λ n. omega (arith, sum n, h.kept.gathered n);
          };
      falls = h.falls;
    }

uncalled_gathered : (l : Ledger) (posted : List ℕ) (given : List (ℕ × Readiness)) (now c : ℕ) (deadline : Instant) → IsUncalled c deadline l → IsUncalled c deadline (gathering_noted l posted given now)
uncalled_gathered l posted given now c deadline g =
    record { arming = g.arming; last = g.last; under = g.under; for_it = g.for_it; uncalled = g.uncalled; stands = omega (arith, g.stands, timely_sum l posted given now g.arming, gathered-by g.arming now l.armed) }

pub good_gathered : (l : Ledger) (next : ℕ) (held : ℕ → Holding) (posted : List ℕ) (given : List (ℕ × Readiness)) (now : ℕ) → IsGood l next held → IsGood (gathering_noted l posted given now) next held
good_gathered l next held posted given now h = record { below = h.below; standing = λ c deadline is. uncalled_gathered l posted given now c deadline (h.standing c deadline is) }

-- an event joins the batch
timely_appended : (l : Ledger) (e : Pending) (a : Arming) → timely (appended_noted l e) a ≡ timely l a
timely_appended l e a = omega (arith, counted-append (came_timely a) l.batch (from_elsewhere e ∷ []))

pub noted_appended : {P : Type 0} (l : Ledger) (v : PollView P) (e : Pending) → IsNoted l v → IsNoted (appended_noted l e) (with_event e v)
noted_appended l v e h =
    let sum : (n : ℕ) → how_many (waits_as n) (l.batch ++ from_elsewhere e ∷ []) ≡ how_many (waits_as n) l.batch = λ n. omega (arith, counted-append (waits_as n) l.batch (from_elsewhere e ∷ [])) in
    record {
      kept =
          record {
            entries = h.kept.entries;
            events = events-append l.batch (from_elsewhere e ∷ []) ∙ ap (λ es. es ++ e ∷ []) h.kept.events;
            placed = λ n. omega (arith, sum n, h.kept.placed n);
            batch_on_time = on_time-append _ _ h.kept.batch_on_time (tt, tt);
            cut_on_time = h.kept.cut_on_time;
            own = own_more (timely l) (timely (appended_noted l e)) l.calls (λ x. omega (arith, timely_appended l e x)) h.kept.own;
            once = h.kept.once;
            gathered = λ n. omega (arith, sum n, h.kept.gathered n);
          };
      falls = h.falls;
    }

pub good_appended : (l : Ledger) (next : ℕ) (held : ℕ → Holding) (e : Pending) → IsGood l next held → IsGood (appended_noted l e) next held
good_appended l next held e h =
    record {
      below = h.below;
      standing = λ c deadline is.
          let g = h.standing c deadline is in
          record { arming = g.arming; last = g.last; under = g.under; for_it = g.for_it; uncalled = g.uncalled; stands = omega (arith, g.stands, timely_appended l e g.arming) };
    }

-- the first event is cut
cut_begun : {P : Type 0} (e : Pending) (v : PollView P) → ((with_turn_of e v).batch ≡ tail_of v.batch) × ((with_turn_of e v).deadlines ≡ v.deadlines)
cut_begun e v =
    elim e.posted as (λ b. ((if b then record (with_pass (head_of v.passes) v) { batch = tail_of v.batch; passes = tail_of v.passes } else record (with_pass None v) { batch = tail_of v.batch }).batch ≡ tail_of v.batch) × ((if b then record (with_pass (head_of v.passes) v) { batch = tail_of v.batch; passes = tail_of v.passes } else record (with_pass None v) { batch = tail_of v.batch }).deadlines ≡ v.deadlines))
    [ true ↦ (refl, refl) | false ↦ (refl, refl) ]

cut_as : {P : Type 0} (es : List Pending) (v : PollView P) → v.batch ≡ es → ((cut_from es v).batch ≡ tail_of v.batch) × ((cut_from es v).deadlines ≡ v.deadlines)
cut_as [] v is = (rw is refl, refl)
cut_as (e ∷ es) v is = cut_begun e v

pub cut_deadlines : {P : Type 0} (v : PollView P) → (after_cut v).deadlines ≡ v.deadlines
cut_deadlines v = (cut_as v.batch v refl).1

pub noted_cut : {P : Type 0} (l : Ledger) (v : PollView P) → IsNoted l v → IsNoted (cut_noted l) (after_cut v)
noted_cut l v h =
    let c = cut_as v.batch v refl in
    record {
      kept =
          record {
            entries = h.kept.entries ∙ ap (λ d. d.entries) (sym c.1);
            events = events-tail l.batch ∙ ap (λ es. tail_of es) h.kept.events ∙ sym c.0;
            placed = λ n. omega (arith, h.kept.placed n, counted-cut (waits_as n) l.batch l.cut);
            batch_on_time = on_time-tail l.batch h.kept.batch_on_time;
            cut_on_time = on_time-append _ _ h.kept.cut_on_time (on_time-heads l.batch h.kept.batch_on_time);
            own = own_more (timely l) (timely (cut_noted l)) l.calls (λ x. omega (arith, counted-cut (came_timely x) l.batch l.cut)) h.kept.own;
            once = h.kept.once;
            gathered = λ n. omega (arith, h.kept.gathered n, counted-cut (waits_as n) l.batch l.cut);
          };
      falls = h.falls;
    }

uncalled_cut : (l : Ledger) (c : ℕ) (deadline : Instant) → IsUncalled c deadline l → IsUncalled c deadline (cut_noted l)
uncalled_cut l c deadline g = record { arming = g.arming; last = g.last; under = g.under; for_it = g.for_it; uncalled = g.uncalled; stands = omega (arith, g.stands, counted-cut (came_timely g.arming) l.batch l.cut) }

pub good_cut : (l : Ledger) (next : ℕ) (held : ℕ → Holding) → IsGood l next held → IsGood (cut_noted l) next held
good_cut l next held h = record { below = h.below; standing = λ c deadline is. uncalled_cut l c deadline (h.standing c deadline is) }

-- what holds after steps of one source, which holds counters h, beside any other
pub record IsDone {P : Type 0} (l : Ledger) (v : PollView P) (h : ℕ → Holding) (l' : Ledger) (v' : PollView P) (h' : ℕ → Holding) : Type 0 where
  pub noted : IsNoted l' v'
  pub good : IsGood l' v'.deadlines.next h'
  pub others : (o : ℕ → Holding) → IsApart h o → IsGood l v.deadlines.next o → IsGood l' v'.deadlines.next o × IsApart h' o

within_held : (x y : Holding) → IsWithin x y → x ≢ Free → y ≢ Free
within_held Free y h held = absurd (held refl)
within_held Spent y h held = λ e. cc
within_held (Standing deadline) y h held = λ e. cc

within_standing : (x y : Holding) (deadline : Instant) → IsWithin x y → x ≡ Standing deadline → y ≡ Standing deadline
within_standing Free y deadline h is = cc
within_standing Spent y deadline h is = cc
within_standing (Standing at) y deadline h is = h ∙ is

within_free : (x y : Holding) → IsWithin x y → y ≡ Free → x ≡ Free
within_free Free y h is = refl
within_free Spent y h e = (let f : y ≡ Spent = h in cc)
within_free (Standing at) y h is = cc

module _ {P : Type 0} (O : Outside P) where
  done_none : (l : Ledger) (v : PollView P) (h h' : ℕ → Holding) → ((c : ℕ) → IsWithin (h' c) (h c)) → IsNoted l v → IsGood l v.deadlines.next h → IsDone l v h l v h'
  done_none l v h h' within k g =
      record {
        noted = k;
        good = record { below = λ c held. g.below c (within_held (h' c) (h c) (within c) held); standing = λ c deadline is. g.standing c deadline (within_standing (h' c) (h c) deadline (within c) is) };
        others = λ o apart good. (good, λ c. elim (apart c) [ inl e ↦ inl (within_free (h' c) (h c) (within c) e) | inr e ↦ inr e ]);
      }

  -- one after another
  done_then : (l m n : Ledger) (v u w : PollView P) (h j k : ℕ → Holding) → IsDone l v h m u j → (IsNoted m u → IsGood m u.deadlines.next j → IsDone m u j n w k) → IsDone l v h n w k
  done_then l m n v u w h j k first later =
      let rest = later first.noted first.good in
      record {
        noted = rest.noted;
        good = rest.good;
        others = λ o apart good. (let x = first.others o apart good in rest.others o x.1 x.0);
      }

  -- a step that changes neither deadlines nor batch
  done_same : (l : Ledger) (v v' : PollView P) (h : ℕ → Holding) → v'.deadlines ≡ v.deadlines → v'.batch ≡ v.batch → IsNoted l v → IsGood l v.deadlines.next h → IsDone l v h l v' h
  done_same l v v' h deadlines batch k g =
      record {
        noted = noted_same l v v' deadlines batch k;
        good = rw deadlines g;
        others = λ o apart good. (rw deadlines good, apart);
      }

  done_arm : (l : Ledger) (v : PollView P) (h : ℕ → Holding) (at : Instant) (token : Token) → IsNoted l v → IsGood l v.deadlines.next h
      → IsDone l v h (step_noted l v (Arm at token)) (poll_after v (Arm at token)) (with_hold v.deadlines.next (Standing at) h)
  done_arm l v h at token k g =
      let n = v.deadlines.next in
      let apart_from : (held : ℕ → Holding) → IsGood l n held → (c : ℕ) → held c ≢ Free → nat_eq n c ≡ false = λ held good c is. (let lt = good.below c is in grind (arith, nat_tests)) in
      record {
        noted = noted_armed l v (poll_after v (Arm at token)) n at token refl refl k;
        good =
            record {
              below = λ c. with_cases (λ x. x ≢ Free → c < n + 1) n c (Standing at) h (λ e held. (let same : c ≡ n = grind (arith, nat_tests) in omega (arith, same))) (λ e held. (let lt = g.below c held in omega (arith, lt)));
              standing = λ c deadline.
                  with_cases (λ x. x ≡ Standing deadline → IsUncalled c deadline (arm l n at token)) n c (Standing at) h
                  (λ e is. (let same : c ≡ n = grind (arith, nat_tests) in let for_it : at ≡ deadline = cc in rw (same, ← for_it) (uncalled_new l v n at token k.kept)))
                  (λ e is. uncalled_armed l n c deadline at token (apart_from h g c (standing_held (h c) deadline is)) (g.standing c deadline is));
            };
        others = λ o apart good. (
          record {
            below = λ c held. (let lt = good.below c held in omega (arith, lt));
            standing = λ c deadline is. uncalled_armed l n c deadline at token (apart_from o good c (standing_held (o c) deadline is)) (good.standing c deadline is);
          },
          apart_with n (Standing at) h o (free_above (o n) n (good.below n)) apart,
        );
      }

  apart_counter : (h o : ℕ → Holding) (n c : ℕ) → o n ≡ Free → o c ≢ Free → nat_eq n c ≡ false
  apart_counter h o n c free held = elim (nat_eq n c) as (λ b. nat_eq n c ≡ b → b ≡ false) [ true ↦ λ e. (let same : n ≡ c = grind (arith, nat_tests) in absurd (held (ap o (sym same) ∙ free))) | false ↦ λ e. refl ] refl

  swapped : (n c : ℕ) → nat_eq c n ≡ false → nat_eq n c ≡ false
  swapped n c e = grind (arith, nat_tests)

  done_again : (l : Ledger) (v : PollView P) (h : ℕ → Holding) (n : ℕ) (at : Instant) (token : Token) → h n ≢ Free → IsNoted l v → IsGood l v.deadlines.next h
      → IsDone l v h (step_noted l v (ArmAgain n at token)) (poll_after v (ArmAgain n at token)) (with_hold n (Standing at) h)
  done_again l v h n at token mine k g =
      record {
        noted = noted_armed l v (poll_after v (ArmAgain n at token)) n at token refl refl k;
        good =
            record {
              below = λ c. with_cases (λ x. x ≢ Free → c < v.deadlines.next) n c (Standing at) h (λ e held. (let same : n ≡ c = grind (arith, nat_tests) in rw same at (g.below n mine))) (λ e held. g.below c held);
              standing = λ c deadline.
                  with_cases (λ x. x ≡ Standing deadline → IsUncalled c deadline (arm l n at token)) n c (Standing at) h
                  (λ e is. (let same : c ≡ n = grind (arith, nat_tests) in let for_it : at ≡ deadline = cc in rw (same, ← for_it) (uncalled_new l v n at token k.kept)))
                  (λ e is. uncalled_armed l n c deadline at token (swapped n c e) (g.standing c deadline is));
            };
        others = λ o apart good. (
          (let free = other_free h o n apart mine in record { below = good.below; standing = λ c deadline is. uncalled_armed l n c deadline at token (apart_counter h o n c free (standing_held (o c) deadline is)) (good.standing c deadline is) }),
          apart_with n (Standing at) h o (other_free h o n apart mine) apart,
        );
      }

  done_cancel : (l : Ledger) (v : PollView P) (h : ℕ → Holding) (n : ℕ) → h n ≢ Free → IsNoted l v → IsGood l v.deadlines.next h → IsDone l v h (step_noted l v (Cancel n)) (poll_after v (Cancel n)) (with_hold n Free h)
  done_cancel l v h n mine k g =
      record {
        noted = noted_cancelled l v n k;
        good =
            record {
              below = λ c. with_cases (λ x. x ≢ Free → c < v.deadlines.next) n c Free h (λ e held. absurd (held refl)) (λ e held. g.below c held);
              standing = λ c deadline.
                  with_cases (λ x. x ≡ Standing deadline → IsUncalled c deadline (step_noted l v (Cancel n))) n c Free h (λ e is. cc)
                  (λ e is. uncalled_cancelled l v n c deadline (swapped n c e) (g.standing c deadline is));
            };
        others = λ o apart good. (
          (let free = other_free h o n apart mine in record { below = good.below; standing = λ c deadline is. uncalled_cancelled l v n c deadline (apart_counter h o n c free (standing_held (o c) deadline is)) (good.standing c deadline is) }),
          apart_with n Free h o (other_free h o n apart mine) apart,
        );
      }

  done_call : (l : Ledger) (v : PollView P) (h : ℕ → Holding) (n : ℕ) (at : Instant) → h n ≡ Standing at → is_armed n v.deadlines ≡ false → IsNoted l v → IsGood l v.deadlines.next h
      → IsDone l v h (step_noted l v (Call n at)) (poll_after v (Call n at)) (with_hold n Spent h)
  done_call l v h n at mine idle k g =
      let held_n = standing_held (h n) at mine in
      let own = g.standing n at mine in
      record {
        noted = noted_called l v n at idle own k;
        good =
            record {
              below = λ c. with_cases (λ x. x ≢ Free → c < v.deadlines.next) n c Spent h (λ e held. (let same : n ≡ c = grind (arith, nat_tests) in rw same at (g.below n held_n))) (λ e held. g.below c held);
              standing = λ c deadline.
                  with_cases (λ x. x ≡ Standing deadline → IsUncalled c deadline (step_noted l v (Call n at))) n c Spent h (λ e is. cc)
                  (λ e is. uncalled_called l v n c deadline at k.falls (swapped n c e) own (g.standing c deadline is));
            };
        others = λ o apart good. (
          (let free = other_free h o n apart held_n in record { below = good.below; standing = λ c deadline is. uncalled_called l v n c deadline at k.falls (apart_counter h o n c free (standing_held (o c) deadline is)) own (good.standing c deadline is) }),
          apart_with n Spent h o (other_free h o n apart held_n) apart,
        );
      }

  spent_held : (h : Holding) → h ≡ Spent → h ≢ Free
  spent_held h is e = cc

  pub done_steps : (ss : List (PollStep P)) (l : Ledger) (v : PollView P) (h h' : ℕ → Holding) → AllAllowed O v ss → Keeps h v.deadlines.next ss h' → IsNoted l v → IsGood l v.deadlines.next h → IsDone l v h (steps_noted l v ss) (polls_after v ss) h'
  done_steps [] l v h h' allowed keeps k g = done_none l v h h' keeps k g
  done_steps (Arm at token ∷ ss) l v h h' allowed keeps k g =
      done_then l _ _ v _ _ h _ h' (done_arm l v h at token k g) (λ k g. done_steps ss (step_noted l v (Arm at token)) (poll_after v (Arm at token)) (with_hold v.deadlines.next (Standing at) h) h' allowed.1 keeps k g)
  done_steps (ArmAgain n at token ∷ ss) l v h h' allowed keeps k g =
      done_then l _ _ v _ _ h _ h' (done_again l v h n at token (spent_held (h n) keeps.0) k g) (λ k g. done_steps ss (step_noted l v (ArmAgain n at token)) (poll_after v (ArmAgain n at token)) (with_hold n (Standing at) h) h' allowed.1 keeps.1 k g)
  done_steps (Cancel n ∷ ss) l v h h' allowed keeps k g =
      done_then l _ _ v _ _ h _ h' (done_cancel l v h n keeps.0 k g) (λ k g. done_steps ss (step_noted l v (Cancel n)) (poll_after v (Cancel n)) (with_hold n Free h) h' allowed.1 keeps.1 k g)
  done_steps (Call n at ∷ ss) l v h h' allowed keeps k g =
      done_then l _ _ v _ _ h _ h' (done_call l v h n at keeps.0 allowed.0 k g) (λ k g. done_steps ss (step_noted l v (Call n at)) (poll_after v (Call n at)) (with_hold n Spent h) h' allowed.1 keeps.1 k g)
  done_steps (TakePass ∷ ss) l v h h' allowed keeps k g = done_then l l _ v (poll_after v TakePass) _ h h h' (done_same l v (poll_after v TakePass) h refl refl k g) (λ k g. done_steps ss l (poll_after v TakePass) h h' allowed.1 keeps k g)
  done_steps (PutBack pass ∷ ss) l v h h' allowed keeps k g = done_then l l _ v (poll_after v (PutBack pass)) _ h h h' (done_same l v (poll_after v (PutBack pass)) h refl refl k g) (λ k g. done_steps ss l (poll_after v (PutBack pass)) h h' allowed.1 keeps k g)
  done_steps (ReadClock now after ∷ ss) l v h h' allowed keeps k g = done_then l l _ v (poll_after v (ReadClock now after)) _ h h h' (done_same l v (poll_after v (ReadClock now after)) h refl refl k g) (λ k g. done_steps ss l (poll_after v (ReadClock now after)) h h' allowed.1 keeps k g)
  done_steps (Socket edit after ∷ ss) l v h h' allowed keeps k g = done_then l l _ v (poll_after v (Socket edit after)) _ h h h' (done_same l v (poll_after v (Socket edit after)) h refl refl k g) (λ k g. done_steps ss l (poll_after v (Socket edit after)) h h' allowed.1 keeps k g)
  done_steps (Fault call cause after ∷ ss) l v h h' allowed keeps k g = done_then l l _ v (poll_after v (Fault call cause after)) _ h h h' (done_same l v (poll_after v (Fault call cause after)) h refl refl k g) (λ k g. done_steps ss l (poll_after v (Fault call cause after)) h h' allowed.1 keeps k g)
