-- Over every run, each counter is held by at most one source, and what the ledger says is kept.
use Rattle.std.proofs.Common.{Bool, ◌≡◌, ◌≢◌, ◌⊎◌, inl, inr, ℕ, zero, suc, ◌%◌, List, [], ◌∷◌, ◌++◌, map, refl, ap, sym, ◌∙◌, subst, arith, Some, None, Option, Result, Ok, Err, true, false, if◌then◌else◌, nat_eq, nat_lt, slice_get}
use Rattle.std.proofs.lemmas.Bool.Decides.{nat_tests}
use Rattle.calloop_slots.specs.Widths.{versions}
use Rattle.calloop_slots.specs.declared.error.Error.{Error}
use Rattle.calloop_slots.specs.declared.error.InsertError.{InsertError}
use Rattle.calloop_slots.specs.declared.list.Content.{Content}
use Rattle.calloop_slots.specs.declared.list.Content.TheVariants.{Vacant, Source, InTurn}
use Rattle.calloop_slots.specs.declared.token.Token.{Token}
use Rattle.calloop_slots.specs.declared.token.TokenFactory.{TokenFactory}
use Rattle.calloop_slots.specs.declared.token.RegistrationToken.{RegistrationToken}
use Rattle.calloop_slots.specs.declared.wheel.Instant.{Instant}
use Rattle.std.proofs.lemmas.Option.{slice_get-map}
use Rattle.std.specs.Option.{option_map}
use Rattle.std.specs.declared.io.Error.{Error as Cause}
use Rattle.calloop_slots.specs.Slots.{with_change, content_at, content_under, is_empty, first_vacant, next_registration}
use Rattle.calloop_slots.specs.Tokens.{registration_of}
use Rattle.calloop_poll.specs.declared.sys.Readiness.{Readiness}
use Rattle.calloop_poll.specs.declared.sys.poll.Pending.{Pending}
use Rattle.calloop_sources.specs.declared.sources.source.PostAction.{PostAction}
use Rattle.calloop_sources.specs.declared.sources.source.PostAction.TheVariants.{Continue, Reregister, Disable as DisableIt, Remove}
use Rattle.calloop_poll.specs.sys.Pollers.{Outside, nanos_of}
use Rattle.calloop_poll.specs.sys.Polls.{PollView, PollStep, AllAllowed, after_cut, own_event}
use Rattle.calloop_sources.specs.sources.Holdings.{Holding, Free, Spent, Standing, Keeps, IsBelow, IsWithin}
use Rattle.calloop_sources.specs.sources.Deeds.{Deed, Registered, Reregistered, Unregistered, Turned, Slept, Noticed, Lent, lend}
use Rattle.calloop_sources.specs.sources.Meanings.{Meaning, KeepsCounters}
use Rattle.calloop_loop.specs.declared.asks.Asked.{Asked}
use Rattle.calloop_loop.specs.declared.asks.Idling.{Idling as Waiter}
use Rattle.calloop_loop.specs.declared.asks.Request.{Request}
use Rattle.calloop_loop.specs.declared.asks.Request.TheVariants.{Insert as AskInsert, Enable as AskEnable, Update as AskUpdate, Disable as AskDisable, SetDeadline as AskSetDeadline, Remove as AskRemove, Idle as AskIdle, Cancel as AskCancel}
use Rattle.calloop_loop.specs.Askings.{Asks, Runs, Take, asks_after, of_turn}
use Rattle.calloop_loop.specs.Machine.{World, View, IsNew, Registration, Change, Put, Claim, Swapped, Polls, Polling, Watching, Counting, Holds, Appended, Gathered, Cut, Ended, slot_with, next_use, with_claim, world_after, world_after_all, visible, slot_of, after_change, AllFit}
use Rattle.calloop_loop.specs.declared.LoopCall.{LoopCall}
use Rattle.calloop_loop.specs.declared.LoopCall.TheVariants.{Insert, Enable, Update, Disable, Remove as RemoveCall, Release, Exchange, Dispatch, InsertIdle, Cancel, Answer as AnswerOf, ForgetStop, LookForStop, Poller as NewPoller}
use Rattle.calloop_loop.specs.declared.LoopAnswer.{LoopAnswer}
use Rattle.calloop_loop.specs.declared.LoopAnswer.TheVariants.{Inserted, Enabled, Updated, Disabled, Removed, Released, Exchanged, Dispatched, IdleInserted, Cancelled, Answered, StopForgotten, Stopped, Poller as OldPoller}
use Rattle.calloop_loop.specs.declared.asks.Answer.{Answer}
use Rattle.calloop_loop.specs.declared.asks.Answer.TheVariants.{Done, Removed as RemovedAnswer}
use Rattle.calloop_wake.specs.Watches.{with_note}
use Rattle.calloop_wake.specs.declared.notes.Note.TheVariants.{Counted, Marked}
use Rattle.calloop_loop.specs.declared.stops.StopNote.TheVariants.{Forgot, Looked}
use Rattle.calloop_loop.specs.Held.{HeldStep, Listed, Unlisted, Pend, Asking, AskingIn, Begun, Told, Owe, Paid, Cleared, Warned, StopNoted, IdleIn, IdleNew, IdleOut, IdlesTaken, IdleBegun}
use Rattle.calloop_loop.specs.Roles.{only, is_callers, is_adapter}
use Rattle.calloop_loop.proofs.Roles.{Shows, only_is, left_removed}
use Rattle.calloop_loop.specs.Rules.{Doing, Beginning, Settling, Sleeping, Waiting, Gathering, Noticing, Cutting, Serving, Ending, Returning, Idling, RunningIdles, ServingIdle, Leaving, Step, Steps, SleptAs, SleptBy, NoticedBy, told_in, CutTo, CutFrom, ActedBy, ReturnedTo, vacate, listing_of, after_turn, after_wait, Outcome, RegisteredBy, RearmedBy, Case, Once, Run, InsertedBy, AskedIn, SettledIn, TakesUp, as_listed, EnabledBy, UpdatedBy, DisabledBy, RemovedIn, RemovedBy, ReleasedBy, ExchangedIn, ExchangedBy, IdleInsertedBy, OwnOr, Served, ServedAs, ServedFrom, RunFrom, action_of, factory_of, all_traced, appends}
use Rattle.calloop_loop.specs.Ledgers.{Ledger}
use Rattle.calloop_laws.specs.Laws.{HoldsNone, HoldsNoMore, AllFresh, flatten, changes_of}
use Rattle.calloop_loop.proofs.Seen.{seen-all_done, done-append}
use Rattle.calloop_laws.proofs.Gone.{fit_first}
use Rattle.calloop_laws.proofs.Noting.{IsNoted, IsGood, IsApart, apart_sym, noted_alike, noted_gathered, noted_appended, noted_cut, good_gathered, good_appended, good_cut, cut_deadlines, done_steps}

-- this source is in this slot
abbrev pub At : {D : Type 0} → List (Registration D) → ℕ → D → Type 0
At {D} slots i d = (r : Registration D) × (slice_get slots i ≡ Some r) × (r.content ≡ Source d)

at_put : {D : Type 0} (slots : List (Registration D)) (k i : ℕ) (content : Content D) (d : D) → At (with_change (slot_with content) slots k) i d → ((i ≡ k) × (content ≡ Source d)) ⊎ ((i ≢ k) × At slots i d)
at_put [] k i content d h = let e = h.1 in cc
at_put (x ∷ xs) zero zero content d h = let e = h.1 in let f = h.2 in inl (refl, cc)
at_put (x ∷ xs) zero (suc i) content d h = inr (λ e. cc, (h.0, h.1, h.2))
at_put (x ∷ xs) (suc k) zero content d h = inr (λ e. cc, (h.0, h.1, h.2))
at_put (x ∷ xs) (suc k) (suc i) content d h = elim (at_put xs k i content d h) [ inl e ↦ inl (ap suc e.0, e.1) | inr e ↦ inr (λ same. e.0 (omega (arith, same)), e.1) ]

at_claim : {D : Type 0} (slots : List (Registration D)) (i : ℕ) (d : D) → At (with_claim slots) i d → At slots i d
at_claim [] zero d h = let e = h.1 in let f = h.2 in cc
at_claim [] (suc i) d h = let e = h.1 in cc
at_claim {D} (x ∷ xs) zero d h =
    elim (is_empty x.content) as (λ b. slice_get (if b then next_use x ∷ xs else x ∷ with_claim xs) 0 ≡ Some h.0 → At (x ∷ xs) 0 d)
    [ true ↦ λ e. (let f = h.2 in cc) | false ↦ λ e. (h.0, e, h.2) ] h.1
at_claim {D} (x ∷ xs) (suc i) d h =
    elim (is_empty x.content) as (λ b. slice_get (if b then next_use x ∷ xs else x ∷ with_claim xs) (suc i) ≡ Some h.0 → At (x ∷ xs) (suc i) d)
    [ true ↦ λ e. (h.0, e, h.2) | false ↦ λ e. at_claim xs i d (h.0, e, h.2) ] h.1

-- what a source holds agrees with the ledger
abbrev pub IsWell : {D I P X : Type 0} → Meaning D P (Lent X (Asks D I)) → Ledger → (next : ℕ) → D → Type 0
IsWell M l next d = IsGood l next (M.holds d) × M.fits d

-- of a list with one more in front
front : {A : Type 0} (rest : List A) (d : A) (Q : ℕ → A → Type 0) → Q 0 d → ((j : ℕ) (e : A) → slice_get rest j ≡ Some e → Q (suc j) e) → (k : ℕ) (e : A) → slice_get (d ∷ rest) k ≡ Some e → Q k e
front {A} rest d Q first others zero e is = (let same : d ≡ e = cc in subst (λ (x : A). Q 0 x) same first)
front rest d Q first others (suc k) e is = others k e is

-- what every machine state keeps, with the sources that stand aside, as that which has its turn
pub record IsOwned {D I P X : Type 0} (M : Meaning D P (Lent X (Asks D I))) (w : World D I P) (aside : List D) : Type 0 where
  pub noted : IsNoted w.ledger w.poll
  pub good : (i : ℕ) (d : D) → At w.slots i d → IsWell M w.ledger w.poll.deadlines.next d
  pub apart : (i j : ℕ) (d e : D) → i ≢ j → At w.slots i d → At w.slots j e → IsApart (M.holds d) (M.holds e)
  pub own : (k : ℕ) (d : D) → slice_get aside k ≡ Some d → IsWell M w.ledger w.poll.deadlines.next d
  pub alone : (k : ℕ) (d e : D) (i : ℕ) → slice_get aside k ≡ Some d → At w.slots i e → IsApart (M.holds d) (M.holds e)
  pub among : (j k : ℕ) (d e : D) → j ≢ k → slice_get aside j ≡ Some d → slice_get aside k ≡ Some e → IsApart (M.holds d) (M.holds e)

module _ {D I P X : Type 0} (M : Meaning D P (Lent X (Asks D I))) (O : Outside P) (law : KeepsCounters M) where
  -- changes that leave slots, deadlines and ledger as they are
  owned_same : (w w' : World D I P) (aside : List D) → w'.slots ≡ w.slots → w'.ledger ≡ w.ledger → w'.poll.deadlines ≡ w.poll.deadlines → w'.poll.batch ≡ w.poll.batch → IsOwned M w aside → IsOwned M w' aside
  owned_same w w' aside slots ledger deadlines batch h =
      record {
        noted = rw ledger (noted_alike w.ledger w.poll w'.poll deadlines batch h.noted);
        good = rw (slots, ledger, deadlines) h.good;
        apart = rw slots h.apart;
        own = rw (ledger, deadlines) h.own;
        alone = rw slots h.alone;
        among = h.among;
      }

  owned_gathered : (w : World D I P) (aside : List D) (posted : List ℕ) (given : List (ℕ × Readiness)) (now : ℕ) → IsOwned M w aside → IsOwned M (world_after w (Gathered posted given now)) aside
  owned_gathered w aside posted given now h =
      record {
        noted = noted_gathered w.ledger w.poll posted given now h.noted;
        good = λ i d is. (good_gathered w.ledger w.poll.deadlines.next (M.holds d) posted given now (h.good i d is).0, (h.good i d is).1);
        apart = h.apart;
        own = λ k d is. (good_gathered w.ledger w.poll.deadlines.next (M.holds d) posted given now (h.own k d is).0, (h.own k d is).1);
        alone = h.alone;
        among = h.among;
      }

  owned_cut : (w : World D I P) (aside : List D) (place : Option ℕ) → IsOwned M w aside → IsOwned M (world_after w (Cut place)) aside
  owned_cut w aside place h =
      record {
        noted = noted_cut w.ledger w.poll h.noted;
        good = λ i d is. (rw (cut_deadlines w.poll) (good_cut w.ledger w.poll.deadlines.next (M.holds d) (h.good i d is).0), (h.good i d is).1);
        apart = h.apart;
        own = λ k d is. (rw (cut_deadlines w.poll) (good_cut w.ledger w.poll.deadlines.next (M.holds d) (h.own k d is).0), (h.own k d is).1);
        alone = h.alone;
        among = h.among;
      }

  owned_appended : (w : World D I P) (aside : List D) (e : Pending) → IsOwned M w aside → IsOwned M (world_after w (Appended e)) aside
  owned_appended w aside e h =
      record {
        noted = noted_appended w.ledger w.poll e h.noted;
        good = λ i d is. (good_appended w.ledger w.poll.deadlines.next (M.holds d) e (h.good i d is).0, (h.good i d is).1);
        apart = h.apart;
        own = λ k d is. (good_appended w.ledger w.poll.deadlines.next (M.holds d) e (h.own k d is).0, (h.own k d is).1);
        alone = h.alone;
        among = h.among;
      }

  owned_listed : (w : World D I P) (step : HeldStep D I) (aside : List D) → IsOwned M w aside → IsOwned M (world_after w (Holds step)) aside
  owned_listed w step aside h = owned_same w (world_after w (Holds step)) aside refl refl refl refl h

  owned_claim : (w : World D I P) (source : D) (aside : List D) → IsOwned M w aside → IsOwned M (world_after w (Claim source)) aside
  owned_claim w source aside h =
      record {
        noted = h.noted;
        good = λ i d is. h.good i d (at_claim w.slots i d is);
        apart = λ i j d e differ is at. h.apart i j d e differ (at_claim w.slots i d is) (at_claim w.slots j e at);
        own = h.own;
        alone = λ k d e i is at. h.alone k d e i is (at_claim w.slots i e at);
        among = h.among;
      }

  -- what is no source is put into a slot
  owned_emptied : (w : World D I P) (aside : List D) (k : ℕ) (content : Content D) → ((d : D) → content ≡ Source d → ⊥) → IsOwned M w aside → IsOwned M (world_after w (Put k content)) aside
  owned_emptied w aside k content none h =
      let back : (i : ℕ) (d : D) → At (with_change (slot_with content) w.slots k) i d → At w.slots i d = λ i d is. elim (at_put w.slots k i content d is) [ inl e ↦ absurd (none d e.1) | inr e ↦ e.1 ] in
      record {
        noted = h.noted;
        good = λ i d is. h.good i d (back i d is);
        apart = λ i j d e differ is at. h.apart i j d e differ (back i d is) (back j e at);
        own = h.own;
        alone = λ j d e i is at. h.alone j d e i is (back i e at);
        among = h.among;
      }

  -- a source is taken out of its slot
  owned_without : (w : World D I P) (rest : List D) (k : ℕ) (content : Content D) (d : D) → ((e : D) → content ≡ Source e → ⊥) → At w.slots k d → IsOwned M w rest → IsOwned M (world_after w (Put k content)) (d ∷ rest)
  owned_without w rest k content d none here h =
      let others = owned_emptied w rest k content none h in
      record {
        noted = others.noted;
        good = others.good;
        apart = others.apart;
        own = front rest d (λ _ e. IsWell M w.ledger w.poll.deadlines.next e) (h.good k d here) (λ j e is. h.own j e is);
        alone = λ j e f i is at.
            front rest d (λ _ x. IsApart (M.holds x) (M.holds f))
            (elim (at_put w.slots k i content f at) [ inl x ↦ absurd (none f x.1) | inr x ↦ h.apart k i d f (λ eq. x.0 (sym eq)) here x.1 ])
            (λ n x there. others.alone n x f i there at) j e is;
        among = λ j l e f differ is other.
            front rest d (λ n x. n ≢ l → IsApart (M.holds x) (M.holds f))
            (front rest d (λ n y. 0 ≢ n → IsApart (M.holds d) (M.holds y)) (λ neq. absurd (neq refl)) (λ n y there _. apart_sym (M.holds y) (M.holds d) (h.alone n y d k there here)) l f other)
            (λ m x at. front rest d (λ n y. suc m ≢ n → IsApart (M.holds x) (M.holds y)) (λ _. h.alone m x d k at here) (λ n y there neq. h.among m n x y (λ eq. neq (ap suc eq)) at there) l f other)
            j e is differ;
      }

  -- for its turn
  owned_out : (w : World D I P) (rest : List D) (k : ℕ) (d : D) → At w.slots k d → IsOwned M w rest → IsOwned M (world_after w (Put k InTurn)) (d ∷ rest)
  owned_out w rest k d here h = owned_without w rest k InTurn d (λ e is. cc) here h

  -- it goes back to a slot
  owned_back : (w : World D I P) (rest : List D) (k : ℕ) (d : D) → IsOwned M w (d ∷ rest) → IsOwned M (world_after w (Put k (Source d))) rest
  owned_back w rest k d h =
      record {
        noted = h.noted;
        good = λ i e is. elim (at_put w.slots k i (Source d) e is) [ inl x ↦ (let same : d ≡ e = (let y = x.1 in cc) in h.own 0 e (ap (λ (z : D). Some z) same)) | inr x ↦ h.good i e x.1 ];
        apart = λ i j e f differ is at.
            elim (at_put w.slots k i (Source d) e is) [
              | inl x ↦ (let same : d ≡ e = (let y = x.1 in cc) in
                  elim (at_put w.slots k j (Source d) f at) [ inl y ↦ absurd (differ (x.0 ∙ sym y.0)) | inr y ↦ h.alone 0 e f j (ap (λ (z : D). Some z) same) y.1 ])
              | inr x ↦ elim (at_put w.slots k j (Source d) f at) [
                | inl y ↦ (let same : d ≡ f = (let z = y.1 in cc) in apart_sym (M.holds f) (M.holds e) (h.alone 0 f e i (ap (λ (z : D). Some z) same) x.1))
                | inr y ↦ h.apart i j e f differ x.1 y.1
              ]
            ];
        own = λ j e is. h.own (suc j) e is;
        alone = λ j e f i is at.
            elim (at_put w.slots k i (Source d) f at) [
              | inl x ↦ (let same : d ≡ f = (let y = x.1 in cc) in h.among (suc j) 0 e f (λ eq. cc) is (ap (λ (z : D). Some z) same))
              | inr x ↦ h.alone (suc j) e f i is x.1
            ];
        among = λ j l e f differ is other. h.among (suc j) (suc l) e f (λ eq. differ (omega (arith, eq))) is other;
      }

  owned_dropped : (w : World D I P) (rest : List D) (d : D) → IsOwned M w (d ∷ rest) → IsOwned M w rest
  owned_dropped w rest d h =
      record {
        noted = h.noted;
        good = h.good;
        apart = h.apart;
        own = λ j e is. h.own (suc j) e is;
        alone = λ j e f i is at. h.alone (suc j) e f i is at;
        among = λ j l e f differ is other. h.among (suc j) (suc l) e f (λ eq. differ (omega (arith, eq))) is other;
      }

  -- one that holds no counter comes
  owned_fresh : (w : World D I P) (rest : List D) (d : D) → HoldsNone M d × M.fits d → IsOwned M w rest → IsOwned M w (d ∷ rest)
  owned_fresh w rest d free h =
      record {
        noted = h.noted;
        good = h.good;
        apart = h.apart;
        own =
            front rest d (λ _ e. IsWell M w.ledger w.poll.deadlines.next e)
            (record { below = λ c held. absurd (held (free.0 c)); standing = λ c deadline stands. (let none = free.0 c in cc) }, free.1) (λ j e is. h.own j e is);
        alone = λ j e f i is at. front rest d (λ _ x. IsApart (M.holds x) (M.holds f)) (λ c. inl (free.0 c)) (λ n x there. h.alone n x f i there at) j e is;
        among = λ j l e f differ is other.
            front rest d (λ n x. n ≢ l → IsApart (M.holds x) (M.holds f)) (λ _ c. inl (free.0 c))
            (λ m x at. front rest d (λ n y. suc m ≢ n → IsApart (M.holds x) (M.holds y)) (λ _ c. inr (free.0 c)) (λ n y there neq. h.among m n x y (λ eq. neq (ap suc eq)) at there) l f other)
            j e is differ;
      }

  -- the steps of the first of them
  owned_polls : (w : World D I P) (rest : List D) (d d' : D) (steps : List (PollStep P)) → AllAllowed O w.poll steps → (M.fits d → IsBelow w.poll.deadlines.next (M.holds d) → M.fits d' × Keeps (M.holds d) w.poll.deadlines.next steps (M.holds d')) → IsOwned M w (d ∷ rest) → IsOwned M (world_after w (Polls steps)) (d' ∷ rest)
  owned_polls w rest d d' steps allowed keeps h =
      let own = h.own 0 d refl in
      let kept = keeps own.1 own.0.below in
      let x = done_steps O steps w.ledger w.poll (M.holds d) (M.holds d') allowed kept.1 h.noted own.0 in
      let beside = λ (n : ℕ) (y : D) (there : slice_get rest n ≡ Some y). x.others (M.holds y) (h.among 0 (suc n) d y (λ eq. cc) refl there) (h.own (suc n) y there).0 in
      record {
        noted = x.noted;
        good = λ i e is. ((x.others (M.holds e) (h.alone 0 d e i refl is) (h.good i e is).0).0, (h.good i e is).1);
        apart = h.apart;
        own = front rest d' (λ _ e. IsWell M (world_after w (Polls steps)).ledger (world_after w (Polls steps)).poll.deadlines.next e) (x.good, kept.0) (λ j e is. ((beside j e is).0, (h.own (suc j) e is).1));
        alone = λ j e f i is at.
            front rest d' (λ _ y. IsApart (M.holds y) (M.holds f)) (x.others (M.holds f) (h.alone 0 d f i refl at) (h.good i f at).0).1 (λ n y there. h.alone (suc n) y f i there at) j e is;
        among = λ j l e f differ is other.
            front rest d' (λ n y. n ≢ l → IsApart (M.holds y) (M.holds f))
            (front rest d' (λ n y. 0 ≢ n → IsApart (M.holds d') (M.holds y)) (λ neq. absurd (neq refl)) (λ n y there _. (beside n y there).1) l f other)
            (λ m y at. front rest d' (λ n z. suc m ≢ n → IsApart (M.holds y) (M.holds z)) (λ _. apart_sym (M.holds d') (M.holds y) (beside m y at).1) (λ n z there neq. h.among (suc m) (suc n) y z neq at there) l f other)
            j e is differ;
      }

-- what is put into a slot last stands there
put_twice : {D : Type 0} (c e : Content D) (slots : List (Registration D)) (i : ℕ) → with_change (slot_with c) (with_change (slot_with e) slots i) i ≡ with_change (slot_with c) slots i
put_twice c e [] i = refl
put_twice c e (r ∷ rs) zero = refl
put_twice c e (r ∷ rs) (suc i) = ap (λ ss. r ∷ ss) (put_twice c e rs i)

at_under : {D : Type 0} (v : ℕ) (o : Option (Registration D)) (d : D) → content_under v (option_map slot_of o) ≡ Source d → (r : Registration D) × (o ≡ Some r) × (r.content ≡ Source d)
at_under v None d e = cc
at_under {D} v (Some r) d e = elim (nat_eq (r.reuse % versions) v) as (λ b. (if b then r.content else Vacant) ≡ Source d → (r' : Registration D) × (◌≡◌ {A = Option (Registration D)} (Some r) (Some r')) × (r'.content ≡ Source d)) [ true ↦ λ full. (r, refl, full) | false ↦ λ none. cc ] e

-- the source that a token names stands in its slot
at_named : {D : Type 0} (slots : List (Registration D)) (token : RegistrationToken) (d : D) → content_at (map slot_of slots) token ≡ Source d → At slots token.slot d
at_named slots token d is =
    let h = at_under token.version (slice_get slots token.slot) d (sym (ap (content_under token.version) (slice_get-map slot_of slots token.slot)) ∙ is) in
    (h.0, h.1, h.2)

abbrev pub aside_of : {D X : Type 0} → Doing D X → List D
aside_of (Beginning timeout x) = []
aside_of (Settling timeout later x) = []
aside_of (Sleeping timeout later x) = []
aside_of (Waiting timeout x) = []
aside_of (Gathering now given x) = []
aside_of (Noticing from later x) = []
aside_of (Cutting x) = []
aside_of (Serving token d answer x) = d ∷ []
aside_of (Ending token d answer x) = d ∷ []
aside_of (Returning token d told x) = d ∷ []
aside_of (Idling x) = []
aside_of (RunningIdles x) = []
aside_of (ServingIdle x) = []
aside_of (Leaving answer x) = []

module _ {D I P X : Type 0} (M : Meaning D P (Lent X (Asks D I))) (runs : Runs D I X) (O : Outside P) (law : KeepsCounters M) where
  aside_wait : (answer : Result ℕ Cause) (given : List (ℕ × Readiness)) (x : X) → aside_of {D = D} (after_wait answer given x) ≡ []
  aside_wait (Ok now) given x = refl
  aside_wait (Err cause) given x = refl

  aside_after : (told : Result (Unit {0}) Error) (x : X) → aside_of {D = D} (after_turn told x) ≡ []
  aside_after (Ok u) x = refl
  aside_after (Err e) x = refl

  within_same : (h : Holding) → IsWithin h h
  within_same Free = tt
  within_same Spent = refl
  within_same (Standing deadline) = refl

  -- a registration, or a refusal of it for want of room
  registered_keeps : {listed : Bool} (deed : TokenFactory → Outcome → TokenFactory → Deed (Lent X (Asks D I))) (token : RegistrationToken) (v : PollView P) (d e : D) (answer : Outcome) (steps : List (PollStep P)) → RegisteredBy M deed token listed v d answer steps e
      → M.fits d → IsBelow v.deadlines.next (M.holds d) → M.fits e × Keeps (M.holds d) v.deadlines.next steps (M.holds e)
  registered_keeps deed token v d e answer steps (inl h) fits below = rw (h.2, h.3) (fits, λ counter. within_same (M.holds d counter))
  registered_keeps deed token v d e answer steps (inr h) fits below = law d e v (deed (factory_of token) answer h.0) steps fits below h.1

  rearmed_keeps : {listed : Bool} (deadline : Instant) (token : RegistrationToken) (v : PollView P) (d e : D) (answer : Outcome) (steps : List (PollStep P)) → RearmedBy M deadline token listed v d answer steps e
      → M.fits d → IsBelow v.deadlines.next (M.holds d) → M.fits e × Keeps (M.holds d) v.deadlines.next steps (M.holds e)
  rearmed_keeps deadline token v d e answer steps (inl h) fits below = rw (h.1, h.2) (fits, λ counter. within_same (M.holds d counter))
  rearmed_keeps deadline token v d e answer steps (inr h) fits below =
      subst (λ (x : ℕ → Holding). M.fits e × Keeps x v.deadlines.next steps (M.holds e)) h.1.1.holds
      (registered_keeps Reregistered token v h.0 e answer steps h.2 (h.1.1.fits fits) (subst (λ (x : ℕ → Holding). IsBelow v.deadlines.next x) (sym h.1.1.holds) below))

  -- a source is told of a wait
  told_owned : (w : World D I P) (token : RegistrationToken) (d e : D) (deed : Deed (Lent X (Asks D I))) → content_at (map slot_of w.slots) token ≡ Source d → M.does d w.poll deed [] e → IsOwned M w [] → IsOwned M (world_after_all w (told_in token e)) []
  told_owned w token d e deed is does k =
      let out : World D I P = world_after w (Put token.slot InTurn) in
      owned_back M O law (world_after out (Polls [])) [] token.slot e
      (owned_polls M O law out [] d e [] tt (λ fits below. law d e w.poll deed [] fits below does) (owned_out M O law w [] token.slot d (at_named w.slots token d is) k))

  appends_owned : (given : List (Readiness × Token)) (w : World D I P) → IsOwned M w [] → IsOwned M (world_after_all w (appends given)) []
  appends_owned [] w k = k
  appends_owned (e ∷ es) w k = appends_owned es (world_after w (Appended (own_event e))) (owned_appended M O law w [] (own_event e) k)

  slept_as : (w : World D I P) (timeout : Option ℕ) (later : List RegistrationToken) (given : List (Readiness × Token)) (answer : Result (Unit {0}) Error) (x : X) (cs : List (Change D I P)) (b : Doing D X) → SleptAs timeout later given answer x cs b → IsOwned M w [] → IsOwned M (world_after_all w cs) (aside_of b)
  slept_as w timeout later given (Ok u) x cs b h k = rw (h.0, h.1) (appends_owned given w k)
  slept_as w timeout later given (Err e) x cs b h k = rw (h.0, h.1) k

  slept_owned : (w : World D I P) (timeout : Option ℕ) (token : RegistrationToken) (later : List RegistrationToken) (x : X) (cs : List (Change D I P)) (b : Doing D X) (c : Content D) → content_at (map slot_of w.slots) token ≡ c → SleptBy M timeout token later c (visible w) x cs b → IsOwned M w [] → IsOwned M (world_after_all w cs) (aside_of b)
  slept_owned w timeout token later x cs b Vacant is h k = rw (h.0, h.1) k
  slept_owned w timeout token later x cs b InTurn is h k = rw (h.0, h.1) k
  slept_owned w timeout token later x cs b (Source d) is h k =
      rw h.6 (slept_as (world_after_all w (told_in token h.0)) timeout later h.1 h.2 x h.3 b h.5 (told_owned w token d h.0 (Slept h.1 h.2) is h.4 k))

  noticed_owned : (w : World D I P) (from : ℕ) (token : RegistrationToken) (later : List RegistrationToken) (x : X) (cs : List (Change D I P)) (b : Doing D X) (c : Content D) → content_at (map slot_of w.slots) token ≡ c → NoticedBy M from token later c (visible w) x cs b → IsOwned M w [] → IsOwned M (world_after_all w cs) (aside_of b)
  noticed_owned w from token later x cs b Vacant is h k = rw (h.0, h.1) k
  noticed_owned w from token later x cs b InTurn is h k = rw (h.0, h.1) k
  noticed_owned w from token later x cs b (Source d) is h k = rw (h.2, h.3) (told_owned w token d h.0 (Noticed _) is h.1 k)

  cut_owned : (w : World D I P) (e : Pending) (x : X) (cs : List (Change D I P)) (b : Doing D X) (c : Content D) → content_at (map slot_of w.slots) (registration_of e.token) ≡ c → CutTo M e c (visible w) x cs b → AllFit O (visible w) cs → IsOwned M w [] → IsOwned M (world_after_all w cs) (aside_of b)
  cut_owned w e x cs b Vacant is h fit k = rw (h.0, h.1) (owned_same M O law (world_after w (Cut None)) (world_after (world_after w (Cut None)) Ended) [] refl refl refl refl (owned_cut M O law w [] None k))
  cut_owned w e x cs b InTurn is h fit k = rw (h.0, h.1) (owned_same M O law (world_after w (Cut None)) (world_after (world_after w (Cut None)) Ended) [] refl refl refl refl (owned_cut M O law w [] None k))
  cut_owned w e x cs b (Source d) is h fit k =
      let begun : World D I P = world_after w (Cut (Some e.token.slot)) in
      let out : World D I P = world_after begun (Put e.token.slot InTurn) in
      let allowed : AllAllowed O (after_cut w.poll) h.2 = (rw h.6 at fit).1.1.0 in
      let polled : World D I P = world_after out (Polls h.2) in
      let own : IsOwned M polled (h.0 ∷ []) =
      owned_polls M O law out [] d h.0 h.2 allowed (λ fits below. law d h.0 (after_cut w.poll) (Turned e.readiness e.token (lend x (of_turn (registration_of e.token) w.held.asks) h.1 h.3 (asks_after (of_turn (registration_of e.token) w.held.asks) h.4))) h.2 fits below h.5)
      (owned_out M O law begun [] e.token.slot d (at_named w.slots (registration_of e.token) d is) (owned_cut M O law w [] (Some e.token.slot) k)) in
      rw (h.6, h.7) (owned_listed M O law (world_after polled Ended) (AskingIn (registration_of e.token) h.4) (h.0 ∷ []) (owned_same M O law polled (world_after polled Ended) (h.0 ∷ []) refl refl refl refl own))

  from_owned : (w : World D I P) (es : List Pending) (x : X) (cs : List (Change D I P)) (b : Doing D X) → CutFrom M es (visible w) x cs b → AllFit O (visible w) cs → IsOwned M w [] → IsOwned M (world_after_all w cs) (aside_of b)
  from_owned w [] x cs b h fit k = rw (h.0, h.1) k
  from_owned w (e ∷ es) x cs b h fit k = cut_owned w e x cs b (content_at (map slot_of w.slots) (registration_of e.token)) refl h fit k

  emptied_owned : (w : World D I P) (token : RegistrationToken) (c : Content D) (aside : List D) → IsOwned M w aside → IsOwned M (world_after_all w (vacate token c)) aside
  emptied_owned w token Vacant aside k = k
  emptied_owned w token (Source d) aside k = k
  emptied_owned w token InTurn aside k = owned_emptied M O law w aside token.slot Vacant (λ e is. cc) k

  acted_owned : (w : World D I P) (token : RegistrationToken) (d : D) (answer : Result PostAction Error) (cs : List (Change D I P)) (e : D) (told : Result (Unit {0}) Error) → ActedBy M token d answer (visible w) cs e told → AllFit O (visible w) cs → IsOwned M w (d ∷ []) → IsOwned M (world_after_all w cs) (e ∷ [])
  acted_owned w token d (Ok Continue) cs e told h fit k = rw (h.0, h.1) (owned_listed M O law w (Pend Continue) (d ∷ []) k)
  acted_owned w token d (Ok Reregister) cs e told h fit k =
      let allowed : AllAllowed O w.poll h.0 = (rw h.2 at fit).1.0 in
      rw h.2
      (owned_listed M O law (world_after (world_after w (Holds (Pend Continue))) (Polls h.0)) (listing_of M token d told) (e ∷ [])
      (owned_polls M O law (world_after w (Holds (Pend Continue))) [] d e h.0 allowed (registered_keeps Reregistered token w.poll d e told h.0 h.1)
      (owned_listed M O law w (Pend Continue) (d ∷ []) k)))
  acted_owned w token d (Ok DisableIt) cs e told h fit k =
      let allowed : AllAllowed O w.poll h.0 = (rw h.2 at fit).1.0 in
      rw h.2
      (owned_listed M O law (world_after (world_after w (Holds (Pend Continue))) (Polls h.0)) (Unlisted token) (e ∷ [])
      (owned_polls M O law (world_after w (Holds (Pend Continue))) [] d e h.0 allowed (λ fits below. law d e w.poll (Unregistered told) h.0 fits below h.1)
      (owned_listed M O law w (Pend Continue) (d ∷ []) k)))
  acted_owned w token d (Ok Remove) cs e told h fit k =
      rw (h.0, h.1) (emptied_owned (world_after w (Holds (Pend Continue))) token (content_at (map slot_of w.slots) token) (d ∷ []) (owned_listed M O law w (Pend Continue) (d ∷ []) k))
  acted_owned w token d (Err error) cs e told h fit k = rw (h.0, h.1) (owned_listed M O law w (Pend Continue) (d ∷ []) k)

  gone_owned : (w : World D I P) (token : RegistrationToken) (d : D) (cs : List (Change D I P)) → (h : (e : D) × (answer : Outcome) × (kept : Bool) × (steps : List (PollStep P)) × M.does d w.poll (Unregistered answer) steps e × (cs ≡ Polls steps ∷ Holds (Unlisted token) ∷ Holds (Warned kept answer) ∷ Holds (Paid (RemovedAnswer (Some e))) ∷ [])) → AllFit O (visible w) cs → IsOwned M w (d ∷ []) → IsOwned M (world_after_all w cs) []
  gone_owned w token d cs h fit k =
      let allowed : AllAllowed O w.poll h.3 = (rw h.5 at fit).0 in
      let out : World D I P = world_after (world_after w (Polls h.3)) (Holds (Unlisted token)) in
      rw h.5
      (owned_listed M O law (world_after out (Holds (Warned h.2 h.1))) (Paid (RemovedAnswer (Some h.0))) []
      (owned_listed M O law out (Warned h.2 h.1) []
      (owned_listed M O law (world_after w (Polls h.3)) (Unlisted token) []
      (owned_dropped M O law (world_after w (Polls h.3)) [] h.0 (owned_polls M O law w [] d h.0 h.3 allowed (λ fits below. law d h.0 w.poll (Unregistered h.1) h.3 fits below h.4) k)))))

  returned_owned : (w : World D I P) (token : RegistrationToken) (d : D) (c : Content D) (cs : List (Change D I P)) → ReturnedTo M token d c (visible w) cs → AllFit O (visible w) cs → IsOwned M w (d ∷ []) → IsOwned M (world_after_all w cs) []
  returned_owned w token d InTurn cs h fit k = rw h (owned_back M O law w [] token.slot d k)
  returned_owned w token d Vacant cs h fit k = gone_owned w token d cs h fit k
  returned_owned w token d (Source f) cs h fit k = gone_owned w token d cs h fit k

  inserted_owned : (w : World D I P) (rest : List D) (d : D) (answer : Result RegistrationToken (InsertError D)) (cs : List (Change D I P)) → AllFresh M cs → InsertedBy M d answer (visible w) cs → AllFit O (visible w) cs → IsOwned M w rest → IsOwned M (world_after_all w cs) rest
  inserted_owned w rest d (Ok token) cs fresh h fit k =
      let claimed : World D I P = world_after w (Claim d) in
      let allowed : AllAllowed O w.poll h.4 = (rw h.6 at fit).1.0 in
      let free : HoldsNone M d × M.fits d = (rw h.6 at fresh).0 in
      rw h.6
      (owned_back M O law (world_after (world_after claimed (Polls h.4)) (Holds (Listed (M.needs d) token))) rest token.slot h.2
      (owned_listed M O law (world_after claimed (Polls h.4)) (Listed (M.needs d) token) (h.2 ∷ rest)
      (owned_polls M O law claimed rest d h.2 h.4 allowed (λ fits below. law d h.2 w.poll (Registered (factory_of token) (Ok tt) h.3) h.4 fits below h.5) (owned_fresh M O law claimed rest d free (owned_claim M O law w d rest k)))))
  inserted_owned w rest d (Err refused) cs fresh (inl h) fit k = rw h.2 k
  inserted_owned w rest d (Err refused) cs fresh (inr h) fit k =
      let claimed : World D I P = world_after w (Claim d) in
      let allowed : AllAllowed O w.poll h.2 = (rw h.4 at fit).1.0 in
      let free : HoldsNone M d × M.fits d = (rw h.4 at fresh).0 in
      let polled : World D I P = world_after claimed (Polls h.2) in
      let place = first_vacant (map slot_of w.slots) in
      rw h.4
      (owned_dropped M O law (world_after polled (Put place Vacant)) rest refused.inserted
      (owned_emptied M O law polled (refused.inserted ∷ rest) place Vacant (λ e is. cc)
      (owned_polls M O law claimed rest d refused.inserted h.2 allowed (λ fits below. law d refused.inserted w.poll (Registered (factory_of (next_registration (map slot_of w.slots))) (Err refused.error) h.1) h.2 fits below h.3) (owned_fresh M O law claimed rest d free (owned_claim M O law w d rest k)))))

  asked_owned : (w : World D I P) (rest : List D) (R : D → Result (Unit {0}) Error → List (PollStep P) → D → Type 0) (entry : D → Outcome → HeldStep D I) (token : RegistrationToken) (answer : Result (Unit {0}) Error) (cs : List (Change D I P)) (c : Content D)
      → ((d e : D) (l : List (PollStep P)) → R d answer l e → M.fits d → IsBelow w.poll.deadlines.next (M.holds d) → M.fits e × Keeps (M.holds d) w.poll.deadlines.next l (M.holds e))
      → Shows (map slot_of w.slots) token c → AskedIn R entry token c answer cs → AllFit O (visible w) cs → IsOwned M w rest → IsOwned M (world_after_all w cs) rest
  asked_owned w rest R entry token answer cs Vacant keeps is h fit k = rw h.1 k
  asked_owned w rest R entry token answer cs InTurn keeps is h fit k = rw h.1 k
  asked_owned w rest R entry token answer cs (Source d) keeps is h fit k =
      let out : World D I P = world_after w (Put token.slot InTurn) in
      let allowed : AllAllowed O w.poll h.1 = (rw h.3 at fit).1.0 in
      rw h.3
      (owned_back M O law (world_after (world_after out (Polls h.1)) (Holds (entry d answer))) rest token.slot h.0
      (owned_listed M O law (world_after out (Polls h.1)) (entry d answer) (h.0 ∷ rest)
      (owned_polls M O law out rest d h.0 h.1 allowed (keeps d h.0 h.1 h.2) (owned_out M O law w rest token.slot d (at_named w.slots token d (is d refl)) k))))

  removed_owned : (w : World D I P) (rest : List D) (token : RegistrationToken) (answer : Option D) (cs : List (Change D I P)) (c : Content D) → Shows (map slot_of w.slots) token c → RemovedIn M token c answer (visible w) cs → AllFit O (visible w) cs → IsOwned M w rest → IsOwned M (world_after_all w cs) rest
  removed_owned w rest token answer cs Vacant is h fit k = rw h.1 k
  removed_owned w rest token answer cs InTurn is h fit k = rw h.1 k
  removed_owned w rest token answer cs (Source d) is h fit k =
      let out : World D I P = world_after w (Put token.slot Vacant) in
      let allowed : AllAllowed O w.poll h.3 = (rw h.6 at fit).1.0 in
      rw h.6
      (owned_listed M O law (world_after (world_after out (Polls h.3)) (Holds (Unlisted token))) (Warned h.2 h.1) rest
      (owned_listed M O law (world_after out (Polls h.3)) (Unlisted token) rest
      (owned_dropped M O law (world_after out (Polls h.3)) rest h.0
      (owned_polls M O law out rest d h.0 h.3 allowed (λ fits below. law d h.0 w.poll (Unregistered h.1) h.3 fits below h.4) (owned_without M O law w rest token.slot Vacant d (λ e is. cc) (at_named w.slots token d (is d refl)) k)))))

  fresh_first : (cs ds : List (Change D I P)) → AllFresh M (cs ++ ds) → AllFresh M cs
  fresh_first [] ds h = tt
  fresh_first (c ∷ cs) ds h = (h.0, fresh_first cs ds h.1)

  fresh_rest : (cs ds : List (Change D I P)) → AllFresh M (cs ++ ds) → AllFresh M ds
  fresh_rest [] ds h = h
  fresh_rest (c ∷ cs) ds h = fresh_rest cs ds h.1

  -- the changes of a request, and its answer after them
  told_owned_by : (w : World D I P) (rest : List D) (ds cs : List (Change D I P)) (answer : Answer D) → cs ≡ ds ++ Holds (Told answer) ∷ [] → AllFresh M cs → AllFit O (visible w) cs
      → (AllFresh M ds → AllFit O (visible w) ds → IsOwned M (world_after_all w ds) rest) → IsOwned M (world_after_all w cs) rest
  told_owned_by w rest ds cs answer is fresh fit f =
      let step : Change D I P = Holds (Told answer) in
      let some : AllFresh M ds = fresh_first ds (step ∷ []) (subst (λ (l : List (Change D I P)). AllFresh M l) is fresh) in
      let fits : AllFit O (visible w) ds = fit_first O (visible w) ds (step ∷ []) (subst (λ (l : List (Change D I P)). AllFit O (visible w) l) is fit) in
      rw (is, done-append w ds (step ∷ [])) (owned_listed M O law (world_after_all w ds) (Told answer) rest (f some fits))

  own_or : {A B G : Type 0} (c : Content D) → (c ≡ InTurn → A → G) → (B → G) → OwnOr c A B → G
  own_or InTurn f g h = f refl h
  own_or Vacant f g h = g h
  own_or (Source d) f g h = g h

  served_as_owned : (w : World D I P) (rest : List D) (request : Request D I) (answer : Outcome) (cs : List (Change D I P)) → ServedAs M request answer (visible w) cs → AllFit O (visible w) cs → IsOwned M w rest → IsOwned M (world_after_all w cs) rest
  served_as_owned w rest (AskEnable token) answer cs h fit k =
      own_or (content_at (map slot_of w.slots) token) (λ _ o. rw o.1 k)
      (λ o. asked_owned w rest _ _ token answer cs (only (is_callers M) (content_at (map slot_of w.slots) token)) (λ d e l u. registered_keeps Registered token w.poll d e answer l u) (only_is (is_callers M) (map slot_of w.slots) token) o fit k) h
  served_as_owned w rest (AskUpdate token) answer cs h fit k =
      own_or (content_at (map slot_of w.slots) token) (λ _ o. rw o.1 (owned_listed M O law w (Pend Reregister) rest k))
      (λ o. asked_owned w rest _ _ token answer cs (only (is_callers M) (content_at (map slot_of w.slots) token)) (λ d e l u. registered_keeps Reregistered token w.poll d e answer l u) (only_is (is_callers M) (map slot_of w.slots) token) o fit k) h
  served_as_owned w rest (AskDisable token) answer cs h fit k =
      own_or (content_at (map slot_of w.slots) token) (λ _ o. rw o.1 (owned_listed M O law w (Pend DisableIt) rest k))
      (λ o. asked_owned w rest _ _ token answer cs (only (is_callers M) (content_at (map slot_of w.slots) token)) (λ d e l u fits below. law d e w.poll (Unregistered answer) l fits below u) (only_is (is_callers M) (map slot_of w.slots) token) o fit k) h
  served_as_owned w rest (AskSetDeadline token deadline) answer cs h fit k =
      own_or (content_at (map slot_of w.slots) token) (λ _ o. rw o.1 k)
      (λ o. asked_owned w rest _ _ token answer cs (only (is_callers M) (content_at (map slot_of w.slots) token)) (λ d e l u. rearmed_keeps deadline token w.poll d e answer l u) (only_is (is_callers M) (map slot_of w.slots) token) o fit k) h
  served_as_owned w rest (AskInsert d) answer cs h fit k = absurd h
  served_as_owned w rest (AskRemove token) answer cs h fit k = absurd h
  served_as_owned w rest (AskIdle idle) answer cs h fit k = absurd h
  served_as_owned w rest (AskCancel ticket) answer cs h fit k = absurd h

  served_owned : (w : World D I P) (rest : List D) (request : Request D I) (cs : List (Change D I P)) → AllFresh M cs → Served M request (visible w) cs → AllFit O (visible w) cs → IsOwned M w rest → IsOwned M (world_after_all w cs) rest
  served_owned w rest (AskInsert d) cs fresh h fit k = told_owned_by w rest h.1 cs _ h.3 fresh fit (λ some fits. inserted_owned w rest d h.0 h.1 some h.2 fits k)
  served_owned w rest (AskEnable token) cs fresh h fit k = told_owned_by w rest h.1 cs _ h.3 fresh fit (λ some fits. served_as_owned w rest (AskEnable token) h.0 h.1 h.2 fits k)
  served_owned w rest (AskUpdate token) cs fresh h fit k = told_owned_by w rest h.1 cs _ h.3 fresh fit (λ some fits. served_as_owned w rest (AskUpdate token) h.0 h.1 h.2 fits k)
  served_owned w rest (AskDisable token) cs fresh h fit k = told_owned_by w rest h.1 cs _ h.3 fresh fit (λ some fits. served_as_owned w rest (AskDisable token) h.0 h.1 h.2 fits k)
  served_owned w rest (AskSetDeadline token deadline) cs fresh h fit k = told_owned_by w rest h.1 cs _ h.3 fresh fit (λ some fits. served_as_owned w rest (AskSetDeadline token deadline) h.0 h.1 h.2 fits k)
  served_owned w rest (AskRemove token) cs fresh h fit k =
      let out : World D I P = world_after w (Put token.slot Vacant) in
      own_or (content_at (map slot_of w.slots) token)
      (λ _ o. rw o (owned_listed M O law (world_after out (Holds (Unlisted token))) Owe rest (owned_listed M O law out (Unlisted token) rest (owned_emptied M O law w rest token.slot Vacant (λ e is. cc) k))))
      (λ o. told_owned_by w rest o.1 cs _ o.3 fresh fit (λ some fits. removed_owned w rest token o.0 o.1 (only (is_callers M) (content_at (map slot_of w.slots) token)) (only_is (is_callers M) (map slot_of w.slots) token) o.2 fits k)) h
  served_owned w rest (AskIdle idle) cs fresh h fit k = rw h (owned_listed M O law w (IdleIn idle) rest k)
  served_owned w rest (AskCancel ticket) cs fresh h fit k = rw h (owned_listed M O law (world_after w (Holds (IdleOut ticket))) (Told Done) rest (owned_listed M O law w (IdleOut ticket) rest k))

  served_from_owned : (w : World D I P) (asked : List (Asked D I)) (on next b : Doing D X) (cs : List (Change D I P)) → AllFresh M cs → ServedFrom M asked on next b (visible w) cs → AllFit O (visible w) cs → aside_of next ≡ aside_of on
      → IsOwned M w (aside_of on) → IsOwned M (world_after_all w cs) (aside_of b)
  served_from_owned w [] on next b cs fresh h fit same k = rw (h.0, h.1, same) k
  served_from_owned w (a ∷ as') on next b cs fresh h fit same k =
      let some : AllFresh M h.0 = (rw h.2 at fresh).1 in
      let fits : AllFit O (after_change (visible w) (Holds Begun)) h.0 = (rw h.2 at fit).1 in
      rw (h.2, h.3) (served_owned (world_after w (Holds Begun)) (aside_of on) a.request h.0 some h.1 fits (owned_listed M O law w Begun (aside_of on) k))

  run_from_owned : (w : World D I P) (idles : List (Waiter I)) (x : X) (cs : List (Change D I P)) (b : Doing D X) → RunFrom runs idles (visible w) x cs b → IsOwned M w [] → IsOwned M (world_after_all w cs) (aside_of b)
  run_from_owned w [] x cs b h k = rw (h.0, h.1) k
  run_from_owned w (i ∷ is) x cs b h k = rw (h.3, h.4) (owned_listed M O law (world_after w (Holds IdleBegun)) (Asking h.1) [] (owned_listed M O law w IdleBegun [] k))

  released_owned : (w : World D I P) (token : RegistrationToken) (answer : Outcome) (cs : List (Change D I P)) → ReleasedBy M token answer (visible w) cs → AllFit O (visible w) cs → IsOwned M w [] → IsOwned M (world_after_all w cs) []
  released_owned w token (Ok u) cs h fit k = (let r = left_removed M token (only (is_adapter M) (content_at (map slot_of w.slots) token)) (visible w) cs h in removed_owned w [] token r.0 cs (only (is_adapter M) (content_at (map slot_of w.slots) token)) (only_is (is_adapter M) (map slot_of w.slots) token) r.1 fit k)
  released_owned w token (Err e) cs h fit k = asked_owned w [] _ _ token (Err e) cs (only (is_adapter M) (content_at (map slot_of w.slots) token)) (λ d f l u fits below. law d f w.poll (Unregistered (Err e)) l fits below u) (only_is (is_adapter M) (map slot_of w.slots) token) h fit k

  settled_owned : (w : World D I P) (token : RegistrationToken) (c : Content D) (cs : List (Change D I P)) → Shows (map slot_of w.slots) token c → SettledIn M token c (visible w) cs → AllFit O (visible w) cs → IsOwned M w [] → IsOwned M (world_after_all w cs) []
  settled_owned w token Vacant cs is h fit k = rw h k
  settled_owned w token InTurn cs is h fit k = rw h k
  settled_owned w token (Source d) cs is (inl h) fit k =
      asked_owned w [] (TakesUp M token w.poll) (as_listed token) token (Ok tt) cs (Source d) (λ d e l u fits below. law d e w.poll (Reregistered (factory_of token) (Ok tt) u.0) l fits below u.1) is h fit k
  settled_owned w token (Source d) cs is (inr h) fit k = removed_owned w [] token h.0 cs (Source d) is h.1 fit k

  step_owned : (w : World D I P) (a b : Doing D X) (cs : List (Change D I P)) → AllFresh M cs → Step M runs O (visible w) a cs b → AllFit O (visible w) cs → IsOwned M w (aside_of a) → IsOwned M (world_after_all w cs) (aside_of b)
  step_owned w (Settling timeout [] x) b cs fresh h fit k = rw (h.0, h.1) k
  step_owned w (Settling timeout (t ∷ later) x) b cs fresh h fit k = rw h.1 (settled_owned w t (only (is_adapter M) (content_at (map slot_of w.slots) t)) cs (only_is (is_adapter M) (map slot_of w.slots) t) h.0 fit k)
  step_owned w (Beginning timeout x) b cs fresh h fit k = (
      let cleared = world_after (world_after w (Counting h.0)) (Holds Cleared) in
      rw (h.4, h.5) (owned_same M O law cleared (world_after cleared (Watching (with_note (Marked h.2) (with_note (Counted h.0) w.poll.watch)))) [] refl refl refl refl
      (owned_listed M O law (world_after w (Counting h.0)) Cleared [] (owned_same M O law w (world_after w (Counting h.0)) [] refl refl refl refl k))))
  step_owned w (Sleeping timeout [] x) b cs fresh h fit k = rw (h.0, h.1) k
  step_owned w (Sleeping timeout (t ∷ later) x) b cs fresh h fit k = slept_owned w timeout t later x cs b (content_at (map slot_of w.slots) t) refl h k
  step_owned w (Waiting timeout x) b cs fresh h fit k = rw (h.5, h.6, aside_wait h.0 h.1 x) (owned_same M O law w (world_after (world_after w (Polling h.2)) (Watching h.3)) [] refl refl refl refl k)
  step_owned w (Gathering now given x) b cs fresh h fit k = rw (h.1, h.2) (owned_gathered M O law w [] h.0 given now k)
  step_owned w (Noticing from [] x) b cs fresh h fit k = rw (h.0, h.1) k
  step_owned w (Noticing from (t ∷ later) x) b cs fresh h fit k = noticed_owned w from t later x cs b (content_at (map slot_of w.slots) t) refl h k
  step_owned w (Cutting x) b cs fresh h fit k = from_owned w w.poll.batch x cs b h fit k
  step_owned w (Serving token d answer x) b cs fresh h fit k = served_from_owned w w.held.asks.written _ _ b cs fresh h fit refl k
  step_owned w (Ending token d answer x) b cs fresh h fit k = rw h.3 (acted_owned w token d (action_of answer w.held.pending) cs h.0 h.1 h.2 fit k)
  step_owned w (Returning token d told x) b cs fresh h fit k = rw (h.1, aside_after told x) (returned_owned w token d (content_at (map slot_of w.slots) token) cs h.0 fit k)
  step_owned w (Idling x) b cs fresh h fit k = rw (h.0, h.1) (owned_listed M O law w IdlesTaken [] k)
  step_owned w (RunningIdles x) b cs fresh h fit k = run_from_owned w w.held.asks.running x cs b h k
  step_owned w (ServingIdle x) b cs fresh h fit k = served_from_owned w w.held.asks.written _ _ b cs fresh h fit refl k
  step_owned w (Leaving answer x) b cs fresh h fit k = absurd h

  steps_owned : (w : World D I P) (a b : Doing D X) (css : List (List (Change D I P))) → AllFresh M (flatten css) → Steps M runs O (visible w) a css b → IsOwned M w (aside_of a) → IsOwned M (all_traced w css) (aside_of b)
  steps_owned w a b [] fresh h k = rw h k
  steps_owned w a b (cs ∷ css) fresh h k =
      steps_owned (world_after_all w cs) h.0 b css (fresh_rest cs (flatten css) fresh) (subst (λ (v : View D I P). Steps M runs O v h.0 css b) (sym (seen-all_done w cs)) h.3) (step_owned w a h.0 cs (fresh_first cs (flatten css) fresh) h.1 h.2 k)

  -- another source takes the place of one: that goes out of its slot, and this comes in
  owned_swapped : (w : World D I P) (k : ℕ) (old new : D) → At w.slots k old → HoldsNoMore M old new × M.fits new → IsOwned M w [] → IsOwned M (world_after w (Swapped k old new)) []
  owned_swapped w k old new here less h =
      let out : World D I P = world_after w (Put k InTurn) in
      let same : with_change (slot_with (Source new)) (with_change (slot_with InTurn) w.slots k) k ≡ with_change (slot_with (Source new)) w.slots k = put_twice (Source new) InTurn w.slots k in
      subst (λ (slots : List (Registration D)). IsOwned M (record w { slots = slots }) []) same
      (owned_back M O law out [] k new (owned_polls M O law out [] old new [] tt (λ fits below. (less.1, less.0)) (owned_out M O law w [] k old here h)))

  exchanged_owned : (w : World D I P) (token : RegistrationToken) (new : D) (answer : Result D D) (cs : List (Change D I P)) (c : Content D) → Shows (map slot_of w.slots) token c → AllFresh M cs → ExchangedIn token new c answer cs → IsOwned M w [] → IsOwned M (world_after_all w cs) []
  exchanged_owned w token new answer cs Vacant is fresh h k = rw h.1 k
  exchanged_owned w token new answer cs InTurn is fresh h k = rw h.1 k
  exchanged_owned w token new answer cs (Source d) is fresh h k =
      let less : HoldsNoMore M d new × M.fits new = (rw h.1 at fresh).0 in
      rw h.1 (owned_swapped w token.slot d new (at_named w.slots token d (is d refl)) less k)

  once_owned : (w : World D I P) (R : View D I P → List (Change D I P) → Type 0) (css : List (List (Change D I P))) → AllFresh M (flatten css) → Once O R (visible w) css → ((cs : List (Change D I P)) → AllFresh M cs → R (visible w) cs → AllFit O (visible w) cs → IsOwned M (world_after_all w cs) []) → IsOwned M (all_traced w css) []
  once_owned w R [] fresh h f = absurd h
  once_owned w R (cs ∷ []) fresh h f = f cs (fresh_first cs [] fresh) h.0 h.1
  once_owned w R (cs ∷ ds ∷ css) fresh h f = absurd h

  case_owned : (w : World D I P) (call : LoopCall D P X I) (answer : LoopAnswer D P X I) (css : List (List (Change D I P))) → AllFresh M (flatten css) → Case M runs O call answer (visible w) css → IsOwned M w [] → IsOwned M (all_traced w css) []
  case_owned w (Insert d) (Inserted answer) css free h k = once_owned w (InsertedBy M d answer) css free h (λ cs fresh r fit. inserted_owned w [] d answer cs fresh r fit k)
  case_owned w (Enable token) (Enabled answer) css free h k =
      once_owned w (EnabledBy M token answer) css free h
      (λ cs fresh r fit. asked_owned w [] _ _ token answer cs (only (is_callers M) (content_at (map slot_of w.slots) token)) (λ d e l u. registered_keeps Registered token w.poll d e answer l u) (only_is (is_callers M) (map slot_of w.slots) token) r fit k)
  case_owned w (Update token) (Updated answer) css free h k =
      once_owned w (UpdatedBy M token answer) css free h
      (λ cs fresh r fit. asked_owned w [] _ _ token answer cs (only (is_callers M) (content_at (map slot_of w.slots) token)) (λ d e l u. registered_keeps Reregistered token w.poll d e answer l u) (only_is (is_callers M) (map slot_of w.slots) token) r fit k)
  case_owned w (Disable token) (Disabled answer) css free h k =
      once_owned w (DisabledBy M token answer) css free h
      (λ cs fresh r fit. asked_owned w [] _ _ token answer cs (only (is_callers M) (content_at (map slot_of w.slots) token)) (λ d e l u fits below. law d e w.poll (Unregistered answer) l fits below u) (only_is (is_callers M) (map slot_of w.slots) token) r fit k)
  case_owned w (RemoveCall token) (Removed answer) css free h k = once_owned w (RemovedBy M token answer) css free h (λ cs fresh r fit. removed_owned w [] token answer cs (only (is_callers M) (content_at (map slot_of w.slots) token)) (only_is (is_callers M) (map slot_of w.slots) token) r fit k)
  case_owned w (Release token) (Released answer) css free h k = once_owned w (ReleasedBy M token answer) css free h (λ cs fresh r fit. released_owned w token answer cs r fit k)
  case_owned w (Exchange token d) (Exchanged answer) css free h k =
      once_owned w (ExchangedBy M token d answer) css free h (λ cs fresh r fit. exchanged_owned w token d answer cs (only (is_callers M) (content_at (map slot_of w.slots) token)) (only_is (is_callers M) (map slot_of w.slots) token) fresh r k)
  case_owned w (Dispatch timeout x) (Dispatched answer x') css free (inl h) k = rw h.2 k
  case_owned w (Dispatch timeout x) (Dispatched answer x') css free (inr h) k = steps_owned w (Beginning (nanos_of timeout) x) (Leaving answer x') css free h k
  case_owned w (InsertIdle idle) (IdleInserted (Ok made)) css free h k = once_owned w (IdleInsertedBy idle (Ok made)) css free h (λ cs fresh r fit. rw r.2 (owned_listed M O law w (IdleNew idle) [] k))
  case_owned w (InsertIdle idle) (IdleInserted (Err refused)) css free h k = once_owned w (IdleInsertedBy idle (Err refused)) css free h (λ cs fresh r fit. rw r.2 k)
  case_owned w (Cancel idle) Cancelled css free h k = rw h (owned_listed M O law w (IdleOut idle.ticket.number) [] k)
  case_owned w (AnswerOf ticket) (Answered answer) css free h k = rw h.1 (owned_listed M O law w (Asking (Take ticket.number ∷ [])) [] k)
  case_owned w ForgetStop StopForgotten css free h k = rw h (owned_listed M O law w (StopNoted Forgot) [] k)
  case_owned w LookForStop (Stopped found) css free h k = rw h (owned_listed M O law w (StopNoted (Looked found)) [] k)
  case_owned w (NewPoller p) (OldPoller q) css free h k = rw h.1 (owned_same M O law w (world_after w (Polling p)) [] refl refl refl refl k)
  case_owned w call answer css free h k = absurd h

  pub run_owned : (calls : List (LoopCall D P X I)) (answers : List (LoopAnswer D P X I)) (csss : List (List (List (Change D I P)))) (w w' : World D I P) → AllFresh M (changes_of csss) → Run M runs O calls answers csss w w' → IsOwned M w [] → IsOwned M w' []
  run_owned [] [] [] w w' free run k = rw run k
  run_owned (call ∷ calls) (answer ∷ answers) (css ∷ csss) w w' free run k = run_owned calls answers csss (all_traced w css) w' (fresh_rest (flatten css) (changes_of csss) free) run.1 (case_owned w call answer css (fresh_first (flatten css) (changes_of csss) free) run.0 k)
  run_owned calls answers csss w w' free run k = absurd run

nobody : {D : Type 0} (slots : List (Registration D)) → slots ≡ [] → (i : ℕ) (d : D) → At slots i d → ⊥
nobody [] none i d h = (let e = h.1 in cc)
nobody (x ∷ xs) none i d h = cc

nothing_there : {A : Type 0} {x : A} (k : ℕ) → slice_get [] k ≡ Some x → ⊥
nothing_there zero is = cc
nothing_there (suc k) is = cc

none_armed : (n : ℕ) → ◌≡◌ {A = ℕ} 0 (if nat_lt n 0 then 1 else 0)
none_armed n = grind (arith, nat_tests)

-- a machine to which nothing has happened
pub new_owned : {D I P X : Type 0} (M : Meaning D P (Lent X (Asks D I))) (w : World D I P) → IsNew w → IsOwned M w []
new_owned {D} {I} {P} M w h =
    record {
      noted = record { kept = rw h.ledger (record { entries = sym (ap (λ d. d.entries) h.deadlines); events = sym h.batch; placed = λ n. none_armed n; batch_on_time = tt; cut_on_time = tt; own = tt; once = λ n. omega arith; gathered = λ n. omega arith }); falls = rw h.ledger tt };
      good = λ i d is. absurd (nobody w.slots h.slots i d is);
      apart = λ i j d e differ is at. absurd (nobody w.slots h.slots i d is);
      own = λ k d is. absurd (nothing_there k is);
      alone = λ k d e i is at. absurd (nothing_there k is);
      among = λ j k d e differ is at. absurd (nothing_there j is);
    }
