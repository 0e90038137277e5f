-- A slot that was given up stays vacant under its reuse count, since each change of a run fits.
use Rattle.std.proofs.Common.{◌≡◌, ℕ, zero, suc, ◌+◌, ◌<◌, ◌⊎◌, List, [], ◌∷◌, ◌++◌, map, refl, ap, sym, ◌∙◌, subst, arith, inl, inr, Some, true, false, if◌then◌else◌, slice_get}
use Rattle.calloop_slots.specs.declared.list.Content.{Content}
use Rattle.calloop_slots.specs.declared.list.Content.TheVariants.{Source}
use Rattle.calloop_slots.specs.Slots.{with_change, is_empty}
use Rattle.calloop_poll.specs.sys.Pollers.{Outside}
use Rattle.calloop_sources.specs.sources.Deeds.{Lent}
use Rattle.calloop_sources.specs.sources.Meanings.{Meaning}
use Rattle.calloop_loop.specs.declared.LoopCall.{LoopCall}
use Rattle.calloop_loop.specs.declared.LoopCall.TheVariants.{Insert, Enable, Update, Disable, Remove as RemoveCall, Release, Exchange, Dispatch, InsertIdle, Cancel, Answer as AnswerOf, ForgetStop, LookForStop, Poller as NewPoller}
use Rattle.calloop_loop.specs.declared.LoopAnswer.{LoopAnswer}
use Rattle.calloop_loop.specs.declared.LoopAnswer.TheVariants.{Inserted, Enabled, Updated, Disabled, Removed, Released, Exchanged, Dispatched, IdleInserted, Cancelled, Answered, StopForgotten, Stopped, Poller as OldPoller}
use Rattle.calloop_loop.specs.Askings.{Asks, Runs}
use Rattle.calloop_loop.specs.Machine.{World, View, Registration, Change, Put, Claim, Swapped, Polls, Polling, Watching, Counting, Holds, Appended, Gathered, Cut, Ended, Fits, AllFit, IsFull, slot_with, next_use, is_free, with_claim, slot_of, visible, after_change, all_viewed, world_after, world_after_all}
use Rattle.calloop_loop.specs.Rules.{Doing, Steps, Case, Run, Once, InsertedBy, EnabledBy, UpdatedBy, DisabledBy, RemovedBy, ReleasedBy, ExchangedBy, IdleInsertedBy, after_changes, all_traced}
use Rattle.calloop_laws.specs.Laws.{StaysGone, flatten, changes_of}
use Rattle.calloop_loop.proofs.Seen.{seen-done, seen-all_done, seen-all_traced}

-- the slot was given up under this count, or is used again since
abbrev Left : {D : Type 0} → List (Registration D) → (i n : ℕ) → Type 0
Left {D} rs i n = (r : Registration D) × (slice_get rs i ≡ Some r) × (((r.reuse ≡ n) × (is_free r ≡ true)) ⊎ (n < r.reuse))

left_put : {D : Type 0} (c : Content D) (rs : List (Registration D)) (k i n : ℕ) → IsFull (map slot_of rs) k → Left rs i n → Left (with_change (slot_with c) rs k) i n
left_put c [] k i n full h = h
left_put {D} c (x ∷ xs) zero zero n full h =
    let e : x ≡ h.0 = (let f = h.1 in cc) in
    let s : slot_of x ≡ full.0 = (let f = full.1 in cc) in
    let taken : is_empty x.content ≡ false = ap (λ t. is_empty t.content) s ∙ full.2 in
    (slot_with c x, refl, inr (elim h.2 [ inl u ↦ absurd (let f : is_empty x.content ≡ true = ap (λ (y : Registration D). is_free y) e ∙ u.1 in cc) | inr lt ↦ rw e lt ]))
left_put c (x ∷ xs) zero (suc i) n full h = h
left_put c (x ∷ xs) (suc k) zero n full h = h
left_put c (x ∷ xs) (suc k) (suc i) n full h = left_put c xs k i n full h

left_claim : {D : Type 0} (rs : List (Registration D)) (i n : ℕ) → Left rs i n → Left (with_claim rs) i n
left_claim [] i n h = let f = h.1 in cc
left_claim {D} (x ∷ xs) zero n h =
    let e : x ≡ h.0 = (let f = h.1 in cc) in
    let most : n < x.reuse + 1 = elim h.2 [ inl u ↦ omega (arith, u.0, ap (λ (y : Registration D). y.reuse) e) | inr lt ↦ omega (arith, lt, ap (λ (y : Registration D). y.reuse) e) ] in
    elim (is_empty x.content) as (λ b. Left (if b then next_use x ∷ xs else x ∷ with_claim xs) zero n) [ true ↦ (next_use x, refl, inr most) | false ↦ (x, refl, rw e h.2) ]
left_claim {D} (x ∷ xs) (suc i) n h =
    elim (is_empty x.content) as (λ b. Left (if b then next_use x ∷ xs else x ∷ with_claim xs) (suc i) n) [ true ↦ h | false ↦ left_claim xs i n h ]

module _ {D I P : Type 0} (O : Outside P) where
  left_done : (w : World D I P) (c : Change D I P) (i n : ℕ) → Fits O (visible w) c → Left w.slots i n → Left (world_after w c).slots i n
  left_done w (Put slot content) i n fit h = left_put content w.slots slot i n fit h
  left_done w (Swapped slot old new) i n fit h = left_put (Source new) w.slots slot i n (fit.0, fit.1, ap is_empty fit.2) h
  left_done w (Claim source) i n fit h = left_claim w.slots i n h
  left_done w (Polls steps) i n fit h = h
  left_done w (Polling poller) i n fit h = h
  left_done w (Watching watch) i n fit h = h
  left_done w (Counting places) i n fit h = h
  left_done w (Holds step) i n fit h = h
  left_done w (Appended event) i n fit h = h
  left_done w (Gathered posted given now) i n fit h = h
  left_done w (Cut slot) i n fit h = h
  left_done w Ended i n fit h = h

  left_all : (w : World D I P) (cs : List (Change D I P)) (i n : ℕ) → AllFit O (visible w) cs → Left w.slots i n → Left (world_after_all w cs).slots i n
  left_all w [] i n fit h = h
  left_all w (c ∷ cs) i n fit h = left_all (world_after w c) cs i n (subst (λ (v : View D I P). AllFit O v cs) (sym (seen-done w c)) fit.1) (left_done w c i n fit.0 h)

  stays : (w : World D I P) (cs : List (Change D I P)) → AllFit O (visible w) cs → StaysGone w (world_after_all w cs)
  stays w cs fit i r r' here there same free =
      let g = left_all w cs i r.reuse fit (r, here, inl (refl, free)) in
      let e : g.0 ≡ r' = (let f : Some g.0 ≡ Some r' = sym g.1 ∙ there in cc) in
      elim g.2 [ inl u ↦ rw e at u.1 | inr lt ↦ absurd (omega (arith, lt, same, ap (λ (y : Registration D). y.reuse) e)) ]

  fit-append : (v : View D I P) (cs ds : List (Change D I P)) → AllFit O v cs → AllFit O (all_viewed v cs) ds → AllFit O v (cs ++ ds)
  fit-append v [] ds h k = k
  fit-append v (c ∷ cs) ds h k = (h.0, fit-append (after_change v c) cs ds h.1 k)

  pub fit_first : (v : View D I P) (cs ds : List (Change D I P)) → AllFit O v (cs ++ ds) → AllFit O v cs
  fit_first v [] ds h = tt
  fit_first v (c ∷ cs) ds h = (h.0, fit_first (after_change v c) cs ds h.1)

  fit_rest : (v : View D I P) (cs ds : List (Change D I P)) → AllFit O v (cs ++ ds) → AllFit O (all_viewed v cs) ds
  fit_rest v [] ds h = h
  fit_rest v (c ∷ cs) ds h = fit_rest (after_change v c) cs ds h.1

  pub stay_gone : (w : World D I P) (cs : List (Change D I P)) → AllFit O (visible w) cs → (before between after : List (Change D I P)) → cs ≡ before ++ (between ++ after)
      → StaysGone (world_after_all w before) (world_after_all (world_after_all w before) between)
  stay_gone w cs fit before between after is =
      let all = subst (λ (l : List (Change D I P)). AllFit O (visible w) l) is fit in
      let rest = fit_first (all_viewed (visible w) before) between after (fit_rest (visible w) before (between ++ after) all) in
      stays (world_after_all w before) between (subst (λ (v : View D I P). AllFit O v between) (sym (seen-all_done w before)) rest)

module _ {D I P X : Type 0} (M : Meaning D P (Lent X (Asks D I))) (runs : Runs D I X) (O : Outside P) where
  viewed-append : (v : View D I P) (cs ds : List (Change D I P)) → all_viewed v (cs ++ ds) ≡ all_viewed (all_viewed v cs) ds
  viewed-append v [] ds = refl
  viewed-append v (c ∷ cs) ds = viewed-append (after_change v c) cs ds

  pub viewed-joined : (v : View D I P) (css : List (List (Change D I P))) → all_viewed v (flatten css) ≡ after_changes v css
  viewed-joined v [] = refl
  viewed-joined v (cs ∷ css) = viewed-append v cs (flatten css) ∙ viewed-joined (all_viewed v cs) css

  steps_fit : (v : View D I P) (a b : Doing D X) (css : List (List (Change D I P))) → Steps M runs O v a css b → AllFit O v (flatten css)
  steps_fit v a b [] h = tt
  steps_fit v a b (cs ∷ css) h = fit-append O v cs (flatten css) h.2 (steps_fit (all_viewed v cs) h.0 b css h.3)

  once_fit : (v : View D I P) (R : View D I P → List (Change D I P) → Type 0) (css : List (List (Change D I P))) → Once O R v css → AllFit O v (flatten css)
  once_fit v R [] h = absurd h
  once_fit v R (cs ∷ []) h = fit-append O v cs [] h.1 tt
  once_fit v R (cs ∷ ds ∷ css) h = absurd h

  pub case_fit : (v : View D I P) (call : LoopCall D P X I) (answer : LoopAnswer D P X I) (css : List (List (Change D I P))) → Case M runs O call answer v css → AllFit O v (flatten css)
  case_fit v (Insert d) (Inserted answer) css h = once_fit v (InsertedBy M d answer) css h
  case_fit v (Enable token) (Enabled answer) css h = once_fit v (EnabledBy M token answer) css h
  case_fit v (Update token) (Updated answer) css h = once_fit v (UpdatedBy M token answer) css h
  case_fit v (Disable token) (Disabled answer) css h = once_fit v (DisabledBy M token answer) css h
  case_fit v (RemoveCall token) (Removed answer) css h = once_fit v (RemovedBy M token answer) css h
  case_fit v (Release token) (Released answer) css h = once_fit v (ReleasedBy M token answer) css h
  case_fit v (Exchange token d) (Exchanged answer) css h = once_fit v (ExchangedBy M token d answer) css h
  case_fit v (Dispatch timeout x) (Dispatched answer x') css h = elim h [ inl k ↦ rw k.2 tt | inr k ↦ steps_fit v _ _ css k ]
  case_fit v (InsertIdle idle) (IdleInserted answer) css h = once_fit v (IdleInsertedBy idle answer) css h
  case_fit v (Cancel idle) Cancelled css h = rw h (tt, tt)
  case_fit v (AnswerOf ticket) (Answered answer) css h = rw h.1 (tt, tt)
  case_fit v ForgetStop StopForgotten css h = rw h (tt, tt)
  case_fit v LookForStop (Stopped found) css h = rw h (tt, tt)
  case_fit v (NewPoller p) (OldPoller q) css h = rw h.1 (tt, tt)
  case_fit v call answer css h = absurd h

  pub run_fits : (calls : List (LoopCall D P X I)) (answers : List (LoopAnswer D P X I)) (csss : List (List (List (Change D I P)))) (w w' : World D I P) → Run M runs O calls answers csss w w' → AllFit O (visible w) (changes_of csss)
  run_fits [] [] [] w w' h = tt
  run_fits (call ∷ calls) (answer ∷ answers) (css ∷ csss) w w' h =
      let rest = run_fits calls answers csss (all_traced w css) w' h.1 in
      fit-append O (visible w) (flatten css) (changes_of csss) (case_fit (visible w) call answer css h.0)
      (subst (λ (v : View D I P). AllFit O v (changes_of csss)) (seen-all_traced w css ∙ sym (viewed-joined (visible w) css)) rest)
  run_fits calls answers csss w w' h = absurd h
