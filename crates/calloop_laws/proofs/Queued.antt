-- The tasks that are queued are popped in their order, up to the first pop that finds none.
use Rattle.std.proofs.Common.{◌≡◌, ◌≢◌, ℕ, Bool, true, false, if◌then◌else◌, Option, Some, None, List, [], ◌∷◌, ◌++◌, nat_eq, refl, sym, ◌∙◌, ap, subst, arith, append_assoc}
use Rattle.std.proofs.lemmas.Bool.Decides.{nat_tests}
use Rattle.std.proofs.lemmas.List.{append-nil}
use Rattle.calloop_wake.specs.Boards.{bound}
use Rattle.calloop_wake.specs.declared.tasks.TaskKey.{TaskKey}
use Rattle.calloop_wake.specs.Tasks.{is_idle, phase_at, slot_if}
use Rattle.calloop_wake.specs.Executors.{ExecutorCell, after_poll_of, after_poll, taken_of}
use Rattle.calloop_wake.specs.declared.notes.Note.TheVariants.{Counted, Looked, Unposted, Marked}
use Rattle.calloop_wake_laws.specs.ExecutorKind.{ExecutorPast, ExecutorStep, Put, Wake, Pop, EndTurn, past_after}
use Rattle.calloop_wake_laws.specs.Kinds.{First, Second, Born, every_kind, new_cell}
use Rattle.calloop_wake_laws.specs.Wakes.{WakeWorld, At, ClearKey, SetKey, OpenTurn, OpenPlace, ClosePlace, Post, Back, Unpost, Look, Wakeup, Sleep, Return, after, start, with_cell}
use Rattle.calloop_wake_laws.proofs.Schedules.{with_cell_cases}
use Rattle.calloop_laws.specs.Called.{KeepsKey, world_behind_it}
use Rattle.calloop_laws.specs.Histories.{Happening, Unseen, Noted, end_of}
use Rattle.calloop_laws.specs.Queued.{popped_by, popped_in, first_of, WhatWasQueuedIsPopped}
use Rattle.calloop_laws.specs.Sent.{IsBeginningOf}

abbrev Worlds : Type 0
Worlds = WakeWorld every_kind.Cell

abbrev History : Type 0
History = List (Happening every_kind.Own)

-- the cell is an executor whose queue begins with these
record IsQueued (left : List ℕ) (c : every_kind.Cell) : Type 0 where
  executor : ExecutorPast
  is : c ≡ Second (Second executor)
  more : List ℕ
  queue : executor.now.queue ≡ left ++ more

-- the end of a poll queues at most behind
record Longer (before after : List ℕ) : Type 0 where
  more : List ℕ
  is : after ≡ before ++ more

poll_longer : (polled : Option TaskKey) (finished : Bool) (c : ExecutorCell) → Longer c.queue (after_poll_of polled finished c).queue
poll_longer None finished c = record { more = []; is = sym (append-nil c.queue) }
poll_longer (Some key) true c = record { more = []; is = sym (append-nil c.queue) }
poll_longer (Some key) false c = record { more = _; is = refl }

longer_so : (left more : List ℕ) (c : ExecutorCell) (finished : Bool) → c.queue ≡ left ++ more → Longer left (after_poll finished c).queue
longer_so left more c finished q =
    let l = poll_longer c.progress.polled finished c in
    record { more = more ++ l.more; is = l.is ∙ ap (λ (xs : List ℕ). xs ++ l.more) q ∙ append_assoc left more l.more }

-- what a step of the executor leaves of a queue that begins with a task: all, or all but that, which it pops
data Left (x : ℕ) (xs : List ℕ) (popped : List ℕ) (c : every_kind.Cell) : Type 0 where
  All : popped ≡ [] → IsQueued (x ∷ xs) c → Left x xs popped c
  Rest : popped ≡ x ∷ [] → IsQueued xs c → Left x xs popped c

taken_rest : (x : ℕ) (xs more : List ℕ) (c : ExecutorCell) → (queue : List ℕ) → queue ≡ (x ∷ xs) ++ more → (taken_of queue c).queue ≡ xs ++ more
taken_rest x xs more c [] q = absurd (let f : ◌≡◌ {A = List ℕ} [] (x ∷ (xs ++ more)) = q in cc)
taken_rest x xs more c (y ∷ ys) q = (let e : ys ≡ xs ++ more = cc in e)

first_so : (x : ℕ) (xs more queue : List ℕ) → queue ≡ (x ∷ xs) ++ more → first_of queue ≡ x ∷ []
first_so x xs more queue q = rw q refl

by_executor : (x : ℕ) (xs : List ℕ) (s : ExecutorStep) (e : ExecutorPast) (more : List ℕ) → e.now.queue ≡ (x ∷ xs) ++ more
    → Left x xs (popped_by (Second (Second s)) (Second (Second e))) (Second (Second (past_after s e)))
by_executor x xs (Put slot home) e more q =
    All refl (record { executor = past_after (Put slot home) e; is = refl; more = more ++ slot ∷ []; queue = ap (λ (l : List ℕ). l ++ slot ∷ []) q ∙ append_assoc (x ∷ xs) more (slot ∷ []) })
by_executor x xs (Wake key) e more q =
    let woken : List ℕ = slot_if (is_idle (phase_at key e.now.tasks)) key.slot in
    All refl (record { executor = past_after (Wake key) e; is = refl; more = more ++ woken; queue = ap (λ (l : List ℕ). l ++ woken) q ∙ append_assoc (x ∷ xs) more woken })
by_executor x xs (Pop finished) e more q =
    let l = longer_so (x ∷ xs) more e.now finished q in
    Rest (first_so x xs l.more (after_poll finished e.now).queue l.is)
    (record { executor = past_after (Pop finished) e; is = refl; more = l.more; queue = taken_rest x xs l.more (after_poll finished e.now) (after_poll finished e.now).queue l.is })
by_executor x xs (EndTurn finished) e more q =
    let l = longer_so (x ∷ xs) more e.now finished q in
    All refl (record { executor = past_after (EndTurn finished) e; is = refl; more = l.more; queue = l.is })

by_own : (x : ℕ) (xs : List ℕ) (s : every_kind.Own) (e : ExecutorPast) (more : List ℕ) → e.now.queue ≡ (x ∷ xs) ++ more
    → Left x xs (popped_by s (Second (Second e))) (every_kind.after s (Second (Second e)))
by_own x xs (First s) e more q = All refl (record { executor = e; is = refl; more = more; queue = q })
by_own x xs (Second (First s)) e more q = All refl (record { executor = e; is = refl; more = more; queue = q })
by_own x xs (Second (Second s)) e more q = by_executor x xs s e more q

own_left : (x : ℕ) (xs : List ℕ) (s : every_kind.Own) (c : every_kind.Cell) → IsQueued (x ∷ xs) c → Left x xs (popped_by s c) (every_kind.after s c)
own_left x xs s c h =
    subst (λ (d : every_kind.Cell). Left x xs (popped_by s d) (every_kind.after s d)) (sym h.is) (by_own x xs s h.executor h.more h.queue)

-- of the cell of this number: a step of its own, or of another cell
step_left : (x : ℕ) (xs : List ℕ) (n m : ℕ) (s : every_kind.Own) (w : Worlds) (same : Bool) → nat_eq m n ≡ same → IsQueued (x ∷ xs) (w.cells n)
    → Left x xs (if same then popped_by s (w.cells m) else []) ((after every_kind w (At m s)).cells n)
step_left x xs n m s w true is h =
    let e : m ≡ n = grind (arith, nat_tests) in
    let here : IsQueued (x ∷ xs) (w.cells m) = subst (λ (j : ℕ). IsQueued (x ∷ xs) (w.cells j)) (sym e) h in
    with_cell_cases (λ c. Left x xs (popped_by s (w.cells m)) c) m n (every_kind.after s (w.cells m)) w.cells
    (λ same. own_left x xs s (w.cells m) here) (λ other. absurd (other (sym e)))
step_left x xs n m s w false is h =
    let d : n ≢ m = λ e. (let y : nat_eq m n ≡ true = rw e (grind (arith, nat_tests)) in (let f : ◌≡◌ {A = Bool} true false = sym y ∙ is in cc)) in
    All refl (with_cell_cases (IsQueued (x ∷ xs)) m n (every_kind.after s (w.cells m)) w.cells (λ same. absurd (d same)) (λ other. h))

-- a change that leaves an executor's queue unchanged, of this cell or another one
kept : (left : List ℕ) (n m : ℕ) (f : every_kind.Cell → every_kind.Cell) (w : Worlds)
    → ((e : ExecutorPast) (more : List ℕ) → e.now.queue ≡ left ++ more → IsQueued left (f (Second (Second e)))) → IsQueued left (w.cells n)
    → IsQueued left (with_cell m (f (w.cells m)) w.cells n)
kept left n m f w g h =
    with_cell_cases (IsQueued left) m n (f (w.cells m)) w.cells
    (λ same.
    (let here : IsQueued left (w.cells m) = subst (λ (j : ℕ). IsQueued left (w.cells j)) same h in
    subst (λ (d : every_kind.Cell). IsQueued left (f d)) (sym here.is) (g here.executor here.more here.queue)))
    (λ other. h)

beside : (left : List ℕ) (n m : ℕ) (c : every_kind.Cell) (w : Worlds) → m ≢ n → IsQueued left (w.cells n) → IsQueued left (with_cell m c w.cells n)
beside left n m c w d h = with_cell_cases (IsQueued left) m n c w.cells (λ same. absurd (d (sym same))) (λ other. h)

turned : (left : List ℕ) (b : Bool) (e : ExecutorPast) (more : List ℕ) → e.now.queue ≡ left ++ more
    → IsQueued left (if b then every_kind.opened (Second (Second e)) else Second (Second e))
turned left true e more q = record { executor = _; is = refl; more = more; queue = q }
turned left false e more q = record { executor = e; is = refl; more = more; queue = q }

same_executor : (p q : ExecutorPast) → ◌≡◌ {A = every_kind.Cell} (Second (Second p)) (Second (Second q)) → p ≡ q
same_executor p q h = (let e : p ≡ q = cc in e)

-- if a pop finds none, nothing was left
none_left : (x : ℕ) (xs : List ℕ) (c : every_kind.Cell) (q : ExecutorPast) (finished : Bool) → IsQueued (x ∷ xs) c → c ≡ Second (Second q)
    → (after_poll finished q.now).queue ≡ [] → ⊥
none_left x xs c q finished h is none =
    let same : h.executor ≡ q = same_executor h.executor q (sym h.is ∙ is) in
    let queue : q.now.queue ≡ (x ∷ xs) ++ h.more = ap (λ (e : ExecutorPast). e.now.queue) (sym same) ∙ h.queue in
    let l = longer_so (x ∷ xs) h.more q.now finished queue in
    (let f : ◌≡◌ {A = List ℕ} [] (x ∷ (xs ++ l.more)) = sym none ∙ l.is in cc)

all_of : (given : List ℕ) → IsBeginningOf [] given
all_of given = record { more = given; is = refl }

then_more : (x : ℕ) (xs popped given : List ℕ) → popped ≡ x ∷ [] → IsBeginningOf xs given → IsBeginningOf (x ∷ xs) (popped ++ given)
then_more x xs popped given one h = record { more = h.more; is = rw one (ap (λ (l : List ℕ). x ∷ l) h.is) }

as_before : (x : ℕ) (xs popped given : List ℕ) → popped ≡ [] → IsBeginningOf (x ∷ xs) given → IsBeginningOf (x ∷ xs) (popped ++ given)
as_before x xs popped given none h = rw none h

popped_so : (left : List ℕ) (w : Worlds) (hs : History) (n : ℕ) (q : ExecutorPast) (finished : Bool) → KeepsKey n hs → IsQueued left (w.cells n)
    → (end_of every_kind w hs).cells n ≡ Second (Second q) → (after_poll finished q.now).queue ≡ [] → IsBeginningOf left (popped_in n w hs)
popped_so [] w hs n q finished keeps h there none = all_of (popped_in n w hs)
popped_so (x ∷ xs) w [] n q finished keeps h there none = absurd (none_left x xs (w.cells n) q finished h there none)
popped_so (x ∷ xs) w (Unseen (At m s) ∷ hs) n q finished keeps h there none =
    elim (step_left x xs n m s w (nat_eq m n) refl h) [
      | All nothing kept ↦ as_before x xs (if nat_eq m n then popped_by s (w.cells m) else []) (popped_in n (after every_kind w (At m s)) hs) nothing (popped_so (x ∷ xs) (after every_kind w (At m s)) hs n q finished keeps kept there none)
      | Rest one rest ↦ then_more x xs (if nat_eq m n then popped_by s (w.cells m) else []) (popped_in n (after every_kind w (At m s)) hs) one (popped_so xs (after every_kind w (At m s)) hs n q finished keeps rest there none)
    ]
popped_so (x ∷ xs) w (Unseen (ClearKey m by_drop) ∷ hs) n q finished keeps h there none =
    popped_so (x ∷ xs) (after every_kind w (ClearKey m by_drop)) hs n q finished keeps.1 (beside (x ∷ xs) n m (every_kind.unkeyed by_drop (w.cells m)) w keeps.0 h) there none
popped_so (x ∷ xs) w (Unseen (SetKey m k) ∷ hs) n q finished keeps h there none =
    popped_so (x ∷ xs) (after every_kind w (SetKey m k)) hs n q finished keeps.1 (beside (x ∷ xs) n m (every_kind.keyed k (w.cells m)) w keeps.0 h) there none
popped_so (x ∷ xs) w (Unseen (OpenTurn m k) ∷ hs) n q finished keeps h there none =
    popped_so (x ∷ xs) (after every_kind w (OpenTurn m k)) hs n q finished keeps
    (kept (x ∷ xs) n m (λ c. if every_kind.opens k c then every_kind.opened c else c) w (λ e more u. turned (x ∷ xs) (every_kind.opens k (Second (Second e))) e more u) h) there none
popped_so (x ∷ xs) w (Unseen (OpenPlace k) ∷ hs) n q finished keeps h there none = popped_so (x ∷ xs) (after every_kind w (OpenPlace k)) hs n q finished keeps h there none
popped_so (x ∷ xs) w (Unseen (ClosePlace k) ∷ hs) n q finished keeps h there none = popped_so (x ∷ xs) (after every_kind w (ClosePlace k)) hs n q finished keeps h there none
popped_so (x ∷ xs) w (Unseen (Post k) ∷ hs) n q finished keeps h there none = popped_so (x ∷ xs) (after every_kind w (Post k)) hs n q finished keeps h there none
popped_so (x ∷ xs) w (Unseen (Back k) ∷ hs) n q finished keeps h there none = popped_so (x ∷ xs) (after every_kind w (Back k)) hs n q finished keeps h there none
popped_so (x ∷ xs) w (Unseen (Unpost below) ∷ hs) n q finished keeps h there none = popped_so (x ∷ xs) (after every_kind w (Unpost below)) hs n q finished keeps h there none
popped_so (x ∷ xs) w (Unseen Look ∷ hs) n q finished keeps h there none = popped_so (x ∷ xs) (after every_kind w Look) hs n q finished keeps h there none
popped_so (x ∷ xs) w (Unseen Wakeup ∷ hs) n q finished keeps h there none = popped_so (x ∷ xs) (after every_kind w Wakeup) hs n q finished keeps h there none
popped_so (x ∷ xs) w (Unseen Sleep ∷ hs) n q finished keeps h there none = popped_so (x ∷ xs) (after every_kind w Sleep) hs n q finished keeps h there none
popped_so (x ∷ xs) w (Unseen Return ∷ hs) n q finished keeps h there none = popped_so (x ∷ xs) (after every_kind w Return) hs n q finished keeps h there none
popped_so (x ∷ xs) w (Noted (Counted number) ∷ hs) n q finished keeps h there none = popped_so (x ∷ xs) w hs n q finished keeps h there none
popped_so (x ∷ xs) w (Noted (Looked found) ∷ hs) n q finished keeps h there none = popped_so (x ∷ xs) (after every_kind w Look) hs n q finished keeps h there none
popped_so (x ∷ xs) w (Noted (Unposted room keys) ∷ hs) n q finished keeps h there none = popped_so (x ∷ xs) (after every_kind w (Unpost (bound room w.board))) hs n q finished keeps h there none
popped_so (x ∷ xs) w (Noted (Marked marks) ∷ hs) n q finished keeps h there none = popped_so (x ∷ xs) w hs n q finished keeps h there none

pub queued_is_popped : (born : ℕ → Born) (hs : History) → WhatWasQueuedIsPopped born hs
queued_is_popped born hs before t n p there pop =
    popped_so p.now.queue (world_behind_it every_kind (start (λ n. new_cell (born n))) hs t) pop.earlier n pop.executor pop.finished pop.same_key
    (record { executor = p; is = there; more = []; queue = sym (append-nil p.now.queue) }) pop.there pop.none
