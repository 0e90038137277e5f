-- What the steps of an executor's cell keep.
use Rattle.std.proofs.Common.{◌≡◌, ◌≢◌, ℕ, ◌++◌, Bool, true, false, ◌&&◌, ◌||◌, not, if◌then◌else◌, inl, inr, List, [], ◌∷◌, Option, Some, None, refl, sym, ◌∙◌, ap, subst, true≢false, append-nil}
use Rattle.std.proofs.lemmas.Bool.Decides.{eqb_tells}
use Rattle.std.proofs.lemmas.Option.{none-some, same_Some}
use mathlib.Core.Path.{fun_ext}
use Rattle.futures.specs.LinkedLists.{IsIn}
use Rattle.calloop_wake.specs.declared.tasks.Phase.{Phase}
use Rattle.calloop_wake.specs.declared.tasks.Phase.TheVariants.{Idle, Queued, Polling, Woken}
use Rattle.calloop_wake.specs.declared.tasks.Task.{Task}
use Rattle.calloop_wake.specs.declared.tasks.TaskKey.{TaskKey}
use Rattle.calloop_wake.specs.Cells.{is_own}
use Rattle.calloop_wake.specs.Tasks.{phase_if, phase_at, after_step, is_idle, is_woken, is_awake, in_poll, woken_phase, phase_after_pending, slot_if}
use Rattle.calloop_wake.specs.Executors.{ExecutorCell, IsAwake, fresh_executor, with_slot, after_put, after_wake, after_poll, after_poll_of, taken_of, after_pop, after_end, after_end_turn, opens, in_turn, after_clear_key, is_empty, AreQueued, ArePolled, AreSorted, IsKeepingTasks, IsStandingExecutor, in_its_poll, key_in}
use Rattle.calloop_wake.proofs.Sorted.{with_slot_cases, numbered-kept, numbered-gone, numbered-new, queued-add, queued-keep, queued-take, polled-keep, polled-mark, polled-pend, polled-take}

-- writing the present value changes nothing
with_slot-same : (slot : ℕ) (o : Option Task) (tasks : ℕ → Option Task) → o ≡ tasks slot → with_slot slot o tasks ≡ tasks
with_slot-same slot o tasks e = fun_ext (λ other.
    with_slot_cases (λ x. x ≡ tasks other) slot other o tasks (λ here. e ∙ sym (ap tasks here)) (λ there. refl))

-- a key that names a task, as used below: which task it names, or that a step on it changes nothing
pub data Found (key : TaskKey) (tasks : ℕ → Option Task) : Type 0 where
  Nobody : phase_at key tasks ≡ None → ((f : Phase → Phase) → after_step f key.number (tasks key.slot) ≡ tasks key.slot) → Found key tasks
  Somebody : (task : Task) → tasks key.slot ≡ Some task → task.number ≡ key.number → phase_at key tasks ≡ Some task.phase
      → ((f : Phase → Phase) → after_step f key.number (tasks key.slot) ≡ Some (record task { phase = f task.phase })) → Found key tasks

pub found : (key : TaskKey) (tasks : ℕ → Option Task) → Found key tasks
found key tasks =
    elim (tasks key.slot) as (λ o. tasks key.slot ≡ o → Found key tasks) [
      | None ↦ λ e. Nobody (ap (phase_if key.number) e) (λ f. ap (after_step f key.number) e ∙ sym e)
      | Some task ↦ λ e.
          elim (eqb_tells task.number key.number) [
            | inl h ↦ Somebody task e h.1
                (ap (phase_if key.number) e ∙ ap (λ (b : Bool). if b then Some task.phase else None) h.0)
                (λ f. ap (after_step f key.number) e ∙ ap (λ (b : Bool). if b then Some (record task { phase = f task.phase }) else Some task) h.0)
            | inr h ↦ Nobody
                (ap (phase_if key.number) e ∙ ap (λ (b : Bool). if b then Some task.phase else None) h.0)
                (λ f. ap (after_step f key.number) e ∙ ap (λ (b : Bool). if b then Some (record task { phase = f task.phase }) else Some task) h.0 ∙ sym e)
          ]
    ] refl

-- Tests.

or-last : (a : Bool) → (a || true) ≡ true
or-last true = refl
or-last false = refl

drains : (a b c : Bool) → (a || (b && not c)) ≡ true → (a || b) ≡ true
drains true b c h = refl
drains false true c h = refl
drains false false c h = h

ends : (a b c : Bool) → (a || (b && not c)) ≡ true → ((a || not c) || (false && true)) ≡ true
ends true b c h = refl
ends false true true h = h
ends false true false h = refl
ends false false c h = absurd (cc)

woken-in : (p : Phase) → is_woken (Some p) ≡ true → in_poll (Some p) ≡ true
woken-in Idle h = h
woken-in Queued h = h
woken-in Polling h = absurd (cc)
woken-in Woken h = refl

-- the task of this number is in a poll
in_poll-of : (n : ℕ) (task : Task) → task.number ≡ n → in_poll (Some task.phase) ≡ true → in_poll (phase_if n (Some task)) ≡ true
in_poll-of n task e h =
    elim (eqb_tells task.number n) [
      | inl t ↦ ap (λ (b : Bool). in_poll (if b then Some task.phase else None)) t.0 ∙ h
      | inr f ↦ absurd (f.1 e)
    ]

in_poll-is : (n : ℕ) (task : Task) → in_poll (phase_if n (Some task)) ≡ true → (task.number ≡ n) × (in_poll (Some task.phase) ≡ true)
in_poll-is n task h =
    elim (eqb_tells task.number n) [
      | inl t ↦ (t.1, sym (ap (λ (b : Bool). in_poll (if b then Some task.phase else None)) t.0) ∙ h)
      | inr f ↦ absurd (true≢false (sym h ∙ ap (λ (b : Bool). in_poll (if b then Some task.phase else None)) f.0))
    ]

-- a polled task stays polled, if the written slot still has it in a poll
in_poll-kept : (key : TaskKey) (slot : ℕ) (o : Option Task) (tasks : ℕ → Option Task)
    → (in_poll (phase_if key.number (tasks slot)) ≡ true → in_poll (phase_if key.number o) ≡ true)
    → in_poll (phase_at key tasks) ≡ true → in_poll (phase_at key (with_slot slot o tasks)) ≡ true
in_poll-kept key slot o tasks keeps was =
    with_slot_cases (λ x. in_poll (phase_if key.number x) ≡ true) slot key.slot o tasks
    (λ here. keeps (subst (λ s. in_poll (phase_if key.number (tasks s)) ≡ true) here was))
    (λ there. was)

-- Steps.

resorted : (c d : ExecutorCell) → d.tasks ≡ c.tasks → d.queue ≡ c.queue → d.next ≡ c.next → d.progress.polled ≡ c.progress.polled → AreSorted c → AreSorted d
resorted c d t q n p s =
    record {
      queued = rw (t, q) s.queued;
      polled = rw (t, p) s.polled;
      numbered = rw (t, n) s.numbered;
    }

-- a wake that changes no task
wake-same : (key : TaskKey) (c : ExecutorCell) → after_step woken_phase key.number (c.tasks key.slot) ≡ c.tasks key.slot
    → is_idle (phase_at key c.tasks) ≡ false → IsKeepingTasks c → IsKeepingTasks (after_wake key c)
wake-same key c same quiet k =
    let tasks : with_slot key.slot (after_step woken_phase key.number (c.tasks key.slot)) c.tasks ≡ c.tasks = with_slot-same key.slot _ c.tasks same in
    let queue : c.queue ++ slot_if (is_idle (phase_at key c.tasks)) key.slot ≡ c.queue = ap (λ (b : Bool). c.queue ++ slot_if b key.slot) quiet ∙ append-nil c.queue in
    let pinged : (is_idle (phase_at key c.tasks) || c.pinged) ≡ c.pinged = ap (λ (b : Bool). b || c.pinged) quiet in
    record {
      sorted = resorted c (after_wake key c) tasks queue refl refl k.sorted;
      lit = rw (queue, pinged) k.lit;
      running = λ other p. let r = k.running other p in (r.0, r.1, subst (λ (t : ℕ → Option Task). in_poll (phase_at other t) ≡ true) (sym tasks) r.2);
    }

-- the same, seen of the whole cell
wake-nothing : (key : TaskKey) (c : ExecutorCell) → after_step woken_phase key.number (c.tasks key.slot) ≡ c.tasks key.slot
    → is_idle (phase_at key c.tasks) ≡ false → after_wake key c ≡ c
wake-nothing key c same quiet =
    let tasks : with_slot key.slot (after_step woken_phase key.number (c.tasks key.slot)) c.tasks ≡ c.tasks = with_slot-same key.slot _ c.tasks same in
    let queue : c.queue ++ slot_if (is_idle (phase_at key c.tasks)) key.slot ≡ c.queue = ap (λ (b : Bool). c.queue ++ slot_if b key.slot) quiet ∙ append-nil c.queue in
    let pinged : (is_idle (phase_at key c.tasks) || c.pinged) ≡ c.pinged = ap (λ (b : Bool). b || c.pinged) quiet in
    ap (λ (t : ℕ → Option Task). record c { tasks = t; queue = c.queue ++ slot_if (is_idle (phase_at key c.tasks)) key.slot; pinged = is_idle (phase_at key c.tasks) || c.pinged }) tasks
    ∙ ap (λ (q : List ℕ). record c { queue = q; pinged = is_idle (phase_at key c.tasks) || c.pinged }) queue
    ∙ ap (λ (p : Bool). record c { pinged = p }) pinged

awake-stays : (p : Phase) → is_awake (Some p) ≡ true → (woken_phase p ≡ p) × (is_idle (Some p) ≡ false)
awake-stays Idle h = absurd (true≢false (sym h))
awake-stays Queued h = (refl, refl)
awake-stays Polling h = absurd (true≢false (sym h))
awake-stays Woken h = (refl, refl)

-- a wake of a task that will be polled changes nothing, whatever slot its key names: no other task has its number
pub awake : (key : TaskKey) (c : ExecutorCell) → IsKeepingTasks c → is_awake (phase_at key c.tasks) ≡ true → IsAwake key.number c
awake key c k due slot = let other : TaskKey = record { slot = slot; number = key.number } in
    elim (found key c.tasks) [
      | Nobody none same ↦ absurd (true≢false (sym due ∙ ap is_awake none))
      | Somebody task is number at step ↦
          elim (found other c.tasks) [
            | Nobody none same ↦ wake-nothing other c (same woken_phase) (ap is_idle none)
            | Somebody that there its phase steps ↦
                let here : slot ≡ key.slot = k.sorted.numbered.apart slot key.slot that task there is (its ∙ sym number) in
                let one : that ≡ task = same_Some that task (sym there ∙ ap c.tasks here ∙ is) in
                let stays = awake-stays task.phase (sym (ap is_awake at) ∙ due) in
                wake-nothing other c
                (steps woken_phase ∙ subst (λ (t : Task). ◌≡◌ {A = Option Task} (Some (record t { phase = woken_phase t.phase })) (Some t)) (sym one)
                (ap (λ (p : Phase). Some (record task { phase = p })) stays.0) ∙ sym there)
                (ap is_idle (phase ∙ ap (λ (t : Task). Some t.phase) one) ∙ stays.1)
          ]
    ]

wake-idle : (key : TaskKey) (c : ExecutorCell) (task : Task) → c.tasks key.slot ≡ Some task → task.phase ≡ Idle
    → after_step woken_phase key.number (c.tasks key.slot) ≡ Some (record task { phase = woken_phase task.phase })
    → is_idle (phase_at key c.tasks) ≡ true → IsKeepingTasks c → IsKeepingTasks (after_wake key c)
wake-idle key c task is idle step due k =
    let that : Task = record task { phase = woken_phase task.phase } in
    let queued : that.phase ≡ Queued = ap woken_phase idle in
    let out : (t : Task) → c.tasks key.slot ≡ Some t → t.phase ≢ Queued = λ t e p. absurd (cc) in
    let quiet : (t : Task) → ◌≡◌ {A = Option Task} (Some that) (Some t) → in_poll (Some t.phase) ≢ true = λ t e p. absurd (cc) in
    record {
      sorted = record {
        queued = rw (step, due) (queued-add c.tasks c.queue key.slot that out queued k.sorted.queued);
        polled = rw step (polled-keep c.tasks c.progress.polled key.slot (Some that) quiet k.sorted.polled);
        numbered = rw step (numbered-kept c.tasks c.next key.slot task that is refl k.sorted.numbered);
      };
      lit = λ h. rw due refl;
      running = λ other p. let r = k.running other p in (
        r.0,
        r.1,
        rw step (in_poll-kept other key.slot (Some that) c.tasks
            (λ was. let w = in_poll-is other.number task (subst (λ o. in_poll (phase_if other.number o) ≡ true) is was) in absurd (cc)) r.2),
      );
    }

wake-polled : (key : TaskKey) (c : ExecutorCell) (task : Task) → c.tasks key.slot ≡ Some task → task.phase ≡ Polling
    → after_step woken_phase key.number (c.tasks key.slot) ≡ Some (record task { phase = woken_phase task.phase })
    → is_idle (phase_at key c.tasks) ≡ false → IsKeepingTasks c → IsKeepingTasks (after_wake key c)
wake-polled key c task is polled step quiet k =
    let that : Task = record task { phase = woken_phase task.phase } in
    let woken : that.phase ≡ Woken = ap woken_phase polled in
    let running : in_poll (Some task.phase) ≡ true = ap (λ (p : Phase). in_poll (Some p)) polled in
    let runs : in_poll (Some that.phase) ≡ true = ap (λ (p : Phase). in_poll (Some p)) woken in
    let out : (t : Task) → c.tasks key.slot ≡ Some t → t.phase ≢ Queued = λ t e p. absurd (cc) in
    let still : (t : Task) → ◌≡◌ {A = Option Task} (Some that) (Some t) → t.phase ≢ Queued = λ t e p. absurd (cc) in
    let queue : c.queue ++ slot_if (is_idle (phase_at key c.tasks)) key.slot ≡ c.queue = ap (λ (b : Bool). c.queue ++ slot_if b key.slot) quiet ∙ append-nil c.queue in
    let pinged : (is_idle (phase_at key c.tasks) || c.pinged) ≡ c.pinged = ap (λ (b : Bool). b || c.pinged) quiet in
    record {
      sorted = record {
        queued = rw (step, queue) (queued-keep c.tasks c.queue key.slot (Some that) out still k.sorted.queued);
        polled = rw step (polled-mark c.tasks c.progress.polled key.slot task that is running refl k.sorted.polled);
        numbered = rw step (numbered-kept c.tasks c.next key.slot task that is refl k.sorted.numbered);
      };
      lit = rw (queue, pinged) k.lit;
      running = λ other p. let r = k.running other p in (
        r.0,
        r.1,
        rw step (in_poll-kept other key.slot (Some that) c.tasks
            (λ was. let w = in_poll-is other.number task (subst (λ o. in_poll (phase_if other.number o) ≡ true) is was) in in_poll-of other.number that w.0 runs) r.2),
      );
    }

pub wake-keeps : (key : TaskKey) (c : ExecutorCell) → IsKeepingTasks c → IsKeepingTasks (after_wake key c)
wake-keeps key c k =
    elim (found key c.tasks) [
      | Nobody none same ↦ wake-same key c (same woken_phase) (ap is_idle none) k
      | Somebody task is number phase step ↦
          elim task.phase as (λ p. task.phase ≡ p → IsKeepingTasks (after_wake key c)) [
            | Idle ↦ λ e. wake-idle key c task is e (step woken_phase) (ap is_idle phase ∙ ap (λ (p : Phase). is_idle (Some p)) e) k
            | Queued ↦ λ e. wake-same key c (step woken_phase ∙ ap (λ (p : Phase). Some (record task { phase = woken_phase p })) e ∙ ap (λ (p : Phase). Some (record task { phase = p })) (sym e) ∙ sym is) (ap is_idle phase ∙ ap (λ (p : Phase). is_idle (Some p)) e) k
            | Polling ↦ λ e. wake-polled key c task is e (step woken_phase) (ap is_idle phase ∙ ap (λ (p : Phase). is_idle (Some p)) e) k
            | Woken ↦ λ e. wake-same key c (step woken_phase ∙ ap (λ (p : Phase). Some (record task { phase = woken_phase p })) e ∙ ap (λ (p : Phase). Some (record task { phase = p })) (sym e) ∙ sym is) (ap is_idle phase ∙ ap (λ (p : Phase). is_idle (Some p)) e) k
          ] refl
    ]

-- the phase of the task that a turn has popped
pub data InPoll (key : TaskKey) (tasks : ℕ → Option Task) : Type 0 where
  IsPolled : (task : Task) → tasks key.slot ≡ Some task → task.number ≡ key.number → task.phase ≡ Polling → phase_at key tasks ≡ Some Polling
      → after_step phase_after_pending key.number (tasks key.slot) ≡ Some (record task { phase = phase_after_pending task.phase }) → InPoll key tasks
  WasWoken : (task : Task) → tasks key.slot ≡ Some task → task.number ≡ key.number → task.phase ≡ Woken → phase_at key tasks ≡ Some Woken
      → after_step phase_after_pending key.number (tasks key.slot) ≡ Some (record task { phase = phase_after_pending task.phase }) → InPoll key tasks

pub in_poll-cases : (key : TaskKey) (tasks : ℕ → Option Task) → in_poll (phase_at key tasks) ≡ true → InPoll key tasks
in_poll-cases key tasks h =
    elim (found key tasks) [
      | Nobody none same ↦ absurd (true≢false (sym h ∙ ap in_poll none))
      | Somebody task is number phase step ↦
          elim task.phase as (λ p. task.phase ≡ p → InPoll key tasks) [
            | Idle ↦ λ e. absurd (true≢false (sym h ∙ ap in_poll phase ∙ ap (λ (p : Phase). in_poll (Some p)) e))
            | Queued ↦ λ e. absurd (true≢false (sym h ∙ ap in_poll phase ∙ ap (λ (p : Phase). in_poll (Some p)) e))
            | Polling ↦ λ e. IsPolled task is number e (phase ∙ ap Some e) (step phase_after_pending)
            | Woken ↦ λ e. WasWoken task is number e (phase ∙ ap Some e) (step phase_after_pending)
          ] refl
    ]

-- what the end of a poll leaves, besides what the cell keeps
pub record EndsPoll (c d : ExecutorCell) : Type 0 where
  pub keeps : IsKeepingTasks d
  pub polled : d.progress.polled ≡ None
  pub draining : d.draining ≡ c.draining
  pub dry : d.progress.dry ≡ c.progress.dry

not-polled : {A : Type 0} (key : TaskKey) → ◌≡◌ {A = Option TaskKey} None (Some key) → A
not-polled key e = absurd (none-some key e)

finish-ends_poll : (key : TaskKey) (c : ExecutorCell) → c.progress.polled ≡ Some key → IsKeepingTasks c → EndsPoll c (after_poll_of (Some key) true c)
finish-ends_poll key c is k =
    let polled : ArePolled c.tasks (Some key) = subst (ArePolled c.tasks) is k.sorted.polled in
    let gone : (t : Task) → ◌≡◌ {A = Option Task} None (Some t) → t.phase ≢ Queued = λ t e p. absurd (none-some t e) in
    let out : (t : Task) → c.tasks key.slot ≡ Some t → t.phase ≢ Queued =
    elim (in_poll-cases key c.tasks (k.running key is).2) [
      | IsPolled task at number phase rest step ↦ λ t e p. absurd (cc)
      | WasWoken task at number phase rest step ↦ λ t e p. absurd (cc)
    ] in
    record {
      keeps = record {
        sorted = record {
          queued = queued-keep c.tasks c.queue key.slot None out gone k.sorted.queued;
          polled = polled-pend c.tasks key None (λ t e i. absurd (none-some t e)) polled;
          numbered = numbered-gone c.tasks c.next key.slot k.sorted.numbered;
        };
        lit = k.lit;
        running = λ other e. not-polled other e;
      };
      polled = refl;
      draining = refl;
      dry = refl;
    }

pend-idle : (key : TaskKey) (c : ExecutorCell) (task : Task) → c.progress.polled ≡ Some key → c.tasks key.slot ≡ Some task → task.phase ≡ Polling
    → is_woken (phase_at key c.tasks) ≡ false
    → after_step phase_after_pending key.number (c.tasks key.slot) ≡ Some (record task { phase = phase_after_pending task.phase })
    → IsKeepingTasks c → IsKeepingTasks (after_poll_of (Some key) false c)
pend-idle key c task is at phase quiet step k =
    let polled : ArePolled c.tasks (Some key) = subst (ArePolled c.tasks) is k.sorted.polled in
    let that : Task = record task { phase = phase_after_pending task.phase } in
    let idle : that.phase ≡ Idle = ap phase_after_pending phase in
    let out : (t : Task) → c.tasks key.slot ≡ Some t → t.phase ≢ Queued = λ t e p. absurd (cc) in
    let still : (t : Task) → ◌≡◌ {A = Option Task} (Some that) (Some t) → t.phase ≢ Queued = λ t e p. absurd (cc) in
    let rests : (t : Task) → ◌≡◌ {A = Option Task} (Some that) (Some t) → in_poll (Some t.phase) ≢ true = λ t e p. absurd (cc) in
    let queue : c.queue ++ slot_if (is_woken (phase_at key c.tasks)) key.slot ≡ c.queue = ap (λ (b : Bool). c.queue ++ slot_if b key.slot) quiet ∙ append-nil c.queue in
    record {
      sorted = record {
        queued = rw (step, queue) (queued-keep c.tasks c.queue key.slot (Some that) out still k.sorted.queued);
        polled = rw step (polled-pend c.tasks key (Some that) rests polled);
        numbered = rw step (numbered-kept c.tasks c.next key.slot task that at refl k.sorted.numbered);
      };
      lit = rw queue k.lit;
      running = λ other e. not-polled other e;
    }

pend-queued : (key : TaskKey) (c : ExecutorCell) (task : Task) → c.progress.polled ≡ Some key → c.tasks key.slot ≡ Some task → task.phase ≡ Woken
    → is_woken (phase_at key c.tasks) ≡ true
    → after_step phase_after_pending key.number (c.tasks key.slot) ≡ Some (record task { phase = phase_after_pending task.phase })
    → IsKeepingTasks c → IsKeepingTasks (after_poll_of (Some key) false c)
pend-queued key c task is at phase due step k =
    let polled : ArePolled c.tasks (Some key) = subst (ArePolled c.tasks) is k.sorted.polled in
    let that : Task = record task { phase = phase_after_pending task.phase } in
    let queued : that.phase ≡ Queued = ap phase_after_pending phase in
    let out : (t : Task) → c.tasks key.slot ≡ Some t → t.phase ≢ Queued = λ t e p. absurd (cc) in
    let rests : (t : Task) → ◌≡◌ {A = Option Task} (Some that) (Some t) → in_poll (Some t.phase) ≢ true = λ t e p. absurd (cc) in
    let run = k.running key is in
    record {
      sorted = record {
        queued = rw (step, due) (queued-add c.tasks c.queue key.slot that out queued k.sorted.queued);
        polled = rw step (polled-pend c.tasks key (Some that) rests polled);
        numbered = rw step (numbered-kept c.tasks c.next key.slot task that at refl k.sorted.numbered);
      };
      lit = λ h. ap (λ (b : Bool). c.pinged || (b && not c.progress.dry)) run.0 ∙ ap (λ (b : Bool). c.pinged || (true && not b)) run.1 ∙ or-last c.pinged;
      running = λ other e. not-polled other e;
    }

pend-ends_poll : (key : TaskKey) (c : ExecutorCell) → c.progress.polled ≡ Some key → IsKeepingTasks c → EndsPoll c (after_poll_of (Some key) false c)
pend-ends_poll key c is k =
    record {
      keeps = elim (in_poll-cases key c.tasks (k.running key is).2) [
        | IsPolled task at number phase rest step ↦ pend-idle key c task is at phase (ap is_woken rest) step k
        | WasWoken task at number phase rest step ↦ pend-queued key c task is at phase (ap is_woken rest) step k
      ];
      polled = refl;
      draining = refl;
      dry = refl;
    }

pub ends_poll-at : (o : Option TaskKey) (finished : Bool) (c : ExecutorCell) → c.progress.polled ≡ o → IsKeepingTasks c → EndsPoll c (after_poll_of o finished c)
ends_poll-at None finished c is k = record { keeps = k; polled = is; draining = refl; dry = refl }
ends_poll-at (Some key) true c is k = finish-ends_poll key c is k
ends_poll-at (Some key) false c is k = pend-ends_poll key c is k

pub ends_poll : (finished : Bool) (c : ExecutorCell) → IsKeepingTasks c → EndsPoll c (after_poll finished c)
ends_poll finished c k = ends_poll-at c.progress.polled finished c refl k

-- a pop from an empty queue
pub take-none : (c : ExecutorCell) → c.queue ≡ [] → c.progress.polled ≡ None → IsKeepingTasks c → IsKeepingTasks (taken_of [] c)
take-none c empty none k =
    record {
      sorted = resorted c (taken_of [] c) refl refl refl (sym none) k.sorted;
      lit = λ h. absurd (true≢false (sym (ap is_empty empty) ∙ h));
      running = λ other e. not-polled other e;
    }

pub take-some : (slot : ℕ) (rest : List ℕ) (c : ExecutorCell) (task : Task) → c.queue ≡ slot ∷ rest → c.tasks slot ≡ Some task → c.progress.polled ≡ None
    → c.draining ≡ true → IsKeepingTasks c → IsKeepingTasks (taken_of (slot ∷ rest) c)
take-some slot rest c task first at none opened k =
    let that : Task = record task { phase = Polling } in
    let now : in_its_poll (c.tasks slot) ≡ Some that = ap in_its_poll at in
    let named : key_in slot (c.tasks slot) ≡ Some (record { slot = slot; number = task.number }) = ap (key_in slot) at in
    let queued : AreQueued c.tasks (slot ∷ rest) = subst (AreQueued c.tasks) first k.sorted.queued in
    let polled : ArePolled c.tasks None = subst (ArePolled c.tasks) none k.sorted.polled in
    let still : (t : Task) → ◌≡◌ {A = Option Task} (Some that) (Some t) → t.phase ≢ Queued = λ t e p. absurd (cc) in
    record {
      sorted = record {
        queued = rw now (queued-take c.tasks slot rest (Some that) still queued);
        polled = rw (now, named) (polled-take c.tasks slot that polled);
        numbered = rw now (numbered-kept c.tasks c.next slot task that at refl k.sorted.numbered);
      };
      lit = λ h. ap (λ (b : Bool). c.pinged || (b && true)) opened ∙ or-last c.pinged;
      running = λ other e.
          let same : record { slot = slot; number = task.number } ≡ other = same_Some _ other (sym named ∙ e) in (
            opened,
            refl,
            subst (λ (k : TaskKey). in_poll (phase_at k (with_slot slot (in_its_poll (c.tasks slot)) c.tasks)) ≡ true) same
                (rw now (with_slot_cases (λ x. in_poll (phase_if task.number x) ≡ true) slot slot (Some that) c.tasks
                (λ here. in_poll-of task.number that refl refl)
                (λ there. absurd (there refl)))),
          );
    }

take-at : (q : List ℕ) (c : ExecutorCell) → c.queue ≡ q → c.progress.polled ≡ None → c.draining ≡ true → IsKeepingTasks c → IsKeepingTasks (taken_of q c)
take-at [] c is none opened k = take-none c is none k
take-at (slot ∷ rest) c is none opened k =
    let there = k.sorted.queued.only slot (subst (IsIn slot) (sym is) (inl refl)) in
    take-some slot rest c there.0 is there.1 none opened k

pub pop-keeps : (finished : Bool) (c : ExecutorCell) → c.draining ≡ true → IsKeepingTasks c → IsKeepingTasks (after_pop finished c)
pop-keeps finished c opened k =
    let s = ends_poll finished c k in
    take-at (after_poll finished c).queue (after_poll finished c) refl s.polled (s.draining ∙ opened) s.keeps

pub end-keeps : (finished : Bool) (c : ExecutorCell) → IsKeepingTasks c → IsKeepingTasks (after_end_turn finished c)
end-keeps finished c k =
    let s = ends_poll finished c k in
    let d : ExecutorCell = after_poll finished c in
    record {
      sorted = resorted d (after_end d) refl refl refl (sym s.polled) s.keeps.sorted;
      lit = λ h. ends d.pinged d.draining d.progress.dry (s.keeps.lit h);
      running = λ other e. not-polled other e;
    }

pub put-keeps : (slot home : ℕ) (c : ExecutorCell) → c.tasks slot ≡ None → IsKeepingTasks c → IsKeepingTasks (after_put slot home c)
put-keeps slot home c free k =
    let that : Task = record { number = c.next; phase = Queued; home = home } in
    let quiet : (t : Task) → ◌≡◌ {A = Option Task} (Some that) (Some t) → in_poll (Some t.phase) ≢ true = λ t e p. absurd (cc) in
    record {
      sorted = record {
        queued = queued-add c.tasks c.queue slot that (λ t e p. absurd (none-some t (sym free ∙ e))) refl k.sorted.queued;
        polled = polled-keep c.tasks c.progress.polled slot (Some that) quiet k.sorted.polled;
        numbered = numbered-new c.tasks c.next slot that refl k.sorted.numbered;
      };
      lit = λ h. refl;
      running = λ other p. let r = k.running other p in (
        r.0,
        r.1,
        in_poll-kept other slot (Some that) c.tasks
            (λ was. absurd (true≢false (sym was ∙ ap (λ (o : Option Task). in_poll (phase_if other.number o)) free))) r.2,
      );
    }

-- steps that all kinds of cells have

pub key-keeps : (k : Option ℕ) (c : ExecutorCell) → IsKeepingTasks c → IsKeepingTasks (record c { key = k })
key-keeps k c h =
    record { sorted = resorted c (record c { key = k }) refl refl refl refl h.sorted; lit = h.lit; running = h.running }

pub unkeyed-keeps : (b : Bool) (c : ExecutorCell) → IsKeepingTasks c → IsKeepingTasks (after_clear_key b c)
unkeyed-keeps false c k = key-keeps None c k
unkeyed-keeps true c k =
    record {
      sorted = record {
        queued = record { once = tt; only = λ s i. absurd i; all = λ s t e p. absurd (none-some t e) };
        polled = λ s t e i. absurd (none-some t e);
        numbered = record { below = λ s t e. absurd (none-some t e); apart = λ s r t u e f g. absurd (none-some t e) };
      };
      lit = λ h. absurd (true≢false h);
      running = λ other e. not-polled other e;
    }

and-right : (a b : Bool) → (a && b) ≡ true → b ≡ true
and-right true b h = h
and-right false b h = absurd (cc)

idle-polled : (o : Option TaskKey) (c : ExecutorCell) → c.progress.polled ≡ o → c.draining ≡ false → IsKeepingTasks c → o ≡ None
idle-polled None c is shut k = refl
idle-polled (Some key) c is shut k = absurd (true≢false (sym (k.running key is).0 ∙ shut))

not-true : (a : Bool) → not a ≡ true → a ≡ false
not-true true h = absurd (cc)
not-true false h = refl

pub in_turn-keeps : (k : ℕ) (c : ExecutorCell) → opens k c ≡ true → IsKeepingTasks c → IsKeepingTasks (in_turn c)
in_turn-keeps n c o k =
    let shut : c.draining ≡ false = not-true c.draining (and-right (is_own n c.key) (not c.draining) o) in
    let none : c.progress.polled ≡ None = idle-polled c.progress.polled c refl shut k in
    record {
      sorted = resorted c (in_turn c) refl refl refl (sym none) k.sorted;
      lit = λ h. refl;
      running = λ other e. not-polled other e;
    }

pub keeping-stands : (c : ExecutorCell) → IsKeepingTasks c → IsStandingExecutor c
keeping-stands c k =
    record {
      queued = λ h. drains c.pinged c.draining c.progress.dry (k.lit h);
      woken = λ s t e w. let r = k.running _ (k.sorted.polled s t e (woken-in t.phase w)) in ap (λ (b : Bool). c.pinged || b) r.0 ∙ or-last c.pinged;
      sorted = k.sorted;
    }

pub fresh-keeps : IsKeepingTasks fresh_executor
fresh-keeps =
    record {
      sorted = record {
        queued = record { once = tt; only = λ s i. absurd i; all = λ s t e p. absurd (none-some t e) };
        polled = λ s t e i. absurd (none-some t e);
        numbered = record { below = λ s t e. absurd (none-some t e); apart = λ s r t u e f g. absurd (none-some t e) };
      };
      lit = λ h. absurd (true≢false h);
      running = λ other e. not-polled other e;
    }
