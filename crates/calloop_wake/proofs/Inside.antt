-- What the steps of an executor's cell keep, stated for the fields of its core.
use Rattle.std.proofs.Common.{◌≡◌, ℕ, ◌+◌, ◌++◌, Bool, true, false, ◌||◌, List, [], ◌∷◌, Option, Some, None, refl, sym, ◌∙◌, ap, subst, true≢false}
use Rattle.calloop_wake.specs.declared.tasks.Phase.TheVariants.{Queued, Polling}
use Rattle.calloop_wake.specs.declared.tasks.Task.{Task}
use Rattle.calloop_wake.specs.declared.tasks.TaskKey.{TaskKey}
use Rattle.calloop_wake.specs.declared.executor.Progress.{Progress}
use Rattle.calloop_wake.specs.Tasks.{TaskTable, task_at, phase_at, after_step, is_idle, is_woken, in_poll, woken_phase, phase_after_pending, slot_if}
use Rattle.calloop_wake.specs.Cells.{Cell}
use Rattle.calloop_wake.specs.Executors.{with_slot, inside_cell, IsKeepingTasks, ExecutorCell, AreQueued, ArePolled, AreNumbered, in_its_poll, key_in}
use Rattle.calloop_wake.proofs.ExecutorSteps.{wake-keeps, put-keeps, ends_poll-at, take-none, take-some}

-- the same for what a bell stores of it, whatever its key and its senders are
pub of-bell : (o : Option TaskTable) (next results : ℕ) (pinged draining : Bool) (progress : Progress) (k : Option ℕ) (senders : ℕ) (bell : Cell)
    → bell.pinged ≡ pinged → bell.draining ≡ draining → IsKeepingTasks (inside_cell o next results pinged draining progress k senders)
    → IsKeepingTasks (inside_cell o next results bell.pinged bell.draining progress bell.key bell.senders)
of-bell o next results pinged draining progress k senders bell p d h =
    let kept =
    subst (λ (x : Bool). IsKeepingTasks (inside_cell o next results x bell.draining progress k senders)) (sym p)
    (subst (λ (x : Bool). IsKeepingTasks (inside_cell o next results pinged x progress k senders)) (sym d) h) in
    record {
      sorted = record { queued = kept.sorted.queued; polled = kept.sorted.polled; numbered = kept.sorted.numbered };
      lit = kept.lit;
      running = kept.running;
    }

module _ (o : Option TaskTable) (old new : TaskTable) (next results : ℕ) (pinged draining : Bool) (progress : Progress) (k : Option ℕ) (senders : ℕ) (is : o ≡ Some old)
    (h : IsKeepingTasks (inside_cell o next results pinged draining progress k senders)) where
  there : IsKeepingTasks (inside_cell (Some old) next results pinged draining progress k senders)
  there = subst (λ (t : Option TaskTable). IsKeepingTasks (inside_cell t next results pinged draining progress k senders)) is h

  cell : (tasks : ℕ → Option Task) (queue : List ℕ) (next results : ℕ) (pinged : Bool) (progress : Progress) → ExecutorCell
  cell tasks queue next results pinged progress =
      record { tasks = tasks; queue = queue; next = next; results = results; pinged = pinged; draining = draining; gone = false; progress = progress; key = k; senders = senders }

  -- the fields of the new core are those of the cell after the step
  fields : (tasks : ℕ → Option Task) (queue : List ℕ) (next results : ℕ) (pinged : Bool) (progress : Progress)
      → task_at new ≡ tasks → new.queue ≡ queue
      → IsKeepingTasks (record { tasks = tasks; queue = queue; next = next; results = results; pinged = pinged; draining = draining; gone = false; progress = progress; key = k; senders = senders })
      → IsKeepingTasks (inside_cell (Some new) next results pinged draining progress k senders)
  fields tasks queue next results pinged progress t q kept =
      subst (λ (x : ℕ → Option Task). IsKeepingTasks (record { tasks = x; queue = new.queue; next = next; results = results; pinged = pinged; draining = draining; gone = false; progress = progress; key = k; senders = senders })) (sym t)
      (subst (λ (x : List ℕ). IsKeepingTasks (record { tasks = tasks; queue = x; next = next; results = results; pinged = pinged; draining = draining; gone = false; progress = progress; key = k; senders = senders })) (sym q) kept)

  pub inside-wake : (key : TaskKey) (b after : Bool) → after ≡ (b || pinged) → b ≡ is_idle (phase_at key (task_at old))
      → task_at new ≡ with_slot key.slot (after_step woken_phase key.number (task_at old key.slot)) (task_at old)
      → new.queue ≡ old.queue ++ slot_if b key.slot
      → IsKeepingTasks (inside_cell (Some new) next results after draining progress k senders)
  inside-wake key b after p e t q =
      subst (λ (x : Bool). IsKeepingTasks (inside_cell (Some new) next results x draining progress k senders)) (sym p)
      (subst (λ (x : Bool). IsKeepingTasks (inside_cell (Some new) next results (x || pinged) draining progress k senders)) (sym e)
      (fields _ _ next results (is_idle (phase_at key (task_at old)) || pinged) progress t (q ∙ ap (λ (x : Bool). old.queue ++ slot_if x key.slot) e)
      (wake-keeps key (inside_cell (Some old) next results pinged draining progress k senders) there)))

  pub inside-put : (slot home after : ℕ) → after ≡ next + 1 → task_at old slot ≡ None
      → task_at new ≡ with_slot slot (Some (record { number = next; phase = Queued; home = home })) (task_at old)
      → new.queue ≡ old.queue ++ slot ∷ []
      → IsKeepingTasks (inside_cell (Some new) after results true draining progress k senders)
  inside-put slot home after more free t q =
      subst (λ (n : ℕ). IsKeepingTasks (inside_cell (Some new) n results true draining progress k senders)) (sym more)
      (fields _ _ (next + 1) results true progress t q
      (put-keeps slot home (inside_cell (Some old) next results pinged draining progress k senders) free there))

  pub inside-finish : (key : TaskKey) (after : ℕ) → after ≡ results + 1 → progress.polled ≡ Some key
      → task_at new ≡ with_slot key.slot None (task_at old) → new.queue ≡ old.queue
      → IsKeepingTasks (inside_cell (Some new) next after pinged draining (record progress { polled = None }) k senders)
  inside-finish key after more polled t q =
      subst (λ (n : ℕ). IsKeepingTasks (inside_cell (Some new) next n pinged draining (record progress { polled = None }) k senders)) (sym more)
      (fields _ _ next (results + 1) pinged (record progress { polled = None }) t q
      (ends_poll-at (Some key) true (inside_cell (Some old) next results pinged draining progress k senders) polled there).keeps)

  pub inside-pend : (key : TaskKey) → progress.polled ≡ Some key
      → task_at new ≡ with_slot key.slot (after_step phase_after_pending key.number (task_at old key.slot)) (task_at old)
      → new.queue ≡ old.queue ++ slot_if (is_woken (phase_at key (task_at old))) key.slot
      → IsKeepingTasks (inside_cell (Some new) next results pinged draining (record progress { polled = None }) k senders)
  inside-pend key polled t q =
      fields _ _ next results pinged (record progress { polled = None }) t q
      (ends_poll-at (Some key) false (inside_cell (Some old) next results pinged draining progress k senders) polled there).keeps

  pub polled-there : (key : TaskKey) → progress.polled ≡ Some key → in_poll (phase_at key (task_at old)) ≡ true
  polled-there key polled = (there.running key polled).2

pub gone-polled : (o : Option TaskTable) (next results : ℕ) (pinged draining : Bool) (progress : Progress) (k : Option ℕ) (senders : ℕ) (key : TaskKey)
    → o ≡ None → progress.polled ≡ Some key → IsKeepingTasks (inside_cell o next results pinged draining progress k senders) → ⊥
gone-polled o next results pinged draining progress k senders key none polled h =
    let there = subst (λ (t : Option TaskTable). IsKeepingTasks (inside_cell t next results pinged draining progress k senders)) none h in
    true≢false (sym (there.running key polled).2)

pub inside-gone : (o : Option TaskTable) (next results pops : ℕ) (pinged draining : Bool) (progress : Progress) (k : Option ℕ) (senders : ℕ)
    → o ≡ None → progress.polled ≡ None → IsKeepingTasks (inside_cell o next results pinged draining progress k senders)
    → IsKeepingTasks (inside_cell o next results pinged draining (record { pops = pops; dry = true; polled = None }) k senders)
inside-gone o next results pops pinged draining progress k senders none ended h =
    let there = subst (λ (t : Option TaskTable). IsKeepingTasks (inside_cell t next results pinged draining progress k senders)) none h in
    subst (λ (t : Option TaskTable). IsKeepingTasks (inside_cell t next results pinged draining (record { pops = pops; dry = true; polled = None }) k senders)) (sym none)
    (let kept = take-none (inside_cell None next results pinged draining progress k senders) refl ended there in
    record {
      sorted = record { queued = kept.sorted.queued; polled = kept.sorted.polled; numbered = kept.sorted.numbered };
      lit = λ e. absurd (true≢false e);
      running = λ other e. kept.running other e;
    })

pub inside-take : (o : Option TaskTable) (old new : TaskTable) (next results pops : ℕ) (pinged draining : Bool) (progress : Progress) (k : Option ℕ) (senders : ℕ) (key : TaskKey) (home : ℕ)
    → o ≡ Some old → draining ≡ true → progress.polled ≡ None
    → old.queue ≡ key.slot ∷ new.queue
    → task_at old key.slot ≡ Some (record { number = key.number; home = home; phase = Queued })
    → task_at new ≡ with_slot key.slot (Some (record { number = key.number; home = home; phase = Polling })) (task_at old)
    → IsKeepingTasks (inside_cell o next results pinged draining progress k senders)
    → IsKeepingTasks (inside_cell (Some new) next results pinged draining (record { pops = pops; dry = false; polled = Some key }) k senders)
inside-take o old new next results pops pinged draining progress k senders key home is opened ended first at t h =
    let there = subst (λ (x : Option TaskTable). IsKeepingTasks (inside_cell x next results pinged draining progress k senders)) is h in
    let task : Task = record { number = key.number; home = home; phase = Queued } in
    let kept = take-some key.slot new.queue (inside_cell (Some old) next results pinged draining progress k senders) task first at ended opened there in
    let now : in_its_poll (task_at old key.slot) ≡ Some (record { number = key.number; home = home; phase = Polling }) = ap in_its_poll at in
    let named : key_in key.slot (task_at old key.slot) ≡ Some key = ap (key_in key.slot) at in
    let made : task_at new ≡ with_slot key.slot (in_its_poll (task_at old key.slot)) (task_at old) = t ∙ ap (λ (x : Option Task). with_slot key.slot x (task_at old)) (sym now) in
    record {
      sorted = record {
        queued = subst (λ (x : ℕ → Option Task). AreQueued x new.queue) (sym made) kept.sorted.queued;
        polled = subst (λ (x : ℕ → Option Task). ArePolled x (Some key)) (sym made) (subst (ArePolled (with_slot key.slot (in_its_poll (task_at old key.slot)) (task_at old))) named kept.sorted.polled);
        numbered = subst (λ (x : ℕ → Option Task). AreNumbered x next) (sym made) kept.sorted.numbered;
      };
      lit = kept.lit;
      running = λ other e. let r = kept.running other (named ∙ e) in (r.0, r.1, subst (λ (x : ℕ → Option Task). in_poll (phase_at other x) ≡ true) (sym made) r.2);
    }
