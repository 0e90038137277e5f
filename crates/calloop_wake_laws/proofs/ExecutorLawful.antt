-- The cells of executors are a lawful kind: each step keeps the cell's invariant, and results are of gone tasks.
use Rattle.std.proofs.Common.{◌≡◌, ℕ, ◌+◌, ◌<◌, ◌≤◌, ◌++◌, Bool, true, false, not, if◌then◌else◌, inl, inr, List, [], ◌∷◌, Option, Some, None, refl, sym, ◌∙◌, ap, subst, arith, append-nil}
use Rattle.std.proofs.lemmas.Bool.Decides.{eqb_tells}
use Rattle.std.proofs.lemmas.Option.{none-some, same_Some}
use Rattle.futures.specs.LinkedLists.{IsIn, IsApart}
use Rattle.calloop_wake.specs.declared.tasks.Phase.{Phase}
use Rattle.calloop_wake.specs.declared.tasks.Task.{Task}
use Rattle.calloop_wake.specs.declared.tasks.TaskKey.{TaskKey}
use Rattle.calloop_wake.specs.Cells.{is_own}
use Rattle.calloop_wake.specs.Tasks.{phase_at, after_step, in_poll, woken_phase, phase_after_pending}
use Rattle.calloop_wake.specs.Executors.{ExecutorCell, with_slot, after_poll, after_pop, after_poll_of, taken_of, after_clear_key, in_its_poll, AreNumbered, IsKeepingTasks}
use Rattle.calloop_wake_laws.specs.ExecutorKind.{ExecutorPast, unused_executor, ExecutorStep, Put, Wake, Pop, EndTurn, executor_needs, executor_after, given_of, given_by, past_after, IsStandingPast, executor_kind}
use Rattle.calloop_wake_laws.proofs.Schedules.{IsLawful, IsFresh}
use Rattle.calloop_wake_laws.proofs.Lawful.{own-is, and-left}
use Rattle.calloop_wake.proofs.Sorted.{with_slot_cases, IsIn-append, IsApart-last}
use Rattle.calloop_wake.proofs.ExecutorSteps.{put-keeps, wake-keeps, pop-keeps, end-keeps, key-keeps, unkeyed-keeps, in_turn-keeps, keeping-stands, fresh-keeps, in_poll-cases, IsPolled, WasWoken}

own-keeps : (s : ExecutorStep) (c : ExecutorCell) → executor_needs s c → IsKeepingTasks c → IsKeepingTasks (executor_after s c)
own-keeps (Put slot home) c need k = put-keeps slot home c need.1 k
own-keeps (Wake key) c need k = wake-keeps key c k
own-keeps (Pop finished) c need k = pop-keeps finished c need.0 k
own-keeps (EndTurn finished) c need k = end-keeps finished c k

-- tasks whose results were handed out: none twice, none that is still to come, and none that is there
pub record AreGiven (given : List ℕ) (tasks : ℕ → Option Task) (next : ℕ) : Type 0 where
  pub once : IsApart given
  pub below : (n : ℕ) → IsIn n given → n < next
  pub finished : (slot : ℕ) (task : Task) → tasks slot ≡ Some task → ¬ IsIn task.number given

-- a slot's task is unchanged, except for its phase
abbrev IsSameIn : Option Task → Option Task → Type 0
IsSameIn was now = (task : Task) → now ≡ Some task → (that : Task) × (was ≡ Some that) × (that.number ≡ task.number)

module _ (given : List ℕ) (tasks : ℕ → Option Task) (next : ℕ) (g : AreGiven given tasks next) where
  given-nothing : AreGiven (given ++ []) tasks next
  given-nothing = subst (λ (xs : List ℕ). AreGiven xs tasks next) (sym (append-nil given)) g

  given-kept : (slot : ℕ) (now : Option Task) → IsSameIn (tasks slot) now → AreGiven given (with_slot slot now tasks) next
  given-kept slot now same = record {
    once = g.once;
    below = g.below;
    finished = λ s task. with_slot_cases (λ o. o ≡ Some task → ¬ IsIn task.number given) slot s now tasks
        (λ here e i. let that = same task e in g.finished slot that.0 that.1 (subst (λ n. IsIn n given) (sym that.2) i))
        (λ there e i. g.finished s task e i);
  }

  given-put : (slot : ℕ) (that : Task) → that.number ≡ next → AreGiven given (with_slot slot (Some that) tasks) (next + 1)
  given-put slot that is = record {
    once = g.once;
    below = λ n i. let b = g.below n i in omega (arith, b);
    finished = λ s task. with_slot_cases (λ o. o ≡ Some task → ¬ IsIn task.number given) slot s (Some that) tasks
        (λ here e i. let b = g.below task.number i in let m = ap (λ (t : Task). t.number) (same_Some that task e) in absurd (omega (arith, b, m, is)))
        (λ there e i. g.finished s task e i);
  }

  given-finished : (slot : ℕ) (that : Task) → tasks slot ≡ Some that → AreNumbered tasks next
      → AreGiven (given ++ that.number ∷ []) (with_slot slot None tasks) next
  given-finished slot that is numbers = record {
    once = IsApart-last that.number given g.once (g.finished slot that is);
    below = λ n i. elim (IsIn-append n given (that.number ∷ []) i) [
      | inl was ↦ g.below n was
      | inr new ↦ elim new [
        | inl e ↦ subst (λ m. m < next) e (numbers.below slot that is)
        | inr nowhere ↦ absurd nowhere
      ]
    ];
    finished = λ s task. with_slot_cases (λ o. o ≡ Some task → ¬ IsIn task.number (given ++ that.number ∷ [])) slot s None tasks
        (λ here e i. absurd (none-some task e))
        (λ there e i. elim (IsIn-append task.number given (that.number ∷ []) i) [
          | inl was ↦ g.finished s task e was
          | inr new ↦ elim new [
            | inl same ↦ absurd (there (numbers.apart s slot task that e is (sym same)))
            | inr nowhere ↦ absurd nowhere
          ]
        ]);
  }

same-stepped : (f : Phase → Phase) (n : ℕ) (was : Option Task) → IsSameIn was (after_step f n was)
same-stepped f n None task e = absurd (none-some task e)
same-stepped f n (Some that) task e = elim (eqb_tells that.number n) [
  | inl h ↦ (that, refl, ap (λ (t : Task). t.number) (same_Some _ task (sym (ap (λ (b : Bool). if b then Some (record that { phase = f that.phase }) else Some that) h.0) ∙ e)))
  | inr h ↦ (that, refl, ap (λ (t : Task). t.number) (same_Some _ task (sym (ap (λ (b : Bool). if b then Some (record that { phase = f that.phase }) else Some that) h.0) ∙ e)))
]

same-polling : (was : Option Task) → IsSameIn was (in_its_poll was)
same-polling None task e = absurd (none-some task e)
same-polling (Some that) task e = (that, refl, ap (λ (t : Task). t.number) (same_Some _ task e))

-- the task that is polled, and its number
polled-is : (key : TaskKey) (tasks : ℕ → Option Task) → in_poll (phase_at key tasks) ≡ true → (task : Task) × (tasks key.slot ≡ Some task) × (task.number ≡ key.number)
polled-is key tasks h = elim (in_poll-cases key tasks h) [
  | IsPolled task at number phase rest step ↦ (task, at, number)
  | WasWoken task at number phase rest step ↦ (task, at, number)
]

given-after_poll : (o : Option TaskKey) (finished : Bool) (given : List ℕ) (c : ExecutorCell) → c.progress.polled ≡ o → IsKeepingTasks c → AreGiven given c.tasks c.next
    → AreGiven (given ++ given_of o finished) (after_poll_of o finished c).tasks (after_poll_of o finished c).next
given-after_poll None finished given c is k g = given-nothing given c.tasks c.next g
given-after_poll (Some key) true given c is k g =
    let that = polled-is key c.tasks (k.running key is).2 in
    subst (λ n. AreGiven (given ++ n ∷ []) (with_slot key.slot None c.tasks) c.next) that.2
    (given-finished given c.tasks c.next g key.slot that.0 that.1 k.sorted.numbered)
given-after_poll (Some key) false given c is k g =
    given-nothing given (after_poll_of (Some key) false c).tasks c.next
    (given-kept given c.tasks c.next g key.slot _ (same-stepped phase_after_pending key.number (c.tasks key.slot)))

given-taken : (q : List ℕ) (given : List ℕ) (c : ExecutorCell) → AreGiven given c.tasks c.next → AreGiven given (taken_of q c).tasks (taken_of q c).next
given-taken [] given c g = g
given-taken (slot ∷ rest) given c g = given-kept given c.tasks c.next g slot _ (same-polling (c.tasks slot))

own-given : (s : ExecutorStep) (given : List ℕ) (c : ExecutorCell) → IsKeepingTasks c → AreGiven given c.tasks c.next
    → AreGiven (given ++ given_by s c) (executor_after s c).tasks (executor_after s c).next
own-given (Put slot home) given c k g = given-nothing given _ _ (given-put given c.tasks c.next g slot _ refl)
own-given (Wake key) given c k g =
    given-nothing given _ _ (given-kept given c.tasks c.next g key.slot _ (same-stepped woken_phase key.number (c.tasks key.slot)))
own-given (Pop finished) given c k g =
    given-taken (after_poll finished c).queue _ (after_poll finished c) (given-after_poll c.progress.polled finished given c refl k g)
own-given (EndTurn finished) given c k g = given-after_poll c.progress.polled finished given c refl k g

-- what holds of an executor's cell and its past, whenever nobody is within a step
pub record IsLitPast (p : ExecutorPast) : Type 0 where
  pub keeps : IsKeepingTasks p.now
  pub given : AreGiven p.given p.now.tasks p.now.next
  -- a turn pops no more often than it may
  pub few : p.now.progress.pops ≤ 1024

pub after_poll-pops : (o : Option TaskKey) (finished : Bool) (c : ExecutorCell) → (after_poll_of o finished c).progress.pops ≡ c.progress.pops
after_poll-pops None finished c = refl
after_poll-pops (Some key) true c = refl
after_poll-pops (Some key) false c = refl

pub taken-pops : (q : List ℕ) (c : ExecutorCell) → (taken_of q c).progress.pops ≡ c.progress.pops + 1
taken-pops [] c = refl
taken-pops (slot ∷ rest) c = refl

pub pop-pops : (finished : Bool) (c : ExecutorCell) → (after_pop finished c).progress.pops ≡ c.progress.pops + 1
pop-pops finished c = taken-pops (after_poll finished c).queue (after_poll finished c) ∙ ap (λ n. n + 1) (after_poll-pops c.progress.polled finished c)

own_few : (s : ExecutorStep) (c : ExecutorCell) → executor_needs s c → c.progress.pops ≤ 1024 → (executor_after s c).progress.pops ≤ 1024
own_few (Put slot home) c need h = h
own_few (Wake key) c need h = h
own_few (Pop finished) c need h = (let e = pop-pops finished c in let lt : c.progress.pops < 1024 = need.2 in omega (arith, e, lt))
own_few (EndTurn finished) c need h = omega arith

own_lit : (s : ExecutorStep) (p : ExecutorPast) → executor_needs s p.now → IsLitPast p → IsLitPast (past_after s p)
own_lit s p need l = record { keeps = own-keeps s p.now need l.keeps; given = own-given s p.given p.now l.keeps l.given; few = own_few s p.now need l.few }

unkeyed_lit : (by_drop : Bool) (p : ExecutorPast) → IsLitPast p → IsLitPast (executor_kind.unkeyed by_drop p)
unkeyed_lit false p l = record { keeps = unkeyed-keeps false p.now l.keeps; given = l.given; few = l.few }
unkeyed_lit true p l = record {
  keeps = unkeyed-keeps true p.now l.keeps;
  given = record { once = l.given.once; below = l.given.below; finished = λ slot task e i. none-some task e };
  few = l.few;
}

after_poll-key : (o : Option TaskKey) (finished : Bool) (c : ExecutorCell) → (after_poll_of o finished c).key ≡ c.key
after_poll-key None finished c = refl
after_poll-key (Some key) true c = refl
after_poll-key (Some key) false c = refl

taken-key : (q : List ℕ) (c : ExecutorCell) → (taken_of q c).key ≡ c.key
taken-key [] c = refl
taken-key (slot ∷ rest) c = refl

own-key : (s : ExecutorStep) (c : ExecutorCell) → (executor_after s c).key ≡ c.key
own-key (Put slot home) c = refl
own-key (Wake key) c = refl
own-key (Pop finished) c = taken-key _ (after_poll finished c) ∙ after_poll-key c.progress.polled finished c
own-key (EndTurn finished) c = after_poll-key c.progress.polled finished c

unkeyed-key : (by_drop : Bool) (c : ExecutorCell) → (after_clear_key by_drop c).key ≡ None
unkeyed-key true c = refl
unkeyed-key false c = refl

standing-lit : (p : ExecutorPast) → IsLitPast p → IsStandingPast p
standing-lit p l = record { standing = keeping-stands p.now l.keeps; once = l.given.once; finished = l.given.finished }

pub executor_lawful : IsLawful executor_kind
executor_lawful = record {
  IsLit = IsLitPast;
  own_key = λ s p. own-key s p.now;
  own_lit = own_lit;
  keyed_key = λ k p. refl;
  keyed_pinged = λ k p. refl;
  keyed_lit = λ k p l. record { keeps = key-keeps (Some k) p.now l.keeps; given = l.given; few = l.few };
  unkeyed_key = λ d p. unkeyed-key d p.now;
  unkeyed_lit = unkeyed_lit;
  opens_own = λ k p h. own-is k p.now.key (and-left (is_own k p.now.key) (not p.now.draining) h);
  opened_key = λ p. refl;
  opened_pinged = λ p. refl;
  opened_lit = λ k p o l. record { keeps = in_turn-keeps k p.now o l.keeps; given = l.given; few = omega arith };
  standing = standing-lit;
}

pub executor_lit : (p : ExecutorPast) → executor_lawful.IsLit p → IsLitPast p
unfolding executor_lawful
executor_lit p l = l

pub unused-executor-is : IsFresh executor_kind executor_lawful unused_executor
unfolding executor_lawful
unused-executor-is = record {
  lit = record {
    keeps = fresh-keeps;
    given = record { once = tt; below = λ n i. absurd i; finished = λ slot task e i. none-some task e };
    few = omega arith;
  };
  quiet = refl;
  unkeyed = refl;
}
