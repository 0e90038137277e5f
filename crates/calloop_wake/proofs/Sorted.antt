-- What a write to one slot keeps of an executor's tasks.
use Rattle.std.proofs.Common.{◌≡◌, ◌≢◌, ℕ, ◌+◌, ◌<◌, ◌++◌, Bool, true, if◌then◌else◌, ◌⊎◌, inl, inr, List, [], ◌∷◌, Option, Some, None, refl, sym, ◌∙◌, ap, subst, arith}
use Rattle.std.proofs.lemmas.Bool.Decides.{eqb_tells}
use Rattle.std.proofs.lemmas.Option.{none-some, same_Some}
use Rattle.futures.specs.LinkedLists.{IsIn, IsApart}
use Rattle.calloop_wake.specs.declared.tasks.Phase.TheVariants.{Queued}
use Rattle.calloop_wake.specs.declared.tasks.Task.{Task}
use Rattle.calloop_wake.specs.declared.tasks.TaskKey.{TaskKey}
use Rattle.calloop_wake.specs.Tasks.{in_poll}
use Rattle.calloop_wake.specs.Executors.{with_slot, AreQueued, ArePolled, AreNumbered}

-- what holds of the written slot, and of the others
pub with_slot_cases : (P : Option Task → Type 0) (slot other : ℕ) (o : Option Task) (tasks : ℕ → Option Task)
    → (other ≡ slot → P o) → (other ≢ slot → P (tasks other)) → P (with_slot slot o tasks other)
with_slot_cases P slot other o tasks here there =
    elim (eqb_tells other slot) [
      | inl h ↦ let Q : Bool → Type 0 = λ b. P (if b then o else tasks other) in subst Q (sym h.0) (here h.1)
      | inr h ↦ let Q : Bool → Type 0 = λ b. P (if b then o else tasks other) in subst Q (sym h.0) (there h.1)
    ]

pub IsIn-append : (x : ℕ) (xs ys : List ℕ) → IsIn x (xs ++ ys) → IsIn x xs ⊎ IsIn x ys
IsIn-append x [] ys i = inr i
IsIn-append x (y ∷ xs) ys (inl e) = inl (inl e)
IsIn-append x (y ∷ xs) ys (inr i) =
    elim (IsIn-append x xs ys i) [ inl h ↦ inl (inr h) | inr h ↦ inr h ]

pub IsIn-left : (x : ℕ) (xs ys : List ℕ) → IsIn x xs → IsIn x (xs ++ ys)
IsIn-left x [] ys i = absurd i
IsIn-left x (y ∷ xs) ys (inl e) = inl e
IsIn-left x (y ∷ xs) ys (inr i) = inr (IsIn-left x xs ys i)

pub IsIn-last : (x : ℕ) (xs : List ℕ) → IsIn x (xs ++ x ∷ [])
IsIn-last x [] = inl refl
IsIn-last x (y ∷ xs) = inr (IsIn-last x xs)

pub IsApart-last : (x : ℕ) (xs : List ℕ) → IsApart xs → ¬ IsIn x xs → IsApart (xs ++ x ∷ [])
IsApart-last x [] a n = (λ i. i, tt)
IsApart-last x (y ∷ xs) a n = (
  λ i. elim (IsIn-append y xs (x ∷ []) i) [
    | inl h ↦ a.0 h
    | inr h ↦ elim h [ inl e ↦ n (inl (sym e)) | inr nowhere ↦ nowhere ]
  ],
  IsApart-last x xs a.1 (λ i. n (inr i)),
)

module _ (tasks : ℕ → Option Task) where
  -- Numbers.

  pub numbered-kept : (next slot : ℕ) (task that : Task) → tasks slot ≡ Some task → that.number ≡ task.number
      → AreNumbered tasks next → AreNumbered (with_slot slot (Some that) tasks) next
  numbered-kept next slot task that is same n =
      record {
        below = λ s t. with_slot_cases (λ o. o ≡ Some t → t.number < next) slot s (Some that) tasks
            (λ here e. let m = ap (λ (x : Task). x.number) (same_Some that t e) in let b = n.below slot task is in omega (arith, m, same, b))
            (λ there e. n.below s t e);
        apart = λ s r t u.
            with_slot_cases (λ o. o ≡ Some t → with_slot slot (Some that) tasks r ≡ Some u → t.number ≡ u.number → s ≡ r) slot s (Some that) tasks
            (λ here e.
            let m : that.number ≡ t.number = ap (λ (x : Task). x.number) (same_Some that t e) in
            with_slot_cases (λ o. o ≡ Some u → t.number ≡ u.number → s ≡ r) slot r (Some that) tasks
            (λ too f g. here ∙ sym too)
            (λ other f g. here ∙ n.apart slot r task u is f (sym same ∙ m ∙ g)))
            (λ there e.
            with_slot_cases (λ o. o ≡ Some u → t.number ≡ u.number → s ≡ r) slot r (Some that) tasks
            (λ too f g.
            let m : that.number ≡ u.number = ap (λ (x : Task). x.number) (same_Some that u f) in
            n.apart s slot t task e is (g ∙ sym m ∙ same) ∙ sym too)
            (λ other f g. n.apart s r t u e f g));
      }

  pub numbered-gone : (next slot : ℕ) → AreNumbered tasks next → AreNumbered (with_slot slot None tasks) next
  numbered-gone next slot n =
      record {
        below = λ s t. with_slot_cases (λ o. o ≡ Some t → t.number < next) slot s None tasks
            (λ here e. absurd (none-some t e))
            (λ there e. n.below s t e);
        apart = λ s r t u.
            with_slot_cases (λ o. o ≡ Some t → with_slot slot None tasks r ≡ Some u → t.number ≡ u.number → s ≡ r) slot s None tasks
            (λ here e. absurd (none-some t e))
            (λ there e.
            with_slot_cases (λ o. o ≡ Some u → t.number ≡ u.number → s ≡ r) slot r None tasks
            (λ too f g. absurd (none-some u f))
            (λ other f g. n.apart s r t u e f g));
      }

  pub numbered-new : (next slot : ℕ) (that : Task) → that.number ≡ next → AreNumbered tasks next
      → AreNumbered (with_slot slot (Some that) tasks) (next + 1)
  numbered-new next slot that is n =
      record {
        below = λ s t. with_slot_cases (λ o. o ≡ Some t → t.number < next + 1) slot s (Some that) tasks
            (λ here e. let m = ap (λ (x : Task). x.number) (same_Some that t e) in omega (arith, m, is))
            (λ there e. let b = n.below s t e in omega (arith, b));
        apart = λ s r t u.
            with_slot_cases (λ o. o ≡ Some t → with_slot slot (Some that) tasks r ≡ Some u → t.number ≡ u.number → s ≡ r) slot s (Some that) tasks
            (λ here e.
            let m : that.number ≡ t.number = ap (λ (x : Task). x.number) (same_Some that t e) in
            with_slot_cases (λ o. o ≡ Some u → t.number ≡ u.number → s ≡ r) slot r (Some that) tasks
            (λ too f g. here ∙ sym too)
            (λ other f g. let b = n.below r u f in absurd (omega (arith, b, m, g, is))))
            (λ there e.
            with_slot_cases (λ o. o ≡ Some u → t.number ≡ u.number → s ≡ r) slot r (Some that) tasks
            (λ too f g.
            let m : that.number ≡ u.number = ap (λ (x : Task). x.number) (same_Some that u f) in
            let b = n.below s t e in absurd (omega (arith, b, m, g, is)))
            (λ other f g. n.apart s r t u e f g));
      }

  -- The queue.

  -- a task that isn't queued is queued last
  pub queued-add : (queue : List ℕ) (slot : ℕ) (that : Task)
      → ((task : Task) → tasks slot ≡ Some task → task.phase ≢ Queued) → that.phase ≡ Queued
      → AreQueued tasks queue → AreQueued (with_slot slot (Some that) tasks) (queue ++ slot ∷ [])
  queued-add queue slot that out is q =
      let absent : ¬ IsIn slot queue = λ i. let found = q.only slot i in out found.0 found.1 found.2 in
      record {
        once = IsApart-last slot queue q.once absent;
        only = λ s i. with_slot_cases (λ o. (task : Task) × (o ≡ Some task) × (task.phase ≡ Queued)) slot s (Some that) tasks
            (λ here. (that, refl, is))
            (λ there. elim (IsIn-append s queue (slot ∷ []) i) [
              | inl h ↦ q.only s h
              | inr h ↦ elim h [ inl e ↦ absurd (there (sym e)) | inr nowhere ↦ absurd nowhere ]
            ]);
        all = λ s t. with_slot_cases (λ o. o ≡ Some t → t.phase ≡ Queued → IsIn s (queue ++ slot ∷ [])) slot s (Some that) tasks
            (λ here e p. subst (λ x. IsIn x (queue ++ slot ∷ [])) (sym here) (IsIn-last slot queue))
            (λ there e p. IsIn-left s queue (slot ∷ []) (q.all s t e p));
      }

  -- a task that isn't queued, before and after
  pub queued-keep : (queue : List ℕ) (slot : ℕ) (o : Option Task)
      → ((task : Task) → tasks slot ≡ Some task → task.phase ≢ Queued) → ((task : Task) → o ≡ Some task → task.phase ≢ Queued)
      → AreQueued tasks queue → AreQueued (with_slot slot o tasks) queue
  queued-keep queue slot o out still q =
      let absent : ¬ IsIn slot queue = λ i. let found = q.only slot i in out found.0 found.1 found.2 in
      record {
        once = q.once;
        only = λ s i. with_slot_cases (λ o. (task : Task) × (o ≡ Some task) × (task.phase ≡ Queued)) slot s o tasks
            (λ here. absurd (absent (subst (λ x. IsIn x queue) here i)))
            (λ there. q.only s i);
        all = λ s t. with_slot_cases (λ o. o ≡ Some t → t.phase ≡ Queued → IsIn s queue) slot s o tasks
            (λ here e p. absurd (still t e p))
            (λ there e p. q.all s t e p);
      }

  -- the first task leaves the queue
  pub queued-take : (slot : ℕ) (rest : List ℕ) (o : Option Task)
      → ((task : Task) → o ≡ Some task → task.phase ≢ Queued)
      → AreQueued tasks (slot ∷ rest) → AreQueued (with_slot slot o tasks) rest
  queued-take slot rest o out q =
      record {
        once = q.once.1;
        only = λ s i. with_slot_cases (λ o. (task : Task) × (o ≡ Some task) × (task.phase ≡ Queued)) slot s o tasks
            (λ here. absurd (q.once.0 (subst (λ x. IsIn x rest) here i)))
            (λ there. q.only s (inr i));
        all = λ s t. with_slot_cases (λ o. o ≡ Some t → t.phase ≡ Queued → IsIn s rest) slot s o tasks
            (λ here e p. absurd (out t e p))
            (λ there e p. elim (q.all s t e p) [ inl f ↦ absurd (there (sym f)) | inr i ↦ i ]);
      }

  -- The poll.

  pub polled-keep : (polled : Option TaskKey) (slot : ℕ) (o : Option Task)
      → ((task : Task) → o ≡ Some task → in_poll (Some task.phase) ≢ true)
      → ArePolled tasks polled → ArePolled (with_slot slot o tasks) polled
  polled-keep polled slot o out p = λ s t.
      with_slot_cases (λ o. o ≡ Some t → in_poll (Some t.phase) ≡ true → polled ≡ Some (record { slot = s; number = t.number })) slot s o tasks
      (λ here e i. absurd (out t e i))
      (λ there e i. p s t e i)

  -- the phase of a polled task changes
  pub polled-mark : (polled : Option TaskKey) (slot : ℕ) (task that : Task) → tasks slot ≡ Some task
      → in_poll (Some task.phase) ≡ true → that.number ≡ task.number
      → ArePolled tasks polled → ArePolled (with_slot slot (Some that) tasks) polled
  polled-mark polled slot task that is running same p = λ s t.
      with_slot_cases (λ o. o ≡ Some t → in_poll (Some t.phase) ≡ true → polled ≡ Some (record { slot = s; number = t.number })) slot s (Some that) tasks
      (λ here e i.
      let m : task.number ≡ t.number = sym same ∙ ap (λ (x : Task). x.number) (same_Some that t e) in
      p slot task is running
      ∙ ap (λ n. Some (record { slot = n; number = task.number })) (sym here)
      ∙ ap (λ n. Some (record { slot = s; number = n })) m)
      (λ there e i. p s t e i)

  -- the polled task is no longer polled
  pub polled-pend : (key : TaskKey) (o : Option Task)
      → ((task : Task) → o ≡ Some task → in_poll (Some task.phase) ≢ true)
      → ArePolled tasks (Some key) → ArePolled (with_slot key.slot o tasks) None
  polled-pend key o out p = λ s t.
      with_slot_cases (λ o. o ≡ Some t → in_poll (Some t.phase) ≡ true → ◌≡◌ {A = Option TaskKey} None (Some (record { slot = s; number = t.number }))) key.slot s o tasks
      (λ here e i. absurd (out t e i))
      (λ there e i. absurd (there (sym (ap (λ (k : TaskKey). k.slot) (same_Some key _ (p s t e i))))))

  pub polled-take : (slot : ℕ) (that : Task) → ArePolled tasks None
      → ArePolled (with_slot slot (Some that) tasks) (Some (record { slot = slot; number = that.number }))
  polled-take slot that p = λ s t.
      with_slot_cases (λ o. o ≡ Some t → in_poll (Some t.phase) ≡ true → ◌≡◌ {A = Option TaskKey} (Some (record { slot = slot; number = that.number })) (Some (record { slot = s; number = t.number }))) slot s (Some that) tasks
      (λ here e i.
      let m : that.number ≡ t.number = ap (λ (x : Task). x.number) (same_Some that t e) in
      ap (λ n. Some (record { slot = n; number = that.number })) (sym here)
      ∙ ap (λ n. Some (record { slot = s; number = n })) m)
      (λ there e i. absurd (none-some _ (p s t e i)))
