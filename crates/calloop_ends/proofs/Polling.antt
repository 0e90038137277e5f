-- The polls of an executor's turn, one after the other.
use Rattle.std.proofs.Common.{◌≡◌, ℕ, ◌+◌, Bool, true, false, Option, Some, None, IfSome, if◌then◌else◌, List, [], ◌∷◌, ◌++◌, length, refl, sym, ap, subst, arith, ◌∙◌, append_assoc, append-nil, length-append}
use Rattle.calloop_wake.specs.Cells.{one}
use Rattle.calloop_wake.specs.Passes.{Keyed, on}
use Rattle.calloop_wake.specs.Executors.{ExecutorCell, after_poll_of, after_poll, taken_of, after_pop, after_end_turn, debt_between}
use Rattle.calloop_wake.specs.declared.tasks.TaskKey.{TaskKey}
use Rattle.logbook.specs.Pages.{Book}
use Rattle.calloop_sources.specs.sources.Calls.{CallbackCall, Calling, Went}
use Rattle.calloop_sources.proofs.Calling.{went_on}
use Rattle.calloop_ends.specs.futures.Executors.{OfPop, gave, lacks, misses_of, call_of, calls_of, results_of, AllGiven}

module _ {O : Type 0} where
  calls_more : (ps : List (OfPop O)) (p : OfPop O) → calls_of (ps ++ p ∷ []) ≡ calls_of ps ++ call_of p
  calls_more [] p = append-nil (call_of p)
  calls_more (o ∷ ps) p = ap (λ cs. call_of o ++ cs) (calls_more ps p) ∙ sym (append_assoc (call_of o) (calls_of ps) (call_of p))

  results_more : (ps : List (OfPop O)) (p : OfPop O) → results_of (ps ++ p ∷ []) ≡ results_of ps + one (gave p)
  results_more [] p = let n = one (gave p) in let e : results_of (p ∷ []) ≡ n + 0 = refl in omega arith
  results_more (o ∷ ps) p =
      let e = results_more ps p in
      let a : results_of (o ∷ (ps ++ p ∷ [])) ≡ one (gave o) + results_of (ps ++ p ∷ []) = refl in
      let b : results_of (o ∷ ps) ≡ one (gave o) + results_of ps = refl in
      omega arith

  misses_more : (ps : List (OfPop O)) (p : OfPop O) → misses_of (ps ++ p ∷ []) ≡ misses_of ps + one (lacks p)
  misses_more [] p = let n = one (lacks p) in let e : misses_of (p ∷ []) ≡ n + 0 = refl in omega arith
  misses_more (o ∷ ps) p =
      let e = misses_more ps p in
      let a : misses_of (o ∷ (ps ++ p ∷ [])) ≡ one (lacks o) + misses_of (ps ++ p ∷ []) = refl in
      let b : misses_of (o ∷ ps) ≡ one (lacks o) + misses_of ps = refl in
      omega arith

  given_more : (given : OfPop O → Type 0) (ps : List (OfPop O)) (p : OfPop O) → AllGiven given ps → given p → AllGiven given (ps ++ p ∷ [])
  given_more given [] p so h = (h, tt)
  given_more given (o ∷ ps) p so h = (so.0, given_more given ps p so.1 h)

module _ {F O X Q : Type 0} (given : OfPop O → Type 0) (may : Calling F O (Unit {0}) (Unit {0}) X Q) (reaches : Q → Q → Type 0) (f : F) (x : X) (q : Q) where
  -- the outcomes of the pops so far: how many there were, how many gave results, for how many the future was still to come, and
  -- that the callback was called for just these
  pub record Polled (polled : List (OfPop O)) (count results misses : ℕ) (g : F) (y : X) (r : Q) : Type 0 where
    pub count_is : count ≡ length polled
    pub results_is : results ≡ results_of polled
    pub misses_is : misses ≡ misses_of polled
    pub all_given : AllGiven given polled
    pub went : Went may reaches f x q (calls_of polled) g y r

  pub polled_none : Polled [] 0 0 0 f x q
  polled_none = record { count_is = refl; results_is = refl; misses_is = refl; all_given = tt; went = (refl, refl, refl) }

  pub polled_more : (ps : List (OfPop O)) (p : OfPop O) (count results misses : ℕ) (g h : F) (y z : X) (r s : Q)
      → Polled ps count results misses g y r → given p → Went may reaches g y r (call_of p) h z s → Polled (ps ++ p ∷ []) (count + 1) (results + one (gave p)) (misses + one (lacks p)) h z s
  polled_more ps p count results misses g h y z r s so its went = record {
    count_is = let l = length-append ps (p ∷ []) in let c = so.count_is in omega arith;
    results_is = ap (λ n. n + one (gave p)) so.results_is ∙ sym (results_more ps p);
    misses_is = ap (λ n. n + one (lacks p)) so.misses_is ∙ sym (misses_more ps p);
    all_given = given_more given ps p so.all_given its;
    went = subst (λ (cs : List (CallbackCall O (Unit {0}) (Unit {0}))). Went may reaches f x q cs h z s) (sym (calls_more ps p)) (went_on may reaches f g h x y z q r s (calls_of ps) (call_of p) so.went went);
  }

-- The steps of a turn leave the cell its key.
after_poll_key : (o : Option TaskKey) (finished : Bool) (c : ExecutorCell) → (after_poll_of o finished c).key ≡ c.key
after_poll_key None finished c = refl
after_poll_key (Some key) true c = refl
after_poll_key (Some key) false c = refl

taken_key : (queue : List ℕ) (c : ExecutorCell) → (taken_of queue c).key ≡ c.key
taken_key [] c = refl
taken_key (slot ∷ rest) c = refl

pub pop_key : (finished : Bool) (c : ExecutorCell) → (after_pop finished c).key ≡ c.key
pop_key finished c = taken_key (after_poll finished c).queue (after_poll finished c) ∙ after_poll_key c.progress.polled finished c

pub end_key : (finished : Bool) (c : ExecutorCell) → (after_end_turn finished c).key ≡ c.key
end_key finished c = after_poll_key c.progress.polled finished c

some_of : (o : Option Keyed) (P : Keyed → Type 0) → ((place : Keyed) → o ≡ Some place → P place) → IfSome o P
some_of None P h = tt
some_of (Some place) P h = h place refl

-- the debt is of the key that the cell had
pub owed_place : (board : Book) (c d : ExecutorCell) (P : Keyed → Type 0) → ((place : Keyed) → on board c.key ≡ Some place → P place) → d.key ≡ c.key → IfSome (on board (debt_between c d)) P
owed_place board c d P h same =
    elim c.pinged as (λ b. IfSome (on board (if b then None else if d.pinged then d.key else None)) P) [
      | true ↦ tt
      | false ↦ elim d.pinged as (λ b. IfSome (on board (if b then d.key else None)) P) [
        | true ↦ some_of (on board d.key) P (λ place e. h place (ap (on board) (sym same) ∙ e))
        | false ↦ tt
      ]
    ]
