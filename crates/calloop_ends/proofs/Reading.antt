-- The polls of a stream's turn, one after the other.
use Rattle.std.proofs.Common.{◌≡◌, ℕ, ◌+◌, Option, Some, None, List, [], ◌∷◌, ◌++◌, length, refl, sym, ap, subst, arith, length-append}
use Rattle.calloop_sources.specs.sources.Calls.{CallbackCall, Calling, Went}
use Rattle.calloop_sources.proofs.Calling.{went_on}
use Rattle.calloop_ends.specs.declared.stream.reading.Ending.{Ending}
use Rattle.calloop_ends.specs.declared.stream.reading.Ending.TheVariants.{AtPending, AtEnd, AtLimit}
use Rattle.calloop_ends.specs.declared.futures.task.Poll.TheVariants.{Ready, Pending}
use Rattle.calloop_ends.specs.stream.StreamReads.{Polls, ReadsTo}
use Rattle.calloop_ends.specs.stream.Streams.{call_with, end_calls, calls_of}

module _ {I : Type 0} where
  calls_more : (xs : List I) (x : I) → calls_of (xs ++ x ∷ []) AtLimit ≡ calls_of xs AtLimit ++ call_with (Some x) ∷ []
  calls_more [] x = refl
  calls_more (y ∷ ys) x = ap (λ cs. call_with (Some y) ∷ cs) (calls_more ys x)

  calls_ended : (xs : List I) (ending : Ending) → calls_of xs ending ≡ calls_of xs AtLimit ++ end_calls ending
  calls_ended [] ending = refl
  calls_ended (y ∷ ys) ending = ap (λ cs. call_with (Some y) ∷ cs) (calls_ended ys ending)

module _ {S I : Type 0} (polls : Polls S I) where
  reads_more : (s u v : S) (xs : List I) (x : I) → ReadsTo polls s xs AtLimit u → polls u (Ready (Some x)) v → ReadsTo polls s (xs ++ x ∷ []) AtLimit v
  reads_more s u v [] x h p = (v, rw (sym h) p, refl)
  reads_more s u v (y ∷ ys) x h p = (h.0, h.1, reads_more h.0 u v ys x h.2 p)

  pub reads_pending : (s u t : S) (xs : List I) → ReadsTo polls s xs AtLimit u → polls u Pending t → ReadsTo polls s xs AtPending t
  reads_pending s u t [] h p = rw (sym h) p
  reads_pending s u t (y ∷ ys) h p = (h.0, h.1, reads_pending h.0 u t ys h.2 p)

  pub reads_end : (s u t : S) (xs : List I) → ReadsTo polls s xs AtLimit u → polls u (Ready None) t → ReadsTo polls s xs AtEnd t
  reads_end s u t [] h p = rw (sym h) p
  reads_end s u t (y ∷ ys) h p = (h.0, h.1, reads_end h.0 u t ys h.2 p)

module _ {F S I X Q : Type 0} (polls : Polls S I) (may : Calling F (Option I) (Unit {0}) (Unit {0}) X Q) (reaches : Q → Q → Type 0) (s : S) (f : F) (x : X) (q : Q) where
  -- these items were read, so many, and the callback was called for just these
  pub record ReadSoFar (items : List I) (count : ℕ) (u : S) (g : F) (y : X) (r : Q) : Type 0 where
    pub count_is : count ≡ length items
    pub reads : ReadsTo polls s items AtLimit u
    pub went : Went may reaches f x q (calls_of items AtLimit) g y r

  pub read_none : ReadSoFar [] 0 s f x q
  read_none = record { count_is = refl; reads = refl; went = (refl, refl, refl) }

  pub read_more : (items : List I) (item : I) (count : ℕ) (u v : S) (g h : F) (y z : X) (r w : Q) → ReadSoFar items count u g y r
      → polls u (Ready (Some item)) v → Went may reaches g y r (call_with (Some item) ∷ []) h z w → ReadSoFar (items ++ item ∷ []) (count + 1) v h z w
  read_more items item count u v g h y z r w so p went = record {
    reads = reads_more polls s u v items item so.reads p;
    count_is = let l = length-append items (item ∷ []) in let c = so.count_is in omega arith;
    went = subst (λ (cs : List (CallbackCall (Option I) (Unit {0}) (Unit {0}))). Went may reaches f x q cs h z w) (sym (calls_more items item)) (went_on may reaches f g h x y z q r w (calls_of items AtLimit) (call_with (Some item) ∷ []) so.went went);
  }

  pub read_ended : (items : List I) (ending : Ending) (count : ℕ) (u : S) (g h : F) (y z : X) (r w : Q) → ReadSoFar items count u g y r
      → Went may reaches g y r (end_calls ending) h z w → Went may reaches f x q (calls_of items ending) h z w
  read_ended items ending count u g h y z r w so went =
      subst (λ (cs : List (CallbackCall (Option I) (Unit {0}) (Unit {0}))). Went may reaches f x q cs h z w) (sym (calls_ended items ending)) (went_on may reaches f g h x y z q r w (calls_of items AtLimit) (end_calls ending) so.went went)
