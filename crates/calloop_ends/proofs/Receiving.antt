-- The pops of a channel's turn, one after the other.
use Rattle.std.proofs.Common.{◌≡◌, ℕ, zero, suc, nat_lt, ◌<◌, Bool, true, false, ◌||◌, ◌&&◌, not, ◌⊎◌, inl, inr, List, [], ◌∷◌, ◌++◌, refl, sym, ap, subst, arith, ◌∙◌, append_assoc, append-nil, ltb-true}
use Rattle.std.proofs.Math.Bool.{and-true}
use Rattle.std.proofs.lemmas.Bool.Decides.{nat_tests}
use Rattle.calloop_wake.specs.declared.Tally.{Tally}
use Rattle.calloop_wake.specs.declared.ChannelTurn.{ChannelTurn}
use Rattle.calloop_wake.specs.declared.channel.Popped.{Popped}
use Rattle.calloop_wake.specs.Channels.{is_close, turn_after_pop, tally_after_pop}
use Rattle.calloop_sources.specs.sources.Calls.{CallbackCall, Calling, Went}
use Rattle.calloop_sources.proofs.Calling.{went_on}
use Rattle.calloop_ends.specs.declared.channel.Event.{Event}
use Rattle.calloop_ends.specs.channel.Channels.{call_of, calls_of, turn_after, tally_after, told_in, ArePops, Handed}

or_false : (b : Bool) → (b || false) ≡ b
or_false true = refl
or_false false = refl

or_assoc : (a b c : Bool) → (a || (b || c)) ≡ ((a || b) || c)
or_assoc true b c = refl
or_assoc false b c = refl

module _ {T : Type 0} where
  calls_more : (ps : List (Popped T)) (p : Popped T) → calls_of (ps ++ p ∷ []) ≡ calls_of ps ++ call_of p
  calls_more [] p = append-nil (call_of p)
  calls_more (o ∷ ps) p = ap (λ cs. call_of o ++ cs) (calls_more ps p) ∙ sym (append_assoc (call_of o) (calls_of ps) (call_of p))

  turn_more : (ps : List (Popped T)) (p : Popped T) (turn : ChannelTurn) → turn_after (ps ++ p ∷ []) turn ≡ turn_after_pop p (turn_after ps turn)
  turn_more [] p turn = refl
  turn_more (o ∷ ps) p turn = turn_more ps p (turn_after_pop o turn)

  tally_more : (ps : List (Popped T)) (p : Popped T) (tally : Tally) → tally_after (ps ++ p ∷ []) tally ≡ tally_after_pop p (tally_after ps tally)
  tally_more [] p tally = refl
  tally_more (o ∷ ps) p tally = tally_more ps p (tally_after_pop o tally)

  told_more : (ps : List (Popped T)) (p : Popped T) → told_in (ps ++ p ∷ []) ≡ (told_in ps || is_close p)
  told_more [] p = or_false (is_close p)
  told_more (o ∷ ps) p = ap (λ b. is_close o || b) (told_more ps p) ∙ or_assoc (is_close o) (told_in ps) (is_close p)

  are_more : (ps : List (Popped T)) (p : Popped T) (turn : ChannelTurn) → ArePops ps turn → 0 < (turn_after ps turn).left → (turn_after ps turn).done ≡ false → ArePops (ps ++ p ∷ []) turn
  are_more [] p turn are left done = (left, done, tt)
  are_more (o ∷ ps) p turn are left done = (are.0, are.1, are_more ps p (turn_after_pop o turn) are.2 left done)

  pub name_kept : (ps : List (Popped T)) (turn : ChannelTurn) → (turn_after ps turn).name ≡ turn.name
  name_kept [] turn = refl
  name_kept (p ∷ ps) turn = name_kept ps (turn_after_pop p turn)

module _ {F T X Q : Type 0} (may : Calling F (Event T) (Unit {0}) (Unit {0}) X Q) (reaches : Q → Q → Type 0) (turn : ChannelTurn) (tally : Tally) (f : F) (x : X) (q : Q) where
  -- a turn that made no pop yet
  pub handed_none : Handed {T = T} may reaches turn tally f x q [] turn tally false f x q
  handed_none = record { are = tt; turn_is = refl; tally_is = refl; told_is = refl; went = (refl, refl, refl) }

  -- another pop
  pub handed_more : (ps : List (Popped T)) (p : Popped T) (turn' turn'' : ChannelTurn) (tally' tally'' : Tally) (told told' : Bool) (g h : F) (y z : X) (r s : Q)
      → Handed may reaches turn tally f x q ps turn' tally' told g y r → 0 < turn'.left → turn'.done ≡ false
      → turn'' ≡ turn_after_pop p turn' → tally'' ≡ tally_after_pop p tally' → told' ≡ (told || is_close p) → Went may reaches g y r (call_of p) h z s
      → Handed may reaches turn tally f x q (ps ++ p ∷ []) turn'' tally'' told' h z s
  handed_more ps p turn' turn'' tally' tally'' told told' g h y z r s so left done is_turn is_tally is_told went = record {
    are = are_more ps p turn so.are (subst (λ (t : ChannelTurn). 0 < t.left) so.turn_is left) (ap (λ t. t.done) (sym so.turn_is) ∙ done);
    turn_is = is_turn ∙ (ap (turn_after_pop p) so.turn_is ∙ sym (turn_more ps p turn));
    tally_is = is_tally ∙ (ap (tally_after_pop p) so.tally_is ∙ sym (tally_more ps p tally));
    told_is = is_told ∙ (ap (λ b. b || is_close p) so.told_is ∙ sym (told_more ps p));
    went = subst (λ (cs : List (CallbackCall (Event T) (Unit {0}) (Unit {0}))). Went may reaches f x q cs h z s) (sym (calls_more ps p)) (went_on may reaches f g h x y z q r s (calls_of ps) (call_of p) so.went went);
  }

-- When a turn goes on.
both_left : (a b : Bool) → (a && b) ≡ true → a ≡ true
both_left true b h = refl
both_left false b h = h

both_right : (a b : Bool) → (a && b) ≡ true → b ≡ true
both_right true b h = h
both_right false b h = absurd (let e : false ≡ true = h in cc)

not_true : (d : Bool) → not d ≡ true → d ≡ false
not_true false h = refl
not_true true h = absurd (let e : false ≡ true = h in cc)

pub goes_left : (left : ℕ) (done : Bool) → (nat_lt 0 left && not done) ≡ true → 0 < left
goes_left left done h = ltb-true 0 left (both_left (nat_lt 0 left) (not done) h)

pub goes_done : (left : ℕ) (done : Bool) → (nat_lt 0 left && not done) ≡ true → done ≡ false
goes_done left done h = not_true done (both_right (nat_lt 0 left) (not done) h)

pub over : (left : ℕ) (done : Bool) → (nat_lt 0 left && not done) ≡ false → (left ≡ 0) ⊎ (done ≡ true)
over left true h = inr refl
over zero false h = inl refl
over (suc left) false h =
    let e : nat_lt 0 (suc left) ≡ false = sym (and-true (nat_lt 0 (suc left))) ∙ h in absurd (grind (arith, nat_tests))
