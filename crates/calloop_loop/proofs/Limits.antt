-- The limits of the sources that are told of waits: no settling and no telling raises them.
use Rattle.std.proofs.Common.{◌≡◌, ℕ, zero, suc, ◌+◌, ◌<◌, ◌≤◌, List, [], ◌∷◌, filter, refl, ap, sym, ◌∙◌, subst, arith, Some, None, Option, Ok, Bool, true, false, if◌then◌else◌, nat_eq, slice_get}
use Rattle.calloop_slots.specs.declared.list.Content.{Content}
use Rattle.calloop_slots.specs.declared.list.Content.TheVariants.{Vacant, Source, InTurn}
use Rattle.calloop_slots.specs.declared.list.Slot.{Slot}
use Rattle.calloop_slots.specs.declared.token.RegistrationToken.{RegistrationToken}
use Rattle.calloop_slots.specs.Slots.{with_change, with_content, content_at, content_under, is_empty, after_turn}
use Rattle.calloop_slots.proofs.Named.{named_slot, turn_ended}
use Rattle.calloop_sources.specs.declared.sources.dispatch.Role.{Role}
use Rattle.calloop_sources.specs.declared.sources.dispatch.Role.TheVariants.{Caller, Adapter, Timeout}
use Rattle.calloop_poll.specs.sys.Pollers.{Outside}
use Rattle.calloop_poll.specs.sys.Polls.{PollView}
use Rattle.calloop_sources.specs.sources.Deeds.{Reregistered}
use Rattle.calloop_sources.specs.sources.Meanings.{Meaning, KeepsLimit, Settles, fresh_factory}
use Rattle.calloop_loop.specs.Limits.{limit_in, all_limits}
use Rattle.calloop_loop.proofs.Inserting.{changed_twice}

pub not_less : (n m : ℕ) → ¬ (n < m) → m ≤ n
not_less n zero h = omega arith
not_less zero (suc m) h = absurd (h (omega arith))
not_less (suc n) (suc m) h = (let less = not_less n m (λ l. h (omega (arith, l))) in omega (arith, less))

module _ {D P T : Type 0} (M : Meaning D P T) where
  -- a new content of a slot, with no greater limit than the old content, raises none
  at_place : (slots : List (Slot D)) (i k version : ℕ) (c : Content D)
      → ((s : Slot D) → slice_get slots i ≡ Some s → limit_in M c ≤ limit_in M s.content)
      → limit_in M (content_under version (slice_get (with_change (with_content c) slots i) k)) ≤ limit_in M (content_under version (slice_get slots k))
  at_place [] i k version c h = omega arith
  at_place (x ∷ xs) zero zero version c h =
      elim (nat_eq x.version version) as (λ b. limit_in M (if b then c else Vacant) ≤ limit_in M (if b then x.content else Vacant))
      [ true ↦ h x refl | false ↦ omega arith ]
  at_place (x ∷ xs) zero (suc k) version c h = omega arith
  at_place (x ∷ xs) (suc i) zero version c h = omega arith
  at_place (x ∷ xs) (suc i) (suc k) version c h = at_place xs i k version c h

  same_there : (slots : List (Slot D)) (i : ℕ) (s t : Slot D) → slice_get slots i ≡ Some s → slice_get slots i ≡ Some t → s ≡ t
  same_there slots i s t one other = (let two : ◌≡◌ {A = Option (Slot D)} (Some s) (Some t) = sym one ∙ other in cc)

  pub put_limits : (slots : List (Slot D)) (token : RegistrationToken) (d : D) (c : Content D) → content_at slots token ≡ Source d → limit_in M c ≤ M.limit d
      → (ts : List RegistrationToken) → all_limits M (with_change (with_content c) slots token.slot) ts ≤ all_limits M slots ts
  put_limits slots token d c is less [] = omega arith
  put_limits slots token d c is less (t ∷ ts) =
      let there = named_slot slots token (ap is_empty is) in
      let content : there.0.content ≡ Source d = sym there.3 ∙ is in
      let here = at_place slots token.slot t.slot t.version c (λ s at. subst (λ (x : Slot D). limit_in M c ≤ limit_in M x.content) (same_there slots token.slot there.0 s there.1 at) (rw content less)) in
      omega (arith, here, put_limits slots token d c is less ts)

  -- a source was taken out, and this is there now
  pub ended_limits : (slots : List (Slot D)) (token : RegistrationToken) (d : D) (c : Content D) → content_at slots token ≡ Source d → limit_in M c ≤ M.limit d
      → (ts : List RegistrationToken) → all_limits M (after_turn c token (with_change (with_content InTurn) slots token.slot)) ts ≤ all_limits M slots ts
  ended_limits slots token d c is less ts =
      subst (λ (ss : List (Slot D)). all_limits M ss ts ≤ all_limits M slots ts)
      (sym (turn_ended slots token c (ap is_empty is) ∙ changed_twice c InTurn slots token.slot))
      (put_limits slots token d c is less ts)

  pub filtered_limits : (p : RegistrationToken → Bool) (slots : List (Slot D)) (ts : List RegistrationToken) → all_limits M slots (filter p ts) ≤ all_limits M slots ts
  filtered_limits p slots [] = omega arith
  filtered_limits p slots (t ∷ ts) =
      let rest = filtered_limits p slots ts in
      elim (p t) as (λ b. all_limits M slots (if b then t ∷ filter p ts else filter p ts) ≤ limit_in M (content_at slots t) + all_limits M slots ts)
      [ true ↦ omega (arith, rest) | false ↦ omega (arith, rest) ]

  -- an adapter that is settled and stays has the limit that it had
  pub settled_limit : (O : Outside P) → KeepsLimit M → (r : Role) (token : RegistrationToken) (s t : D) (v w : PollView P) → Settles r O M token None s v t w → M.limit t ≡ M.limit s
  settled_limit O k Caller token s t v w h = ap M.limit h.1
  settled_limit O k Timeout token s t v w h = ap M.limit h.1
  settled_limit O k Adapter token s t v w h = k.same s t v (Reregistered (fresh_factory token) (Ok tt) h.0) h.1.0 h.1.1
