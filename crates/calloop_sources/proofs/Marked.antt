-- Proofs of what the mark says.
use Rattle.std.specs.Prelude.{◌≡◌, ◌⊎◌, ◌≤◌, List, Bool, true, false, Result, Ok, Err}
use Rattle.std.proofs.Common.{inl, inr, refl, sym, ap, ◌∙◌, arith}
use Rattle.calloop_slots.specs.declared.error.Error.{Error}
use Rattle.calloop_slots.specs.declared.token.Token.{Token}
use Rattle.calloop_slots.specs.declared.token.TokenFactory.{TokenFactory}
use Rattle.calloop_poll.specs.declared.sys.Readiness.{Readiness}
use Rattle.calloop_sources.specs.declared.sources.source.PostAction.{PostAction}
use Rattle.calloop_sources.specs.declared.sources.source.PostAction.TheVariants.{
  Continue,
  Reregister,
  Disable as DisableIt,
  Remove as RemoveIt,
}
use Rattle.calloop_sources.specs.declared.transient.State.{State}
use Rattle.calloop_sources.specs.declared.transient.State.TheVariants.{Keep, Register, Disable, Remove, Replace, Empty}
use Rattle.calloop_poll.specs.sys.Polls.{PollView, PollStep, polls_after}
use Rattle.calloop_sources.specs.sources.Deeds.{Deed, Registered, Reregistered, Unregistered, Turned, Slept, Noticed, Heard, new_heard}
use Rattle.calloop_sources.specs.sources.Meanings.{Meaning}
use Rattle.calloop_sources.specs.TransientMarks.{Succeeds, IsRegisteredBy, IsMarked, as_many, registered_within}
use Rattle.calloop_sources.specs.Transients.{
  Enters,
  ThenEnters,
  RegisteredAs,
  ReregisteredAs,
  UnregisteredAs,
  TurnedAs,
  KeptBy,
  Moves,
  removed_from,
  replaced_by,
}

module _ {S : Type 0} (registered : S → Bool) where
  at_most_one : (b : Bool) → as_many b ≤ 1
  at_most_one true = omega arith
  at_most_one false = omega arith

  pub one_registered : (state : State S) → IsMarked registered state → registered_within registered state ≤ 1
  one_registered (Keep s marked) h = at_most_one (registered s)
  one_registered (Register s) h = at_most_one (registered s)
  one_registered (Disable s marked) h = at_most_one (registered s)
  one_registered (Remove s marked) h = at_most_one (registered s)
  one_registered (Replace new old marked) h =
      let old_one = at_most_one (registered old) in
      let new_none : as_many (registered new) ≡ 0 = ap as_many h.1 in
      omega (arith, old_one, new_none)
  one_registered Empty h = omega arith

module _ {S P E M T Cause : Type 0} (m : Meaning S P (Heard E M T Cause)) (registered : S → Bool)
    (law : IsRegisteredBy m registered) where
  enters_marked : (stood : S → State S) (s : S) (t : State S) (v : PollView P) (f g : TokenFactory)
      (a : Result (Unit {0}) Error) (l : List (PollStep P)) → a ≡ Ok tt → Enters m stood s v f a l t g
      → IsMarked registered t
  enters_marked stood s t v f g (Ok u) l ok h = rw h.2 (law s h.0 v (Registered f (Ok u) g) l refl h.1)
  enters_marked stood s t v f g (Err e) l ok h = (let no = ok in cc)

  then_marked : (told : Result (Unit {0}) Error) (new old : S) (t : State S) (v : PollView P) (f g : TokenFactory)
      (a : Result (Unit {0}) Error) (l : List (PollStep P)) → a ≡ Ok tt → ThenEnters m told new old v f a l t g
      → IsMarked registered t
  then_marked (Ok u) new old t v f g a l ok h = enters_marked (λ n. Replace n old false) new t v f g a l ok h
  then_marked (Err e) new old t v f g a l ok h = (let other = h.0 in let no : Ok tt ≡ Err e = sym ok ∙ other in cc)

  registered_marked : (state t : State S) (v : PollView P) (f g : TokenFactory) (a : Result (Unit {0}) Error)
      (l : List (PollStep P)) → IsMarked registered state → a ≡ Ok tt → RegisteredAs m state v f a l t g
      → IsMarked registered t
  registered_marked (Keep s b) t v f g a l is ok h = enters_marked (λ x. Keep x b) s t v f g a l ok h
  registered_marked (Register s) t v f g a l is ok h = enters_marked (λ x. Register x) s t v f g a l ok h
  registered_marked (Disable s b) t v f g a l is ok h = enters_marked (λ x. Disable x b) s t v f g a l ok h
  registered_marked (Remove s true) t v f g (Ok u) l is ok h = rw h.0.2 tt
  registered_marked (Remove s true) t v f g (Err e) l is ok h = (let no = ok in cc)
  registered_marked (Remove s false) t v f g a l is ok h = rw h.0.2 tt
  registered_marked (Replace new old true) t v f g a l is ok h =
      then_marked h.told new h.left t (polls_after v h.first) f g a h.more ok h.then
  registered_marked (Replace new old false) t v f g a l is ok h =
      enters_marked (λ n. Replace n old false) new t v f g a l ok h
  registered_marked Empty t v f g a l is ok h = rw h.0.2 tt

  reregistered_marked : (state t : State S) (v : PollView P) (f g : TokenFactory) (a : Result (Unit {0}) Error)
      (l : List (PollStep P)) → IsMarked registered state → a ≡ Ok tt → ReregisteredAs m state v f a l t g
      → IsMarked registered t
  reregistered_marked (Keep s b) t v f g (Ok u) l is ok h =
      rw h.2 (law s h.0 v (Reregistered f (Ok u) g) l refl h.1)
  reregistered_marked (Keep s b) t v f g (Err e) l is ok h = (let no = ok in cc)
  reregistered_marked (Register s) t v f g a l is ok h = registered_marked (Register s) t v f g a l is ok h
  reregistered_marked (Disable s true) t v f g (Ok u) l is ok h =
      rw h.0.2 (law s h.0.0 v (Unregistered (Ok u)) l refl h.0.1)
  reregistered_marked (Disable s true) t v f g (Err e) l is ok h = (let no = ok in cc)
  reregistered_marked (Disable s false) t v f g a l is ok h = rw h.0.2 is
  reregistered_marked (Remove s b) t v f g a l is ok h = registered_marked (Remove s b) t v f g a l is ok h
  reregistered_marked (Replace new old b) t v f g a l is ok h =
      registered_marked (Replace new old b) t v f g a l is ok h
  reregistered_marked Empty t v f g a l is ok h = registered_marked Empty t v f g a l is ok h

  unregistered_marked : (state t : State S) (v : PollView P) (a : Result (Unit {0}) Error)
      (l : List (PollStep P)) → IsMarked registered state → a ≡ Ok tt → UnregisteredAs m state v a l t
      → IsMarked registered t
  unregistered_marked (Keep s true) t v (Ok u) l is ok h = rw h.2 (law s h.0 v (Unregistered (Ok u)) l refl h.1)
  unregistered_marked (Keep s true) t v (Err e) l is ok h = (let no = ok in cc)
  unregistered_marked (Keep s false) t v a l is ok h = rw h.2 is
  unregistered_marked (Register s) t v a l is ok h = rw h.2 is
  unregistered_marked (Disable s true) t v (Ok u) l is ok h = rw h.2 (law s h.0 v (Unregistered (Ok u)) l refl h.1)
  unregistered_marked (Disable s true) t v (Err e) l is ok h = (let no = ok in cc)
  unregistered_marked (Disable s false) t v a l is ok h = rw h.2 is
  unregistered_marked (Remove s true) t v (Ok u) l is ok h = rw h.2 tt
  unregistered_marked (Remove s true) t v (Err e) l is ok h = (let no = ok in cc)
  unregistered_marked (Remove s false) t v a l is ok h = rw h.2 tt
  unregistered_marked (Replace new old true) t v (Ok u) l is ok h = rw h.2 is.1
  unregistered_marked (Replace new old true) t v (Err e) l is ok h = (let no = ok in cc)
  unregistered_marked (Replace new old false) t v a l is ok h = rw h.2 is.1
  unregistered_marked Empty t v a l is ok h = rw h.2 tt

  kept_marked : (told : Result PostAction Cause) (x : S) (b : Bool) (a : Result PostAction Cause) (t : State S)
      → registered x ≡ b → KeptBy told x b a t → IsMarked registered t
  kept_marked (Ok Continue) x b a t is h = rw h.1 is
  kept_marked (Ok Reregister) x b a t is h = rw h.1 is
  kept_marked (Ok DisableIt) x b a t is h = rw h.1 is
  kept_marked (Ok RemoveIt) x b a t is h = rw h.1 is
  kept_marked (Err e) x b a t is h = rw h.1 is

  -- the inner source's turn succeeded, or the whole's failed
  told_of : (told : Result PostAction Cause) (x : S) (b : Bool) (a : Result PostAction Cause) (t : State S)
      (action : PostAction) → a ≡ Ok action → KeptBy told x b a t → (inner : PostAction) × (told ≡ Ok inner)
  told_of (Ok inner) x b a t action ok h = (inner, refl)
  told_of (Err e) x b a t action ok h = (let other = h.0 in let no : Ok action ≡ Err e = sym ok ∙ other in cc)

  turned_marked : (state t : State S) (v : PollView P) (readiness : Readiness) (token : Token)
      (turn : Heard E M T Cause) (l : List (PollStep P)) (action : PostAction) → IsMarked registered state
      → turn.answer ≡ Ok action → TurnedAs m state v readiness token turn l t → IsMarked registered t
  turned_marked (Keep s b) t v readiness token turn l action is ok h =
      let inner = told_of h.0 h.1 b turn.answer t action ok h.3 in
      kept_marked h.0 h.1 b turn.answer t
      (law s h.1 v (Turned readiness token (new_heard turn.calls h.0)) l inner h.2 ∙ is) h.3
  turned_marked (Register s) t v readiness token turn l action is ok h = rw h.3 is
  turned_marked (Disable s b) t v readiness token turn l action is ok h = rw h.3 is
  turned_marked (Remove s b) t v readiness token turn l action is ok h = rw h.3 is
  turned_marked (Replace new old b) t v readiness token turn l action is ok h = rw h.3 is
  turned_marked Empty t v readiness token turn l action is ok h = rw h.3 tt

  -- the result of a turn that succeeds
  kept_answer : (told : Result PostAction Cause) (x : S) (b : Bool) (a : Result PostAction Cause) (t : State S)
      (action : PostAction) → a ≡ Ok action → KeptBy told x b a t → (action ≡ Continue) ⊎ (action ≡ Reregister)
  kept_answer (Ok Continue) x b a t action ok h =
      (let is : Ok action ≡ Ok Continue = sym ok ∙ h.0 in let e : action ≡ Continue = cc in inl e)
  kept_answer (Ok Reregister) x b a t action ok h =
      (let is : Ok action ≡ Ok Reregister = sym ok ∙ h.0 in let e : action ≡ Reregister = cc in inr e)
  kept_answer (Ok DisableIt) x b a t action ok h =
      (let is : Ok action ≡ Ok Reregister = sym ok ∙ h.0 in let e : action ≡ Reregister = cc in inr e)
  kept_answer (Ok RemoveIt) x b a t action ok h =
      (let is : Ok action ≡ Ok Reregister = sym ok ∙ h.0 in let e : action ≡ Reregister = cc in inr e)
  kept_answer (Err e) x b a t action ok h = (let other = h.0 in let no : Ok action ≡ Err e = sym ok ∙ other in cc)

  ignored_answer : (a : Result PostAction Cause) (action : PostAction) → a ≡ Ok action → a ≡ Ok Continue
      → (action ≡ Continue) ⊎ (action ≡ Reregister)
  ignored_answer a action ok is =
      (let same : Ok action ≡ Ok Continue = sym ok ∙ is in let e : action ≡ Continue = cc in inl e)

  pub turned_answer : (state t : State S) (v : PollView P) (readiness : Readiness) (token : Token)
      (turn : Heard E M T Cause) (l : List (PollStep P)) (action : PostAction) → turn.answer ≡ Ok action
      → TurnedAs m state v readiness token turn l t → (action ≡ Continue) ⊎ (action ≡ Reregister)
  turned_answer (Keep s b) t v readiness token turn l action ok h =
      kept_answer h.0 h.1 b turn.answer t action ok h.3
  turned_answer (Register s) t v readiness token turn l action ok h = ignored_answer turn.answer action ok h.1
  turned_answer (Disable s b) t v readiness token turn l action ok h = ignored_answer turn.answer action ok h.1
  turned_answer (Remove s b) t v readiness token turn l action ok h = ignored_answer turn.answer action ok h.1
  turned_answer (Replace new old b) t v readiness token turn l action ok h =
      ignored_answer turn.answer action ok h.1
  turned_answer Empty t v readiness token turn l action ok h = ignored_answer turn.answer action ok h.1

  pub always_marked : (s t : State S) (v : PollView P) (deed : Deed (Heard E M T Cause)) (l : List (PollStep P))
      → IsMarked registered s → Succeeds deed → Moves m s v deed l t → IsMarked registered t
  always_marked s t v (Registered f a g) l is ok h = registered_marked s t v f g a l is ok h
  always_marked s t v (Reregistered f a g) l is ok h = reregistered_marked s t v f g a l is ok h
  always_marked s t v (Unregistered a) l is ok h = unregistered_marked s t v a l is ok h
  always_marked s t v (Turned readiness token turn) l is ok h =
      turned_marked s t v readiness token turn l ok.0 is ok.1 h
  always_marked s t v (Slept gs a) l is ok h = rw h.2 is
  always_marked s t v (Noticed es) l is ok h = rw h.1 is

module _ {S : Type 0} (registered : S → Bool) where
  pub removed_marked : (state : State S) → IsMarked registered state → IsMarked registered (removed_from state)
  removed_marked (Keep s b) is = is
  removed_marked (Register s) is = is
  removed_marked (Disable s b) is = is
  removed_marked (Remove s b) is = is
  removed_marked (Replace new old b) is = is.0
  removed_marked Empty is = tt

  pub replaced_marked : (n : S) (state : State S) → registered n ≡ false → IsMarked registered state
      → IsMarked registered (replaced_by n state)
  replaced_marked n (Keep s b) fresh is = (is, fresh)
  replaced_marked n (Register s) fresh is = (is, fresh)
  replaced_marked n (Disable s b) fresh is = (is, fresh)
  replaced_marked n (Remove s b) fresh is = (is, fresh)
  replaced_marked n (Replace new old b) fresh is = (is.0, fresh)
  replaced_marked n Empty fresh is = tt
