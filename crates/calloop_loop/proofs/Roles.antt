-- What the calls of a handle see in a slot is there.
use Rattle.std.proofs.Common.{◌≡◌, ◌↔◌, ◌∙◌, refl, sym, ap, subst, IfOk, Result, Err}
use Rattle.calloop_slots.specs.declared.error.Error.{Error}
use Rattle.std.specs.Prelude.{Bool, true, false, List, Option, Some, None, Ok, is_some}
use Rattle.calloop_slots.specs.declared.token.RegistrationToken.{RegistrationToken}
use Rattle.calloop_slots.specs.declared.list.Content.{Content}
use Rattle.calloop_slots.specs.declared.list.Slot.{Slot}
use Rattle.calloop_slots.specs.declared.list.Content.TheVariants.{Vacant, Source, InTurn}
use Rattle.calloop_slots.specs.Slots.{content_at, source_of}
use Rattle.calloop_sources.specs.sources.Deeds.{Lent}
use Rattle.calloop_sources.specs.sources.Meanings.{Meaning}
use Rattle.calloop_loop.specs.Askings.{Asks}
use Rattle.calloop_loop.specs.Machine.{View, Change}
use Rattle.calloop_loop.specs.Roles.{only, when}
use Rattle.calloop_loop.specs.Rules.{LeftIn, RemovedIn}

when_source : {D : Type 0} (b : Bool) (e d : D) → when b e ≡ Source d → Source e ≡ Source d
when_source true e d h = h
when_source false e d h = cc

pub only_source : {D : Type 0} (p : D → Bool) (c : Content D) (d : D) → only p c ≡ Source d → c ≡ Source d
only_source p Vacant d h = cc
only_source p InTurn d h = cc
only_source p (Source e) d h = when_source (p e) e d h

-- a source that is seen there is there
abbrev pub Shows : {D : Type 0} → List (Slot D) → RegistrationToken → Content D → Type 0
Shows {D} slots token c = (d : D) → c ≡ Source d → content_at slots token ≡ Source d

pub only_is : {D : Type 0} (p : D → Bool) (slots : List (Slot D)) (token : RegistrationToken) → Shows slots token (only p (content_at slots token))
only_is p slots token d h = only_source p (content_at slots token) d h

when_seen : {D : Type 0} (b : Bool) (d : D) → true ≡ is_some (source_of (when b d)) → when b d ≡ Source d
when_seen true d h = refl
when_seen false d h = cc

pub seen_there : {D : Type 0} (p : D → Bool) (c : Content D) (d : D) → true ≡ is_some (source_of (only p c)) → c ≡ Source d → only p c ≡ Source d
seen_there p Vacant d h is = cc
seen_there p InTurn d h is = cc
seen_there p (Source e) d h is = when_seen (p e) e h ∙ is

unseen_when : {D : Type 0} (b : Bool) (d : D) → false ≡ is_some (source_of (when b d)) → None ≡ source_of (when b d)
unseen_when true d h = cc
unseen_when false d h = refl

pub unseen : {D : Type 0} (p : D → Bool) (c : Content D) → false ≡ is_some (source_of (only p c)) → None ≡ source_of (only p c)
unseen p Vacant h = refl
unseen p InTurn h = refl
unseen p (Source d) h = unseen_when (p d) d h

pub none_seen : {D : Type 0} (p : D → Bool) (c : Content D) → source_of c ≡ None → None ≡ source_of (only p c)
none_seen p Vacant h = refl
none_seen p InTurn h = refl
none_seen p (Source d) h = cc

when_passes : {D : Type 0} (b : Bool) (e d : D) → when b e ≡ Source d → b ≡ true
when_passes true e d h = refl
when_passes false e d h = cc

-- what is seen passes
pub only_passes : {D : Type 0} (p : D → Bool) (c : Content D) (d : D) → only p c ≡ Source d → p d ≡ true
only_passes p Vacant d h = cc
only_passes p InTurn d h = cc
only_passes p (Source e) d h = (let same : e ≡ d = (let s = when_source (p e) e d h in cc) in subst (λ x. p x ≡ true) same (when_passes (p e) e d h))

-- an adapter that is given back leaves as one that is removed
pub left_removed : {D I P X : Type 0} (M : Meaning D P (Lent X (Asks D I))) (token : RegistrationToken) (c : Content D) (v : View D I P) (cs : List (Change D I P)) → LeftIn M token c v cs → (answer : Option D) × RemovedIn M token c answer v cs
left_removed M token Vacant v cs h = absurd h
left_removed M token InTurn v cs h = absurd h
left_removed M token (Source d) v cs h = (Some h.0, (h.0, Ok tt, false, h.1, h.2, refl, h.3))

-- what is lent there is seen there
pub lent_there : {D B : Type 0} (p : D → Bool) (c : Content D) (answer : Result B Error) (lent : B → D) → true ≡ is_some (source_of (only p c)) → IfOk answer (λ b. c ≡ Source (lent b)) → IfOk answer (λ b. only p c ≡ Source (lent b))
lent_there p c (Ok b) lent seen there = seen_there p c (lent b) seen there
lent_there p c (Err e) lent seen there = tt

-- and fails there for the same reason
pub refused_there : {D : Type 0} (p : D → Bool) (c : Content D) (R : Type 0) → true ≡ is_some (source_of (only p c)) → R ↔ (source_of c ≡ None) → R ↔ (source_of (only p c) ≡ None)
refused_there p c R seen h = (λ r. sym (none_seen p c (h.0 r)), λ none. (let bad : true ≡ false = seen ∙ ap (λ o. is_some o) none in cc))
