-- What a source of a ping and two timers did, from what its parts did.
use Rattle.std.proofs.Common.{◌≡◌, ◌∙◌, ap, ℕ, List, [], ◌∷◌, ◌++◌, Option, None, Some, Ok, Err, refl}
use Rattle.std.proofs.Common.{Result, IsErr, inl, inr}
use Rattle.calloop_slots.specs.declared.error.Error.{Error}
use Rattle.calloop_slots.specs.declared.token.TokenFactory.{TokenFactory}
use Rattle.calloop_slots.specs.declared.wheel.Instant.{Instant}
use Rattle.calloop_sources.specs.declared.timer.Timer.{Timer}
use Rattle.calloop_sources.specs.sources.Deeds.{Registered, Reregistered}
use Rattle.calloop_sources.specs.Timers.{Armed}
use Rattle.calloop_wake.specs.declared.Tally.{Tally}
use Rattle.calloop_ends.specs.cell.CellSources.{RefusedCell, AlreadyRegistered, NoToken, NoPlace, RefusedAnew, NotRegistered, NoTokenAnew, NoPlaceAnew}
use Rattle.calloop_poll.specs.sys.Pollers.{Outside}
use Rattle.calloop_poll.specs.sys.Polls.{PollView, PollStep, AllStepped}
use Rattle.calloop_slots.specs.declared.token.Token.{Token}
use Rattle.calloop_poll.specs.declared.sys.Readiness.{Readiness}
use Rattle.calloop_sources.specs.declared.sources.source.PostAction.TheVariants.{Continue}
use Rattle.calloop_sources.specs.sources.Calls.{CallbackCall, Went}
use Rattle.calloop_sources.specs.sources.Deeds.{Deed, Turned, new_heard}
use Rattle.calloop_sources.specs.sources.Meanings.{Meaning, Does}
use Rattle.calloop_sources.specs.Timers.{timer_meaning}
use Rattle.calloop_poll.proofs.Stepping.{stepped-append}
use Rattle.calloop_ends.specs.ping.Pings.{ping_meaning}
use Rattle.calloop_test_sources.specs.Trios.{IsAlike, MayStop, MayDo, AsksParts, OfTrio, OfBell, OfTimer, calls_of, after_calls, part_heard, trio_meaning}
use Rattle.calloop_test_sources.specs.declared.source.Broken.{Broken}
use Rattle.calloop_test_sources.specs.declared.trio.Part.{Part}
use Rattle.calloop_test_sources.specs.declared.trio.Trio.{Trio}

-- what a part did in a call of the whole, by steps that are possible
pub record DidPart {S P U : Type 0} (O : Outside P) (whole : Deed OfTrio) (m : Meaning S P U) (s : S) (v : PollView P) (t : S)
    (w : PollView P) : Type 0 where
  pub deed : Option (Deed U)
  pub steps : List (PollStep P)
  pub may : MayDo whole m s v deed steps t
  pub stepped : AllStepped O v steps w

abbrev pub reached : {S P U : Type 0} (O : Outside P) (whole : Deed OfTrio) (m : Meaning S P U) (s t : S) (v w : PollView P) (deed : Deed U)
    → IsAlike whole deed → Does O m s v deed t w → DidPart O whole m s v t w
reached O whole m s t v w deed alike h = record { deed = Some deed; steps = h.0; may = (alike, h.1); stepped = h.2 }

abbrev pub unreached : {S P U : Type 0} (O : Outside P) (whole : Deed OfTrio) (m : Meaning S P U) (s : S) (v : PollView P) → MayStop whole
    → DidPart O whole m s v s v
unreached O whole m s v may = record { deed = None; steps = []; may = (may, refl, refl); stepped = (tt, refl) }

abbrev pub asked : {P R : Type 0} (O : Outside P) (whole : Deed OfTrio) (s t : Trio R) (v u w x : PollView P)
    → DidPart O whole ping_meaning s.bell v t.bell u → DidPart O whole timer_meaning s.first u t.first w
    → DidPart O whole timer_meaning s.second w t.second x
    → (steps : List (PollStep P)) × AsksParts s v whole steps t × AllStepped O v steps x
asked O whole s t v u w x b f g = (
  b.steps ++ (f.steps ++ g.steps),
  record {
    bell_deed = b.deed;
    first_deed = f.deed;
    second_deed = g.deed;
    bell_steps = b.steps;
    first_steps = f.steps;
    second_steps = g.steps;
    steps_are = refl;
    bell = b.may;
    first = rw (← b.stepped.1) f.may;
    second = rw (← b.stepped.1, ← f.stepped.1) g.may;
  },
  stepped-append O v u x b.steps (f.steps ++ g.steps) b.stepped (stepped-append O u w x f.steps g.steps f.stepped g.stepped),
)

-- what a callback that notes its event has noted after these calls
pub noted : {N E M T X Q : Type 0} (event : N → Option E) (reaches : Q → Q → Type 0) (s t : N) (x y : X) (q r : Q) (cs : List (CallbackCall E M T))
    → Went (λ s e m x q a t n y r. event t ≡ Some e) reaches s x q cs t y r → event t ≡ after_calls (event s) cs
noted event reaches s t x y q r [] h = ap event h.0
noted event reaches s t x y q r (c ∷ cs) h =
    noted event reaches h.0 t h.1 y h.2 r cs h.5 ∙ ap (λ o. after_calls o cs) h.3

pub failed : {P R : Type 0} (O : Outside P) (readiness : Readiness) (token : Token) (cause : Broken) (s t : Trio R)
    (v u w x : PollView P)
    → DidPart O (Turned readiness token (new_heard [] (Err cause))) ping_meaning s.bell v t.bell u
    → DidPart O (Turned readiness token (new_heard [] (Err cause))) timer_meaning s.first u t.first w
    → DidPart O (Turned readiness token (new_heard [] (Err cause))) timer_meaning s.second w t.second x
    → Does O trio_meaning s v (Turned readiness token (new_heard [] (Err cause))) t x
failed O readiness token cause s t v u w x b f g =
    let did = asked O (Turned readiness token (new_heard [] (Err cause))) s t v u w x b f g in
    (did.0, (did.1, refl), did.2)

pub served : {P R : Type 0} (O : Outside P) (readiness : Readiness) (token : Token) (b : OfBell) (f g : OfTimer) (s t : Trio R)
    (v u w x : PollView P) (part : Option Part)
    → Does O ping_meaning s.bell v (Turned readiness token b) t.bell u
    → Does O timer_meaning s.first u (Turned readiness token f) t.first w
    → Does O timer_meaning s.second w (Turned readiness token g) t.second x
    → part ≡ part_heard (after_calls None b.calls) (after_calls None f.calls) (after_calls None g.calls)
    → Does O trio_meaning s v (Turned readiness token (new_heard (calls_of part) (Ok Continue))) t x
served O readiness token b f g s t v u w x part bell first second is =
    let whole : Deed OfTrio = Turned readiness token (new_heard (calls_of part) (Ok Continue)) in
    let did = asked O whole s t v u w x
    (reached O whole ping_meaning s.bell t.bell v u (Turned readiness token b) (refl, refl) bell)
    (reached O whole timer_meaning s.first t.first u w (Turned readiness token f) (refl, refl) first)
    (reached O whole timer_meaning s.second t.second w x (Turned readiness token g) (refl, refl) second) in
    (did.0, (did.1, (ap calls_of is, refl)), did.2)

-- Of the factory that is passed on from part to part.

abbrev Passed : TokenFactory → TokenFactory → Type 0
Passed f g = g.registration ≡ f.registration

same_registration : (f g h : TokenFactory) → g ≡ h → Passed f h → Passed f g
same_registration f g h is same = ap (λ x. x.registration) is ∙ same

refused_ping : (own : Option ℕ) (f g : TokenFactory) (e : Error) → RefusedCell own f e g → Passed f g
refused_ping own f g e (AlreadyRegistered a b is) = same_registration f g f is refl
refused_ping own f g e (NoToken a b c is) = same_registration f g f is refl
refused_ping own f g e (NoPlace a b is) = ap (λ x. x.registration) is

refused_anew : (own : Option ℕ) (f g : TokenFactory) (e : Error) → RefusedAnew own f e g → Passed f g
refused_anew own f g e (NotRegistered a b is) = same_registration f g f is refl
refused_anew own f g e (NoTokenAnew a b c is) = same_registration f g f is refl
refused_anew own f g e (NoPlaceAnew a b c is) = ap (λ x. x.registration) is

pub bell_passes : {P : Type 0} (s t : Tally) (v : PollView P) (f g : TokenFactory) (a : Result (Unit {0}) Error) (l : List (PollStep P))
    → ping_meaning.does s v (Registered f a g) l t → Passed f g
bell_passes s t v f g (Ok u) l h = ap (λ x. x.registration) h.0.3
bell_passes s t v f g (Err e) l h = refused_ping s.key f g e h.0.2

pub bell_passes_anew : {P : Type 0} (s t : Tally) (v : PollView P) (f g : TokenFactory) (a : Result (Unit {0}) Error) (l : List (PollStep P))
    → ping_meaning.does s v (Reregistered f a g) l t → Passed f g
bell_passes_anew s t v f g (Ok u) l h = ap (λ x. x.registration) h.0.3
bell_passes_anew s t v f g (Err e) l h = refused_anew s.key f g e h.0.2

armed_passes : {P : Type 0} (deadline : Option Instant) (next : ℕ) (f g : TokenFactory) (a : Result (Unit {0}) Error) (l : List (PollStep P)) (t : Timer)
    → Armed deadline next f a l t g → Passed f g
armed_passes None next f g a l t h = ap (λ x. x.registration) h.3
armed_passes (Some at) next f g (Ok u) l t h = ap (λ x. x.registration) h.2
armed_passes (Some at) next f g (Err e) l t h = elim h.2 [ inl x ↦ ap (λ y. y.registration) x.2 | inr x ↦ ap (λ y. y.registration) x.1 ]

pub timer_passes : {P : Type 0} (s t : Timer) (v : PollView P) (f g : TokenFactory) (a : Result (Unit {0}) Error) (l : List (PollStep P))
    → timer_meaning.does s v (Registered f a g) l t → Passed f g
timer_passes s t v f g a l h = armed_passes s.deadline v.deadlines.next f g a h.0 t h.2

pub timer_passes_anew : {P : Type 0} (s t : Timer) (v : PollView P) (f g : TokenFactory) (a : Result (Unit {0}) Error) (l : List (PollStep P))
    → timer_meaning.does s v (Reregistered f a g) l t → Passed f g
timer_passes_anew s t v f g a l h = armed_passes s.deadline v.deadlines.next f g a h.0 t h.2

-- a call that fails may stop before any of its parts is called
pub stops : (f g : TokenFactory) (answer : Result (Unit {0}) Error) → IsErr answer → MayStop {T = OfTrio} (Registered f answer g)
stops f g (Ok u) h = cc
stops f g (Err e) h = tt

pub not_done : (answer part : Result (Unit {0}) Error) → IsErr answer → answer ≡ Ok tt → part ≡ Ok tt
not_done (Ok u) part h e = cc
not_done (Err e') part h e = cc
