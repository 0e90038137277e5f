-- A transient source keeps the laws if the inner source does. The impl cites these proofs, so they are here.
use Rattle.std.proofs.Common.{refl}
use Rattle.std.proofs.Common.{◌≡◌, inl, inr, ℕ, ◌++◌, [], List, Bool, true, false, Result, Ok, Err}
use Rattle.calloop_slots.specs.declared.error.Error.{Error}
use Rattle.calloop_slots.specs.declared.token.Token.{Token}
use Rattle.calloop_slots.specs.declared.token.TokenFactory.{TokenFactory}
use Rattle.calloop_slots.specs.declared.token.RegistrationToken.{RegistrationToken}
use Rattle.calloop_poll.specs.declared.sys.Readiness.{Readiness}
use Rattle.calloop_sources.specs.declared.sources.source.PostAction.{PostAction}
use Rattle.calloop_sources.specs.declared.sources.source.PostAction.TheVariants.{
  Continue,
  Reregister,
  Disable as DisableIt,
  Remove as RemoveIt,
}
use Rattle.calloop_sources.specs.declared.transient.State.{State}
use Rattle.calloop_sources.specs.declared.transient.State.TheVariants.{Keep, Register, Disable, Remove, Replace, Empty}
use Rattle.calloop_poll.specs.sys.Polls.{PollView, PollStep, polls_after}
use Rattle.calloop_sources.specs.sources.Deeds.{Deed, Registered, Reregistered, Unregistered, Turned, Slept, Noticed, Heard, new_heard}
use Rattle.calloop_sources.specs.sources.Holdings.{Holding, holds_none, IsBelow, Keeps}
use Rattle.calloop_poll.specs.sys.Keys.{IsKeyOf, IsFactoryOf, AllActFor}
use Rattle.calloop_sources.specs.sources.Meanings.{Meaning, IsKeeping, KeepsCounters, KeepsHome, IsAtHome, BeginsIn}
use Rattle.calloop_sources.specs.sources.Lawful.{keeping_seen, silent}
use Rattle.calloop_sources.specs.sources.Beside.{
  IsApart,
  beside,
  within_itself,
  within_right,
  keeps_less,
  keeps_then,
  apart_sym,
  next_after,
  next_is,
  below_both,
  left_moves,
  right_moves,
  acts_then,
}
use Rattle.calloop_sources.specs.Transients.{Rests, Enters, EntersAnew, LeavesState, ThenEnters, Replaces, RegisteredAs, ReregisteredAs, UnregisteredAs, KeptBy, Ignores, TurnedAs, state_holds, state_keys, state_fits, state_meaning, transient_meaning}

module _ {S P E M T Cause : Type 0} (m : Meaning S P (Heard E M T Cause)) (k : IsKeeping m) where
  -- a state that has at most what this source has
  pub record IsOf (x : S) (state : State S) : Type 0 where
    pub fits : m.fits x → state_fits m state
    pub holds : (h : ℕ → Holding) (next : ℕ) (l : List (PollStep P)) → Keeps h next l (m.holds x)
        → Keeps h next l (state_holds m state)
    pub keys : (key : ℕ) → state_keys m state key → m.keys x key

  of_keep : (b : Bool) (x : S) → IsOf x (Keep x b)
  of_keep b x = record { fits = λ h. h; holds = λ h next l kept. kept; keys = λ key h. h }

  of_register : (x : S) → IsOf x (Register x)
  of_register x = record { fits = λ h. h; holds = λ h next l kept. kept; keys = λ key h. h }

  of_disable : (b : Bool) (x : S) → IsOf x (Disable x b)
  of_disable b x = record { fits = λ h. h; holds = λ h next l kept. kept; keys = λ key h. h }

  of_remove : (b : Bool) (x : S) → IsOf x (Remove x b)
  of_remove b x = record { fits = λ h. h; holds = λ h next l kept. kept; keys = λ key h. h }

  of_empty : (x : S) → IsOf x Empty
  of_empty x =
      record {
        fits = λ h. tt;
        holds = λ h next l kept. keeps_less next l h (m.holds x) holds_none (λ c. tt) kept;
        keys = λ key none. absurd none;
      }

  kept_of : (told : Result PostAction Cause) (x : S) (b : Bool) (a : Result PostAction Cause) (t : State S)
      → KeptBy told x b a t → IsOf x t
  kept_of (Ok Continue) x b a t h = rw h.1 (of_keep b x)
  kept_of (Ok Reregister) x b a t h = rw h.1 (of_keep b x)
  kept_of (Ok DisableIt) x b a t h = rw h.1 (of_disable b x)
  kept_of (Ok RemoveIt) x b a t h = rw h.1 (of_remove b x)
  kept_of (Err e) x b a t h = rw h.1 (of_keep b x)

  -- Of counters.

  abbrev Counted : (held : ℕ → Holding) → PollView P → List (PollStep P) → State S → Type 0
  Counted held v l t = state_fits m t × Keeps held v.deadlines.next l (state_holds m t)

  did_counted : (s x : S) (t : State S) (v : PollView P) (deed : Deed (Heard E M T Cause)) (l : List (PollStep P))
      → IsOf x t → m.fits s → IsBelow v.deadlines.next (m.holds s) → m.does s v deed l x → Counted (m.holds s) v l t
  did_counted s x t v deed l is fits below d =
      let y = k.counters s x v deed l fits below d in
      (is.fits y.0, is.holds (m.holds s) v.deadlines.next l y.1)

  enters_counted : (stood : S → State S) → ((x : S) → IsOf x (stood x)) → (s : S) (t : State S) (v : PollView P)
      (f g : TokenFactory) (a : Result (Unit {0}) Error) (l : List (PollStep P))
      → m.fits s → IsBelow v.deadlines.next (m.holds s) → Enters m stood s v f a l t g → Counted (m.holds s) v l t
  enters_counted stood is s t v f g (Ok u) l fits below h =
      did_counted s h.0 t v (Registered f (Ok u) g) l (rw h.2 (of_keep true h.0)) fits below h.1
  enters_counted stood is s t v f g (Err e) l fits below h =
      did_counted s h.0 t v (Registered f (Err e) g) l (rw h.2 (is h.0)) fits below h.1

  anew_counted : (b : Bool) (s : S) (t : State S) (v : PollView P) (f g : TokenFactory) (a : Result (Unit {0}) Error)
      (l : List (PollStep P)) → m.fits s → IsBelow v.deadlines.next (m.holds s) → EntersAnew m s b v f a l t g
      → Counted (m.holds s) v l t
  anew_counted b s t v f g (Ok u) l fits below h =
      did_counted s h.0 t v (Reregistered f (Ok u) g) l (rw h.2 (of_keep true h.0)) fits below h.1
  anew_counted b s t v f g (Err e) l fits below h =
      did_counted s h.0 t v (Reregistered f (Err e) g) l (rw h.2 (of_keep b h.0)) fits below h.1

  leaves_counted : (left stood : S → State S) → ((x : S) → IsOf x (left x)) → ((x : S) → IsOf x (stood x))
      → (s : S) (t : State S) (v : PollView P) (a : Result (Unit {0}) Error) (l : List (PollStep P))
      → m.fits s → IsBelow v.deadlines.next (m.holds s) → LeavesState m left stood s v a l t → Counted (m.holds s) v l t
  leaves_counted left stood is is' s t v (Ok u) l fits below h =
      did_counted s h.0 t v (Unregistered (Ok u)) l (rw h.2 (is h.0)) fits below h.1
  leaves_counted left stood is is' s t v (Err e) l fits below h =
      did_counted s h.0 t v (Unregistered (Err e)) l (rw h.2 (is' h.0)) fits below h.1

  rests_counted : (s : S) (state t : State S) (v : PollView P) (a : Result (Unit {0}) Error) (l : List (PollStep P))
      → IsOf s state → m.fits s → Rests m state a l t → Counted (m.holds s) v l t
  rests_counted s state t v a l is fits h =
      rw (h.1, h.2)
      (is.fits fits, is.holds (m.holds s) v.deadlines.next [] (λ c. within_itself (m.holds s c)))

  -- for a new source beside the old one
  abbrev Beside : (old new : S) → ℕ → Holding
  Beside old new = beside (m.holds old) (m.holds new)

  beside_counted : (new old : S) (t : State S) (v : PollView P) (f g : TokenFactory) (a : Result (Unit {0}) Error)
      (l : List (PollStep P))
      → m.fits old → m.fits new → IsApart (m.holds old) (m.holds new) → IsBelow v.deadlines.next (Beside old new)
      → Enters m (λ n. Replace n old false) new v f a l t g → Counted (Beside old new) v l t
  beside_counted new old t v f g (Ok u) l fits_old fits_new apart below h =
      let y = right_moves m k.counters new h.0 (m.holds old) v (Registered f (Ok u) g) l fits_new apart below h.1 in
      rw h.2 (
        y.0,
        keeps_less v.deadlines.next l (Beside old new) (Beside old h.0) (m.holds h.0)
            (λ c. within_right (m.holds old c) (m.holds h.0 c) (apart_sym (m.holds h.0) (m.holds old) y.1.apart c))
            y.1.keeps,
      )
  beside_counted new old t v f g (Err e) l fits_old fits_new apart below h =
      let y = right_moves m k.counters new h.0 (m.holds old) v (Registered f (Err e) g) l fits_new apart below h.1 in
      rw h.2 ((fits_old, y.0, apart_sym (m.holds h.0) (m.holds old) y.1.apart), y.1.keeps)

  then_counted : (told : Result (Unit {0}) Error) (new old : S) (t : State S) (v : PollView P) (f g : TokenFactory)
      (a : Result (Unit {0}) Error) (l : List (PollStep P))
      → m.fits old → m.fits new → IsApart (m.holds old) (m.holds new) → IsBelow v.deadlines.next (Beside old new)
      → ThenEnters m told new old v f a l t g → Counted (Beside old new) v l t
  then_counted (Ok u) new old t v f g a l fits_old fits_new apart below h =
      beside_counted new old t v f g a l fits_old fits_new apart below h
  then_counted (Err e) new old t v f g a l fits_old fits_new apart below h =
      rw (h.1, h.2) ((fits_old, fits_new, apart), λ c. within_itself (Beside old new c))

  replaces_counted : (new old : S) (t : State S) (v : PollView P) (f g : TokenFactory) (a : Result (Unit {0}) Error)
      (l : List (PollStep P))
      → state_fits m (Replace new old true) → IsBelow v.deadlines.next (Beside old new)
      → Replaces m new old v f a l t g → Counted (Beside old new) v l t
  replaces_counted new old t v f g a l fits below h =
      let next = v.deadlines.next in
      let w = polls_after v h.first in
      let x = left_moves m k.counters old h.left (m.holds new) v (Unregistered h.told) h.first fits.0 fits.2 below
      h.leaves in
      let at : w.deadlines.next ≡ next_after next h.first = next_is v h.first in
      let both = below_both (next_after next h.first) (m.holds h.left) (m.holds new) x.1.below x.1.other in
      let below' : IsBelow w.deadlines.next (Beside h.left new) = rw at both in
      let y = then_counted h.told new h.left t w f g a h.more x.0 fits.1 x.1.apart below' h.then in
      let kept : Keeps (Beside h.left new) (next_after next h.first) h.more (state_holds m t) = rw at at y.1 in (
        y.0,
        rw h.steps_are (
            keeps_then next h.first h.more (Beside old new) (Beside h.left new) (state_holds m t) x.1.keeps kept),
      )

  -- what the state had, it had before
  left_new : (old new : S) (next : ℕ) → IsApart (m.holds old) (m.holds new)
      → Keeps {P = P} (Beside old new) next [] (m.holds new)
  left_new old new next apart = λ c. within_right (m.holds old c) (m.holds new c) (apart c)

  registered_counted : (state t : State S) (v : PollView P) (f g : TokenFactory) (a : Result (Unit {0}) Error)
      (l : List (PollStep P)) → state_fits m state → IsBelow v.deadlines.next (state_holds m state)
      → RegisteredAs m state v f a l t g → Counted (state_holds m state) v l t
  registered_counted (Keep s b) t v f g a l fits below h =
      enters_counted (λ x. Keep x b) (of_keep b) s t v f g a l fits below h
  registered_counted (Register s) t v f g a l fits below h =
      enters_counted (λ x. Register x) of_register s t v f g a l fits below h
  registered_counted (Disable s b) t v f g a l fits below h =
      enters_counted (λ x. Disable x b) (of_disable b) s t v f g a l fits below h
  registered_counted (Remove s true) t v f g a l fits below h =
      leaves_counted (λ x. Empty) (λ x. Remove x true) of_empty (of_remove true) s t v a l fits below h.0
  registered_counted (Remove s false) t v f g a l fits below h =
      rests_counted s Empty t v a l (of_empty s) fits h.0
  registered_counted (Replace new old true) t v f g a l fits below h =
      replaces_counted new old t v f g a l fits below h
  registered_counted (Replace new old false) t v f g a l fits below h =
      beside_counted new old t v f g a l fits.0 fits.1 fits.2 below h
  registered_counted Empty t v f g a l fits below h = rw (h.0.1, h.0.2) (tt, λ c. tt)

  reregistered_counted : (state t : State S) (v : PollView P) (f g : TokenFactory) (a : Result (Unit {0}) Error)
      (l : List (PollStep P)) → state_fits m state → IsBelow v.deadlines.next (state_holds m state)
      → ReregisteredAs m state v f a l t g → Counted (state_holds m state) v l t
  reregistered_counted (Keep s b) t v f g a l fits below h = anew_counted b s t v f g a l fits below h
  reregistered_counted (Register s) t v f g a l fits below h =
      registered_counted (Register s) t v f g a l fits below h
  reregistered_counted (Disable s true) t v f g a l fits below h =
      leaves_counted (λ x. Disable x false) (λ x. Disable x true) (of_disable false) (of_disable true)
      s t v a l fits below h.0
  reregistered_counted (Disable s false) t v f g a l fits below h =
      rests_counted s (Disable s false) t v a l (of_disable false s) fits h.0
  reregistered_counted (Remove s b) t v f g a l fits below h =
      registered_counted (Remove s b) t v f g a l fits below h
  reregistered_counted (Replace new old b) t v f g a l fits below h =
      registered_counted (Replace new old b) t v f g a l fits below h
  reregistered_counted Empty t v f g a l fits below h = registered_counted Empty t v f g a l fits below h

  unregistered_counted : (state t : State S) (v : PollView P) (a : Result (Unit {0}) Error)
      (l : List (PollStep P)) → state_fits m state → IsBelow v.deadlines.next (state_holds m state)
      → UnregisteredAs m state v a l t → Counted (state_holds m state) v l t
  unregistered_counted (Keep s true) t v a l fits below h =
      leaves_counted (λ x. Keep x false) (λ x. Keep x true) (of_keep false) (of_keep true) s t v a l fits below h
  unregistered_counted (Keep s false) t v a l fits below h =
      rests_counted s (Keep s false) t v a l (of_keep false s) fits h
  unregistered_counted (Register s) t v a l fits below h =
      rests_counted s (Register s) t v a l (of_register s) fits h
  unregistered_counted (Disable s true) t v a l fits below h =
      leaves_counted (λ x. Disable x false) (λ x. Disable x true) (of_disable false) (of_disable true)
      s t v a l fits below h
  unregistered_counted (Disable s false) t v a l fits below h =
      rests_counted s (Disable s false) t v a l (of_disable false s) fits h
  unregistered_counted (Remove s true) t v a l fits below h =
      leaves_counted (λ x. Empty) (λ x. Remove x true) of_empty (of_remove true) s t v a l fits below h
  unregistered_counted (Remove s false) t v a l fits below h = rests_counted s Empty t v a l (of_empty s) fits h
  unregistered_counted (Replace new old true) t v (Ok u) l fits below h =
      let x = left_moves m k.counters old h.0 (m.holds new) v (Unregistered (Ok u)) l fits.0 fits.2 below h.1 in
      rw h.2 (
        fits.1,
        keeps_less v.deadlines.next l (Beside old new) (Beside h.0 new) (m.holds new)
            (λ c. within_right (m.holds h.0 c) (m.holds new c) (x.1.apart c)) x.1.keeps,
      )
  unregistered_counted (Replace new old true) t v (Err e) l fits below h =
      let x = left_moves m k.counters old h.0 (m.holds new) v (Unregistered (Err e)) l fits.0 fits.2 below h.1 in
      rw h.2 ((x.0, fits.1, x.1.apart), x.1.keeps)
  unregistered_counted (Replace new old false) t v a l fits below h =
      rw (h.1, h.2) (fits.1, left_new old new v.deadlines.next fits.2)
  unregistered_counted Empty t v a l fits below h = rw (h.1, h.2) (tt, λ c. tt)

  ignores_counted : (state t : State S) (v : PollView P) (turn : Heard E M T Cause) (l : List (PollStep P))
      → state_fits m state → Ignores m state turn l t → Counted (state_holds m state) v l t
  ignores_counted state t v turn l fits h = rw (h.2, h.3) (fits, λ c. within_itself (state_holds m state c))

  turned_counted : (state t : State S) (v : PollView P) (readiness : Readiness) (token : Token)
      (turn : Heard E M T Cause) (l : List (PollStep P))
      → state_fits m state → IsBelow v.deadlines.next (state_holds m state)
      → TurnedAs m state v readiness token turn l t → Counted (state_holds m state) v l t
  turned_counted (Keep s b) t v readiness token turn l fits below h =
      did_counted s h.1 t v (Turned readiness token (new_heard turn.calls h.0)) l (kept_of h.0 h.1 b turn.answer t h.3)
      fits below h.2
  turned_counted (Register s) t v readiness token turn l fits below h =
      ignores_counted (Register s) t v turn l fits h
  turned_counted (Disable s b) t v readiness token turn l fits below h =
      ignores_counted (Disable s b) t v turn l fits h
  turned_counted (Remove s b) t v readiness token turn l fits below h =
      ignores_counted (Remove s b) t v turn l fits h
  turned_counted (Replace new old b) t v readiness token turn l fits below h =
      ignores_counted (Replace new old b) t v turn l fits h
  turned_counted Empty t v readiness token turn l fits below h = ignores_counted Empty t v turn l fits h

  state_counts : KeepsCounters (state_meaning m)
  state_counts s t v (Registered f a g) l fits below h = registered_counted s t v f g a l fits below h
  state_counts s t v (Reregistered f a g) l fits below h = reregistered_counted s t v f g a l fits below h
  state_counts s t v (Unregistered a) l fits below h = unregistered_counted s t v a l fits below h
  state_counts s t v (Turned readiness token turn) l fits below h =
      turned_counted s t v readiness token turn l fits below h
  state_counts s t v (Slept gs a) l fits below h = rw (h.1, h.2) (fits, λ c. within_itself (state_holds m s c))
  state_counts s t v (Noticed es) l fits below h = rw (h.0, h.1) (fits, λ c. within_itself (state_holds m s c))

  -- Of keys.

  module _ (r : RegistrationToken) where
    abbrev Home : S → Type 0
    Home s = IsAtHome m r s

    abbrev HomeAs : State S → Type 0
    HomeAs state = (key : ℕ) → state_keys m state key → IsKeyOf r key

    of_home : (x : S) (t : State S) → IsOf x t → Home x → HomeAs t
    of_home x t is home key held = home key (is.keys key held)

    enters_home : (stood : S → State S) → ((x : S) → IsOf x (stood x)) → (s : S) (t : State S) (v : PollView P)
        (f g : TokenFactory) (a : Result (Unit {0}) Error) (l : List (PollStep P))
        → BeginsIn {T = Heard E M T Cause} (Home s) r (Registered f a g) → Enters m stood s v f a l t g
        → HomeAs t × (Home s → AllActFor r l)
    enters_home stood is s t v f g (Ok u) l begins h =
        let x = k.home r s h.0 v (Registered f (Ok u) g) l begins h.1 in (rw h.2 x.0, x.1)
    enters_home stood is s t v f g (Err e) l begins h =
        let x = k.home r s h.0 v (Registered f (Err e) g) l begins h.1 in
        (rw h.2 (of_home h.0 (stood h.0) (is h.0) x.0), x.1)

    anew_home : (b : Bool) (s : S) (t : State S) (v : PollView P) (f g : TokenFactory) (a : Result (Unit {0}) Error)
        (l : List (PollStep P)) → Home s × IsFactoryOf r f → EntersAnew m s b v f a l t g
        → HomeAs t × AllActFor r l
    anew_home b s t v f g (Ok u) l begins h =
        let x = k.home r s h.0 v (Reregistered f (Ok u) g) l begins h.1 in (rw h.2 x.0, x.1 begins.0)
    anew_home b s t v f g (Err e) l begins h =
        let x = k.home r s h.0 v (Reregistered f (Err e) g) l begins h.1 in (rw h.2 x.0, x.1 begins.0)

    leaves_home : (left stood : S → State S) → ((x : S) → IsOf x (left x)) → ((x : S) → IsOf x (stood x))
        → (s : S) (t : State S) (v : PollView P) (a : Result (Unit {0}) Error) (l : List (PollStep P))
        → Home s → LeavesState m left stood s v a l t → HomeAs t × AllActFor r l
    leaves_home left stood is is' s t v (Ok u) l home h =
        let x = k.home r s h.0 v (Unregistered (Ok u)) l home h.1 in
        (rw h.2 (of_home h.0 (left h.0) (is h.0) x.0), x.1 home)
    leaves_home left stood is is' s t v (Err e) l home h =
        let x = k.home r s h.0 v (Unregistered (Err e)) l home h.1 in
        (rw h.2 (of_home h.0 (stood h.0) (is' h.0) x.0), x.1 home)

    rests_home : (state t : State S) (a : Result (Unit {0}) Error) (l : List (PollStep P)) → HomeAs state
        → Rests m state a l t → HomeAs t × AllActFor r l
    rests_home state t a l home h = rw (h.1, h.2) (home, tt)

    abbrev BothHome : (new old : S) → Type 0
    BothHome new old = Home old × Home new

    both_home : (new old : S) (b : Bool) → HomeAs (Replace new old b) → BothHome new old
    both_home new old b home = (λ key held. home key (inl held), λ key held. home key (inr held))

    home_both : (new old : S) (b : Bool) → BothHome new old → HomeAs (Replace new old b)
    home_both new old b home key held = elim held [ inl o ↦ home.0 key o | inr n ↦ home.1 key n ]

    beside_home : (new old : S) (t : State S) (v : PollView P) (f g : TokenFactory) (a : Result (Unit {0}) Error)
        (l : List (PollStep P)) → BeginsIn {T = Heard E M T Cause} (BothHome new old) r (Registered f a g)
        → Enters m (λ n. Replace n old false) new v f a l t g → HomeAs t × (BothHome new old → AllActFor r l)
    beside_home new old t v f g (Ok u) l begins h =
        let x = k.home r new h.0 v (Registered f (Ok u) g) l begins h.1 in (rw h.2 x.0, λ both. x.1 both.1)
    beside_home new old t v f g (Err e) l begins h =
        let x = k.home r new h.0 v (Registered f (Err e) g) l (begins.0.1, begins.1) h.1 in
        (rw h.2 (home_both h.0 old false (begins.0.0, x.0)), λ both. x.1 both.1)

    then_home : (told a : Result (Unit {0}) Error) (new old left : S) (t : State S) (v : PollView P)
        (f g : TokenFactory) (first more : List (PollStep P))
        → BeginsIn {T = Heard E M T Cause} (BothHome new old) r (Registered f a g)
        → m.does old v (Unregistered told) first left → ThenEnters m told new left (polls_after v first) f a more t g
        → HomeAs t × (BothHome new old → AllActFor r (first ++ more))
    then_home (Ok u) (Ok w) new old left t v f g first more begins d h =
        let y = beside_home new left t (polls_after v first) f g (Ok w) more begins h in (
          y.0,
          λ both.
              let x = k.home r old left v (Unregistered (Ok u)) first both.0 d in
              acts_then r first more (x.1 both.0) (y.1 (x.0, both.1)),
        )
    then_home (Ok u) (Err e) new old left t v f g first more begins d h =
        let x = k.home r old left v (Unregistered (Ok u)) first begins.0.0 d in
        let y = beside_home new left t (polls_after v first) f g (Err e) more ((x.0, begins.0.1), begins.1) h in
        (y.0, λ both. acts_then r first more (x.1 both.0) (y.1 (x.0, both.1)))
    then_home (Err e) (Ok w) new old left t v f g first more begins d h = (let no = h.0 in cc)
    then_home (Err e) (Err e') new old left t v f g first more begins d h =
        let x = k.home r old left v (Unregistered (Err e)) first begins.0.0 d in (
          rw h.2 (home_both new left true (x.0, begins.0.1)),
          λ both. rw h.1 (acts_then r first [] (x.1 both.0) tt),
        )

    begins_both : (new old : S) (b : Bool) (f g : TokenFactory) (a : Result (Unit {0}) Error)
        → BeginsIn {T = Heard E M T Cause} (HomeAs (Replace new old b)) r (Registered f a g)
        → BeginsIn {T = Heard E M T Cause} (BothHome new old) r (Registered f a g)
    begins_both new old b f g (Ok u) begins = begins
    begins_both new old b f g (Err e) begins = (both_home new old b begins.0, begins.1)

    registered_home : (state t : State S) (v : PollView P) (f g : TokenFactory) (a : Result (Unit {0}) Error)
        (l : List (PollStep P)) → BeginsIn {T = Heard E M T Cause} (HomeAs state) r (Registered f a g)
        → RegisteredAs m state v f a l t g → HomeAs t × (HomeAs state → AllActFor r l)
    registered_home (Keep s b) t v f g a l begins h = enters_home (λ x. Keep x b) (of_keep b) s t v f g a l begins h
    registered_home (Register s) t v f g a l begins h =
        enters_home (λ x. Register x) of_register s t v f g a l begins h
    registered_home (Disable s b) t v f g a l begins h =
        enters_home (λ x. Disable x b) (of_disable b) s t v f g a l begins h
    registered_home (Remove s true) t v f g (Ok u) l begins h = (
      rw h.0.2 (λ key none. absurd none),
      λ home. (leaves_home (λ x. Empty) (λ x. Remove x true) of_empty (of_remove true) s t v (Ok u) l home h.0).1,
    )
    registered_home (Remove s true) t v f g (Err e) l begins h =
        let x = leaves_home (λ x. Empty) (λ x. Remove x true) of_empty (of_remove true) s t v (Err e) l begins.0 h.0 in
        (x.0, λ home. x.1)
    registered_home (Remove s false) t v f g a l begins h =
        let x = rests_home Empty t a l (λ key none. absurd none) h.0 in (x.0, λ home. x.1)
    registered_home (Replace new old true) t v f g a l begins h =
        let x = then_home h.told a new old h.left t v f g h.first h.more (begins_both new old true f g a begins)
        h.leaves h.then in
        (x.0, λ home. rw h.steps_are (x.1 (both_home new old true home)))
    registered_home (Replace new old false) t v f g a l begins h =
        let x = beside_home new old t v f g a l (begins_both new old false f g a begins) h in
        (x.0, λ home. x.1 (both_home new old false home))
    registered_home Empty t v f g a l begins h =
        let x = rests_home Empty t a l (λ key none. absurd none) h.0 in (x.0, λ home. x.1)

    first_begins : (home : Type 0) (f g : TokenFactory) (a : Result (Unit {0}) Error) → home × IsFactoryOf r f
        → BeginsIn {T = Heard E M T Cause} home r (Registered f a g)
    first_begins home f g (Ok u) begins = begins.1
    first_begins home f g (Err e) begins = begins

    pub by_registering : (state t : State S) (v : PollView P) (f g : TokenFactory) (a : Result (Unit {0}) Error)
        (l : List (PollStep P)) → HomeAs state × IsFactoryOf r f
        → RegisteredAs m state v f a l t g → HomeAs t × AllActFor r l
    by_registering state t v f g a l begins h =
        let x = registered_home state t v f g a l (first_begins (HomeAs state) f g a begins) h in
        (x.0, x.1 begins.0)

    reregistered_home : (state t : State S) (v : PollView P) (f g : TokenFactory) (a : Result (Unit {0}) Error)
        (l : List (PollStep P)) → HomeAs state × IsFactoryOf r f
        → ReregisteredAs m state v f a l t g → HomeAs t × AllActFor r l
    reregistered_home (Keep s b) t v f g a l begins h = anew_home b s t v f g a l begins h
    reregistered_home (Register s) t v f g a l begins h = by_registering (Register s) t v f g a l begins h
    reregistered_home (Disable s true) t v f g a l begins h =
        leaves_home (λ x. Disable x false) (λ x. Disable x true) (of_disable false) (of_disable true)
        s t v a l begins.0 h.0
    reregistered_home (Disable s false) t v f g a l begins h = rests_home (Disable s false) t a l begins.0 h.0
    reregistered_home (Remove s b) t v f g a l begins h = by_registering (Remove s b) t v f g a l begins h
    reregistered_home (Replace new old b) t v f g a l begins h =
        by_registering (Replace new old b) t v f g a l begins h
    reregistered_home Empty t v f g a l begins h = by_registering Empty t v f g a l begins h

    unregistered_home : (state t : State S) (v : PollView P) (a : Result (Unit {0}) Error)
        (l : List (PollStep P)) → HomeAs state → UnregisteredAs m state v a l t → HomeAs t × AllActFor r l
    unregistered_home (Keep s true) t v a l home h =
        leaves_home (λ x. Keep x false) (λ x. Keep x true) (of_keep false) (of_keep true) s t v a l home h
    unregistered_home (Keep s false) t v a l home h = rests_home (Keep s false) t a l home h
    unregistered_home (Register s) t v a l home h = rests_home (Register s) t a l home h
    unregistered_home (Disable s true) t v a l home h =
        leaves_home (λ x. Disable x false) (λ x. Disable x true) (of_disable false) (of_disable true)
        s t v a l home h
    unregistered_home (Disable s false) t v a l home h = rests_home (Disable s false) t a l home h
    unregistered_home (Remove s true) t v a l home h =
        leaves_home (λ x. Empty) (λ x. Remove x true) of_empty (of_remove true) s t v a l home h
    unregistered_home (Remove s false) t v a l home h = rests_home Empty t a l (λ key none. absurd none) h
    unregistered_home (Replace new old true) t v (Ok u) l home h =
        let both = both_home new old true home in
        let x = k.home r old h.0 v (Unregistered (Ok u)) l both.0 h.1 in (rw h.2 both.1, x.1 both.0)
    unregistered_home (Replace new old true) t v (Err e) l home h =
        let both = both_home new old true home in
        let x = k.home r old h.0 v (Unregistered (Err e)) l both.0 h.1 in
        (rw h.2 (home_both new h.0 true (x.0, both.1)), x.1 both.0)
    unregistered_home (Replace new old false) t v a l home h =
        rests_home (Register new) t a l (λ key held. home key (inr held)) h
    unregistered_home Empty t v a l home h = rests_home Empty t a l (λ key none. absurd none) h

    ignores_home : (state t : State S) (turn : Heard E M T Cause) (l : List (PollStep P))
        → HomeAs state → Ignores m state turn l t → HomeAs t × AllActFor r l
    ignores_home state t turn l home h = rw (h.2, h.3) (home, tt)

    turned_home : (state t : State S) (v : PollView P) (readiness : Readiness) (token : Token)
        (turn : Heard E M T Cause) (l : List (PollStep P)) → HomeAs state
        → TurnedAs m state v readiness token turn l t → HomeAs t × AllActFor r l
    turned_home (Keep s b) t v readiness token turn l home h =
        let x = k.home r s h.1 v (Turned readiness token (new_heard turn.calls h.0)) l home h.2 in
        (of_home h.1 t (kept_of h.0 h.1 b turn.answer t h.3) x.0, x.1 home)
    turned_home (Register s) t v readiness token turn l home h = ignores_home (Register s) t turn l home h
    turned_home (Disable s b) t v readiness token turn l home h = ignores_home (Disable s b) t turn l home h
    turned_home (Remove s b) t v readiness token turn l home h = ignores_home (Remove s b) t turn l home h
    turned_home (Replace new old b) t v readiness token turn l home h =
        ignores_home (Replace new old b) t turn l home h
    turned_home Empty t v readiness token turn l home h = ignores_home Empty t turn l home h

  state_stays : KeepsHome (state_meaning m)
  state_stays r s t v (Registered f (Ok u) g) l begins h = registered_home r s t v f g (Ok u) l begins h
  state_stays r s t v (Registered f (Err e) g) l begins h = registered_home r s t v f g (Err e) l begins h
  state_stays r s t v (Reregistered f a g) l begins h =
      let x = reregistered_home r s t v f g a l begins h in (x.0, λ home. x.1)
  state_stays r s t v (Unregistered a) l begins h =
      let x = unregistered_home r s t v a l begins h in (x.0, λ home. x.1)
  state_stays r s t v (Turned readiness token turn) l begins h =
      let x = turned_home r s t v readiness token turn l begins h in (x.0, λ home. x.1)
  state_stays r s t v (Slept gs a) l begins h = rw (h.1, h.2) (begins, λ home. tt)
  state_stays r s t v (Noticed es) l begins h = rw (h.0, h.1) (begins, λ home. tt)

  pub state_keeps : IsKeeping (state_meaning m)
  state_keeps =
      record {
        counters = state_counts;
        home = state_stays;
        limit = silent (state_meaning m) (λ s. refl) (λ s t v given answer steps h. h.0.0);
      }

  pub transient_keeps : IsKeeping (transient_meaning m)
  transient_keeps = keeping_seen (λ s. s.state) (state_meaning m) state_keeps
