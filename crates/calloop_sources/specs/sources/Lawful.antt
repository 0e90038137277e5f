-- Proofs that the dispatchers of the library meet the laws of `Meanings`. They define nothing; impls cite them, so
-- they are here. A caller's own may cite `other_of_source`, `memory_of_source`, `keeping_still`, `keeping_attentive`.
use Rattle.std.specs.Prelude.{◌≡◌, ◌↔◌, ◌≤◌, ℕ, List, [], ◌∷◌, length, true, false, Result, Ok, Err}
use Rattle.std.proofs.Common.{refl, sym, ap, subst, ◌∙◌, inl, inr, arith}
use Rattle.anyhow.specs.declared.error.Error.{Error as Cause}
use Rattle.calloop_slots.specs.declared.error.Error.{Error}
use Rattle.calloop_slots.specs.declared.error.Error.TheVariants.{
  InvalidToken,
  IoError,
  OtherError,
  OutOfMemory,
  TooManySources,
  TooManyTokens,
  TooManyTimers,
  TooManyTickets,
  OwnTurn,
  NoRendezvous,
}
use Rattle.calloop_slots.specs.declared.token.RegistrationToken.{RegistrationToken}
use Rattle.calloop_slots.specs.declared.token.TokenFactory.{TokenFactory}
use Rattle.calloop_slots.specs.declared.token.Token.{Token}
use Rattle.calloop_slots.specs.Tokens.{key_of, next_token}
use Rattle.calloop_poll.specs.declared.sys.Readiness.{Readiness}
use Rattle.calloop_sources.specs.declared.sources.dispatch.Dispatcher.{Dispatcher}
use Rattle.calloop_sources.specs.declared.sources.choice.OneOf.{OneOf}
use Rattle.calloop_sources.specs.declared.sources.dispatch.Role.{Role}
use Rattle.calloop_sources.specs.declared.sources.choice.OneOf.TheVariants.{First, Other}
use Rattle.calloop_poll.specs.sys.Polls.{PollView, PollStep}
use Rattle.calloop_sources.specs.sources.Calls.{CallbackCall, Calling, Went, Becomes, IsOfSource, AsOfSource, OfKind, OfIo}
use Rattle.std.specs.declared.io.Error.{Error as IoCause}
use Rattle.std.specs.IoError.{error_kind}
use Rattle.std.specs.declared.io.ErrorKind.{ErrorKind}
use Rattle.std.specs.declared.io.ErrorKind.TheVariants.{OutOfMemory as NoMemory}
use Rattle.calloop_sources.specs.sources.Deeds.{Deed, Registered, Reregistered, Unregistered, Turned, Slept, Noticed}
use Rattle.calloop_sources.specs.sources.Deeds.{Heard, Lent}
use Rattle.calloop_poll.specs.sys.Keys.{IsKeyOf, IsFactoryOf, AllActFor}
use Rattle.calloop_sources.specs.sources.Meanings.{Meaning, IsKeeping, KeepsCounters, KeepsHome, KeepsLimit, IsAsking, FailsAsSource, IsHeld}
use Rattle.calloop_sources.specs.sources.Meanings.{IsAtHome, BeginsIn}
use Rattle.calloop_sources.specs.sources.Meanings.{with_callback, dispatcher_means, on_both, one_of, seen_as, in_role, still, attentive, attentive_to}

-- Of an error of a source.

pub other_of_source : (cause : Cause) (e : Error) → e ≡ OtherError cause → IsOfSource e
other_of_source cause e is = inl (cause, is)

pub memory_of_source : (e : Error) → e ≡ OutOfMemory → IsOfSource e
memory_of_source e is = inr is

of_kind : (kind : ErrorKind) (e : Error) → OfKind kind e → IsOfSource e
of_kind NoMemory e is = inr is
of_kind kind e is = inl is

pub io_of_source : (cause : IoCause) (e : Error) → OfIo cause e → IsOfSource e
io_of_source cause e is = of_kind (error_kind cause) e is

pub as_of_source : (refusal e : Error) → AsOfSource refusal e → IsOfSource e
as_of_source (OtherError cause) e is = inl (cause, is)
as_of_source OutOfMemory e is = inr is
as_of_source InvalidToken e is = inl is
as_of_source (IoError cause) e is = inl is
as_of_source TooManySources e is = inl is
as_of_source TooManyTokens e is = inl is
as_of_source TooManyTimers e is = inl is
as_of_source TooManyTickets e is = inl is
as_of_source OwnTurn e is = inl is
as_of_source NoRendezvous e is = inl is

-- Of the key of a token that a factory gives.

pub next_is_own : (f : TokenFactory) (r : RegistrationToken) (key : ℕ) → IsFactoryOf r f → key ≡ key_of (next_token f)
    → IsKeyOf r key
next_is_own f r key is e = subst (λ x. IsKeyOf x key) is.0 (f.given, is.1, e)

-- Of what acts under keys of its registration alone, whatever keys it had before.

abbrev pub StaysHome : {D P T : Type 0} → Meaning D P T → Type 0
StaysHome {D} {P} {T} m =
    (registration : RegistrationToken) (s t : D) (v : PollView P) (deed : Deed T) (steps : List (PollStep P))
    → BeginsIn (IsAtHome m registration s) registration deed → m.does s v deed steps t
    → IsAtHome m registration t × AllActFor registration steps

pub stays_home : {D P T : Type 0} (m : Meaning D P T) → StaysHome m → KeepsHome m
stays_home m h registration s t v deed steps begins d =
    let x = h registration s t v deed steps begins d in (x.0, λ home. x.1)

-- Of what does nothing to `Poll`.

pub keeping_still : {D P T : Type 0} (does : D → PollView P → Deed T → D → Type 0) → IsKeeping (still does)
keeping_still does =
    record {
      counters = λ s t v deed steps fits below h. (tt, rw h.0 (λ counter. tt));
      home = λ registration s t v deed steps begins h. (λ key held. absurd held, λ home. rw h.0 tt);
      limit =
          record {
            same = λ s t v deed steps h. refl;
            within = λ s t v given answer steps h. h.2;
            untold = λ s none. refl;
          };
    }

pub keeping_attentive_to : {D P T : Type 0} (limit : ℕ) (does : D → PollView P → Deed T → D → Type 0)
    → IsKeeping (attentive_to limit does)
keeping_attentive_to limit does =
    record {
      counters = λ s t v deed steps fits below h. (tt, rw h.0 (λ counter. tt));
      home = λ registration s t v deed steps begins h. (λ key held. absurd held, λ home. rw h.0 tt);
      limit =
          record {
            same = λ s t v deed steps h. refl;
            within = λ s t v given answer steps h. h.2;
            untold = λ s none. (let no : true ≡ false = none in cc);
          };
    }

pub keeping_attentive : {D P T : Type 0} (does : D → PollView P → Deed T → D → Type 0) → IsKeeping (attentive does)
keeping_attentive does = keeping_attentive_to 1 does

-- Of what asks for no event before a wait.

pub silent : {D P T : Type 0} (m : Meaning D P T) → ((s : D) → m.limit s ≡ 0)
    → ((s t : D) (v : PollView P) (given : List (Readiness × Token)) (answer : Result (Unit {0}) Error)
    (steps : List (PollStep P)) → m.does s v (Slept given answer) steps t → given ≡ [])
    → KeepsLimit m
silent m none says =
    record {
      same = λ s t v deed steps h. none t ∙ sym (none s);
      within = λ s t v given answer steps h. rw (says s t v given answer steps h) (omega arith);
      untold = λ s untold. none s;
    }

-- Of a source with its callback.

counters_with_callback : {S F P E M T Cause X Q : Type 0} (m : Meaning S P (Heard E M T Cause))
    (may : Calling F E M T X Q) (reaches : Q → Q → Type 0) (becomes : Cause → Error → Type 0)
    → KeepsCounters m → KeepsCounters (with_callback m may reaches becomes)
counters_with_callback m may reaches becomes k s t v (Registered f a g) steps fits below h =
    k s.source t.source v (Registered f a g) steps fits below h.0
counters_with_callback m may reaches becomes k s t v (Reregistered f a g) steps fits below h =
    k s.source t.source v (Reregistered f a g) steps fits below h.0
counters_with_callback m may reaches becomes k s t v (Unregistered a) steps fits below h =
    k s.source t.source v (Unregistered a) steps fits below h.0
counters_with_callback m may reaches becomes k s t v (Slept gs a) steps fits below h =
    k s.source t.source v (Slept gs a) steps fits below h.0
counters_with_callback m may reaches becomes k s t v (Noticed es) steps fits below h =
    k s.source t.source v (Noticed es) steps fits below h.0
counters_with_callback m may reaches becomes k s t v (Turned r j turn) steps fits below h =
    k s.source t.source v (Turned r j h.inner) steps fits below h.turned

home_with_callback : {S F P E M T Cause X Q : Type 0} (m : Meaning S P (Heard E M T Cause))
    (may : Calling F E M T X Q) (reaches : Q → Q → Type 0) (becomes : Cause → Error → Type 0)
    → KeepsHome m → KeepsHome (with_callback m may reaches becomes)
home_with_callback m may reaches becomes k registration s t v (Registered f (Ok u) g) steps begins h =
    k registration s.source t.source v (Registered f (Ok u) g) steps begins h.0
home_with_callback m may reaches becomes k registration s t v (Registered f (Err e) g) steps begins h =
    k registration s.source t.source v (Registered f (Err e) g) steps begins h.0
home_with_callback m may reaches becomes k registration s t v (Reregistered f a g) steps begins h =
    k registration s.source t.source v (Reregistered f a g) steps begins h.0
home_with_callback m may reaches becomes k registration s t v (Unregistered a) steps begins h =
    k registration s.source t.source v (Unregistered a) steps begins h.0
home_with_callback m may reaches becomes k registration s t v (Slept gs a) steps begins h =
    k registration s.source t.source v (Slept gs a) steps begins h.0
home_with_callback m may reaches becomes k registration s t v (Noticed es) steps begins h =
    k registration s.source t.source v (Noticed es) steps begins h.0
home_with_callback m may reaches becomes k registration s t v (Turned r j turn) steps begins h =
    k registration s.source t.source v (Turned r j h.inner) steps begins h.turned

limit_with_callback : {S F P E M T Cause X Q : Type 0} (m : Meaning S P (Heard E M T Cause))
    (may : Calling F E M T X Q) (reaches : Q → Q → Type 0) (becomes : Cause → Error → Type 0) → KeepsLimit m
    → (s t : Dispatcher S F) (v : PollView P) (deed : Deed (Lent X Q)) (steps : List (PollStep P))
    → dispatcher_means m may reaches becomes s v deed steps t → m.limit t.source ≡ m.limit s.source
limit_with_callback m may reaches becomes k s t v (Registered f a g) steps h =
    k.same s.source t.source v (Registered f a g) steps h.0
limit_with_callback m may reaches becomes k s t v (Reregistered f a g) steps h =
    k.same s.source t.source v (Reregistered f a g) steps h.0
limit_with_callback m may reaches becomes k s t v (Unregistered a) steps h =
    k.same s.source t.source v (Unregistered a) steps h.0
limit_with_callback m may reaches becomes k s t v (Slept gs a) steps h =
    k.same s.source t.source v (Slept gs a) steps h.0
limit_with_callback m may reaches becomes k s t v (Noticed es) steps h =
    k.same s.source t.source v (Noticed es) steps h.0
limit_with_callback m may reaches becomes k s t v (Turned r j turn) steps h =
    k.same s.source t.source v (Turned r j h.inner) steps h.turned

pub keeping_with_callback : {S F P E M T Cause X Q : Type 0} (m : Meaning S P (Heard E M T Cause))
    (may : Calling F E M T X Q) (reaches : Q → Q → Type 0) (becomes : Cause → Error → Type 0)
    → IsKeeping m → IsKeeping (with_callback m may reaches becomes)
keeping_with_callback m may reaches becomes k =
    record {
      counters = counters_with_callback m may reaches becomes k.counters;
      home = home_with_callback m may reaches becomes k.home;
      limit =
          record {
            same = limit_with_callback m may reaches becomes k.limit;
            within = λ s t v given answer steps h. k.limit.within s.source t.source v given answer steps h.0;
            untold = λ s none. k.limit.untold s.source none;
          };
    }

-- the requests after many calls are reached too
went_reaches : {F E M T X Q : Type 0} (may : Calling F E M T X Q) (reaches : Q → Q → Type 0)
    → ((q : Q) → reaches q q) → ((q r s : Q) → reaches q r → reaches r s → reaches q s)
    → (f g : F) (x y : X) (q r : Q) (cs : List (CallbackCall E M T)) → Went may reaches f x q cs g y r → reaches q r
went_reaches may reaches stays goes_on f g x y q r [] h = rw h.2 (stays q)
went_reaches may reaches stays goes_on f g x y q r (c ∷ cs) h =
    goes_on q h.2 r h.4 (went_reaches may reaches stays goes_on h.0 g h.1 y h.2 r cs h.5)

pub asking_with_callback : {S F P E M T Cause X Q : Type 0} (m : Meaning S P (Heard E M T Cause))
    (may : Calling F E M T X Q) (reaches : Q → Q → Type 0) (becomes : Cause → Error → Type 0)
    → ((q : Q) → reaches q q) → ((q r s : Q) → reaches q r → reaches r s → reaches q s)
    → IsAsking reaches (with_callback m may reaches becomes)
asking_with_callback m may reaches becomes stays goes_on s t v r j turn steps h =
    went_reaches may reaches stays goes_on s.callback t.callback turn.before turn.after
    turn.asked_before turn.asked_after h.inner.calls h.went

told_as_source : {A Cause : Type 0} (becomes : Cause → Error → Type 0)
    → ((cause : Cause) (e : Error) → becomes cause e → IsOfSource e)
    → (inner : Result A Cause) (answer : Result A Error) → Becomes becomes inner answer
    → (e : Error) → answer ≡ Err e → IsOfSource e
told_as_source becomes law (Ok a) answer told e is = (let ok : Ok a ≡ Err e = sym told ∙ is in cc)
told_as_source becomes law (Err cause) (Err e') told e is = (let same : e' ≡ e = cc in rw (← same) (law cause e' told))
told_as_source becomes law (Err cause) (Ok a) told e is = absurd told

pub failing_with_callback : {S F P E M T Cause X Q : Type 0} (m : Meaning S P (Heard E M T Cause))
    (may : Calling F E M T X Q) (reaches : Q → Q → Type 0) (becomes : Cause → Error → Type 0)
    → ((cause : Cause) (e : Error) → becomes cause e → IsOfSource e)
    → FailsAsSource (with_callback m may reaches becomes)
failing_with_callback m may reaches becomes law s t v r j turn steps h e is =
    told_as_source becomes law h.inner.answer turn.answer h.told e is

-- Of a choice of two.

counters_one_of : {A B P T : Type 0} (m : Meaning A P T) (n : Meaning B P T)
    → KeepsCounters m → KeepsCounters n → KeepsCounters (one_of m n)
counters_one_of m n h k (First a) (First b) v deed steps fits below d = h a b v deed steps fits below d
counters_one_of m n h k (Other a) (Other b) v deed steps fits below d = k a b v deed steps fits below d
counters_one_of m n h k (First a) (Other b) v deed steps fits below d = absurd d
counters_one_of m n h k (Other a) (First b) v deed steps fits below d = absurd d

home_one_of : {A B P T : Type 0} (m : Meaning A P T) (n : Meaning B P T)
    → KeepsHome m → KeepsHome n → KeepsHome (one_of m n)
home_one_of m n h k registration (First a) (First b) v deed steps begins d = h registration a b v deed steps begins d
home_one_of m n h k registration (Other a) (Other b) v deed steps begins d = k registration a b v deed steps begins d
home_one_of m n h k registration (First a) (Other b) v deed steps begins d = absurd d
home_one_of m n h k registration (Other a) (First b) v deed steps begins d = absurd d

limit_one_of : {A B P T : Type 0} (m : Meaning A P T) (n : Meaning B P T)
    → KeepsLimit m → KeepsLimit n → (s t : OneOf A B) (v : PollView P) (deed : Deed T) (steps : List (PollStep P))
    → (one_of m n).does s v deed steps t → (one_of m n).limit t ≡ (one_of m n).limit s
limit_one_of m n h k (First a) (First b) v deed steps d = h.same a b v deed steps d
limit_one_of m n h k (Other a) (Other b) v deed steps d = k.same a b v deed steps d
limit_one_of m n h k (First a) (Other b) v deed steps d = absurd d
limit_one_of m n h k (Other a) (First b) v deed steps d = absurd d

within_one_of : {A B P T : Type 0} (m : Meaning A P T) (n : Meaning B P T)
    → KeepsLimit m → KeepsLimit n → (s t : OneOf A B) (v : PollView P) (given : List (Readiness × Token))
    (answer : Result (Unit {0}) Error) (steps : List (PollStep P))
    → (one_of m n).does s v (Slept given answer) steps t → length given ≤ (one_of m n).limit s
within_one_of m n h k (First a) (First b) v given answer steps d = h.within a b v given answer steps d
within_one_of m n h k (Other a) (Other b) v given answer steps d = k.within a b v given answer steps d
within_one_of m n h k (First a) (Other b) v given answer steps d = absurd d
within_one_of m n h k (Other a) (First b) v given answer steps d = absurd d

untold_one_of : {A B P T : Type 0} (m : Meaning A P T) (n : Meaning B P T) → KeepsLimit m → KeepsLimit n
    → (s : OneOf A B) → (one_of m n).needs s ≡ false → (one_of m n).limit s ≡ 0
untold_one_of m n h k (First a) none = h.untold a none
untold_one_of m n h k (Other b) none = k.untold b none

pub keeping_one_of : {A B P T : Type 0} (m : Meaning A P T) (n : Meaning B P T)
    → IsKeeping m → IsKeeping n → IsKeeping (one_of m n)
keeping_one_of m n h k =
    record {
      counters = counters_one_of m n h.counters k.counters;
      home = home_one_of m n h.home k.home;
      limit =
          record {
            same = limit_one_of m n h.limit k.limit;
            within = within_one_of m n h.limit k.limit;
            untold = untold_one_of m n h.limit k.limit;
          };
    }

pub asking_one_of : {A B P X Q : Type 0} (reaches : Q → Q → Type 0)
    (m : Meaning A P (Lent X Q)) (n : Meaning B P (Lent X Q))
    → IsAsking reaches m → IsAsking reaches n → IsAsking reaches (one_of m n)
asking_one_of reaches m n h k (First a) (First b) v r j turn steps d = h a b v r j turn steps d
asking_one_of reaches m n h k (Other a) (Other b) v r j turn steps d = k a b v r j turn steps d
asking_one_of reaches m n h k (First a) (Other b) v r j turn steps d = absurd d
asking_one_of reaches m n h k (Other a) (First b) v r j turn steps d = absurd d

pub failing_one_of : {A B P X Q : Type 0} (m : Meaning A P (Lent X Q)) (n : Meaning B P (Lent X Q))
    → FailsAsSource m → FailsAsSource n → FailsAsSource (one_of m n)
failing_one_of m n h k (First a) (First b) v r j turn steps d = h a b v r j turn steps d
failing_one_of m n h k (Other a) (Other b) v r j turn steps d = k a b v r j turn steps d
failing_one_of m n h k (First a) (Other b) v r j turn steps d = absurd d
failing_one_of m n h k (Other a) (First b) v r j turn steps d = absurd d

-- Of what is seen as another value.

pub keeping_seen : {D A P T : Type 0} (see : D → A) (m : Meaning A P T) → IsKeeping m → IsKeeping (seen_as see m)
keeping_seen see m h =
    record {
      counters = λ s t. h.counters (see s) (see t);
      home = λ registration s t. h.home registration (see s) (see t);
      limit =
          record {
            same = λ s t. h.limit.same (see s) (see t);
            within = λ s t. h.limit.within (see s) (see t);
            untold = λ s. h.limit.untold (see s);
          };
    }

pub asking_seen : {D A P X Q : Type 0} (see : D → A) (reaches : Q → Q → Type 0) (m : Meaning A P (Lent X Q))
    → IsAsking reaches m → IsAsking reaches (seen_as see m)
asking_seen see reaches m h s t = h (see s) (see t)

pub failing_seen : {D A P X Q : Type 0} (see : D → A) (m : Meaning A P (Lent X Q))
    → FailsAsSource m → FailsAsSource (seen_as see m)
failing_seen see m h s t = h (see s) (see t)

-- Of what is given a role.

pub keeping_in_role : {D P T : Type 0} (role : Role) (m : Meaning D P T) → IsKeeping m → IsKeeping (in_role role m)
keeping_in_role role m h =
    record {
      counters = h.counters;
      home = h.home;
      limit = record { same = h.limit.same; within = h.limit.within; untold = h.limit.untold };
    }

-- Of places in a choice.

first_step : {A B : Type 0} (R : A → A → Type 0) (S : B → B → Type 0) (s : A) (t : OneOf A B)
    → on_both R S (First s) t ↔ ((b : A) × (t ≡ First b) × R s b)
first_step R S s (First b) = (λ h. (b, refl, h), λ u. (let e = u.1 in let f : b ≡ u.0 = cc in rw f u.2))
first_step R S s (Other b) = (λ h. absurd h, λ u. (let e = u.1 in cc))

other_step : {A B : Type 0} (R : A → A → Type 0) (S : B → B → Type 0) (s : B) (t : OneOf A B)
    → on_both R S (Other s) t ↔ ((b : B) × (t ≡ Other b) × S s b)
other_step R S s (Other b) = (λ h. (b, refl, h), λ u. (let e = u.1 in let f : b ≡ u.0 = cc in rw f u.2))
other_step R S s (First b) = (λ h. absurd h, λ u. (let e = u.1 in cc))

pub held_itself : {A P T : Type 0} (m : Meaning A P T) → IsHeld (λ a. a) m m
held_itself m =
    record {
      holds = λ s. refl;
      keys = λ s key. (λ h. h, λ h. h);
      fits = λ s. (λ h. h, λ h. h);
      needs = λ s. refl;
      limit = λ s. refl;
      role = λ s. refl;
      does = λ s v deed steps t. (λ h. (t, refl, h), λ u. rw u.1 u.2);
    }

pub held_first : {A B P T : Type 0} (m : Meaning A P T) (n : Meaning B P T) → IsHeld (λ a. First a) m (one_of m n)
held_first m n =
    record {
      holds = λ s. refl;
      keys = λ s key. (λ h. h, λ h. h);
      fits = λ s. (λ h. h, λ h. h);
      needs = λ s. refl;
      limit = λ s. refl;
      role = λ s. refl;
      does = λ s v deed steps. first_step (λ a b. m.does a v deed steps b) (λ a b. n.does a v deed steps b) s;
    }

pub held_other : {A B P T : Type 0} (m : Meaning A P T) (n : Meaning B P T) → IsHeld (λ b. Other b) n (one_of m n)
held_other m n =
    record {
      holds = λ s. refl;
      keys = λ s key. (λ h. h, λ h. h);
      fits = λ s. (λ h. h, λ h. h);
      needs = λ s. refl;
      limit = λ s. refl;
      role = λ s. refl;
      does = λ s v deed steps. other_step (λ a b. m.does a v deed steps b) (λ a b. n.does a v deed steps b) s;
    }

-- held in what is held
pub held_through : {A B D P T : Type 0} (f : A → B) (g : B → D)
    (m : Meaning A P T) (n : Meaning B P T) (o : Meaning D P T)
    → IsHeld f m n → IsHeld g n o → IsHeld (λ a. g (f a)) m o
held_through f g m n o h k =
    record {
      holds = λ s. k.holds (f s) ∙ h.holds s;
      keys = λ s key.
          (λ x. (h.keys s key).0 ((k.keys (f s) key).0 x), λ x. (k.keys (f s) key).1 ((h.keys s key).1 x));
      fits = λ s. (λ x. (h.fits s).0 ((k.fits (f s)).0 x), λ x. (k.fits (f s)).1 ((h.fits s).1 x));
      needs = λ s. k.needs (f s) ∙ h.needs s;
      limit = λ s. k.limit (f s) ∙ h.limit s;
      role = λ s. k.role (f s) ∙ h.role s;
      does = λ s v deed steps t. (
        λ w.
            let u = (k.does (f s) v deed steps t).0 w in
            let x = (h.does s v deed steps u.0).0 u.2 in
            (x.0, u.1 ∙ ap g x.1, x.2),
        λ x. (k.does (f s) v deed steps t).1 (f x.0, x.1, (h.does s v deed steps (f x.0)).1 (x.0, refl, x.2)),
      );
    }
