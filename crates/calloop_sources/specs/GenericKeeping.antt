-- A socket's source acts under keys of its own registration alone, and on no counter. The impl cites these proofs, so
-- they are here.
use Rattle.std.proofs.Common.{◌≡◌, inl, inr, List, Option, None, Some, Result, Ok, Err, refl, ℕ, ℤ}
use Rattle.std.specs.declared.io.Error.{Error as Cause}
use Rattle.std.specs.declared.io.ErrorKind.{ErrorKind}
use Rattle.calloop_slots.specs.declared.error.Error.{Error}
use Rattle.calloop_slots.specs.declared.token.Token.{Token}
use Rattle.calloop_slots.specs.declared.token.RegistrationToken.{RegistrationToken}
use Rattle.calloop_slots.specs.declared.token.TokenFactory.{TokenFactory}
use Rattle.calloop_slots.specs.Tokens.{next_token, key_of}
use Rattle.calloop_poll.specs.declared.sys.Mode.{Mode}
use Rattle.calloop_poll.specs.declared.sys.Mode.TheVariants.{OneShot, Level, Edge}
use Rattle.calloop_sources.specs.declared.sources.source.PostAction.{PostAction}
use Rattle.calloop_sources.specs.declared.generic.Generic.{Generic}
use Rattle.calloop_poll.specs.sys.Pollers.{Sockets}
use Rattle.calloop_poll.specs.sys.Tables.{Edit, Enter, Change, Leave, cannot}
use Rattle.calloop_poll.specs.sys.Polls.{PollView, PollStep}
use Rattle.calloop_poll.specs.sys.SocketCalls.{Edits, Tried, TriedUnless}
use Rattle.calloop_sources.specs.sources.Deeds.{Registered, Reregistered, Unregistered, Turned, Slept, Noticed}
use Rattle.calloop_sources.specs.sources.Holdings.{Keeps, holds_none}
use Rattle.calloop_poll.specs.sys.Keys.{IsKeyOf, IsFactoryOf, EditsFor, AllActFor}
use Rattle.calloop_sources.specs.sources.Lawful.{next_is_own, StaysHome, stays_home, silent}
use Rattle.calloop_sources.specs.sources.Meanings.{IsKeeping, KeepsCounters}
use Rattle.calloop_sources.specs.Generics.{
  TakesToken,
  RegisteredFrom,
  ReregisteredFrom,
  UnregisteredFrom,
  AnsweredBy,
  ArmedBy,
  after_call,
  under_token,
  entered_as,
  left_as,
  watched_by,
  generic_meaning,
}

-- no counter is touched
abbrev IsStill : {P : Type 0} → ℕ → List (PollStep P) → Type 0
IsStill next steps = Keeps holds_none next steps holds_none

-- the key of this token, if any, is of that registration
abbrev Home : RegistrationToken → Option Token → Type 0
Home r o = (key : ℕ) → under_token o key → IsKeyOf r key

module _ {P : Type 0} (sockets : Sockets P) (v : PollView P) (edit : Edit) (fd : ℤ) where
  tried_still : (next : ℕ) (a : Result (Unit {0}) Error) (l : List (PollStep P)) → Tried sockets v edit fd a l
      → IsStill next l
  tried_still next (Ok u) l h = rw h.2 (λ counter. tt)
  tried_still next (Err e) l (inl h) = rw h.2 (λ counter. tt)
  tried_still next (Err e) l (inr h) = rw h.stepped (λ counter. tt)

  unless_still : (next : ℕ) (k : Option ErrorKind) (a : Result (Unit {0}) Error) (l : List (PollStep P))
      → TriedUnless k sockets v edit fd a l → IsStill next l
  unless_still next (Some kind) a l h = rw h.3 (λ counter. tt)
  unless_still next None a l h = tried_still next a l h

  pub edits_still : (next : ℕ) (a : Result (Unit {0}) Error) (l : List (PollStep P)) → Edits sockets v edit fd a l
      → IsStill next l
  edits_still next a l h = unless_still next (cannot edit v.table) a l h

  tried_for : (r : RegistrationToken) (a : Result (Unit {0}) Error) (l : List (PollStep P)) → EditsFor r edit
      → Tried sockets v edit fd a l → AllActFor r l
  tried_for r (Ok u) l of h = rw h.2 (of, tt)
  tried_for r (Err e) l of (inl h) = rw h.2 tt
  tried_for r (Err e) l of (inr h) = rw h.stepped (tt, tt)

  unless_for : (r : RegistrationToken) (k : Option ErrorKind) (a : Result (Unit {0}) Error) (l : List (PollStep P))
      → EditsFor r edit → TriedUnless k sockets v edit fd a l → AllActFor r l
  unless_for r (Some kind) a l of h = rw h.3 tt
  unless_for r None a l of h = tried_for r a l of h

  pub edits_for : (r : RegistrationToken) (a : Result (Unit {0}) Error) (l : List (PollStep P)) → EditsFor r edit
      → Edits sockets v edit fd a l → AllActFor r l
  edits_for r a l of h = unless_for r (cannot edit v.table) a l of h

module _ {P F E : Type 0} (sockets : Sockets P) (raw_fd : F → Option ℤ) (gives : Cause → E → Type 0) where
  -- Of counters.

  takes_still : (next : ℕ) (edit : Token → Edit) (s t : Generic F E) (v : PollView P) (f g : TokenFactory)
      (a : Result (Unit {0}) Error) (l : List (PollStep P))
      → TakesToken sockets raw_fd edit s v f a l t g → IsStill next l
  takes_still next edit s t v f g a l (inl h) = rw h.2 (λ counter. tt)
  takes_still next edit s t v f g a l (inr h) = edits_still sockets v (edit (next_token f)) h.0 next a l h.2

  registered_still : (next : ℕ) (own : Option Token) (s t : Generic F E) (v : PollView P) (f g : TokenFactory)
      (a : Result (Unit {0}) Error) (l : List (PollStep P))
      → RegisteredFrom sockets raw_fd own s v f a l t g → IsStill next l
  registered_still next None s t v f g a l h = takes_still next (λ token. Enter token (watched_by s)) s t v f g a l h
  registered_still next (Some own) s t v f g a l h = rw h.0.3 (λ counter. tt)

  reregistered_still : (next : ℕ) (own : Option Token) (s t : Generic F E) (v : PollView P) (f g : TokenFactory)
      (a : Result (Unit {0}) Error) (l : List (PollStep P))
      → ReregisteredFrom sockets raw_fd own s v f a l t g → IsStill next l
  reregistered_still next None s t v f g a l h = rw h.0.3 (λ counter. tt)
  reregistered_still next (Some own) s t v f g a l h =
      takes_still next (λ token. Change own token (watched_by s)) s t v f g a l h

  unregistered_still : (next : ℕ) (own : Option Token) (s t : Generic F E) (v : PollView P)
      (a : Result (Unit {0}) Error) (l : List (PollStep P))
      → UnregisteredFrom sockets raw_fd own s v a l t → IsStill next l
  unregistered_still next None s t v a l h = rw h.3 (λ counter. tt)
  unregistered_still next (Some own) s t v a l h = edits_still sockets v (Leave own) h.0 next a l h.2

  armed_still : (next : ℕ) (mode : Mode) (token : Token) (s t : Generic F E) (v : PollView P) (x : PostAction)
      (a : Result PostAction E) (l : List (PollStep P))
      → ArmedBy sockets raw_fd gives mode token s v x a l t → IsStill next l
  armed_still next OneShot token s t v x a l h = rw h.1 (λ counter. tt)
  armed_still next Edge token s t v x a l h = rw h.1 (λ counter. tt)
  armed_still next Level token s t v x a l h =
      edits_still sockets v (Change token token (watched_by s)) h.1 next h.0 l h.3

  answered_still : (next : ℕ) (told : Result PostAction E) (token : Token) (s t : Generic F E) (v : PollView P)
      (a : Result PostAction E) (l : List (PollStep P))
      → AnsweredBy sockets raw_fd gives told token s v a l t → IsStill next l
  answered_still next (Ok x) token s t v a l h = armed_still next s.mode token s t v x a l h
  answered_still next (Err e) token s t v a l h = rw h.1 (λ counter. tt)

  generic_counts : KeepsCounters (generic_meaning sockets raw_fd gives)
  generic_counts s t v (Registered f a g) l fits below h =
      (tt, registered_still v.deadlines.next s.token s t v f g a l h)
  generic_counts s t v (Reregistered f a g) l fits below h =
      (tt, reregistered_still v.deadlines.next s.token s t v f g a l h)
  generic_counts s t v (Unregistered a) l fits below h = (tt, unregistered_still v.deadlines.next s.token s t v a l h)
  generic_counts s t v (Slept gs a) l fits below h = (tt, rw h.1 (λ counter. tt))
  generic_counts s t v (Noticed es) l fits below h = (tt, rw h.0 (λ counter. tt))
  generic_counts s t v (Turned i token turn) l fits below (inl h) =
      (tt, answered_still v.deadlines.next h.told token (after_call h.io s) t v turn.answer l h.answered)
  generic_counts s t v (Turned i token turn) l fits below (inr h) = (tt, rw h.no_steps (λ counter. tt))

  -- Of keys.

  own_key : (r : RegistrationToken) (f : TokenFactory) → IsFactoryOf r f → IsKeyOf r (key_of (next_token f))
  own_key r f is = next_is_own f r (key_of (next_token f)) is refl

  home_entered : (r : RegistrationToken) (a : Result (Unit {0}) Error) (token : Token) (s : Generic F E)
      → IsKeyOf r (key_of token) → Home r s.token → Home r (entered_as a token s).token
  home_entered r (Ok u) token s of home key is = rw is of
  home_entered r (Err e) token s of home key is = home key is

  home_left : (r : RegistrationToken) (a : Result (Unit {0}) Error) (s : Generic F E) → Home r s.token
      → Home r (left_as a s).token
  home_left r (Ok u) s home key is = absurd is
  home_left r (Err e) s home key is = home key is

  takes_home : (r : RegistrationToken) (edit : Token → Edit) (s t : Generic F E) (v : PollView P) (f g : TokenFactory)
      (a : Result (Unit {0}) Error) (l : List (PollStep P))
      → EditsFor r (edit (next_token f)) → IsFactoryOf r f → Home r s.token
      → TakesToken sockets raw_fd edit s v f a l t g → Home r t.token × AllActFor r l
  takes_home r edit s t v f g a l of is home (inl h) = rw (h.2, h.3) (home, tt)
  takes_home r edit s t v f g a l of is home (inr h) = (
    rw h.3 (home_entered r a (next_token f) s (own_key r f is) home),
    edits_for sockets v (edit (next_token f)) h.0 r a l of h.2,
  )

  registered_home : (r : RegistrationToken) (own : Option Token) (s t : Generic F E) (v : PollView P)
      (f g : TokenFactory) (a : Result (Unit {0}) Error) (l : List (PollStep P))
      → IsFactoryOf r f → Home r s.token
      → RegisteredFrom sockets raw_fd own s v f a l t g → Home r t.token × AllActFor r l
  registered_home r None s t v f g a l is home h =
      takes_home r (λ token. Enter token (watched_by s)) s t v f g a l (own_key r f is) is home h
  registered_home r (Some own) s t v f g a l is home h = rw (h.0.3, h.0.4) (home, tt)

  -- a source whose registration succeeds had no token
  first_home : (r : RegistrationToken) (own : Option Token) (s t : Generic F E) (v : PollView P) (f g : TokenFactory)
      (l : List (PollStep P))
      → s.token ≡ own → IsFactoryOf r f
      → RegisteredFrom sockets raw_fd own s v f (Ok tt) l t g → Home r t.token × AllActFor r l
  first_home r None s t v f g l none is h =
      registered_home r None s t v f g (Ok tt) l is (rw none (λ key no. absurd no)) h
  first_home r (Some own) s t v f g l there is h = (let e = h.0.1 in cc)

  reregistered_home : (r : RegistrationToken) (own : Option Token) (s t : Generic F E) (v : PollView P)
      (f g : TokenFactory) (a : Result (Unit {0}) Error) (l : List (PollStep P))
      → IsFactoryOf r f → Home r own → Home r s.token
      → ReregisteredFrom sockets raw_fd own s v f a l t g → Home r t.token × AllActFor r l
  reregistered_home r None s t v f g a l is mine home h = rw (h.0.3, h.0.4) (home, tt)
  reregistered_home r (Some own) s t v f g a l is mine home h =
      takes_home r (λ token. Change own token (watched_by s)) s t v f g a l
      (mine (key_of own) refl, own_key r f is) is home h

  unregistered_home : (r : RegistrationToken) (own : Option Token) (s t : Generic F E) (v : PollView P)
      (a : Result (Unit {0}) Error) (l : List (PollStep P))
      → Home r own → Home r s.token
      → UnregisteredFrom sockets raw_fd own s v a l t → Home r t.token × AllActFor r l
  unregistered_home r None s t v a l mine home h = rw (h.3, h.4) (home, tt)
  unregistered_home r (Some own) s t v a l mine home h = (
    rw h.3 (home_left r a s home),
    edits_for sockets v (Leave own) h.0 r a l (mine (key_of own) refl) h.2,
  )

  armed_home : (r : RegistrationToken) (mode : Mode) (token : Token) (s t : Generic F E) (v : PollView P)
      (x : PostAction) (a : Result PostAction E) (l : List (PollStep P))
      → IsKeyOf r (key_of token) → Home r s.token
      → ArmedBy sockets raw_fd gives mode token s v x a l t → Home r t.token × AllActFor r l
  armed_home r OneShot token s t v x a l of home h = rw (h.1, h.2) (home, tt)
  armed_home r Edge token s t v x a l of home h = rw (h.1, h.2) (home, tt)
  armed_home r Level token s t v x a l of home h =
      (rw h.4 home, edits_for sockets v (Change token token (watched_by s)) h.1 r h.0 l (of, of) h.3)

  answered_home : (r : RegistrationToken) (told : Result PostAction E) (token : Token) (s t : Generic F E)
      (v : PollView P) (a : Result PostAction E) (l : List (PollStep P))
      → IsKeyOf r (key_of token) → Home r s.token
      → AnsweredBy sockets raw_fd gives told token s v a l t → Home r t.token × AllActFor r l
  answered_home r (Ok x) token s t v a l of home h = armed_home r s.mode token s t v x a l of home h
  answered_home r (Err e) token s t v a l of home h = rw (h.1, h.2) (home, tt)

  generic_stays : StaysHome (generic_meaning sockets raw_fd gives)
  generic_stays r s t v (Registered f (Ok u) g) l begins h = first_home r s.token s t v f g l refl begins h
  generic_stays r s t v (Registered f (Err e) g) l begins h =
      registered_home r s.token s t v f g (Err e) l begins.1 begins.0 h
  generic_stays r s t v (Reregistered f a g) l begins h =
      reregistered_home r s.token s t v f g a l begins.1 begins.0 begins.0 h
  generic_stays r s t v (Unregistered a) l home h = unregistered_home r s.token s t v a l home home h
  generic_stays r s t v (Slept gs a) l home h = rw (h.1, h.2) (home, tt)
  generic_stays r s t v (Noticed es) l home h = rw (h.0, h.1) (home, tt)
  generic_stays r s t v (Turned i token turn) l home (inl h) =
      let mine : IsKeyOf r (key_of token) = home (key_of token) (rw h.heard.0 refl) in
      answered_home r h.told token (after_call h.io s) t v turn.answer l mine home h.answered
  generic_stays r s t v (Turned i token turn) l home (inr h) = rw (h.no_steps, h.same) (home, tt)

  pub generic_keeps : IsKeeping (generic_meaning sockets raw_fd gives)
  generic_keeps =
      record {
        counters = generic_counts;
        home = stays_home (generic_meaning sockets raw_fd gives) generic_stays;
        limit = silent (generic_meaning sockets raw_fd gives) (λ s. refl) (λ s t v given answer steps h. h.0.0);
      }
