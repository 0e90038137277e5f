-- An adapter acts only under keys of its own registration, on no counter, asks the loop for nothing, and its turn never fails.
-- The impls cite these proofs, so they stand here.
use Rattle.std.proofs.Common.{inl, inr, List, Bool, true, false, Option, None, Some, Result, Ok, Err, refl, ℕ}
use Rattle.calloop_slots.specs.declared.error.Error.{Error}
use Rattle.calloop_slots.specs.declared.token.Token.{Token}
use Rattle.calloop_slots.specs.declared.token.RegistrationToken.{RegistrationToken}
use Rattle.calloop_slots.specs.declared.token.TokenFactory.{TokenFactory}
use Rattle.calloop_slots.specs.Tokens.{next_token, key_of}
use Rattle.calloop_poll.specs.declared.sys.Interest.{Interest}
use Rattle.calloop_poll.specs.declared.sys.Readiness.{Readiness}
use Rattle.calloop_poll.specs.sys.Pollers.{Sockets}
use Rattle.calloop_sources.specs.sources.Beside.{next_after, keeps_then, acts_then}
use Rattle.calloop_poll.specs.sys.Tables.{Leave}
use Rattle.calloop_poll.specs.sys.Polls.{PollView, PollStep, polls_after}
use Rattle.calloop_sources.specs.sources.Deeds.{Registered, Reregistered, Unregistered, Turned, Slept, Noticed}
use Rattle.calloop_sources.specs.sources.Holdings.{Keeps, holds_none}
use Rattle.calloop_sources.specs.Generics.{under_token}
use Rattle.calloop_sources.specs.GenericKeeping.{edits_still, edits_for}
use Rattle.calloop_poll.specs.sys.Keys.{IsKeyOf, IsFactoryOf, EditsFor, AllActFor}
use Rattle.calloop_sources.specs.sources.Lawful.{next_is_own, StaysHome, stays_home, silent}
use Rattle.calloop_sources.specs.sources.Meanings.{IsKeeping, KeepsCounters, IsAsking, FailsAsSource}
use Rattle.calloop_sources.specs.sources.Quiet.{IsQuiet}
use Rattle.calloop_io.specs.declared.adapter.Adapter.{Adapter}
use Rattle.calloop_io.specs.declared.notes.Settled.{Settled}
use Rattle.calloop_io.specs.declared.notes.Settled.TheVariants.{Stays, Registers as RegistersFor, Leaves as IsToLeave}
use Rattle.calloop_io.specs.declared.notes.SlotNote.TheVariants.{Settled as SettledSo, Asked, Reached}
use Rattle.calloop_io.specs.TakingUp.{taking_up}
use Rattle.calloop_io.specs.Adapters.{Registers, SettlesTo, ComesIn, TakenOut, Leaves, Goes, HearsSo, discards, left_so, told_so, and_did, adapter_meaning}

abbrev IsStill : {P : Type 0} → ℕ → List (PollStep P) → Type 0
IsStill next steps = Keeps holds_none next steps holds_none

abbrev Home : RegistrationToken → Option Token → Type 0
Home r o = (key : ℕ) → under_token o key → IsKeyOf r key

own_key : (r : RegistrationToken) (f : TokenFactory) → IsFactoryOf r f → IsKeyOf r (key_of (next_token f))
own_key r f is = next_is_own f r (key_of (next_token f)) is refl

takes_for : (r : RegistrationToken) (own : Token) (entered : Bool) (interest : Interest) → IsKeyOf r (key_of own)
    → EditsFor r (taking_up own entered interest)
takes_for r own false interest is = is
takes_for r own true interest is = (is, is)

discarded_still : {P : Type 0} (next : ℕ) (a : Result (Unit {0}) Error) (own : Token) (p : P)
    → IsStill next (discards a own p)
discarded_still next (Ok u) own p = λ counter. tt
discarded_still next (Err e) own p = λ counter. tt

discarded_for : {P : Type 0} (r : RegistrationToken) (a : Result (Unit {0}) Error) (own : Token) (p : P)
    → IsKeyOf r (key_of own) → AllActFor r (discards a own p)
discarded_for r (Ok u) own p mine = tt
discarded_for r (Err e) own p mine = (mine, tt)

module _ {P : Type 0} (sockets : Sockets P) where
  out_still : (next : ℕ) (entered : Bool) (own : Token) (v : PollView P) (a : Result (Unit {0}) Error)
      (l : List (PollStep P))
      → TakenOut sockets entered own v a l → IsStill next l
  out_still next false own v a l h = rw h.1 (λ counter. tt)
  out_still next true own v a l (inl h) = rw h.3 (λ counter. tt)
  out_still next true own v a l (inr h) = edits_still sockets v (Leave own) h.0 next a l h.1

  out_for : (r : RegistrationToken) (entered : Bool) (own : Token) (v : PollView P) (a : Result (Unit {0}) Error)
      (l : List (PollStep P))
      → IsKeyOf r (key_of own) → TakenOut sockets entered own v a l → AllActFor r l
  out_for r false own v a l mine h = rw h.1 tt
  out_for r true own v a l mine (inl h) = rw h.3 tt
  out_for r true own v a l mine (inr h) = edits_for sockets v (Leave own) h.0 r a l mine h.1

module _ {P F R : Type 0} where
  in_still : (next : ℕ) (own : Option Token) (s t : Adapter F R) (f g : TokenFactory) (a : Result (Unit {0}) Error)
      (l : List (PollStep P))
      → ComesIn own s f a l t g → IsStill next l
  in_still next (Some own) s t f g a l h = rw h.0.3 (λ counter. tt)
  in_still next None s t f g (Ok u) l h = rw h.0 (λ counter. tt)
  in_still next None s t f g (Err e) l h = rw h.1 (λ counter. tt)

  in_home : (r : RegistrationToken) (own : Option Token) (s t : Adapter F R) (f g : TokenFactory)
      (a : Result (Unit {0}) Error) (l : List (PollStep P))
      → IsFactoryOf r f → Home r s.token → ComesIn own s f a l t g → Home r t.token × AllActFor r l
  in_home r (Some own) s t f g a l is home h = rw (h.0.3, h.0.4) (home, tt)
  in_home r None s t f g (Ok u) l is home h = rw (h.0, h.1) ((λ key same. rw same (own_key r f is)), tt)
  in_home r None s t f g (Err e) l is home h = rw (h.1, h.2) (home, tt)

  first_home : (r : RegistrationToken) (own : Option Token) (s t : Adapter F R) (f g : TokenFactory)
      (l : List (PollStep P))
      → IsFactoryOf r f → ComesIn own s f (Ok tt) l t g → Home r t.token × AllActFor r l
  first_home r (Some own) s t f g l is h = (let e = h.0.1 in cc)
  first_home r None s t f g l is h = rw (h.0, h.1) ((λ key same. rw same (own_key r f is)), tt)

module _ {F R : Type 0} where
  home_left : (r : RegistrationToken) (a : Result (Unit {0}) Error) (s : Adapter F R) → Home r s.token
      → Home r (left_so a s).token
  home_left r (Ok u) s home key is = absurd is
  home_left r (Err e) s home key is = home key is

module _ {F R : Type 0} where
  home_told : (r : RegistrationToken) (a : Result (Unit {0}) Error) (s : Adapter F R) → Home r s.token
      → Home r (told_so a s).token
  home_told r (Ok u) s home key is = home key is
  home_told r (Err e) s home key is = home key is

module _ {P F R : Type 0} (sockets : Sockets P) where
  told_still : (next : ℕ) (interest : Interest) (own : Option Token) (s t : Adapter F R) (v : PollView P)
      (l : List (PollStep P))
      → Registers sockets interest own s v l t → IsStill next l
  told_still next interest None s t v l h = rw h.0 (λ counter. tt)
  told_still next interest (Some own) s t v l (inl h) = rw h.0 (λ counter. tt)
  told_still next interest (Some own) s t v l (inr h) =
      edits_still sockets v (taking_up own s.entered interest) h.0 next h.1 l h.2

  settled_still : (next : ℕ) (found : Settled) (s t : Adapter F R) (v : PollView P) (l : List (PollStep P))
      → SettlesTo sockets found s v l t → IsStill next l
  settled_still next Stays s t v l h = rw h.0 (λ counter. tt)
  settled_still next (RegistersFor interest) s t v l h = told_still next interest s.token s t v l h
  settled_still next IsToLeave s t v l h = absurd h

  left_still : (next : ℕ) (own : Option Token) (s t : Adapter F R) (v : PollView P) (a : Result (Unit {0}) Error)
      (l : List (PollStep P))
      → Leaves sockets own s v a l t → IsStill next l
  left_still next None s t v a l h = rw h.3 (λ counter. tt)
  left_still next (Some own) s t v a l (inl h) = rw h.3 (λ counter. tt)
  left_still next (Some own) s t v a l (inr h) = out_still sockets next s.entered own v a l h.0

  gone_still : (next : ℕ) (own : Option Token) (s t : Adapter F R) (v : PollView P) (a : Result (Unit {0}) Error)
      (l : List (PollStep P))
      → Goes sockets own s v a l t → IsStill next l
  gone_still next None s t v a l h = rw h.1 (λ counter. tt)
  gone_still next (Some own) s t v a l h =
      let last : List (PollStep P) = discards a own (polls_after v h.0).poller in
      rw h.2 (keeps_then next h.0 last holds_none holds_none holds_none (out_still sockets next s.entered own v a h.0 h.1)
      (discarded_still (next_after next h.0) a own (polls_after v h.0).poller))

  told_home : (r : RegistrationToken) (interest : Interest) (own : Option Token) (s t : Adapter F R) (v : PollView P)
      (l : List (PollStep P))
      → Home r own → Home r s.token → Registers sockets interest own s v l t → Home r t.token × AllActFor r l
  told_home r interest None s t v l mine home h = rw (h.0, h.1) (home, tt)
  told_home r interest (Some own) s t v l mine home (inl h) = rw (h.0, h.1) (home, tt)
  told_home r interest (Some own) s t v l mine home (inr h) = (
    rw h.3 (home_told r h.1 (and_did (Reached true) s) home),
    edits_for sockets v (taking_up own s.entered interest) h.0 r h.1 l
        (takes_for r own s.entered interest (mine (key_of own) refl)) h.2,
  )

  settled_home : (r : RegistrationToken) (found : Settled) (s t : Adapter F R) (v : PollView P) (l : List (PollStep P))
      → Home r s.token → SettlesTo sockets found s v l t → Home r t.token × AllActFor r l
  settled_home r Stays s t v l home h = rw (h.0, h.1) (home, tt)
  settled_home r (RegistersFor interest) s t v l home h = told_home r interest s.token s t v l home home h
  settled_home r IsToLeave s t v l home h = absurd h

  left_home : (r : RegistrationToken) (own : Option Token) (s t : Adapter F R) (v : PollView P)
      (a : Result (Unit {0}) Error) (l : List (PollStep P))
      → Home r own → Home r s.token → Leaves sockets own s v a l t → Home r t.token × AllActFor r l
  left_home r None s t v a l mine home h = rw (h.3, h.4) (home, tt)
  left_home r (Some own) s t v a l mine home (inl h) = rw (h.3, h.4) (home, tt)
  left_home r (Some own) s t v a l mine home (inr h) =
      (rw h.1 (home_left r a (and_did (Asked true) s) home), out_for sockets r s.entered own v a l (mine (key_of own) refl) h.0)

  gone_home : (r : RegistrationToken) (own : Option Token) (s t : Adapter F R) (v : PollView P)
      (a : Result (Unit {0}) Error) (l : List (PollStep P))
      → Home r own → Home r s.token → Goes sockets own s v a l t → Home r t.token × AllActFor r l
  gone_home r None s t v a l mine home h = rw (h.1, h.2) (home, tt)
  gone_home r (Some own) s t v a l mine home h =
      let of : IsKeyOf r (key_of own) = mine (key_of own) refl in
      let last : List (PollStep P) = discards a own (polls_after v h.0).poller in
      rw (h.2, h.3) (
        (λ key is. absurd is),
        acts_then r h.0 last (out_for sockets r s.entered own v a h.0 of h.1)
            (discarded_for r a own (polls_after v h.0).poller of),
      )

module _ {F R : Type 0} where
  heard_home : (r : RegistrationToken) (own : Option Token) (token : Token) (found : Readiness) (s t : Adapter F R)
      → Home r s.token → HearsSo own token found s t → Home r t.token
  heard_home r own token found s t home (inl h) key is = home key (rw h.1 at is)
  heard_home r own token found s t home (inr h) key is = home key (rw h.1 at is)

module _ {P F R X Q : Type 0} (sockets : Sockets P) where
  adapter_counts : KeepsCounters (adapter_meaning {P = P} {F = F} {R = R} sockets {X = X} {Q = Q})
  adapter_counts s t v (Registered f a g) l fits below h = (tt, in_still v.deadlines.next s.token s t f g a l h)
  adapter_counts s t v (Reregistered f (Ok u) g) l fits below h =
      (tt, settled_still sockets v.deadlines.next h.1.0 (and_did (SettledSo h.1.0) s) t v l h.1.1)
  adapter_counts s t v (Reregistered f (Err e) g) l fits below h = (tt, rw h.2 (λ counter. tt))
  adapter_counts s t v (Unregistered a) l fits below (inl h) = (tt, left_still sockets v.deadlines.next s.token s t v a l h)
  adapter_counts s t v (Unregistered a) l fits below (inr h) =
      (tt, gone_still sockets v.deadlines.next s.token (and_did (SettledSo IsToLeave) s) t v a l h)
  adapter_counts s t v (Slept gs a) l fits below h = (tt, rw h.1 (λ counter. tt))
  adapter_counts s t v (Noticed es) l fits below h = (tt, rw h.0 (λ counter. tt))
  adapter_counts s t v (Turned i token turn) l fits below h = (tt, rw h.3 (λ counter. tt))

  adapter_stays : StaysHome (adapter_meaning {P = P} {F = F} {R = R} sockets {X = X} {Q = Q})
  adapter_stays r s t v (Registered f (Ok u) g) l begins h = first_home r s.token s t f g l begins h
  adapter_stays r s t v (Registered f (Err e) g) l begins h =
      in_home r s.token s t f g (Err e) l begins.1 begins.0 h
  adapter_stays r s t v (Reregistered f (Ok u) g) l begins h =
      settled_home sockets r h.1.0 (and_did (SettledSo h.1.0) s) t v l begins.0 h.1.1
  adapter_stays r s t v (Reregistered f (Err e) g) l begins h = rw (h.2, h.3) (begins.0, tt)
  adapter_stays r s t v (Unregistered a) l home (inl h) = left_home sockets r s.token s t v a l home home h
  adapter_stays r s t v (Unregistered a) l home (inr h) =
      gone_home sockets r s.token (and_did (SettledSo IsToLeave) s) t v a l home home h
  adapter_stays r s t v (Slept gs a) l home h = rw (h.1, h.2) (home, tt)
  adapter_stays r s t v (Noticed es) l home h = rw (h.0, h.1) (home, tt)
  adapter_stays r s t v (Turned i token turn) l home h =
      (heard_home r s.token token i s t home h.4, rw h.3 tt)

  pub adapter_keeps : IsKeeping (adapter_meaning {P = P} {F = F} {R = R} sockets {X = X} {Q = Q})
  adapter_keeps =
      record {
        counters = adapter_counts;
        home = stays_home (adapter_meaning {P = P} {F = F} {R = R} sockets {X = X} {Q = Q}) adapter_stays;
        limit =
            silent (adapter_meaning {P = P} {F = F} {R = R} sockets {X = X} {Q = Q}) (λ s. refl)
            (λ s t v given answer steps h. h.0.0);
      }

  pub adapter_asks : (reaches : Q → Q → Type 0) → ((q : Q) → reaches q q)
      → IsAsking reaches (adapter_meaning {P = P} {F = F} {R = R} sockets {X = X} {Q = Q})
  adapter_asks reaches stays s t v readiness token turn steps h = rw h.2 (stays turn.asked_before)

  pub adapter_fails : FailsAsSource (adapter_meaning {P = P} {F = F} {R = R} sockets {X = X} {Q = Q})
  adapter_fails s t v readiness token turn steps h e is = (let both = h.0 in cc)

  pub adapter_quiet : IsQuiet (adapter_meaning {P = P} {F = F} {R = R} sockets {X = X} {Q = Q})
  adapter_quiet s t v readiness token turn steps h = h.2
