-- What the ping behind a guard means: what the ping does, if the call reaches it, and else nothing.
use Rattle.std.proofs.Common.{refl}
use Rattle.std.specs.Prelude.{◌≡◌, ◌⊎◌, [], List, Result, Ok, Err, IsErr, false}
use Rattle.std.proofs.Common.{inl, inr}
use Rattle.calloop_sources.specs.declared.sources.source.PostAction.{PostAction}
use Rattle.calloop_poll.specs.sys.Polls.{PollView, PollStep}
use Rattle.calloop_sources.specs.sources.Lawful.{silent}
use Rattle.calloop_sources.specs.sources.Deeds.{Deed, Registered, Reregistered, Unregistered, Turned, SaysNothing, Slept, Noticed, Heard, new_heard}
use Rattle.calloop_sources.specs.sources.Holdings.{holds_none}
use Rattle.calloop_sources.specs.declared.sources.dispatch.Role.TheVariants.{Caller}
use Rattle.calloop_sources.specs.sources.Meanings.{Meaning, IsKeeping, KeepsCounters, KeepsHome}
use Rattle.calloop_ends.specs.declared.ping.source.PingError.{PingError}
use Rattle.calloop_ends.specs.ping.Pings.{IsPing, ping_keys}
use Rattle.calloop_ends.specs.ping.PingKeeping.{ping_keeps}
use Rattle.calloop_test_sources.specs.declared.guarded.Guarded.{Guarded}
use Rattle.calloop_test_sources.specs.declared.source.Broken.{Broken}

-- a turn or an unregistration may end before it reaches the ping: then nobody is called, and the ping is unchanged
abbrev pub Guards : {P R : Type 0} → Guarded R → PollView P → Deed (Heard (Unit {0}) (Unit {0}) (Unit {0}) Broken)
    → List (PollStep P) → Guarded R → Type 0
Guards s v (Registered f answer g) steps t = IsPing s.ping v (Registered f answer g) steps t.ping
Guards s v (Reregistered f answer g) steps t = IsPing s.ping v (Reregistered f answer g) steps t.ping
Guards s v (Unregistered answer) steps t =
    IsPing s.ping v (Unregistered answer) steps t.ping ⊎ ((steps ≡ []) × (t ≡ s))
Guards s v (Slept given answer) steps t = SaysNothing given answer × (steps ≡ []) × (t ≡ s)
Guards s v (Noticed events) steps t = (steps ≡ []) × (t ≡ s)
Guards s v (Turned readiness token turn) steps t =
    ((answer : Result PostAction PingError)
    × IsPing s.ping v (Turned readiness token (new_heard turn.calls answer)) steps t.ping)
    ⊎ (IsErr turn.answer × (turn.calls ≡ []) × (steps ≡ []) × (t.ping ≡ s.ping))

abbrev pub guarded_meaning : {P R : Type 0}
    → Meaning (Guarded R) P (Heard (Unit {0}) (Unit {0}) (Unit {0}) Broken)
guarded_meaning =
    record {
      holds = λ s. holds_none;
      keys = λ s. ping_keys s.ping;
      fits = λ s. Unit {0};
      needs = λ s. false;
      limit = λ s. 0;
      role = λ s. Caller;
      does = Guards;
    }

-- Proofs, which the impl cites.

guarded_counts : {P R : Type 0} → KeepsCounters (guarded_meaning {P = P} {R = R})
guarded_counts s t v (Registered f a g) l fits below h =
    ping_keeps.counters s.ping t.ping v (Registered f a g) l fits below h
guarded_counts s t v (Reregistered f a g) l fits below h =
    ping_keeps.counters s.ping t.ping v (Reregistered f a g) l fits below h
guarded_counts s t v (Unregistered a) l fits below (inl h) =
    ping_keeps.counters s.ping t.ping v (Unregistered a) l fits below h
guarded_counts s t v (Unregistered a) l fits below (inr h) = (tt, rw h.0 (λ counter. tt))
guarded_counts s t v (Slept gs a) l fits below h = (tt, rw h.1 (λ counter. tt))
guarded_counts s t v (Noticed es) l fits below h = (tt, rw h.0 (λ counter. tt))
guarded_counts s t v (Turned r k turn) l fits below (inl h) =
    ping_keeps.counters s.ping t.ping v (Turned r k (new_heard turn.calls h.0)) l fits below h.1
guarded_counts s t v (Turned r k turn) l fits below (inr h) = (tt, rw h.2 (λ counter. tt))

guarded_stays : {P R : Type 0} → KeepsHome (guarded_meaning {P = P} {R = R})
guarded_stays r s t v (Registered f (Ok u) g) l begins h =
    ping_keeps.home r s.ping t.ping v (Registered f (Ok u) g) l begins h
guarded_stays r s t v (Registered f (Err e) g) l begins h =
    ping_keeps.home r s.ping t.ping v (Registered f (Err e) g) l begins h
guarded_stays r s t v (Reregistered f a g) l begins h =
    ping_keeps.home r s.ping t.ping v (Reregistered f a g) l begins h
guarded_stays r s t v (Unregistered a) l home (inl h) = ping_keeps.home r s.ping t.ping v (Unregistered a) l home h
guarded_stays r s t v (Unregistered a) l home (inr h) = rw (h.0, h.1) (home, λ at. tt)
guarded_stays r s t v (Slept gs a) l home h = rw (h.1, h.2) (home, λ at. tt)
guarded_stays r s t v (Noticed es) l home h = rw (h.0, h.1) (home, λ at. tt)
guarded_stays r s t v (Turned readiness k turn) l home (inl h) =
    ping_keeps.home r s.ping t.ping v (Turned readiness k (new_heard turn.calls h.0)) l home h.1
guarded_stays r s t v (Turned readiness k turn) l home (inr h) = rw (h.2, h.3) (home, λ at. tt)

pub guarded_keeps : {P R : Type 0} → IsKeeping (guarded_meaning {P = P} {R = R})
guarded_keeps =
    record {
      counters = guarded_counts;
      home = guarded_stays;
      limit = silent guarded_meaning (λ s. refl) (λ s t v given answer steps h. h.0.0);
    }
