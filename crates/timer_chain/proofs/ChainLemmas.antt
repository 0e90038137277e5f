-- The callbacks of the chain ask for timers alone that hold no counter.
use Rattle.std.proofs.Common.{◌≡◌, ℕ, List, [], ◌∷◌, ◌++◌, Some, Result, Ok, Err, IfOk, IfErr, refl, sym, ap, subst}
use Rattle.calloop_slots.specs.declared.error.InsertError.{InsertError}
use Rattle.calloop_sources.specs.declared.sources.dispatch.Dispatcher.{Dispatcher}
use Rattle.calloop_sources.specs.declared.timer.Timer.{Timer}
use Rattle.calloop_sources.specs.Timers.{fresh_timer}
use Rattle.calloop_loop.specs.declared.asks.Ticket.{Ticket}
use Rattle.calloop_slots.specs.declared.wheel.Instant.{Instant}
use Rattle.calloop_sources.specs.declared.timer.TimeoutAction.{TimeoutAction}
use Rattle.calloop_sources.specs.sources.Calls.{CallbackCall, Went}
use Rattle.calloop_loop.specs.declared.asks.Asked.{Asked}
use Rattle.calloop_loop.specs.declared.asks.Request.{Request}
use Rattle.calloop_loop.specs.declared.asks.Request.TheVariants.{Insert, Enable, Update, Disable, SetDeadline, Remove, Idle, Cancel}
use Rattle.calloop_loop.specs.Askings.{Asks, AskStep, Write, Take, Reaches, IsAsked, CannotAsk, ask_after, asks_after}
use Rattle.calloop_laws.specs.Freshness.{IsOnly, AreOnly, AsksFresh}
use Rattle.calloop_laws.specs.Laws.{IsFresh}
use Rattle.timer_chain.specs.declared.Again.{Again}
use Rattle.timer_chain.specs.Chains.{IsOfTimer, AreOfTimers, AsksForTimers, Chain, in_chain, chain_meaning}

-- one such request was written, or none was
pub one_timer : {D F : Type 0} (held : Dispatcher Timer F → D) (result : Result Ticket (InsertError Timer)) (source : Timer) (at : Instant) (callback : F) (q r : Asks D (Unit {0})) → source ≡ fresh_timer (Some at)
    → IfOk result (λ t. IsAsked (Insert (held (record { source = source; callback = callback }))) t.number q r)
    → IfErr result (λ e. (e.inserted ≡ source) × CannotAsk q e.error × (r ≡ q)) → AsksForTimers held q r
one_timer held (Ok t) source at callback q r is ok err = (
  Write (Insert (held (record { source = source; callback = callback }))) ∷ [],
  ((Some at, callback, ap (λ (s : Timer). held (record { source = s; callback = callback })) is), tt),
  ok.2,
)
one_timer held (Err e) source at callback q r is ok err = ([], tt, err.2)

module _ (P : Type 0) where
  -- what comes in by a request holds no counter
  abbrev IsNew : Chain → Type 0
  IsNew d = IsFresh (chain_meaning {P = P}) d

  new_of : (request : Request Chain (Unit {0})) → IsOfTimer in_chain request → IsOnly IsNew request
  new_of (Insert d) h = rw h.2 ((λ counter. refl), tt)
  new_of (Enable token) h = tt
  new_of (Update token) h = tt
  new_of (Disable token) h = tt
  new_of (SetDeadline token deadline) h = tt
  new_of (Remove token) h = tt
  new_of (Idle idle) h = tt
  new_of (Cancel ticket) h = tt

  only_last : (as' : List (Asked Chain (Unit {0}))) (a : Asked Chain (Unit {0})) → AreOnly IsNew as' → IsOnly IsNew a.request → AreOnly IsNew (as' ++ a ∷ [])
  only_last [] a h k = (k, tt)
  only_last (b ∷ bs) a h k = (h.0, only_last bs a h.1 k)

  new_after : (steps : List (AskStep Chain (Unit {0}))) (q : Asks Chain (Unit {0})) → AreOfTimers in_chain steps → AreOnly IsNew q.written → AreOnly IsNew (asks_after q steps).written
  new_after [] q h k = k
  new_after (Write request ∷ steps) q h k = new_after steps (ask_after q (Write request)) h.1 (only_last q.written _ k (new_of request h.0))
  new_after (Take ticket ∷ steps) q h k = new_after steps (ask_after q (Take ticket)) h k

  new_went : (f g : Again) (x y : ℕ) (q r : Asks Chain (Unit {0})) (cs : List (CallbackCall Instant (Unit {0}) TimeoutAction))
      → Went (λ f e m x q t g n y r. AsksForTimers in_chain q r) Reaches f x q cs g y r → AreOnly IsNew q.written → AreOnly IsNew r.written
  new_went f g x y q r [] h k = subst (λ (a : Asks Chain (Unit {0})). AreOnly IsNew a.written) (sym h.2) k
  new_went f g x y q r (c ∷ cs) h k =
      new_went h.0 g h.1 y h.2 r cs h.5
      (let asked = h.3 in subst (λ (a : Asks Chain (Unit {0})). AreOnly IsNew a.written) (sym asked.2) (new_after asked.0 q asked.1 k))

  pub chain_asks : AsksFresh (chain_meaning {P = P})
  chain_asks s t v readiness token turn steps h before =
      new_went s.held.callback t.held.callback turn.before turn.after turn.asked_before turn.asked_after h.inner.calls h.went before
