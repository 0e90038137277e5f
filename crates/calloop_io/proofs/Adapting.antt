-- When an adapter leaves.
use Rattle.std.proofs.Common.{◌≡◌, ◌++◌, refl, subst, [], true, false, List, Option, Some, None, Result, Ok, Err, inl, inr}
use Rattle.std.specs.declared.io.ErrorKind.TheVariants.{NotFound}
use Rattle.calloop_slots.specs.declared.error.Error.{Error}
use Rattle.calloop_slots.specs.declared.error.Error.TheVariants.{InvalidToken}
use Rattle.calloop_slots.specs.declared.token.Token.{Token}
use Rattle.calloop_poll.specs.sys.Pollers.{Outside, Sockets}
use Rattle.calloop_poll.specs.sys.Polls.{PollView, PollStep, IsOfKind, AllStepped, polls_after}
use Rattle.calloop_poll.proofs.Stepping.{stepped-append}
use Rattle.calloop_io.specs.declared.adapter.Adapter.{Adapter}
use Rattle.calloop_io.specs.declared.notes.SlotNote.TheVariants.{Asked}
use Rattle.calloop_io.specs.Adapters.{TakenOut, Leaves, Goes, discards, left_so, registered_nowhere, and_did}

module _ {P F R : Type 0} (sockets : Sockets P) (O : Outside P) where
  abbrev Left : Option Token → Adapter F R → PollView P → Result (Unit {0}) Error → Adapter F R → PollView P → Type 0
  Left own s v answer t w = (steps : List (PollStep P)) × Leaves sockets own s v answer steps t × AllStepped O v steps w

  pub nowhere : (own : Option Token) (s : Adapter F R) (v : PollView P) (e : Error) → own ≡ None → IsOfKind NotFound e → Left own s v (Err e) s v
  nowhere own s v e none kind = rw none ([], (e, refl, kind, refl, refl), (tt, refl))

  pub not_let : (own : Option Token) (token : Token) (s : Adapter F R) (v : PollView P) → own ≡ Some token → Left own s v (Err InvalidToken) (and_did (Asked false) s) v
  not_let own token s v some = rw some ([], inl (InvalidToken, refl, refl, refl, refl), (tt, refl))

  pub let_out : (own : Option Token) (token : Token) (s : Adapter F R) (v w : PollView P) (answer : Result (Unit {0}) Error) → own ≡ Some token
      → ((steps : List (PollStep P)) × TakenOut sockets s.entered token v answer steps × AllStepped O v steps w) → Left own s v answer (left_so answer (and_did (Asked true) s)) w
  let_out own token s v w answer some h = rw some (h.0, inr (h.1, refl), h.2)

  abbrev Gone : Option Token → Adapter F R → PollView P → Result (Unit {0}) Error → Adapter F R → PollView P → Type 0
  Gone own s v told t w = (steps : List (PollStep P)) × Goes sockets own s v told steps t × AllStepped O v steps w

  -- its other end is gone, and it is in no loop
  pub stays_out : (own : Option Token) (s : Adapter F R) (v : PollView P) → own ≡ None → Gone own s v (Ok tt) s v
  stays_out own s v none = rw none ([], (refl, refl, refl), (tt, refl))

  -- its other end is gone, and it was in a loop
  pub goes_out : (own : Option Token) (token : Token) (s : Adapter F R) (v u w : PollView P) (told : Result (Unit {0}) Error) → own ≡ Some token
      → ((out : List (PollStep P)) × TakenOut sockets s.entered token v told out × AllStepped O v out u)
      → AllStepped O u (discards told token u.poller) w → Gone own s v told (registered_nowhere s) w
  goes_out own token s v u w told some h last =
      let p : P = (polls_after v h.0).poller in
      let then : AllStepped O u (discards told token p) w = subst (λ (x : PollView P). AllStepped O u (discards told token x.poller) w) h.2.1 last in
      rw some (h.0 ++ discards told token p, (h.0, h.1, refl, refl), stepped-append O v u w h.0 (discards told token p) h.2 then)
