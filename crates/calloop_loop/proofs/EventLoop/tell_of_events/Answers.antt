use Rattle.std.proofs.Common.{◌≡◌, ◌+◌, [], ◌∷◌, drop, ◌∙◌, arith}
use Rattle.std.proofs.lemmas.List.{drop_all}
use Rattle.calloop_loop.specs.Machine.{view_of}
use Rattle.calloop_loop.specs.Rules.{Noticing, Cutting}
use Rattle.calloop_loop.proofs.Going.{goes_on, all_noticed}
use Rattle.calloop_loop.proofs.RestOfLists.{rest_from}
use Rattle.calloop_loop.proofs.EventLoop.tell_of_events.Goals as goal

pub loop-place-preserved : goal.loop-place-preserved
loop-place-preserved g c =
    let tokens = c.args.self.now.lifecycle.tokens.items in
    let later = drop (c.loop-place.place + 1) tokens in
    let rest : drop c.loop-place.place tokens ≡ c.at-token.result ∷ later = rest_from tokens c.loop-place.place c.at-token.result (rw c.loop-place.invariant.entries at c.at-token.ensures) in
    record {
      machine = λ x.
          goes_on g.D.Dispatch.means g.D.Idle.IdleCallback.runs g.P.Poller.outside (Noticing c.args.from tokens x) (Noticing c.args.from (c.at-token.result ∷ later) x) (Noticing c.args.from later x) (view_of c.args.self.now) (view_of c.loop-place.self) (view_of c.tell_one_of_events.new.self)
          (rw rest at (c.loop-place.invariant.machine x)) (c.tell_one_of_events.ensures.machine later x);
      entries = c.tell_one_of_events.ensures.entries ∙ c.loop-place.invariant.entries;
    }

pub returns : goal.returns
returns g c =
    let tokens = c.args.self.now.lifecycle.tokens.items in
    let none : drop c.loop-place.place tokens ≡ [] = drop_all c.loop-place.place tokens (omega (arith, c.loop-place-test.false, c.len-place-end.ensures, c.args.self.now.lifecycle.tokens.ok.0)) in
    record {
      machine = λ x.
          goes_on g.D.Dispatch.means g.D.Idle.IdleCallback.runs g.P.Poller.outside (Noticing c.args.from tokens x) (Noticing c.args.from [] x) (Cutting x) (view_of c.args.self.now) (view_of c.loop-place.self) (view_of c.loop-place.self)
          (rw none at (c.loop-place.invariant.machine x)) (all_noticed g.D.Dispatch.means g.D.Idle.IdleCallback.runs g.P.Poller.outside c.args.from (view_of c.loop-place.self) x);
    }
