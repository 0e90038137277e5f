use Rattle.std.proofs.Common.{◌≡◌, ◌+◌, [], ◌∷◌, drop, arith, ◌∙◌}
use Rattle.std.proofs.lemmas.List.{drop_all}
use Rattle.calloop_loop.specs.Machine.{view_of}
use Rattle.calloop_loop.specs.Rules.{Settling, Sleeping}
use Rattle.calloop_loop.proofs.Going.{goes_on}
use Rattle.calloop_loop.proofs.SettledMarks.{all_settled}
use Rattle.calloop_loop.proofs.RestOfLists.{rest_from}
use Rattle.calloop_loop.proofs.EventLoop.settle_all.Goals as goal

pub loop-place-preserved : goal.loop-place-preserved
loop-place-preserved g c =
    let tokens = c.args.marked.now in
    let later = drop (c.loop-place.place + 1) tokens in
    let rest : drop c.loop-place.place tokens ≡ c.marked_at-token.result ∷ later = rest_from tokens c.loop-place.place c.marked_at-token.result c.marked_at-token.ensures in
    record {
      machine = λ timeout x.
          goes_on g.D.Dispatch.means g.D.Idle.IdleCallback.runs g.P.Poller.outside (Settling timeout tokens x) (Settling timeout (c.marked_at-token.result ∷ later) x) (Settling timeout later x) (view_of c.args.self.now) (view_of c.loop-place.self) (view_of c.settle_one.new.self)
          (rw rest at (c.loop-place.invariant.machine timeout x)) (c.settle_one.ensures.machine timeout later x);
      limits = omega (arith, c.settle_one.ensures.limits, c.loop-place.invariant.limits);
      room = c.settle_one.ensures.room ∙ c.loop-place.invariant.room;
      ready = λ more h. c.settle_one.ensures.ready more (c.loop-place.invariant.ready more h);
    }

pub returns-clause-machine : goal.returns-clause-machine
returns-clause-machine g c timeout x =
    let tokens = c.args.marked.now in
    let none : drop c.loop-place.place tokens ≡ [] = drop_all c.loop-place.place tokens (omega (arith, c.loop-place-test.false)) in
    goes_on g.D.Dispatch.means g.D.Idle.IdleCallback.runs g.P.Poller.outside (Settling timeout tokens x) (Settling timeout [] x) (Sleeping timeout c.loop-place.self.lifecycle.tokens.items x) (view_of c.args.self.now) (view_of c.loop-place.self) (view_of c.loop-place.self)
    (rw none at (c.loop-place.invariant.machine timeout x)) (all_settled g.D.Dispatch.means g.D.Idle.IdleCallback.runs g.P.Poller.outside timeout (view_of c.loop-place.self) x)
