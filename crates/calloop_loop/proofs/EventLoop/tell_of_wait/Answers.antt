use Rattle.std.proofs.Common.{◌≡◌, ◌+◌, ◌≤◌, [], ◌∷◌, Err, drop, ◌∙◌, arith}
use Rattle.std.proofs.lemmas.List.{drop_all}
use Rattle.std.proofs.lemmas.Result.{err_from_is_err_and}
use Rattle.calloop_slots.specs.Slots.{content_at}
use Rattle.calloop_loop.specs.Limits.{limit_in, all_limits}
use Rattle.calloop_loop.specs.Machine.{view_of}
use Rattle.calloop_loop.specs.Rules.{Sleeping, Waiting, Leaving}
use Rattle.calloop_loop.proofs.Going.{goes_on, all_slept}
use Rattle.calloop_loop.proofs.RestOfLists.{rest_from}
use Rattle.calloop_loop.proofs.SettledMarks.{ready_less}
use Rattle.calloop_loop.proofs.EventLoop.tell_of_wait.Goals as goal

pub returns-in_err-tell_one_of_wait-clause-machine : goal.returns-in_err-tell_one_of_wait-clause-machine
returns-in_err-tell_one_of_wait-clause-machine g c timeout x =
    let tokens = c.args.self.now.lifecycle.tokens.items in
    let later = drop (c.loop-place.place + 1) tokens in
    let rest : drop c.loop-place.place tokens ≡ c.at-token.result ∷ later = rest_from tokens c.loop-place.place c.at-token.result (rw c.loop-place.invariant.entries at c.at-token.ensures) in
    let p = err_from_is_err_and c.from_residual.result c.from_residual.ensures.1 in
    let e = c.tell_one_of_wait.new.failure in
    rw p.1
    (goes_on g.D.Dispatch.means g.D.Idle.IdleCallback.runs g.P.Poller.outside (Sleeping timeout tokens x) (Sleeping timeout (c.at-token.result ∷ later) x) (Leaving (Err e) x) (view_of c.args.self.now) (view_of c.loop-place.self) (view_of c.tell_one_of_wait.new.self)
    (rw rest at (c.loop-place.invariant.machine timeout x)) (c.in_err-tell_one_of_wait.ensures.machine timeout later x))

pub loop-place-preserved : goal.loop-place-preserved
loop-place-preserved g c =
    let tokens = c.args.self.now.lifecycle.tokens.items in
    let later = drop (c.loop-place.place + 1) tokens in
    let rest : drop c.loop-place.place tokens ≡ c.at-token.result ∷ later = rest_from tokens c.loop-place.place c.at-token.result (rw c.loop-place.invariant.entries at c.at-token.ensures) in
    let M = g.D.Dispatch.means in
    let before = all_limits M c.loop-place.self.sources later in
    let after = all_limits M c.tell_one_of_wait.new.self.sources later in
    let fewer : after ≤ before = c.in_ok-tell_one_of_wait.ensures.limits later in
    let room : limit_in M (content_at c.loop-place.self.sources c.at-token.result) + before ≤ c.loop-place.self.synthetic.room = rw rest at c.loop-place.invariant.room in
    record {
      machine = λ timeout x.
          goes_on g.D.Dispatch.means g.D.Idle.IdleCallback.runs g.P.Poller.outside (Sleeping timeout tokens x) (Sleeping timeout (c.at-token.result ∷ later) x) (Sleeping timeout later x) (view_of c.args.self.now) (view_of c.loop-place.self) (view_of c.tell_one_of_wait.new.self)
          (rw rest at (c.loop-place.invariant.machine timeout x)) (c.in_ok-tell_one_of_wait.ensures.machine timeout later x);
      ready = ready_less c.tell_one_of_wait.new.self.poll before after fewer (c.in_ok-tell_one_of_wait.ensures.ready before (rw rest at c.loop-place.invariant.ready));
      room = omega (arith, fewer, c.in_ok-tell_one_of_wait.ensures.room, room);
      entries = c.in_ok-tell_one_of_wait.ensures.entries ∙ c.loop-place.invariant.entries;
    }

pub returns-clause-machine : goal.returns-clause-machine
returns-clause-machine g c timeout x =
    let tokens = c.args.self.now.lifecycle.tokens.items in
    let none : drop c.loop-place.place tokens ≡ [] = drop_all c.loop-place.place tokens (omega (arith, c.loop-place-test.false, c.len-place-end.ensures, c.args.self.now.lifecycle.tokens.ok.0)) in
    goes_on g.D.Dispatch.means g.D.Idle.IdleCallback.runs g.P.Poller.outside (Sleeping timeout tokens x) (Sleeping timeout [] x) (Waiting timeout x) (view_of c.args.self.now) (view_of c.loop-place.self) (view_of c.loop-place.self)
    (rw none at (c.loop-place.invariant.machine timeout x)) (all_slept g.D.Dispatch.means g.D.Idle.IdleCallback.runs g.P.Poller.outside timeout (view_of c.loop-place.self) x)

pub tell_one_of_wait-requires-clause-ready : goal.tell_one_of_wait-requires-clause-ready
tell_one_of_wait-requires-clause-ready g c =
    let M = g.D.Dispatch.means in
    let tokens = c.args.self.now.lifecycle.tokens.items in
    let later = drop (c.loop-place.place + 1) tokens in
    let rest : drop c.loop-place.place tokens ≡ c.at-token.result ∷ later = rest_from tokens c.loop-place.place c.at-token.result (rw c.loop-place.invariant.entries at c.at-token.ensures) in
    let here = limit_in M (content_at c.loop-place.self.sources c.at-token.result) in
    ready_less c.loop-place.self.poll (here + all_limits M c.loop-place.self.sources later) here (omega arith) (rw rest at c.loop-place.invariant.ready)

pub tell_one_of_wait-requires-clause-room : goal.tell_one_of_wait-requires-clause-room
tell_one_of_wait-requires-clause-room g c =
    let M = g.D.Dispatch.means in
    let tokens = c.args.self.now.lifecycle.tokens.items in
    let later = drop (c.loop-place.place + 1) tokens in
    let rest : drop c.loop-place.place tokens ≡ c.at-token.result ∷ later = rest_from tokens c.loop-place.place c.at-token.result (rw c.loop-place.invariant.entries at c.at-token.ensures) in
    let room : limit_in M (content_at c.loop-place.self.sources c.at-token.result) + all_limits M c.loop-place.self.sources later ≤ c.loop-place.self.synthetic.room = rw rest at c.loop-place.invariant.room in
    omega (arith, room)
