use Rattle.std.proofs.Common.{ap, arith, length}
use Rattle.calloop_loop.specs.Askings.{Asks}
use Rattle.calloop_loop.specs.Machine.{View, view_of}
use Rattle.calloop_loop.specs.Rules.{RunningIdles, ServingIdle}
use Rattle.calloop_loop.proofs.Going.{goes_on, no_idle, idle_run, idle_served}
use Rattle.calloop_loop.proofs.ServedAsks.{all_steady, fewer_running, none_left_over}
use Rattle.calloop_loop.proofs.EventLoop.run_idle.Goals as goal

pub returns-in_default-clause-machine : goal.returns-in_default-clause-machine
returns-in_default-clause-machine g c =
    rw (c.in_default.ensures.asks, none_left_over c.args.self.now.requests c.in_default.ensures.first) (no_idle g.D.Dispatch.means g.D.Idle.IdleCallback.runs g.P.Poller.outside c.args.«data».now (view_of c.args.self.now) c.in_default.ensures.first)

pub returns-clause-machine : goal.returns-clause-machine
returns-clause-machine g c =
    let M = g.D.Dispatch.means in
    let O = g.P.Poller.outside in
    let R = g.D.Idle.IdleCallback.runs in
    let v : View g.row.D.Denot g.row.D-Idle.Denot g.row.P.Denot = view_of c.args.self.now in
    let x = c.args.«data».now in
    let y = c.run.new.«data» in
    let asked : Asks g.row.D.Denot g.row.D-Idle.Denot = c.run.new.requests in
    let ran : View g.row.D.Denot g.row.D-Idle.Denot g.row.P.Denot = record v { held = record v.held { asks = asked } } in
    let u = view_of c.serve_all.new.self in
    goes_on M R O (RunningIdles x) (ServingIdle y) (RunningIdles y) v ran u
    (idle_run M R O x y v c.in-Some.idle asked c.in-Some.ensures.first (rw c.in-Some.ensures.asks at c.run.ensures.runs) (rw c.in-Some.ensures.asks at c.run.ensures.asks))
    (idle_served M R O y c.serve_all.ensures.0 ran u c.serve_all.ensures.1 c.serve_all.ensures.2)

pub returns-clause-fewer : goal.returns-clause-fewer
returns-clause-fewer g c =
    let served = all_steady g.D.Dispatch.means g.P.Poller.outside _ c.serve_all.ensures.0 c.serve_all.ensures.1 in
    let all = ap (λ (u : View g.row.D.Denot g.row.D-Idle.Denot g.row.P.Denot). length u.held.asks.running) c.serve_all.ensures.2 in
    let less = fewer_running c.args.self.now.requests c.run.new.requests c.in-Some.idle c.in-Some.ensures.first (rw c.in-Some.ensures.asks at c.run.ensures.asks) in
    λ _. omega (arith, served.1, all, less)
