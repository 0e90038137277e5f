use Rattle.std.proofs.Common.{◌≡◌, sym, arith, filter}
use Rattle.calloop_slots.specs.declared.list.Content.TheVariants.{Source, Vacant}
use Rattle.calloop_slots.specs.Slots.{content_at}
use Rattle.calloop_slots.proofs.Named.{source_is}
use Rattle.calloop_poll.specs.sys.Polls.{poll_view}
use Rattle.calloop_loop.specs.Machine.{view_of}
use Rattle.calloop_loop.specs.Roles.{only, is_adapter}
use Rattle.calloop_loop.specs.Held.{is_another}
use Rattle.calloop_loop.proofs.SettledMarks.{not_settled, kept, gone}
use Rattle.calloop_loop.proofs.Roles.{only_source}
use Rattle.calloop_loop.proofs.Limits.{ended_limits, filtered_limits, settled_limit}
use Rattle.calloop_loop.proofs.EventLoop.settle_one.Goals as goal

pub returns-in_default-clause-machine : goal.returns-in_default-clause-machine
returns-in_default-clause-machine g c timeout later x =
    rw c.in_default.ensures.list (not_settled g.D.Dispatch.means g.D.Idle.IdleCallback.runs g.P.Poller.outside timeout c.args.token later (view_of c.args.self.now) x c.in_default.ensures.value)

pub returns-in-Some-settle-clause-machine : goal.returns-in-Some-settle-clause-machine
returns-in-Some-settle-clause-machine g c timeout later x =
    let ss = only (is_adapter g.D.Dispatch.means) (content_at c.args.self.now.sources c.args.token) in
    let is : ss ≡ Source c.in-Some.source = source_is ss c.in-Some.source (sym c.in-Some.ensures.value) in
    rw (c.vacate.ensures, c.leave.ensures, c.keep_none_for.ensures, c.in-Some.ensures.list)
    (gone g.D.Dispatch.means g.D.Idle.IdleCallback.runs g.P.Poller.outside timeout c.args.token later (view_of c.args.self.now) x c.in-Some.source c.settle.new.self c.in-Some-settle.told (poll_view c.settle.new.poll) c.note.ensures.0 c.note.new.self.errors.items is c.note.ensures.1 c.in-Some-settle.ensures.settles)

pub returns-in-None-clause-machine : goal.returns-in-None-clause-machine
returns-in-None-clause-machine g c timeout later x =
    let ss = only (is_adapter g.D.Dispatch.means) (content_at c.args.self.now.sources c.args.token) in
    let is : ss ≡ Source c.in-Some.source = source_is ss c.in-Some.source (sym c.in-Some.ensures.value) in
    rw (c.end_turn-none.ensures.list, c.in-Some.ensures.list)
    (kept g.D.Dispatch.means g.D.Idle.IdleCallback.runs g.P.Poller.outside timeout c.args.token later (view_of c.args.self.now) x c.in-Some.source c.settle.new.self (poll_view c.settle.new.poll) is c.in-None.ensures.settles)

pub returns-in_default-clause-limits : goal.returns-in_default-clause-limits
returns-in_default-clause-limits g c = rw c.in_default.ensures.list (omega arith)

pub returns-in-Some-settle-clause-limits : goal.returns-in-Some-settle-clause-limits
returns-in-Some-settle-clause-limits g c =
    let M = g.D.Dispatch.means in
    let d = c.in-Some.source in
    let old = c.args.self.now.sources in
    let tokens = c.args.self.now.lifecycle.tokens.items in
    let ss = only (is_adapter M) (content_at old c.args.token) in
    let is : content_at old c.args.token ≡ Source d = only_source (is_adapter M) (content_at old c.args.token) d (source_is ss d (sym c.in-Some.ensures.value)) in
    let gone = ended_limits M old c.args.token d Vacant is (omega arith) (filter (is_another c.args.token) tokens) in
    rw (c.vacate.ensures, c.leave.ensures, c.in-Some.ensures.list)
    (omega (arith, gone, filtered_limits M (is_another c.args.token) old tokens))

pub returns-in-None-clause-limits : goal.returns-in-None-clause-limits
returns-in-None-clause-limits g c =
    let M = g.D.Dispatch.means in
    let d = c.in-Some.source in
    let e = c.settle.new.self in
    let old = c.args.self.now.sources in
    let tokens = c.args.self.now.lifecycle.tokens.items in
    let ss = only (is_adapter M) (content_at old c.args.token) in
    let is : content_at old c.args.token ≡ Source d = only_source (is_adapter M) (content_at old c.args.token) d (source_is ss d (sym c.in-Some.ensures.value)) in
    let same = settled_limit M g.P.Poller.outside g.met.D.Dispatch.keeps.limit (M.role d) c.args.token d e (poll_view c.args.self.now.poll) (poll_view c.settle.new.poll) c.in-None.ensures.settles in
    rw (c.end_turn-none.ensures.list, c.in-Some.ensures.list)
    (ended_limits M old c.args.token d (Source e) is (omega (arith, same)) tokens)
