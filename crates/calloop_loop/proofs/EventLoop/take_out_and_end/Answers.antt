use Rattle.std.proofs.Common.{◌≡◌, ◌∙◌, ap, subst, Some, List}
use Rattle.calloop_slots.specs.declared.list.Content.TheVariants.{InTurn}
use Rattle.calloop_slots.specs.declared.list.Slot.{Slot}
use Rattle.calloop_slots.specs.Slots.{source_of, with_change, with_content}
use Rattle.calloop_slots.specs.Failures.{with_error}
use Rattle.calloop_loop.specs.Machine.{View, view_of}
use Rattle.calloop_loop.specs.Rules.{Goes, Serving, Ending, after_hand_out}
use Rattle.calloop_loop.proofs.ServedAsks.{all_steady}
use Rattle.calloop_loop.proofs.Going.{goes_on, turn_served}
use Rattle.calloop_loop.proofs.EventLoop.take_out_and_end.Goals as goal

pub returns-clause-machine : goal.returns-clause-machine
returns-clause-machine g c d x is =
    let M = g.D.Dispatch.means in
    let O = g.P.Poller.outside in
    let R = g.D.Idle.IdleCallback.runs in
    let v : View g.row.D.Denot g.row.D-Idle.Denot g.row.P.Denot = view_of c.args.self.now in
    let t = c.args.token in
    let s = c.in-Some.source in
    let answer = with_error c.args.answer c.args.failure.now in
    let slots : c.begin_turn.new.self ≡ with_change (with_content InTurn) v.slots t.slot = c.in-Some.ensures.list in
    let named : Some s ≡ Some d = c.in-Some.ensures.value ∙ ap source_of is in
    let same : s ≡ d = cc in
    let out : View g.row.D.Denot g.row.D-Idle.Denot g.row.P.Denot = record v { slots = c.begin_turn.new.self } in
    let end = view_of c.end_turn.new.self in
    let after = after_hand_out (with_error c.end_turn.result c.end_turn.new.failure) x in
    subst (λ (e : g.row.D.Denot). Goes M R O (Serving t e answer x) after (record v { slots = with_change (with_content InTurn) v.slots t.slot }) end) same
    (subst (λ (ss : List (Slot g.row.D.Denot)). Goes M R O (Serving t s answer x) after (record v { slots = ss }) end) slots
    (goes_on M R O (Serving t s answer x) (Ending t s answer x) after out (view_of c.serve_all.new.self) end
    (turn_served M R O t s answer x c.serve_all.ensures.0 out (view_of c.serve_all.new.self) c.serve_all.ensures.1 c.serve_all.ensures.2) (c.end_turn.ensures.machine x)))

pub returns-clause-batch : goal.returns-clause-batch
returns-clause-batch g c =
    let served = all_steady g.D.Dispatch.means g.P.Poller.outside _ c.serve_all.ensures.0 c.serve_all.ensures.1 in
    c.end_turn.ensures.batch ∙ ap (λ (u : View g.row.D.Denot g.row.D-Idle.Denot g.row.P.Denot). u.poll.batch) c.serve_all.ensures.2 ∙ served.0
