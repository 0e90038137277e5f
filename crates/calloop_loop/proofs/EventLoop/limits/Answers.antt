use Rattle.std.proofs.Common.{◌≡◌, ◌+◌, ◌≤◌, ◌^◌, ◌∷◌, drop, arith}
use Rattle.calloop_slots.specs.Slots.{content_at}
use Rattle.calloop_loop.specs.Limits.{limit_in, all_limits}
use Rattle.calloop_loop.proofs.Limits.{not_less}
use Rattle.calloop_loop.proofs.RestOfLists.{rest_from}
use Rattle.calloop_loop.proofs.EventLoop.limits.Goals as goal

pub returns-in_default-clause-none : goal.returns-in_default-clause-none
returns-in_default-clause-none g c none =
    let M = g.D.Dispatch.means in
    let tokens = c.args.self.now.lifecycle.tokens.items in
    let rest : drop c.loop-place.place tokens ≡ c.at-token.result ∷ drop (c.loop-place.place + 1) tokens = rest_from tokens c.loop-place.place c.at-token.result c.at-token.ensures in
    let so_far : c.loop-place.sum + (limit_in M (content_at c.args.self.now.sources c.at-token.result) + all_limits M c.args.self.now.sources (drop (c.loop-place.place + 1) tokens)) ≡ all_limits M c.args.self.now.sources tokens = rw rest at c.loop-place.invariant in
    let full : 2 ^ 64 ≤ c.loop-place.sum + c.from-limit.result = not_less (c.loop-place.sum + c.from-limit.result) (2 ^ 64) c.in_default.ensures in
    omega (arith, full, so_far, c.from-limit.ensures, c.limit_of.ensures)

pub loop-place-preserved : goal.loop-place-preserved
loop-place-preserved g c =
    let M = g.D.Dispatch.means in
    let tokens = c.args.self.now.lifecycle.tokens.items in
    let rest : drop c.loop-place.place tokens ≡ c.at-token.result ∷ drop (c.loop-place.place + 1) tokens = rest_from tokens c.loop-place.place c.at-token.result c.at-token.ensures in
    let so_far : c.loop-place.sum + (limit_in M (content_at c.args.self.now.sources c.at-token.result) + all_limits M c.args.self.now.sources (drop (c.loop-place.place + 1) tokens)) ≡ all_limits M c.args.self.now.sources tokens = rw rest at c.loop-place.invariant in
    let now : c.in-Some.more + all_limits M c.args.self.now.sources (drop (c.loop-place.place + 1) tokens) ≡ all_limits M c.args.self.now.sources tokens = omega (arith, so_far, c.from-limit.ensures, c.limit_of.ensures, c.in-Some.ensures.1) in
    now
