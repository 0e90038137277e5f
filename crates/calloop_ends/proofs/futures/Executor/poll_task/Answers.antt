use Rattle.std.proofs.Common.{◌≡◌, ◌+◌, ℕ, ◌∙◌, ap, refl, arith}
use Rattle.calloop_ends.specs.futures.Executors.{Gave}
use Rattle.calloop_ends.proofs.futures.Executor.poll_task.Goals as goal

pub returns-clause-polled : goal.returns-clause-polled
returns-clause-polled g c =
    let none : c.args.self.now.misses ≡ c.args.self.now.misses + 0 = omega arith in (
      Gave c.in-Ok.ready.0,
      refl,
      (c.in-Some.taken.future.future, c.in-Ok.ensures.ready.0, c.in-Ok.ensures.ready.1, c.in-Ok.ensures.gives),
      c.in-Some.ensures.some.1 ∙ c.self.view_is ∙ ap (λ (m : ℕ). record c.args.self.now { misses = m }) none,
      (c.call.new.self, c.call.new.data, c.call.new.requests, c.call.ensures.may, c.call.ensures.asks, (refl, refl, refl)),
    )
