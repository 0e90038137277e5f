use Rattle.std.proofs.Common.{ap, ◌∷◌, [], rules}
use Rattle.calloop_poll.specs.sys.Polls.{Arm}
use Rattle.calloop_sources.proofs.timer.Timer.arm.Goals as goal

pub returns : goal.returns
returns g c =
    rw c.in-Some.is (Arm c.in-Some.deadline c.in_ok-token.token ∷ [], (ap (λ k. Arm c.in-Some.deadline k ∷ []) c.in_ok-token.ensures.ok.0, search rules, search rules), ((tt, tt), c.in_ok-counter.ensures.ok.1))
