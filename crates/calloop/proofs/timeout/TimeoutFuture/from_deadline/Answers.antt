use Rattle.std.proofs.Common.{rules, refl, inr}
use Rattle.std.proofs.lemmas.Result.{err_from_is_err_and}
use Rattle.calloop.proofs.timeout.TimeoutFuture.from_deadline.Goals as goal

pub returns-in_err-register_dispatcher-clause-err : goal.returns-in_err-register_dispatcher-clause-err
returns-in_err-register_dispatcher-clause-err g c =
    let p = err_from_is_err_and c.from_residual-in_err-register_dispatcher.result c.from_residual-in_err-register_dispatcher.ensures.1 in
    rw (p.1, p.2) (inr (c.in_err-register_dispatcher.field-0.0, refl, c.in_ok-future.wakes, search rules))

pub returns-clause-ok : goal.returns-clause-ok
returns-clause-ok g c =
    (c.in_ok-future.ensures.0, (c.in_ok-register_dispatcher.field-0, c.in_ok-future.wakes, c.in_ok-future.ensures.2, g.met.D.Keep.placed_means.role _, search rules))
