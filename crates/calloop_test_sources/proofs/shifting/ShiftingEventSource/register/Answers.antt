use Rattle.std.proofs.Common.{refl, [], inr}
use Rattle.std.proofs.lemmas.Result.{err_from_is_err_and}
use Rattle.calloop_test_sources.proofs.shifting.ShiftingEventSource.register.Goals as goal

pub returns-in_err-shift : goal.returns-in_err-shift
returns-in_err-shift g c =
    let p = err_from_is_err_and c.from_residual.result c.from_residual.ensures.1 in
    ([], (c.shift.new.factory, c.in_err-shift.ensures.spends, inr (p.0, p.1, refl, c.in_err-shift.ensures.source)), (tt, refl))
