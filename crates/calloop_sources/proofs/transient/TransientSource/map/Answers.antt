use Rattle.std.proofs.Common.{refl}
use Rattle.calloop_sources.proofs.transient.TransientSource.map.Goals as goal

pub returns-in-Keep : goal.returns-in-Keep
returns-in-Keep g c = rw c.in-Keep.is
    (c.f.result, c.f.new.arg2, record { shown = _; shows = refl; left = _; met = c.f.ensures; leaves = refl }, refl, refl)

pub returns-in-Register : goal.returns-in-Register
returns-in-Register g c = rw c.in-Register.is
    (c.f-in-Register.result, c.f-in-Register.new.arg2, record { shown = _; shows = refl; left = _; met = c.f-in-Register.ensures; leaves = refl }, refl, refl)

pub returns-in-Disable : goal.returns-in-Disable
returns-in-Disable g c = rw c.in-Disable.is
    (c.f-in-Disable.result, c.f-in-Disable.new.arg2, record { shown = _; shows = refl; left = _; met = c.f-in-Disable.ensures; leaves = refl }, refl, refl)

pub returns-in-Replace : goal.returns-in-Replace
returns-in-Replace g c = rw c.in-Replace.is
    (c.f-in-Replace.result, c.f-in-Replace.new.arg2, record { shown = _; shows = refl; left = _; met = c.f-in-Replace.ensures; leaves = refl }, refl, refl)
