use Rattle.std.proofs.Common.{refl, arith}
use Rattle.std.specs.Duration.{as_nanos}
use Rattle.calloop_mio.proofs.portions.short_of.Goals as goal

pub returns-then-not-is_zero : goal.returns-then-not-is_zero
returns-then-not-is_zero c = (as_nanos c.whole_millis-whole.result, refl, omega (arith, c.whole_millis-whole.ensures, c.saturating_sub.ensures))
