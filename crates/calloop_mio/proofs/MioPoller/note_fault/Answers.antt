use Rattle.std.proofs.Common.{◌≡◌, true, false, is_err, Result, Ok, Err, refl, arith}
use Rattle.std.specs.declared.io.Error.{Error as Cause}
use Rattle.calloop_poll.specs.sys.Pollers.{faults_of}
use Rattle.calloop_mio.proofs.MioPoller.note_fault.Goals as goal

one : (answer : Result (Unit {0}) Cause) → true ≡ is_err answer → faults_of answer ≡ 1
one (Ok u) is = absurd (cc)
one (Err cause) is = refl

none : (answer : Result (Unit {0}) Cause) → false ≡ is_err answer → faults_of answer ≡ 0
none (Ok u) is = refl
none (Err cause) is = absurd (cc)

pub returns-then-is_err-clause-faults : goal.returns-then-is_err-clause-faults
returns-then-is_err-clause-faults g c = let counts = one c.args.answer c.if-is_err.ensures.value in omega arith

pub returns-else-is_err-clause-faults : goal.returns-else-is_err-clause-faults
returns-else-is_err-clause-faults g c = let counts = none c.args.answer c.if-is_err.ensures.value in omega arith
