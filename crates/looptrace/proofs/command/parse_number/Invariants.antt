use Rattle.std.proofs.Common.{◌≡◌, drop}
use Rattle.looptrace.specs.Commands.{digits_from, number_of}
use Rattle.looptrace.proofs.command.parse_number.Given as goal

abbrev pub invariant-loop-b : goal.invariant-loop-b
invariant-loop-b l = number_of l.word ≡ digits_from l.value (drop l.b-index l.word)
