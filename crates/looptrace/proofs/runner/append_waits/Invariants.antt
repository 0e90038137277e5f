use Rattle.std.proofs.Common.{◌≡◌, ◌++◌, drop}
use Rattle.looptrace.specs.Runs.{waits_text}
use Rattle.looptrace.proofs.runner.append_waits.Given as goal

abbrev pub invariant-loop-asked : goal.invariant-loop-asked
invariant-loop-asked l = l.text.items ++ waits_text (drop l.asked-index l.waits) ≡ l.initial.text.items ++ waits_text l.waits
