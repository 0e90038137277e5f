use Rattle.std.proofs.Common.{◌≡◌, []}
use Rattle.std.specs.Io.KnownBytes.{Appends}
use Rattle.looptrace.proofs.TraceLemmas.{Ran}
use Rattle.looptrace.proofs.driver.drive.Given as goal

abbrev pub invariant-loop : goal.invariant-loop
invariant-loop g l =
    Appends (g.E.Write.contents l.fn.streams.errors) (g.E.Write.contents l.streams.errors) []
    × Ran g.L.Runner.step l.fn.runner (g.R.Read.remaining l.fn.streams.input) (g.R.Read.remaining l.streams.input)
    (g.W.Write.contents l.fn.streams.output) (g.W.Write.contents l.streams.output) l.runner l.number
    × (l.streams.faults.count ≡ l.fn.streams.faults.count)
