use Rattle.std.proofs.Common.{◌≡◌, length}
use Rattle.std.specs.Io.KnownBytes.{Consumes}
use Rattle.looptrace.proofs.LineLemmas.{IsFeedless}
use Rattle.looptrace.proofs.lines.read_line.Given as goal

abbrev pub invariant-loop : goal.invariant-loop
invariant-loop g l =
    Consumes (g.R.Read.remaining l.fn.input) (g.R.Read.remaining l.input) l.line.items
    × IsFeedless l.line.items
    × (length l.line.items ≡ l.counter)
