-- A turn of an executor leaves its key as it is, and makes no step of a timer. The impl cites these proofs, so they stand here.
use Rattle.std.proofs.Common.{ap}
use Rattle.calloop_sources.specs.sources.Meanings.{IsKeeping}
use Rattle.calloop_ends.specs.cell.CellKeeping.{OpensQuietly, cell_keeps}
use Rattle.calloop_ends.specs.futures.Executors.{OfPop, ExecutorOpens, SameExecutor, executor_tally, executor_meaning}

executor_quiet : {O : Type 0} (given : OfPop O → Type 0) → OpensQuietly executor_tally (ExecutorOpens given)
executor_quiet given s t calls action h = ap (λ x. x.key) h.4

pub executor_keeps : {P O : Type 0} (given : OfPop O → Type 0) → IsKeeping (executor_meaning {P = P} given)
executor_keeps given = cell_keeps executor_tally SameExecutor (ExecutorOpens given) (executor_quiet given)
