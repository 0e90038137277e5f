use Rattle.std.proofs.Common.{◌≡◌, ◌+◌, ◌-◌, ◌≤◌, ℕ, true, List, IsSome, IfSome, is_some}
use Rattle.calloop_wake.specs.Cells.{one}
use Rattle.calloop_wake.specs.Executors.{most_tasks}
use Rattle.calloop_ends.specs.futures.Executors.{OfPop, ComesOf}
use Rattle.calloop_ends.proofs.Polling.{Polled}
use Rattle.calloop_ends.proofs.futures.Executor.run_tasks.Given as goal

abbrev pub invariant-pops : goal.invariant-pops
invariant-pops g l =
    (l.turn.name ≡ l.self.name) × (l.turn.progress.pops ≤ most_tasks)
    × (is_some l.finished ≡ true → IsSome l.turn.progress.polled)
    × (l.self ≡ record l.fn.self { number = l.self.number; misses = l.self.misses })
    × ((ps : List (OfPop g.row.Fut-Output.Denot)) × (count : ℕ) × (results : ℕ) × (misses : ℕ)
    × (count + one l.turn.progress.dry ≡ l.turn.progress.pops)
    × (l.self.number + one (is_some l.finished) ≡ l.fn.self.number + results) × (l.self.misses ≡ l.fn.self.misses + misses)
    × Polled (ComesOf g.Fut.Future.gives g.Fut.Future.polls) g.F.Callback.may g.Q.Asking.reaches l.fn.callback l.fn.«data» l.fn.requests ps count results misses l.callback l.«data» l.requests)
    × IfSome l.finished (λ done. done.task.name ≡ l.self.name)

abbrev pub decreases-pops : goal.decreases-pops
decreases-pops g l = most_tasks - l.turn.progress.pops
