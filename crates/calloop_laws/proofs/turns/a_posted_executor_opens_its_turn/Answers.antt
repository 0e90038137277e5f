use Rattle.calloop_ends.specs.futures.Executors.{executor_tally, SameExecutor, ExecutorOpens}
use Rattle.calloop_laws.proofs.Calling.{rest_opened}
use Rattle.calloop_laws.proofs.turns.a_posted_executor_opens_its_turn.Goals as goal

pub returns : goal.returns
returns g c = λ timeout x x' v css h.
    rest_opened executor_tally SameExecutor (ExecutorOpens _) g.F.Callback.may _ _ g.D.Choice.held g.D.Dispatch.means g.met.D.Hold.held_means v css
