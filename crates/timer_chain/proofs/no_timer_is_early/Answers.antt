use Rattle.calloop_laws.specs.Freshness.{quiet_runs}
use Rattle.calloop_laws.specs.Laws.{IsFresh}
use Rattle.timer_chain.specs.Chains.{chain_meaning, no_idles}
use Rattle.timer_chain.proofs.ChainLemmas.{chain_asks}
use Rattle.timer_chain.proofs.no_timer_is_early.Goals as goal

pub returns : goal.returns
returns g c = c.once.ensures.armings (chain_asks g.row.P.Denot) (quiet_runs (IsFresh (chain_meaning {P = g.row.P.Denot})) no_idles (λ i x y q r h. h.1))
