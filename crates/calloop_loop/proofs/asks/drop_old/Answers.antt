use Rattle.std.proofs.Common.{rules}
use Rattle.std.proofs.lemmas.Fn.{filter_same}
use Rattle.calloop_loop.specs.Askings.{stays_on}
use Rattle.calloop_loop.proofs.asks.drop_old.Goals as goal

pub returns-clause-items : goal.returns-clause-items
returns-clause-items g c = filter_same _ (stays_on c.args.taken_up_at c.args.cleared_at c.args.last) _ (λ x b f' k. search rules) _ _ c.retain.ensures.filtered
