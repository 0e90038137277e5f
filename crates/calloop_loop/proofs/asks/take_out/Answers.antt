use Rattle.std.proofs.Common.{rules}
use Rattle.std.proofs.lemmas.Fn.{filter_same}
use Rattle.calloop_loop.specs.Askings.{is_other_idle}
use Rattle.calloop_loop.proofs.asks.take_out.Goals as goal

pub returns-clause-items : goal.returns-clause-items
returns-clause-items g c = filter_same _ (is_other_idle c.args.ticket) _ (λ x b f' k. search rules) _ _ c.retain.ensures.filtered
