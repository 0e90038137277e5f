use Rattle.std.proofs.Common.{rules}
use Rattle.std.proofs.lemmas.Fn.{filter_same}
use Rattle.calloop_loop.specs.Held.{is_another}
use Rattle.calloop_loop.proofs.lifecycle.Lifecycle.leave.Goals as goal

pub returns : goal.returns
returns c = filter_same _ (is_another c.args.token) _ (λ x b f' k. search rules) _ _ c.retain.ensures.filtered
