use Rattle.std.proofs.Common.{rules, ◌∙◌}
use Rattle.looptrace.proofs.named.Names.is_taken.Goals as goal

pub returns : goal.returns
returns g c = c.contains_key.ensures ∙ search rules
