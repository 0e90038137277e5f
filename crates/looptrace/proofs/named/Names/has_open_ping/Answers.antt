use Rattle.std.proofs.Common.{rules, ◌∙◌}
use Rattle.looptrace.proofs.named.Names.has_open_ping.Goals as goal

pub returns-in-Some : goal.returns-in-Some
returns-in-Some g c = c.is_open.ensures ∙ search rules
