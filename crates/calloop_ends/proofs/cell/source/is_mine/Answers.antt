use Rattle.std.proofs.Common.{◌∙◌}
use Rattle.calloop_slots.specs.Tokens.{key_of}
use Rattle.calloop_ends.proofs.Pinging.{own_by_equal}
use Rattle.calloop_ends.proofs.cell.source.is_mine.Goals as goal

pub returns : goal.returns
returns c = rw (c.key.ensures, c.key-2.ensures) at c.eq.ensures ∙ own_by_equal (key_of c.args.token) c.args.tally.now.key
