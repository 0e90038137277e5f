use Rattle.std.proofs.Common.{◌∙◌, ◌+◌, ap, length}
use Rattle.std.proofs.lemmas.List.{length-replicate}
use Rattle.calloop_wake.proofs.ghosts.Count.next.Goals as goal

pub returns : goal.returns
returns c = ap (λ l. length l) c.open_row-seen.ensures.1 ∙ length-replicate (c.args.self.now + 1) 0
