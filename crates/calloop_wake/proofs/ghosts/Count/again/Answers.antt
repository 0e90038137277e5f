use Rattle.std.proofs.Common.{◌≡◌, ◌∙◌, ap, length, ℕ}
use Rattle.logbook.specs.declared.Seen.{Seen}
use Rattle.calloop_wake.proofs.ghosts.Count.again.Goals as goal

same_log : {E A P : Type 0} (a b : Seen E A P) (n : ℕ) → a ≡ b → length b.log ≡ n → length a.log ≡ n
same_log a b n is e = ap (λ s. length s.log) is ∙ e

pub returns : goal.returns
returns c = search same_log
