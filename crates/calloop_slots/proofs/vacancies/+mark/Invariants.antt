use Rattle.std.proofs.Common.{length}
use Rattle.calloop_slots.proofs.vacancies.+mark.Given as goal

abbrev pub decreases-mark : goal.decreases-mark
decreases-mark l = length l.levels.now
