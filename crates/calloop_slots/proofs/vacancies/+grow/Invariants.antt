use Rattle.std.proofs.Common.{length}
use Rattle.calloop_slots.proofs.vacancies.+grow.Given as goal

abbrev pub decreases-grow : goal.decreases-grow
decreases-grow l = length l.levels.now
