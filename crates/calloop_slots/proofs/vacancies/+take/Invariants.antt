use Rattle.std.proofs.Common.{length}
use Rattle.calloop_slots.proofs.vacancies.+take.Given as goal

abbrev pub decreases-take : goal.decreases-take
decreases-take l = length l.levels.now
