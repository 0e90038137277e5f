use Rattle.std.proofs.Common.{length}
use Rattle.calloop_slots.proofs.Levels.{place-small}
use Rattle.calloop_slots.proofs.vacancies.+grow.Goals as goal

pub extend-requires : goal.extend-requires
extend-requires t c = place-small (length c.in-Some.below.now) c.args.slot c.requires.small
