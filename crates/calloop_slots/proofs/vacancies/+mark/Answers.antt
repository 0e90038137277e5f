use Rattle.calloop_slots.proofs.Levels.{has-bit, marked-levels, marked-above}
use Rattle.calloop_slots.proofs.vacancies.+mark.Goals as goal

pub set-requires : goal.set-requires
set-requires t c = has-bit c.args.slot c.args.levels.now c.in-Some.level.now c.in-Some.below.now c.in-Some.ensures.cases.0 c.requires.bits

pub returns-in-Some-clause-levels : goal.returns-in-Some-clause-levels
returns-in-Some-clause-levels t c =
    marked-levels c.args.slot c.args.levels.now c.in-Some.level.now c.set.new.self c.in-Some.below.now c.mark.new.levels c.in-Some.ensures.cases.0 c.set.ensures.bits c.mark.ensures.above c.mark.ensures.levels

pub returns-in-Some-clause-above : goal.returns-in-Some-clause-above
returns-in-Some-clause-above t c =
    marked-above c.args.slot c.args.levels.now c.in-Some.level.now c.set.new.self c.in-Some.below.now c.in-Some.ensures.cases.0 c.set.ensures.words
