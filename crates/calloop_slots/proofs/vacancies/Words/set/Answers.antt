use Rattle.calloop_slots.proofs.Levels.{bit-set, bit-filled}
use Rattle.calloop_slots.proofs.vacancies.Words.set.Goals as goal

pub returns-clause-bits : goal.returns-clause-bits
returns-clause-bits c =
    rw (← c.self.view_is) (bit-set c.self.inside.words.items c.args.bit c.index_mut.result.now (rw c.self.view_is c.requires) c.index_mut.ensures.value)

pub returns-clause-words : goal.returns-clause-words
returns-clause-words c =
    rw (← c.self.view_is) (bit-filled c.self.inside.words.items c.args.bit c.index_mut.result.now (rw c.self.view_is c.requires) c.index_mut.ensures.value)
