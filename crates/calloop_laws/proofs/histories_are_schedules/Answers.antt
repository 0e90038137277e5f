use Rattle.calloop_wake_laws.specs.Kinds.{every_kind}
use Rattle.calloop_laws.proofs.Histories.{is_schedule, same_end}
use Rattle.calloop_laws.proofs.histories_are_schedules.Goals as goal

pub returns-clause-schedule : goal.returns-clause-schedule
returns-clause-schedule c = λ w hs h. is_schedule every_kind w hs h

pub returns-clause-same_end : goal.returns-clause-same_end
returns-clause-same_end c = λ w hs. same_end every_kind w hs
