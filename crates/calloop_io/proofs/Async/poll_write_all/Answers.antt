use Rattle.calloop_io.proofs.Wholes.{write-waits, write-fails, write-nothing}
use Rattle.calloop_io.proofs.Async.poll_write_all.Goals as goal

pub returns-in-Ready-Ok-eq0-clause-err : goal.returns-in-Ready-Ok-eq0-clause-err
returns-in-Ready-Ok-eq0-clause-err g c =
    write-nothing _ _ _ c.in-Ready-Ok-eq0.field-0 _ c.loop-self.invariant.more c.in-Ready-Ok-eq0.ensures.told (cc) c.from.ensures

pub returns-in-Ready-Err-clause-err : goal.returns-in-Ready-Err-clause-err
returns-in-Ready-Err-clause-err g c =
    write-fails _ _ _ c.in-Ready-Err.field-0 _ c.loop-self.invariant.more c.in-Ready-Err.ensures.told c.in-Ready-Err.field-0-is

pub returns-in-Pending-clause-waits : goal.returns-in-Pending-clause-waits
returns-in-Pending-clause-waits g c = write-waits _ _ _ c.loop-self.invariant.more c.in-Pending.ensures.told
