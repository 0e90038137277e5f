use Rattle.std.proofs.Common.{rules, arith}
use Rattle.calloop_io.proofs.Wholes.{read-more, line-waits, line-fails, line-ends, last-feedless}
use Rattle.calloop_io.proofs.Async.poll_line.Goals as goal

pub returns-in-Ready-Ok-eq0-clause-bytes : goal.returns-in-Ready-Ok-eq0-clause-bytes
returns-in-Ready-Ok-eq0-clause-bytes g c =
    let end = c.in-Ready-Ok-eq0.ensures in
    line-ends _ _ _ _ _ _ _ c.in-Ready-Ok-eq0.field-0 _ c.loop.invariant.read end.told (cc) end.front (omega (arith, c.poll_read_more.new.to.ok, c.loop.buffer.ok)) c.last_line.ensures.some
    c.last_line.ensures.none c.last_line.ensures.rest

pub returns-in-Ready-Ok-eq0-clause-feedless : goal.returns-in-Ready-Ok-eq0-clause-feedless
returns-in-Ready-Ok-eq0-clause-feedless g c =
    let end = c.in-Ready-Ok-eq0.ensures in
    last-feedless c.loop.buffer.items _ c.in-Ready-Ok-eq0.field-0 _ (cc) end.front (omega (arith, c.poll_read_more.new.to.ok, c.loop.buffer.ok)) c.last_line.ensures.some (search rules)

pub returns-in-Ready-Err-clause-bytes : goal.returns-in-Ready-Err-clause-bytes
returns-in-Ready-Err-clause-bytes g c =
    let read = c.poll_read_more.ensures in (read-more _ _ _ _ c.poll_read_more.result _ _ c.loop.invariant.read read.told read.front (omega (arith, c.poll_read_more.new.to.ok, c.loop.buffer.ok))).bytes

pub returns-in-Ready-Err-clause-err : goal.returns-in-Ready-Err-clause-err
returns-in-Ready-Err-clause-err g c =
    line-fails _ _ _ c.in-Ready-Err.field-0 _ c.loop.invariant.read.more c.in-Ready-Err.ensures.told c.in-Ready-Err.field-0-is

pub returns-in-Pending-clause-waits : goal.returns-in-Pending-clause-waits
returns-in-Pending-clause-waits g c =
    let read = c.in-Pending.ensures in
    line-waits _ _ _ c.loop.buffer.items _ c.loop.invariant.read.more read.told read.front (omega (arith, c.poll_read_more.new.to.ok, c.loop.buffer.ok)) (search rules)
