use Rattle.std.proofs.Common.{sym}
use Rattle.http_hello.proofs.request.read_request.Goals as goal
use Rattle.http_hello.proofs.RequestLemmas.{NeverFits-partial, NeverFits-long}

pub returns-then-head-gt-LONGEST_HEAD : goal.returns-then-head-gt-LONGEST_HEAD
returns-then-head-gt-LONGEST_HEAD c =
    let ensures = rw c.in-Ok-Complete.field-0-is at c.in-Ok-Complete.ensures in
    let found = ensures.complete in
    NeverFits-long _ _ found.0 found.1.reads (rw (sym found.1.len) c.if-head-gt-LONGEST_HEAD.true)

pub returns-then-bytes-ge-LONGEST_HEAD : goal.returns-then-bytes-ge-LONGEST_HEAD
returns-then-bytes-ge-LONGEST_HEAD c =
    let ensures = rw c.in-Ok-Partial.field-0-is at c.in-Ok-Partial.ensures in
    NeverFits-partial _ c.if-bytes-ge-LONGEST_HEAD.true ensures.partial

pub returns-else-bytes-ge-LONGEST_HEAD : goal.returns-else-bytes-ge-LONGEST_HEAD
returns-else-bytes-ge-LONGEST_HEAD c =
    let ensures = rw c.in-Ok-Partial.field-0-is at c.in-Ok-Partial.ensures in
    record { none = ensures.partial; may_become = ensures.unfinished; few = c.if-bytes-ge-LONGEST_HEAD.false }
