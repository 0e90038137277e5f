use Rattle.std.proofs.Common.{◌-◌, ◌≤◌, List}
use Rattle.calloop_ends.specs.stream.Streams.{most_items}
use Rattle.calloop_ends.proofs.Reading.{ReadSoFar}
use Rattle.calloop_ends.proofs.stream.source.read.Given as goal

abbrev pub invariant-items : goal.invariant-items
invariant-items g l =
    (l.items ≤ most_items)
    × ((items : List g.row.S-Item.Denot) × ReadSoFar g.S.Stream.polls g.F.Callback.may g.Q.Asking.reaches l.fn.stream.stream l.fn.callback l.fn.«data» l.fn.requests items l.items l.stream.stream l.callback l.«data» l.requests)

abbrev pub decreases-items : goal.decreases-items
decreases-items g l = most_items - l.items
