-- How many events the loop is told of.
use Rattle.std.proofs.Common.{◌≤◌, arith, List, length, map}
use Rattle.std.proofs.lemmas.List.{length-map}
use Rattle.std.proofs.lemmas.List.Sums.{length-filter, count_by-le-length}
use Rattle.mio.specs.declared.event.event.Event.{Event}
use Rattle.calloop_poll.specs.sys.Polls.{is_for_a_token}
use Rattle.calloop_mio.specs.SystemEvents.{told_event, told_events}

pub few-told : (events : List Event) → length (told_events events) ≤ length events
few-told events =
    let told = map told_event events in
    let kept = length-filter is_for_a_token told in
    let most = count_by-le-length is_for_a_token told in
    let all = length-map events told_event in
    omega arith
