use Rattle.std.proofs.Common.{rules, ◌≡◌, None}
use Rattle.calloop_slots.specs.Tokens.{key_of}
use Rattle.calloop_poll.specs.sys.Tables.{Change, cannot, watched_at}
use Rattle.calloop_poll.specs.sys.Polls.{poll_view}
use Rattle.calloop_poll.proofs.Editing.{faulted, made, left_again, can_change}
use Rattle.calloop_poll.proofs.sys.poll.Poll.change_key.Goals as goal

pub returns-in-Ok-clause-edit : goal.returns-in-Ok-clause-edit
returns-in-Ok-clause-edit g c =
    let can : cannot (Change c.args.before c.args.token c.args.watched) (poll_view c.args.self.now).table ≡ None = can_change _ _ c.requires.there (search rules) in
    made g.P.Poller.outside g.P.Poller.sockets (poll_view c.args.self.now) (Change c.args.before c.args.token c.args.watched) c.args.fd c.call_poller.new.poller _ can (search rules) (search rules) (search rules)

pub returns-in-Err-clause-edit : goal.returns-in-Err-clause-edit
returns-in-Err-clause-edit g c =
    let can : cannot (Change c.args.before c.args.token c.args.watched) (poll_view c.args.self.now).table ≡ None = can_change _ _ c.requires.there (search rules) in
    let absent : watched_at (key_of c.args.token) (poll_view c.args.self.now).table ≡ None = search rules in
    let same : c.remove-in-Err.new.self ≡ (poll_view c.args.self.now).table = search (rules, left_again (key_of c.args.token) c.args.watched (poll_view c.args.self.now).table absent) in
    faulted g.P.Poller.outside g.P.Poller.sockets (poll_view c.args.self.now) (Change c.args.before c.args.token c.args.watched) c.args.fd c.in-Err.cause c.call_poller.new.poller _ can (search rules) (search rules) (search rules)
