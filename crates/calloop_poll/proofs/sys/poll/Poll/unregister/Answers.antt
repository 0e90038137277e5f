use Rattle.std.proofs.Common.{rules, refl, ◌≡◌, ap, true, Some, None, if◌then◌else◌}
use Rattle.std.specs.declared.io.ErrorKind.TheVariants.{NotFound}
use Rattle.calloop_slots.specs.Tokens.{key_of}
use Rattle.calloop_poll.specs.sys.Tables.{Leave, cannot, is_in}
use Rattle.calloop_poll.specs.sys.Polls.{poll_view}
use Rattle.calloop_poll.proofs.Editing.{faulted, made}
use Rattle.calloop_poll.proofs.sys.poll.Poll.unregister.Goals as goal

pub returns-in-Ok-clause-edit : goal.returns-in-Ok-clause-edit
returns-in-Ok-clause-edit g c =
    let there : is_in (key_of c.args.token) (poll_view c.args.self.now).table ≡ true = search rules in
    let can : cannot (Leave c.args.token) (poll_view c.args.self.now).table ≡ None = ap (λ b. if b then None else Some NotFound) there in
    made g.P.Poller.outside g.P.Poller.sockets (poll_view c.args.self.now) (Leave c.args.token) c.args.fd c.call_poller.new.poller _ can (search rules) (search rules) (search rules)

pub returns-in-Err-clause-edit : goal.returns-in-Err-clause-edit
returns-in-Err-clause-edit g c =
    let there : is_in (key_of c.args.token) (poll_view c.args.self.now).table ≡ true = search rules in
    let can : cannot (Leave c.args.token) (poll_view c.args.self.now).table ≡ None = ap (λ b. if b then None else Some NotFound) there in
    faulted g.P.Poller.outside g.P.Poller.sockets (poll_view c.args.self.now) (Leave c.args.token) c.args.fd c.in-Err.cause c.call_poller.new.poller _ can (search rules) (search rules) refl
