use Rattle.std.proofs.Common.{rules, refl, ◌≡◌, ap, true, false, None}
use Rattle.std.specs.declared.io.ErrorKind.TheVariants.{AlreadyExists}
use Rattle.calloop_slots.specs.Tokens.{key_of}
use Rattle.calloop_poll.specs.sys.Tables.{Enter, is_in, unless_in, watched_at}
use Rattle.calloop_poll.specs.sys.Polls.{poll_view}
use Rattle.calloop_poll.proofs.Editing.{refused, faulted, made, left_again}
use Rattle.calloop_poll.proofs.sys.poll.Poll.register.Goals as goal

pub returns-then-contains_key-clause-edit : goal.returns-then-contains_key-clause-edit
returns-then-contains_key-clause-edit g c =
    let there : is_in (key_of c.args.token) (poll_view c.args.self.now).table ≡ true = search rules in
    refused g.P.Poller.outside g.P.Poller.sockets (poll_view c.args.self.now) (Enter c.args.token (record { interest = c.args.interest; mode = c.args.mode })) c.args.fd AlreadyExists _ (ap (λ b. unless_in b) there) (c.from.result, refl, c.from.ensures)

pub returns-in-Ok-clause-edit : goal.returns-in-Ok-clause-edit
returns-in-Ok-clause-edit g c =
    let free : is_in (key_of c.args.token) (poll_view c.args.self.now).table ≡ false = search rules in
    made g.P.Poller.outside g.P.Poller.sockets (poll_view c.args.self.now) (Enter c.args.token (record { interest = c.args.interest; mode = c.args.mode })) c.args.fd c.call_poller.new.poller _ (ap (λ b. unless_in b) free) (search rules) (search rules) (search rules)

pub returns-in-Err-clause-edit : goal.returns-in-Err-clause-edit
returns-in-Err-clause-edit g c =
    let free : is_in (key_of c.args.token) (poll_view c.args.self.now).table ≡ false = search rules in
    let absent : watched_at (key_of c.args.token) (poll_view c.args.self.now).table ≡ None = search rules in
    let same : c.remove.new.self ≡ (poll_view c.args.self.now).table = search (rules, left_again (key_of c.args.token) (record { interest = c.args.interest; mode = c.args.mode }) (poll_view c.args.self.now).table absent) in
    faulted g.P.Poller.outside g.P.Poller.sockets (poll_view c.args.self.now) (Enter c.args.token (record { interest = c.args.interest; mode = c.args.mode })) c.args.fd c.in-Err.cause c.call_poller.new.poller _ (ap (λ b. unless_in b) free) (search rules) (search rules) (search rules)
