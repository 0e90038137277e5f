use Rattle.std.proofs.Common.{rules, refl, ◌≡◌, ◌∙◌, ap, sym, is_some, true, false, Some, not, ◌&&◌, nat_eq, if◌then◌else◌}
use Rattle.std.specs.declared.io.ErrorKind.TheVariants.{AlreadyExists, NotFound}
use Rattle.calloop_slots.specs.Tokens.{key_of}
use Rattle.calloop_poll.specs.sys.Tables.{Change, is_in, unless_in}
use Rattle.calloop_poll.specs.sys.Polls.{poll_view}
use Rattle.calloop_poll.proofs.Editing.{refused}
use Rattle.calloop_poll.proofs.sys.poll.Poll.reregister.Goals as goal

pub returns-then-contains_key-clause-edit : goal.returns-then-contains_key-clause-edit
returns-then-contains_key-clause-edit g c =
    let there : is_in (key_of c.args.before) (poll_view c.args.self.now).table ≡ true = search rules in
    let taken : (not (nat_eq (key_of c.args.before) (key_of c.args.token)) && is_in (key_of c.args.token) (poll_view c.args.self.now).table) ≡ true = search rules in
    refused g.P.Poller.outside g.P.Poller.sockets (poll_view c.args.self.now) (Change c.args.before c.args.token (record { interest = c.args.interest; mode = c.args.mode })) c.args.fd AlreadyExists _ (ap (λ b. if b then unless_in (not (nat_eq (key_of c.args.before) (key_of c.args.token)) && is_in (key_of c.args.token) (poll_view c.args.self.now).table) else Some NotFound) there ∙ ap (λ b. unless_in b) taken) (c.from-then-contains_key.result, refl, c.from-then-contains_key.ensures)

pub returns-in_default-clause-edit : goal.returns-in_default-clause-edit
returns-in_default-clause-edit g c =
    let there : is_in (key_of c.args.before) (poll_view c.args.self.now).table ≡ false =
    ap (λ k. is_in k (poll_view c.args.self.now).table) (sym c.key-old.ensures) ∙ ap is_some (sym c.get.ensures ∙ c.in_default.is) in
    refused g.P.Poller.outside g.P.Poller.sockets (poll_view c.args.self.now) (Change c.args.before c.args.token (record { interest = c.args.interest; mode = c.args.mode })) c.args.fd NotFound _ (ap (λ b. if b then unless_in (not (nat_eq (key_of c.args.before) (key_of c.args.token)) && is_in (key_of c.args.token) (poll_view c.args.self.now).table) else Some NotFound) there) (c.from.result, refl, c.from.ensures)
