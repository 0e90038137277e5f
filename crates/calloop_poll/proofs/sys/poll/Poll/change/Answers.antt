use Rattle.std.proofs.Common.{rules, refl, ap, sym, subst, is_some, ◌∙◌, ◌≡◌, true, None, Ok, Err, nat_eq, if◌then◌else◌}
use Rattle.calloop_slots.specs.Tokens.{key_of}
use Rattle.calloop_poll.specs.sys.Tables.{Change, Called, CalledFor, call_for, cannot, after_edit, is_known, watched_at, with_key, without_key}
use Rattle.calloop_poll.specs.sys.Polls.{poll_view}
use Rattle.calloop_poll.proofs.Editing.{faulted, made, can_change}
use Rattle.calloop_poll.proofs.sys.poll.Poll.change.Goals as goal

pub returns-in-Ok-clause-edit : goal.returns-in-Ok-clause-edit
returns-in-Ok-clause-edit g c =
    let same : nat_eq (key_of c.args.before) (key_of c.args.token) ≡ true = search rules in
    let call : call_for c.asks.result c.key-same.result c.args.watched ≡ call_for (is_known (watched_at (key_of c.args.before) (poll_view c.args.self.now).table)) (key_of c.args.token) c.args.watched =
    ap (λ b. call_for b c.key-same.result c.args.watched) (c.asks.ensures ∙ sym (ap is_known c.requires.stood)) ∙ ap (λ k. call_for (is_known (watched_at (key_of c.args.before) (poll_view c.args.self.now).table)) k c.args.watched) c.key-same.ensures in
    let can : cannot (Change c.args.before c.args.token c.args.watched) (poll_view c.args.self.now).table ≡ None = can_change _ _ (ap is_some c.requires.stood) (search rules) in
    let edit : after_edit (Change c.args.before c.args.token c.args.watched) (poll_view c.args.self.now).table ≡ with_key (key_of c.args.token) c.args.watched (poll_view c.args.self.now).table =
    ap (λ b. if b then with_key (key_of c.args.token) c.args.watched (poll_view c.args.self.now).table else without_key (key_of c.args.before) (with_key (key_of c.args.token) c.args.watched (poll_view c.args.self.now).table)) same in
    let table : c.replace.new.self ≡ with_key (key_of c.args.token) c.args.watched (poll_view c.args.self.now).table =
    c.replace.ensures ∙ ap (λ k. with_key k c.args.watched (poll_view c.args.self.now).table) c.key-same.ensures in
    let told : CalledFor g.P.Poller.sockets c.args.self.now.poller c.args.fd (call_for c.asks.result c.key-same.result c.args.watched) (Ok tt) c.call_poller.new.poller = search rules in
    made g.P.Poller.outside g.P.Poller.sockets (poll_view c.args.self.now) (Change c.args.before c.args.token c.args.watched) c.args.fd c.call_poller.new.poller _ can
    (subst (λ k. CalledFor g.P.Poller.sockets c.args.self.now.poller c.args.fd k (Ok tt) c.call_poller.new.poller) call told)
    (subst (λ k. Called g.P.Poller.outside c.args.self.now.poller k (Ok tt) c.call_poller.new.poller) call c.in-Ok.ensures.calls)
    (ap (λ t. record (poll_view c.args.self.now) { poller = c.call_poller.new.poller; table = t }) (table ∙ sym edit))

pub returns-in-Err-clause-edit : goal.returns-in-Err-clause-edit
returns-in-Err-clause-edit g c =
    let call : call_for c.asks.result c.key-same.result c.args.watched ≡ call_for (is_known (watched_at (key_of c.args.before) (poll_view c.args.self.now).table)) (key_of c.args.token) c.args.watched =
    ap (λ b. call_for b c.key-same.result c.args.watched) (c.asks.ensures ∙ sym (ap is_known c.requires.stood)) ∙ ap (λ k. call_for (is_known (watched_at (key_of c.args.before) (poll_view c.args.self.now).table)) k c.args.watched) c.key-same.ensures in
    let can : cannot (Change c.args.before c.args.token c.args.watched) (poll_view c.args.self.now).table ≡ None = can_change _ _ (ap is_some c.requires.stood) (search rules) in
    let told : CalledFor g.P.Poller.sockets c.args.self.now.poller c.args.fd (call_for c.asks.result c.key-same.result c.args.watched) (Err c.in-Err.fault) c.call_poller.new.poller = search rules in
    faulted g.P.Poller.outside g.P.Poller.sockets (poll_view c.args.self.now) (Change c.args.before c.args.token c.args.watched) c.args.fd c.in-Err.fault c.call_poller.new.poller _ can
    (subst (λ k. CalledFor g.P.Poller.sockets c.args.self.now.poller c.args.fd k (Err c.in-Err.fault) c.call_poller.new.poller) call told)
    (subst (λ k. Called g.P.Poller.outside c.args.self.now.poller k (Err c.in-Err.fault) c.call_poller.new.poller) call c.in-Err.ensures.calls)
    (ap (λ t. record (poll_view c.args.self.now) { poller = c.call_poller.new.poller; table = t }) c.doubt.ensures)
