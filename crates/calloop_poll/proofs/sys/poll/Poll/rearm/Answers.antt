use Rattle.std.proofs.Common.{rules, refl, ap, sym, subst, is_some, ◌∙◌, ◌≡◌, arith, true, false, None, Some, Ok, Err, not, ◌&&◌, nat_eq, if◌then◌else◌}
use Rattle.std.specs.declared.io.ErrorKind.TheVariants.{NotFound}
use Rattle.calloop_slots.specs.Tokens.{key_of}
use Rattle.calloop_poll.specs.sys.Tables.{Change, Called, CalledFor, call_for, cannot, after_edit, is_in, is_known, unless_in, watched_at, with_key, without_key}
use Rattle.calloop_poll.specs.declared.sys.Watched.{Watched}
use Rattle.calloop_poll.specs.sys.Pollers.{asks}
use Rattle.calloop_poll.specs.sys.Polls.{poll_view}
use Rattle.calloop_poll.proofs.Editing.{faulted, made, can_change, kept, kept_for, refused}
use Rattle.calloop_poll.proofs.sys.poll.Poll.rearm.Goals as goal

pub returns-in_default-clause-edit : goal.returns-in_default-clause-edit
returns-in_default-clause-edit g c =
    let there : is_in (key_of c.args.token) (poll_view c.args.self.now).table ≡ false = search rules in
    refused g.P.Poller.outside g.P.Poller.sockets (poll_view c.args.self.now) (Change c.args.token c.args.token (record { interest = c.args.interest; mode = c.args.mode })) c.args.fd NotFound _ (ap (λ b. if b then unless_in (not (nat_eq (key_of c.args.token) (key_of c.args.token)) && is_in (key_of c.args.token) (poll_view c.args.self.now).table) else Some NotFound) there) (c.from.result, refl, c.from.ensures)

pub returns-in-Ok-clause-edit : goal.returns-in-Ok-clause-edit
returns-in-Ok-clause-edit g c =
    let stood : watched_at (key_of c.args.token) (poll_view c.args.self.now).table ≡ Some c.in-Some.stood = ap (λ k. watched_at k (poll_view c.args.self.now).table) (sym c.key-key.ensures) ∙ sym c.get.ensures ∙ c.in-Some.is in
    let same : nat_eq (key_of c.args.token) (key_of c.args.token) ≡ true = grind (arith) in
    let call : call_for c.asks.result c.key-key.result (record { interest = c.args.interest; mode = c.args.mode }) ≡ call_for (is_known (watched_at (key_of c.args.token) (poll_view c.args.self.now).table)) (key_of c.args.token) (record { interest = c.args.interest; mode = c.args.mode }) =
    ap (λ b. call_for b c.key-key.result (record { interest = c.args.interest; mode = c.args.mode })) (c.asks.ensures ∙ sym (ap is_known stood)) ∙ ap (λ k. call_for (is_known (watched_at (key_of c.args.token) (poll_view c.args.self.now).table)) k (record { interest = c.args.interest; mode = c.args.mode })) c.key-key.ensures in
    let can : cannot (Change c.args.token c.args.token (record { interest = c.args.interest; mode = c.args.mode })) (poll_view c.args.self.now).table ≡ None = can_change _ _ (ap is_some stood) (ap (λ b. not b && is_in (key_of c.args.token) (poll_view c.args.self.now).table) same) in
    let edit : after_edit (Change c.args.token c.args.token (record { interest = c.args.interest; mode = c.args.mode })) (poll_view c.args.self.now).table ≡ with_key (key_of c.args.token) (record { interest = c.args.interest; mode = c.args.mode }) (poll_view c.args.self.now).table =
    ap (λ b. if b then with_key (key_of c.args.token) (record { interest = c.args.interest; mode = c.args.mode }) (poll_view c.args.self.now).table else without_key (key_of c.args.token) (with_key (key_of c.args.token) (record { interest = c.args.interest; mode = c.args.mode }) (poll_view c.args.self.now).table)) same in
    let table : c.replace.new.self ≡ with_key (key_of c.args.token) (record { interest = c.args.interest; mode = c.args.mode }) (poll_view c.args.self.now).table =
    c.replace.ensures ∙ ap (λ k. with_key k (record { interest = c.args.interest; mode = c.args.mode }) (poll_view c.args.self.now).table) c.key-key.ensures in
    let told : CalledFor g.P.Poller.sockets c.args.self.now.poller c.args.fd (call_for c.asks.result c.key-key.result (record { interest = c.args.interest; mode = c.args.mode })) (Ok tt) c.rearm_in.new.poller = search rules in
    made g.P.Poller.outside g.P.Poller.sockets (poll_view c.args.self.now) (Change c.args.token c.args.token (record { interest = c.args.interest; mode = c.args.mode })) c.args.fd c.rearm_in.new.poller _ can
    (subst (λ k. CalledFor g.P.Poller.sockets c.args.self.now.poller c.args.fd k (Ok tt) c.rearm_in.new.poller) call told)
    (subst (λ k. Called g.P.Poller.outside c.args.self.now.poller k (Ok tt) c.rearm_in.new.poller) call c.in-Ok.ensures.calls)
    (ap (λ t. record (poll_view c.args.self.now) { poller = c.rearm_in.new.poller; table = t }) (table ∙ sym edit))

pub returns-in-Err-clause-edit : goal.returns-in-Err-clause-edit
returns-in-Err-clause-edit g c =
    let stood : watched_at (key_of c.args.token) (poll_view c.args.self.now).table ≡ Some c.in-Some.stood = ap (λ k. watched_at k (poll_view c.args.self.now).table) (sym c.key-key.ensures) ∙ sym c.get.ensures ∙ c.in-Some.is in
    let same : nat_eq (key_of c.args.token) (key_of c.args.token) ≡ true = grind (arith) in
    let call : call_for c.asks.result c.key-key.result (record { interest = c.args.interest; mode = c.args.mode }) ≡ call_for (is_known (watched_at (key_of c.args.token) (poll_view c.args.self.now).table)) (key_of c.args.token) (record { interest = c.args.interest; mode = c.args.mode }) =
    ap (λ b. call_for b c.key-key.result (record { interest = c.args.interest; mode = c.args.mode })) (c.asks.ensures ∙ sym (ap is_known stood)) ∙ ap (λ k. call_for (is_known (watched_at (key_of c.args.token) (poll_view c.args.self.now).table)) k (record { interest = c.args.interest; mode = c.args.mode })) c.key-key.ensures in
    let can : cannot (Change c.args.token c.args.token (record { interest = c.args.interest; mode = c.args.mode })) (poll_view c.args.self.now).table ≡ None = can_change _ _ (ap is_some stood) (ap (λ b. not b && is_in (key_of c.args.token) (poll_view c.args.self.now).table) same) in
    let told : CalledFor g.P.Poller.sockets c.args.self.now.poller c.args.fd (call_for c.asks.result c.key-key.result (record { interest = c.args.interest; mode = c.args.mode })) (Err c.in-Err.cause) c.rearm_in.new.poller = search rules in
    faulted g.P.Poller.outside g.P.Poller.sockets (poll_view c.args.self.now) (Change c.args.token c.args.token (record { interest = c.args.interest; mode = c.args.mode })) c.args.fd c.in-Err.cause c.rearm_in.new.poller _ can
    (subst (λ k. CalledFor g.P.Poller.sockets c.args.self.now.poller c.args.fd k (Err c.in-Err.cause) c.rearm_in.new.poller) call told)
    (subst (λ k. Called g.P.Poller.outside c.args.self.now.poller k (Err c.in-Err.cause) c.rearm_in.new.poller) call c.in-Err.ensures.calls)
    (ap (λ t. record (poll_view c.args.self.now) { poller = c.rearm_in.new.poller; table = t }) c.doubt.ensures)

pub returns-then-has-clause-edit : goal.returns-then-has-clause-edit
returns-then-has-clause-edit g c =
    let w : Watched = record { interest = c.args.interest; mode = c.args.mode } in
    let stood : watched_at (key_of c.args.token) (poll_view c.args.self.now).table ≡ Some w = ap (λ k. watched_at k (poll_view c.args.self.now).table) (sym c.key-key.ensures) ∙ c.if-has.ensures.there refl in
    let same : nat_eq (key_of c.args.token) (key_of c.args.token) ≡ true = grind (arith) in
    let can : cannot (Change c.args.token c.args.token w) (poll_view c.args.self.now).table ≡ None = can_change _ _ (ap is_some stood) (ap (λ b. not b && is_in (key_of c.args.token) (poll_view c.args.self.now).table) same) in
    let call : call_for (asks c.args.interest) (key_of c.args.token) w ≡ call_for (is_known (watched_at (key_of c.args.token) (poll_view c.args.self.now).table)) (key_of c.args.token) w = ap (λ b. call_for b (key_of c.args.token) w) (sym (ap is_known stood)) in
    let again : with_key (key_of c.args.token) w (poll_view c.args.self.now).table ≡ (poll_view c.args.self.now).table = ap (λ k. with_key k w (poll_view c.args.self.now).table) (sym c.key-key.ensures) ∙ c.if-has.ensures.same refl in
    let edit : after_edit (Change c.args.token c.args.token w) (poll_view c.args.self.now).table ≡ with_key (key_of c.args.token) w (poll_view c.args.self.now).table =
    ap (λ b. if b then with_key (key_of c.args.token) w (poll_view c.args.self.now).table else without_key (key_of c.args.token) (with_key (key_of c.args.token) w (poll_view c.args.self.now).table)) same in
    made g.P.Poller.outside g.P.Poller.sockets (poll_view c.args.self.now) (Change c.args.token c.args.token w) c.args.fd c.args.self.now.poller _ can
    (subst (λ k. CalledFor g.P.Poller.sockets c.args.self.now.poller c.args.fd k (Ok tt) c.args.self.now.poller) call (kept_for g.P.Poller.outside g.P.Poller.sockets c.args.self.now.poller c.args.fd (key_of c.args.token) w (λ e. c.if-keeps_levels.ensures.sockets refl c.args.self.now.poller c.args.fd (key_of c.args.token) w e)))
    (subst (λ k. Called g.P.Poller.outside c.args.self.now.poller k (Ok tt) c.args.self.now.poller) call (kept g.P.Poller.outside g.P.Poller.sockets c.args.self.now.poller c.args.fd (key_of c.args.token) w (λ e. c.if-keeps_levels.ensures.calls refl c.args.self.now.poller (key_of c.args.token) w e)))
    (ap (λ t. record (poll_view c.args.self.now) { table = t }) (sym (edit ∙ again)))
