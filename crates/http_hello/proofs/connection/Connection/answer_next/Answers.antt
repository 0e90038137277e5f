use Rattle.std.proofs.Common.{rules, refl, true}
use Rattle.http_hello.proofs.connection.Connection.answer_next.Goals as goal
use Rattle.http_hello.proofs.ExchangeLemmas.{answers_next, refuses_rest}

pub returns-in_ok-write_to-in-Whole-clause-exchanged : goal.returns-in_ok-write_to-in-Whole-clause-exchanged
returns-in_ok-write_to-in-Whole-clause-exchanged c =
    let read = rw c.deref.ensures.value at c.in-Whole.ensures.1 in
    answers_next c.args.self.now
    (record { received = c.drop-drain.new.self.0; unsent = c.write_to.new.out; is_closing = c.in-Whole.request.closes })
    c.in-Whole.request c.in-Whole.ensures.0 c.requires read c.in_ok-write_to-in-Whole.ensures (search rules) refl

pub returns-in_ok-write_to-in-Bad-clause-exchanged : goal.returns-in_ok-write_to-in-Bad-clause-exchanged
returns-in_ok-write_to-in-Bad-clause-exchanged c =
    let never = rw c.deref.ensures.value at c.in-Bad.ensures in
    refuses_rest c.args.self.now
    (record { received = c.args.self.now.received; unsent = c.write_to-in-Bad.new.out; is_closing = true })
    c.requires never c.in_ok-write_to-in-Bad.ensures refl refl
