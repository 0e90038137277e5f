use Rattle.std.proofs.Common.{sym, ◌∙◌, length, ◌≤◌, arith}
use Rattle.httparse.specs.declared.spans.HeaderSpan.{HeaderSpan}
use Rattle.httparse.specs.Spans.{header_bytes}
use Rattle.http_hello.specs.Requests.{has_body, may_close}
use Rattle.http_hello.proofs.FieldLemmas.{none_at, none_of_all}
use Rattle.http_hello.proofs.request.is_last.Goals as goal

pub returns-then-closes-clause-otherwise : goal.returns-then-closes-clause-otherwise
returns-then-closes-clause-otherwise c = λ none.
    let any : HeaderSpan = record { name = record { start = 0; end = 0 }; value = record { start = 0; end = 0 } } in
    let here = none_at may_close (header_bytes c.args.bytes.now) c.args.fields.now c.loop-field.field-index any
    c.loop-field-test.true none in
    sym c.if-closes.true ∙ c.closes.ensures.otherwise (rw c.of.ensures (rw c.of-in-loop-field.ensures here))

pub returns-clause-body : goal.returns-clause-body
returns-clause-body c = λ some.
    let all : length c.args.fields.now ≤ c.loop-field.field-index = omega (arith, c.loop-field-test.false) in
    sym (none_of_all has_body (header_bytes c.args.bytes.now) c.args.fields.now c.loop-field.field-index
    all c.loop-field.invariant) ∙ some
