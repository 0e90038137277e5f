use Rattle.std.proofs.Common.{◌≡◌, false, take}
use Rattle.std.specs.List.{list_any}
use Rattle.httparse.specs.Spans.{header_bytes}
use Rattle.http_hello.specs.Requests.{has_body}
use Rattle.http_hello.proofs.request.is_last.Given as goal

abbrev pub invariant-loop-field : goal.invariant-loop-field
invariant-loop-field l = list_any (λ field. has_body (header_bytes l.bytes field)) (take l.field-index l.fields) ≡ false
