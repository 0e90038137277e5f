use Rattle.std.proofs.Common.{◌≡◌, ◌∙◌, sym, ap, is_some, arith}
use Rattle.calloop_slots.specs.Slots.{source_of}
use Rattle.calloop_slots.proofs.Named.{named_read}
use Rattle.calloop_slots.proofs.list.has_source.Goals as goal

pub returns-in-Source : goal.returns-in-Source
returns-in-Source g c =
    let s = c.in-Some.slot.now in
    let version : s.version ≡ c.args.token.version = omega arith in
    let read = c.in-Some.ensures.lookup in
    let named = named_read c.args.slots.now c.args.token c.slot.result s c.slot.ensures (omega arith) read.1 version in
    sym (ap (λ k. is_some (source_of k)) (named ∙ c.in-Source.is))
