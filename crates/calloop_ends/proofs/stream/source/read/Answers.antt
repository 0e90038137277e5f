use Rattle.std.proofs.Common.{◌<◌, ◌++◌, [], ◌∷◌, refl, subst, arith}
use Rattle.calloop_ends.specs.declared.stream.reading.Ending.TheVariants.{AtPending, AtEnd}
use Rattle.calloop_ends.specs.stream.Streams.{most_items}
use Rattle.calloop_ends.proofs.Reading.{read_more, reads_pending, reads_end, read_ended}
use Rattle.calloop_ends.proofs.stream.source.read.Goals as goal

pub items-preserved : goal.items-preserved
items-preserved g c =
    let xs = c.items.invariant.1.0 in
    let below : c.items.items < most_items = c.items-test.true in (
      omega (arith, below),
      (
        xs ++ c.in-Item.item ∷ [],
        read_more g.S.Stream.polls g.F.Callback.may g.Q.Asking.reaches c.args.stream.stream c.args.callback.now c.args.data.now c.args.requests.now xs c.in-Item.item c.items.items _ _ _ _ _ _ _ _ c.items.invariant.1.1 c.in-Item.ensures
            (c.call.new.self, c.call.new.data, c.call.new.requests, c.call.ensures.may, c.call.ensures.asks, (refl, refl, refl)),
      ),
    )

pub returns-in-End : goal.returns-in-End
returns-in-End g c =
    let xs = c.items.invariant.1.0 in
    let so = c.items.invariant.1.1 in
    let below : c.items.items < most_items = c.items-test.true in
    let last = c.in-End.ensures in (
      xs,
      last.0,
      subst (λ n. n < most_items) so.count_is below,
      reads_end g.S.Stream.polls c.args.stream.stream c.items.stream.stream last.0 xs so.reads last.1,
      refl,
      read_ended g.S.Stream.polls g.F.Callback.may g.Q.Asking.reaches c.args.stream.stream c.args.callback.now c.args.data.now c.args.requests.now xs AtEnd c.items.items _ _ _ _ _ _ _ so
          (c.call-in-End.new.self, c.call-in-End.new.data, c.call-in-End.new.requests, c.call-in-End.ensures.may, c.call-in-End.ensures.asks, (refl, refl, refl)),
    )

pub returns-in-Pending : goal.returns-in-Pending
returns-in-Pending g c =
    let xs = c.items.invariant.1.0 in
    let so = c.items.invariant.1.1 in
    let below : c.items.items < most_items = c.items-test.true in (
      xs,
      c.in-Pending.rest.stream,
      subst (λ n. n < most_items) so.count_is below,
      reads_pending g.S.Stream.polls c.args.stream.stream c.items.stream.stream c.in-Pending.rest.stream xs so.reads c.in-Pending.ensures,
      refl,
      read_ended g.S.Stream.polls g.F.Callback.may g.Q.Asking.reaches c.args.stream.stream c.args.callback.now c.args.data.now c.args.requests.now xs AtPending c.items.items _ _ _ _ _ _ _ so (refl, refl, refl),
    )
