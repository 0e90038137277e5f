use Rattle.std.proofs.Common.{◌<◌, length, get_or, arith, refl, ◌∙◌, ap}
use Rattle.std.proofs.Math.ListN.{set}
use Rattle.calloop_loop.specs.Askings.{not_kept_for}
use Rattle.calloop_loop.proofs.Keeping.{partly_all, partly_next}
use Rattle.calloop_loop.proofs.asks.keep_none.Goals as goal

pub loop-place-init : goal.loop-place-init
loop-place-init g c = (refl, refl, refl)

pub loop-place-preserved : goal.loop-place-preserved
loop-place-preserved g c =
    let xs = c.args.answers.now.items in
    let x = c.index_mut-answered.result.now in
    let k = c.loop-place.place in
    let within : k < length xs = omega (arith, c.loop-place-test.true) in
    let items = c.loop-place.invariant.0 in (
      rw c.keep_not.ensures (ap (λ l. set l k (not_kept_for c.args.token x)) items ∙ partly_next (not_kept_for c.args.token) k xs x within (c.index_mut-answered.ensures.value ∙ ap (λ l. get_or l k x) items)),
      c.loop-place.invariant.1,
      c.loop-place.invariant.2,
    )

pub returns-clause-items : goal.returns-clause-items
returns-clause-items g c = c.loop-place.invariant.0 ∙ partly_all (not_kept_for c.args.token) c.loop-place.place c.args.answers.now.items (omega (arith, c.loop-place-test.false))
