use Rattle.std.proofs.Common.{◌≡◌, ap, sym, ◌∙◌, refl}
use Rattle.calloop_wake.specs.Passes.{on}
use Rattle.calloop_wake.specs.Executors.{ExecutorCell, cell_of}
use Rattle.calloop_wake.proofs.Locking.{of_content}
use Rattle.calloop_ends.proofs.Polling.{pop_key}
use Rattle.calloop_ends.proofs.futures.cell.ReceivingEnd+ExecutorCore+R.pop.Goals as goal

pub pop-popped-requires-clause-names : goal.pop-popped-requires-clause-names
pop-popped-requires-clause-names g c =
    let facts = of_content _ _ _ c.core-cell.ensures.value c.lock_at-held.ensures.taken.1 in
    let tag : c.self.inside.tally.name ≡ c.deref.result.now.tag = c.self.invariant ∙ ap (λ l. l.tag) (sym c.deref.ensures) in
    (c.requires.name ∙ ap (λ e. e.tally.name) (sym c.self.view_is) ∙ tag ∙ sym facts.0, tag ∙ sym facts.0)

pub pop-popped-requires-clause-at : goal.pop-popped-requires-clause-at
pop-popped-requires-clause-at g c = (of_content _ _ _ c.core-cell.ensures.value c.lock_at-held.ensures.taken.1).1

pub unlock-requires : goal.unlock-requires
unlock-requires g c =
    let facts = of_content _ _ _ c.core-cell.ensures.value c.lock_at-held.ensures.taken.1 in
    let old = c.core-cell.result.now.core in
    let new = c.pop-popped.new.self in
    let key : new.key ≡ old.key = ap (λ (x : ExecutorCell). x.key) c.pop-popped.ensures.cell ∙ pop_key c.args.finished (cell_of old) in
    let same : on new.board new.key ≡ on old.board old.key = ap (λ b. on b new.key) c.pop-popped.ensures.names.1 ∙ ap (on old.board) key in (
      c.lock_at-held.ensures.lock.1,
      c.lock_at-held.ensures.lock.2,
      (refl, (c.pop-popped.ensures.names.0 ∙ facts.0 ∙ sym c.lock_at-held.ensures.lock.0, λ place e. facts.2 place (sym same ∙ e))),
    )
