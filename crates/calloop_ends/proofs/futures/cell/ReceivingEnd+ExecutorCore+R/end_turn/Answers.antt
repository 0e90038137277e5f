use Rattle.std.proofs.Common.{◌≡◌, Some, IfSome, ap, subst, sym, ◌∙◌, Option, refl}
use Rattle.std.specs.Option.{option_map}
use Rattle.std.specs.Arc.{arc_value}
use Rattle.calloop_wake.specs.Passes.{on, Keyed}
use Rattle.calloop_wake.specs.Executors.{ExecutorCell, cell_of}
use Rattle.calloop_wake.proofs.Locking.{of_content}
use Rattle.calloop_ends.proofs.Polling.{end_key, owed_place}
use Rattle.calloop_ends.proofs.futures.cell.ReceivingEnd+ExecutorCore+R.end_turn.Goals as goal

pub end_turn-debt-requires-clause-names : goal.end_turn-debt-requires-clause-names
end_turn-debt-requires-clause-names g c =
    let facts = of_content _ _ _ c.core-cell.ensures.value c.lock_at-held.ensures.taken.1 in
    let tag : c.self.inside.tally.name ≡ c.deref.result.now.tag = c.self.invariant ∙ ap (λ l. l.tag) (sym c.deref.ensures) in
    (c.requires.name ∙ ap (λ e. e.tally.name) (sym c.self.view_is) ∙ tag ∙ sym facts.0, tag ∙ sym facts.0)

pub end_turn-debt-requires-clause-at : goal.end_turn-debt-requires-clause-at
end_turn-debt-requires-clause-at g c = (of_content _ _ _ c.core-cell.ensures.value c.lock_at-held.ensures.taken.1).1

pub with_hub-owed-requires : goal.with_hub-owed-requires
with_hub-owed-requires g c =
    let facts = of_content _ _ _ c.core-cell.ensures.value c.lock_at-held.ensures.taken.1 in
    let cell = c.core-cell.result.now in
    let old = cell.core in
    let new = c.end_turn-debt.new.self in
    let key : new.key ≡ old.key = ap (λ (x : ExecutorCell). x.key) c.end_turn-debt.ensures.cell ∙ end_key c.args.finished (cell_of old) in
    subst (λ (o : Option Keyed). IfSome o (λ d. option_map arc_value cell.hub ≡ Some d.board)) (sym c.end_turn-debt.ensures.gives)
    (owed_place old.board (cell_of old) (cell_of new) (λ d. option_map arc_value cell.hub ≡ Some d.board) facts.2 key)

pub unlock-requires : goal.unlock-requires
unlock-requires g c =
    let facts = of_content _ _ _ c.core-cell.ensures.value c.lock_at-held.ensures.taken.1 in
    let old = c.core-cell.result.now.core in
    let new = c.end_turn-debt.new.self in
    let key : new.key ≡ old.key = ap (λ (x : ExecutorCell). x.key) c.end_turn-debt.ensures.cell ∙ end_key c.args.finished (cell_of old) in
    let same : on new.board new.key ≡ on old.board old.key = ap (λ b. on b new.key) c.end_turn-debt.ensures.names.1 ∙ ap (on old.board) key in (
      c.lock_at-held.ensures.lock.1,
      c.lock_at-held.ensures.lock.2,
      (refl, (c.end_turn-debt.ensures.names.0 ∙ facts.0 ∙ sym c.lock_at-held.ensures.lock.0, λ place e. facts.2 place (sym same ∙ e))),
    )
