use Rattle.std.proofs.Common.{◌∙◌, sym, refl}
use Rattle.calloop_wake.proofs.BoardSteps.{none_taken}
use Rattle.calloop_wake.proofs.board.Board.unpost_none.Goals as goal

pub returns-then-none-clause-watch : goal.returns-then-none-clause-watch
returns-then-none-clause-watch c =
    let none = none_taken c.args.room c.args.self.now.places (sym c.any_marked-none.ensures ∙ c.if-none.true) in
    rw (c.if-none.true, c.and.ensures, none) refl
