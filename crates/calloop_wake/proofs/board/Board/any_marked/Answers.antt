use Rattle.std.proofs.Common.{◌≡◌, ◌∙◌, sym, ap, refl, not, true, false}
use Rattle.calloop_wake.specs.Boards.{any_marked}
use Rattle.calloop_wake.specs.Watches.{Watched}
use Rattle.calloop_wake.proofs.Posted.{none_posted, some_posted}
use Rattle.calloop_wake.proofs.board.Board.any_marked.Goals as goal

pub returns : goal.returns
returns c =
    let seen = ap (λ (w : Watched). any_marked w.places) c.self.view_is in
    elim c.is_empty.result as (λ r. c.is_empty.result ≡ r → not c.is_empty.result ≡ any_marked c.args.self.now.places) [
      | true ↦ λ e. ap (λ b. not b) e ∙ sym (none_posted c.self.inside.places c.self.inside.posted.items _ _ c.self.invariant c.self.inside.posted.ok.0 (sym c.is_empty.ensures ∙ e)) ∙ seen
      | false ↦ λ e. ap (λ b. not b) e ∙ sym (some_posted c.self.inside.places c.self.inside.posted.items _ _ c.self.invariant c.self.inside.posted.ok.0 (sym c.is_empty.ensures ∙ e)) ∙ seen
    ] refl
