use Rattle.std.proofs.Common.{rules, ◌≡◌, ◌∙◌, ◌∷◌, sym, ap, List, ℕ, Some, IfSome}
use Rattle.futures.specs.LinkedLists.{items, without}
use Rattle.futures.proofs.LinkLemmas.{without_first}
use Rattle.calloop_wake.specs.Tasks.{TaskTable}
use Rattle.calloop_wake.proofs.tasks.Tasks.take.Goals as goal

-- the first of the queue has left it
pub returns-clause-first : goal.returns-clause-first
returns-clause-first c =
    let slot : ℕ = c.in_ok-slot.slot in
    let before : List ℕ = items c.self.inside.queue 0 in
    let first : before ≡ slot ∷ without slot before = (without_first slot before c.in_ok-slot.ensures.apart c.in_ok-slot.ensures.value).0 in
    let left : IfSome c.unlink.result (λ list. items c.unlink.new.self list ≡ without slot (items c.self.inside.queue list)) = c.unlink.ensures.left in
    let was : c.unlink.result ≡ Some 0 = search rules in
    let rest : items c.unlink.new.self 0 ≡ without slot before = search rules in
    sym (ap (λ (v : TaskTable). v.queue) c.self.view_is) ∙ first ∙ ap (λ (xs : List ℕ). slot ∷ xs) (sym rest)
