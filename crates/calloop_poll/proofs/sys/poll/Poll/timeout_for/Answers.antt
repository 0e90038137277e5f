use Rattle.std.proofs.Common.{◌≡◌, List, [], ◌∷◌, ℕ, Option, rules, true, false, refl, ap, ◌∙◌}
use mathlib.Core.Bool.{not}
use Rattle.calloop_poll.specs.sys.Polls.{is_filled}
use Rattle.calloop_poll.specs.sys.Waits.{lesser}
use Rattle.calloop_poll.proofs.sys.poll.Poll.timeout_for.Goals as goal

filled : {A : Type 0} (xs : List A) → false ≡ not (is_filled xs) → is_filled xs ≡ true
filled [] is = absurd (cc)
filled (x ∷ xs) is = refl

empty : {A : Type 0} (xs : List A) → true ≡ not (is_filled xs) → is_filled xs ≡ false
empty [] is = refl
empty (x ∷ xs) is = absurd (cc)

lesser_of : (a b c d : Option ℕ) → a ≡ c → b ≡ d → lesser a b ≡ lesser c d
lesser_of a b c d first second = ap (λ x. lesser x b) first ∙ ap (λ y. lesser c y) second

pub returns-then-is_empty : goal.returns-then-is_empty
returns-then-is_empty g c =
    rw (empty c.args.self.now.batch.events c.if-is_empty.ensures, c.in-Some.is) (c.lesser.ensures ∙ lesser_of _ _ _ _ c.time_left.ensures (search rules))

pub returns-else-is_empty : goal.returns-else-is_empty
returns-else-is_empty g c = rw (filled c.args.self.now.batch.events c.if-is_empty.ensures) refl
