-- The map of names, if a name isn't in it.
use Rattle.std.proofs.Common.{◌≡◌, Bool, true, false, cond, List, [], ◌∷◌, ap, refl, Option, Some, None, is_some}
use mathlib.Core.Bool.{true≢false}
use Rattle.std.specs.Map.{lookup, set_value}

step : {K X : Type 0} (test : K → Bool) (e : K × X) (es : List (K × X)) (w : X) (b : Bool)
    → (lookup test es ≡ None → set_value test es w ≡ es)
    → cond b (Some e.1) (lookup test es) ≡ None → cond b ((e.0, w) ∷ es) (e ∷ set_value test es w) ≡ e ∷ es
step test e es w true later found = absurd (true≢false (ap (λ (o : Option _). is_some o) found))
step test e es w false later found = ap (λ (l : List _). e ∷ l) (later found)

-- a write at a key that isn't there changes nothing
pub set_value_absent : {K X : Type 0} (test : K → Bool) (es : List (K × X)) (w : X)
    → lookup test es ≡ None → set_value test es w ≡ es
set_value_absent test [] w none = refl
set_value_absent test (e ∷ es) w none = step test e es w (test e.0) (λ none. set_value_absent test es w none) none
