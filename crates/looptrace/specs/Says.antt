-- The text that a callback says.
use Rattle.std.specs.Prelude.{◌≡◌, ℕ, List, ◌++◌, ◌⊎◌, Option, None}
use Rattle.std.specs.Option.{option_map}

-- the text of a call is said behind what was said before; if memory ran out nothing is known
abbrev pub Tells : (text : List ℕ) → Option (List ℕ) → Option (List ℕ) → Type 0
Tells text before after = (after ≡ None) ⊎ (after ≡ option_map (λ said. said ++ text) before)
