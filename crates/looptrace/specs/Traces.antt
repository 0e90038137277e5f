-- The output of a run over the lines of a script.
use Rattle.std.specs.Prelude.{◌≡◌, ℕ, List, [], ◌∷◌, ◌++◌, Option, Some, None, ◌⊎◌}
use Rattle.looptrace.specs.Texts.{error_text, next_number}

-- what is written to the two outputs, and the exit status
pub record Written : Type 0 where
  pub out : List ℕ
  pub err : List ℕ
  pub status : ℕ

-- a text, and then what is written later
abbrev pub before : List ℕ → Written → Written
before text later = record { out = text ++ later.out; err = later.err; status = later.status }

-- what one line may do: the state after it and its text, or nothing if the line can't be read
abbrev pub LineStep : Type 0 → Type 1
LineStep S = S → List ℕ → Option (S × List ℕ) → Type 0

-- the lines from this number on may write this, from this state
abbrev pub Writes : {S : Type 0} → LineStep S → S → ℕ → List (List ℕ) → Written → Type 0
Writes step state number [] w = w ≡ record { out = []; err = []; status = 0 }
Writes {S} step state number (line ∷ lines) w =
    (step state line None × (w ≡ record { out = []; err = error_text number; status = 2 }))
    ⊎ ((after : S) × (text : List ℕ) × (later : Written)
    × step state line (Some (after, text)) × Writes step after (next_number number) lines later
    × (w ≡ before text later))

-- the same, and the state that the lines which were carried out leave
abbrev pub WritesTo : {S : Type 0} → LineStep S → S → ℕ → List (List ℕ) → Written → S → Type 0
WritesTo step state number [] w finish = (w ≡ record { out = []; err = []; status = 0 }) × (finish ≡ state)
WritesTo {S} step state number (line ∷ lines) w finish =
    (step state line None × (w ≡ record { out = []; err = error_text number; status = 2 }) × (finish ≡ state))
    ⊎ ((after : S) × (text : List ℕ) × (later : Written)
    × step state line (Some (after, text)) × WritesTo step after (next_number number) lines later finish
    × (w ≡ before text later))
