-- The printed texts, one on each line.
use Rattle.std.specs.Prelude.{◌≡◌, ℕ, ◌+◌, ◌-◌, ◌^◌, min, List, ◌++◌, Option, Some, None, codes}
use Rattle.std.specs.Fmt.{decimal}

-- a list begins with these items
abbrev pub BeginsWith : List ℕ → List ℕ → Type 0
BeginsWith all front = (rest : List ℕ) × (all ≡ front ++ rest)

-- a source of this name was put into a slot at a version
abbrev pub insert_text : List ℕ → ℕ → ℕ → List ℕ
insert_text name slot version =
    codes "insert " ++ name ++ codes " " ++ decimal slot ++ codes " " ++ decimal version ++ codes "\n"

-- a number of nanoseconds, or `-` for none
abbrev pub timeout_text : Option ℕ → List ℕ
timeout_text None = codes "-"
timeout_text (Some nanoseconds) = decimal nanoseconds

-- a wait was requested
abbrev pub wait_text : Option ℕ → List ℕ
wait_text asked = codes "wait " ++ timeout_text asked ++ codes "\n"

-- the callback of this name was called
abbrev pub called_text : List ℕ → List ℕ
called_text name = codes "call " ++ name

abbrev pub call_text : List ℕ → List ℕ
call_text name = called_text name ++ codes "\n"

-- the callback of a timer was called, with its deadline in nanoseconds
abbrev pub alarm_text : List ℕ → (deadline : ℕ) → List ℕ
alarm_text name deadline = called_text name ++ codes " " ++ decimal deadline ++ codes "\n"

-- a command failed with this error
abbrev pub refused_text : List ℕ → List ℕ
refused_text word = codes "refused " ++ word ++ codes "\n"

-- a line can't be read
abbrev pub error_text : ℕ → List ℕ
error_text number = codes "error line " ++ decimal number ++ codes "\n"

-- the number of the next line, which stops rising at the end of its type
abbrev pub next_number : ℕ → ℕ
next_number number = min (number + 1) (2 ^ 64 - 1)
