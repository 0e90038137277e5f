-- The requests of the arguments.
use Rattle.std.specs.Prelude.{◌≡◌, ℕ, ◌<◌, ◌^◌, List, [], ◌∷◌, codes, String, string_bytes}
use Rattle.std.specs.Str.Parse.{IsNumeral, digits_value, without_leading_plus}
use Rattle.std.specs.Int.NonZero.{non_zero_u32_get}
use Rattle.std.specs.declared.alloc.Global.{Global}
use Rattle.loop_bench.specs.Rows.{name_of}
use Rattle.loop_bench.specs.declared.row.Row.{Row}
use Rattle.loop_bench.specs.declared.request.Request.{Request}
use Rattle.loop_bench.specs.declared.request.Request.TheVariants.{Check, Measure}

-- a whole number from 1 to 2^32 - 1, in decimal digits, with or without a plus before it
abbrev pub IsNumber : List ℕ → ℕ → Type 0
IsNumber word n =
    IsNumeral 10 (without_leading_plus word) × (n ≡ digits_value 10 (without_leading_plus word)) × (0 < n)
    × (n < 2 ^ 32)

-- the row that three words ask for: its name, its count and its size
abbrev pub IsRow : (kind count size : List ℕ) → Row → Type 0
IsRow kind count size row =
    (name_of row.kind ≡ kind) × IsNumber count (non_zero_u32_get row.count) × IsNumber size (non_zero_u32_get row.size)

-- what the arguments ask for: `check`, or a row
abbrev pub Asks : List (String Global) → Request → Type 0
Asks (word ∷ []) Check = string_bytes word ≡ codes "check"
Asks (kind ∷ count ∷ size ∷ []) (Measure row) = IsRow (string_bytes kind) (string_bytes count) (string_bytes size) row
Asks words request = ⊥
