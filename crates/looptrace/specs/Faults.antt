-- The number of failed calls of the reader and the writers of a run. No contract says when one fails.
use Rattle.std.specs.Prelude.{◌≡◌, ◌⊎◌, ℕ, ◌+◌, Result, Ok, Err}
use Rattle.std.specs.declared.io.Error.{Error}
use Rattle.std.specs.IoError.{error_kind}
use Rattle.std.specs.declared.io.ErrorKind.TheVariants.{OutOfMemory}

-- a call that fails counts one
abbrev pub with_fault : {A : Type 0} → Result A Error → ℕ → ℕ
with_fault (Ok a) n = n
with_fault (Err e) n = n + 1

-- why a run ends with an error: memory ran out, or just now a call of the reader or of a writer failed
abbrev pub IsCause : Error → (before after : ℕ) → Type 0
IsCause e before after = (error_kind e ≡ OutOfMemory) ⊎ (after ≡ before + 1)
