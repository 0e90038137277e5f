-- The calls for a socket that a scripted poller notes, and which of them are to fail: for tests, which calloop makes
-- with descriptors of the OS.
use Rattle.std.specs.Prelude.{◌≡◌, ℤ, Bool, true, false, Result, Ok, Err}
use Rattle.std.specs.declared.io.Error.{Error as IoError}
use Rattle.std.specs.IoError.{error_kind}
use Rattle.std.specs.declared.io.ErrorKind.TheVariants.{Other}
use Rattle.calloop_script.specs.declared.calls.ScriptFaults.{ScriptFaults}
use Rattle.calloop_script.specs.declared.calls.ScriptCall.{ScriptCall}
use Rattle.calloop_script.specs.declared.calls.ScriptCall.TheVariants.{
  Add as AddOf,
  Modify as ModifyOf,
  Delete as DeleteOf,
}
use Rattle.calloop_script.specs.declared.calls.ScriptKind.{ScriptKind}
use Rattle.calloop_script.specs.declared.calls.ScriptKind.TheVariants.{
  Add as AddKind,
  Modify as ModifyKind,
  Delete as DeleteKind,
}
use Rattle.calloop_poll.specs.sys.Pollers.{PollerCall, Add, Modify, Delete}

-- a call as the list shows it, for the socket of this descriptor
abbrev pub shown_call : PollerCall → (number : ℤ) → ScriptCall
shown_call (Add key watched) number = AddOf number key watched
shown_call (Modify key watched) number = ModifyOf number key watched
shown_call Delete number = DeleteOf number

abbrev pub kind_of : ScriptCall → ScriptKind
kind_of (AddOf number key watched) = AddKind
kind_of (ModifyOf number key watched) = ModifyKind
kind_of (DeleteOf number) = DeleteKind

-- whether the next call of this kind is to fail
abbrev pub is_to_fail : ScriptKind → ScriptFaults → Bool
is_to_fail AddKind f = f.add
is_to_fail ModifyKind f = f.modify
is_to_fail DeleteKind f = f.delete

abbrev pub with_failing : ScriptKind → Bool → ScriptFaults → ScriptFaults
with_failing AddKind fails f = record f { add = fails }
with_failing ModifyKind fails f = record f { modify = fails }
with_failing DeleteKind fails f = record f { delete = fails }

-- the result of a call, by whether it was to fail
abbrev pub CallAnswered : (fails : Bool) → Result (Unit {0}) IoError → Type 0
CallAnswered true answer = (cause : IoError) × (answer ≡ Err cause) × (error_kind cause ≡ Other)
CallAnswered false answer = answer ≡ Ok tt
