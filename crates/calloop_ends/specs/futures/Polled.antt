-- The answer of a poll, and the error of a scheduler that refuses a future.
use Rattle.std.specs.Prelude.{◌≡◌}
use Rattle.calloop_ends.specs.declared.futures.task.Poll.{Poll}
use Rattle.calloop_ends.specs.declared.futures.task.Poll.TheVariants.{Ready, Pending}
use Rattle.calloop_ends.specs.declared.futures.errors.ScheduleError.{ScheduleError}
use Rattle.calloop_ends.specs.declared.futures.errors.ScheduleError.TheVariants.{Destroyed, OutOfMemory}

-- if the poll is ready, this holds of its value
abbrev pub IfReady : {T : Type 0} → Poll T → (T → Type 0) → Type 0
IfReady (Ready x) P = P x
IfReady Pending P = Unit {0}

-- if the poll is pending, this holds
abbrev pub OnPending : {T : Type 0} → Poll T → Type 0 → Type 0
OnPending (Ready x) P = Unit {0}
OnPending Pending P = P

-- on failure for lack of memory this very future comes back; if the executor is gone it is dropped, as in calloop
abbrev pub IsRefusalOf : {F : Type 0} → F → ScheduleError F → Type 0
IsRefusalOf future (Destroyed e) = Unit {0}
IsRefusalOf future (OutOfMemory back) = back ≡ future

abbrev pub IsDestroyed : {F : Type 0} → ScheduleError F → Type 0
IsDestroyed (Destroyed e) = Unit {0}
IsDestroyed (OutOfMemory back) = ⊥
