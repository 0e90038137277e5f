-- Results whose error stands apart, in a place that the caller lent. Calloop returns its errors by value.
use Rattle.std.specs.Prelude.{Result, Ok, Err}
use Rattle.calloop_slots.specs.declared.error.Error.{Error}
use Rattle.calloop_slots.specs.declared.error.Failed.{Failed}

-- the result, with the error that stands in the place
abbrev pub with_error : {A : Type 0} → Result A Failed → Error → Result A Error
with_error (Ok x) failure = Ok x
with_error (Err failed) failure = Err failure
