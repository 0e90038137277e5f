-- The calls of a callback, in order. calloop's callbacks are closures, of which nothing is known; here each is a
-- value of a named type, which says what a call may do.
use Rattle.std.specs.Prelude.{◌≡◌, ◌⊎◌, List, [], ◌∷◌, Result, Ok, Err}
use Rattle.std.specs.declared.io.Error.{Error as IoCause}
use Rattle.std.specs.IoError.{error_kind}
use Rattle.std.specs.declared.io.ErrorKind.{ErrorKind}
use Rattle.std.specs.declared.io.ErrorKind.TheVariants.{OutOfMemory as NoMemory}
use Rattle.anyhow.specs.declared.error.Error.{Error as Cause}
use Rattle.calloop_slots.specs.declared.error.Error.{Error}
use Rattle.calloop_slots.specs.declared.error.Error.TheVariants.{
  InvalidToken,
  IoError,
  OtherError,
  OutOfMemory,
  TooManySources,
  TooManyTokens,
  TooManyTimers,
  TooManyTickets,
  OwnTurn,
  NoRendezvous,
}

-- one call: the event, the metadata before and after it, and the callback's result
pub record CallbackCall (E M T : Type 0) : Type 0 where
  pub event : E
  pub before : M
  pub after : M
  pub answer : T

-- what a call may do: the callback, the event, the metadata, the data and the requests before it, its result, and all
-- but the event after it
abbrev pub Calling : (F E M T X Q : Type 0) → Type 1
Calling F E M T X Q = F → E → M → X → Q → T → F → M → X → Q → Type 0

-- callback, data and requests went through exactly these calls; the requests after a call are reached from those before it
abbrev pub Went : {F E M T X Q : Type 0} → Calling F E M T X Q → (Q → Q → Type 0)
    → F → X → Q → List (CallbackCall E M T) → F → X → Q → Type 0
Went may reaches f x q [] g y r = (g ≡ f) × (y ≡ x) × (r ≡ q)
Went {F} {E} {M} {T} {X} {Q} may reaches f x q (c ∷ cs) g y r =
    (f' : F) × (x' : X) × (q' : Q) × may f c.event c.before x q c.answer f' c.after x' q' × reaches q q'
    × Went may reaches f' x' q' cs g y r

-- another failure; its text, which no clause says, is kept
abbrev pub IsOther : Error → Type 0
IsOther e = (cause : Cause) × (e ≡ OtherError cause)

-- a source's error: its own failure, or running out of memory. calloop has `OtherError` alone, since it aborts
-- there.
abbrev pub IsOfSource : Error → Type 0
IsOfSource e = IsOther e ⊎ (e ≡ OutOfMemory)

-- an OS error when a source returns it, by its kind
abbrev pub OfKind : ErrorKind → Error → Type 0
OfKind NoMemory e = e ≡ OutOfMemory
OfKind kind e = IsOther e

abbrev pub OfIo : IoCause → Error → Type 0
OfIo cause e = OfKind (error_kind cause) e

-- an error of the loop when a source returns it: one that is no source's becomes another failure; calloop boxes each
abbrev pub AsOfSource : Error → Error → Type 0
AsOfSource (OtherError cause) e = e ≡ OtherError cause
AsOfSource OutOfMemory e = e ≡ OutOfMemory
AsOfSource InvalidToken e = IsOther e
AsOfSource (IoError cause) e = IsOther e
AsOfSource TooManySources e = IsOther e
AsOfSource TooManyTokens e = IsOther e
AsOfSource TooManyTimers e = IsOther e
AsOfSource TooManyTickets e = IsOther e
AsOfSource OwnTurn e = IsOther e
AsOfSource NoRendezvous e = IsOther e

-- the result of a source, with its error as the loop's
abbrev pub Becomes : {A Cause : Type 0} → (Cause → Error → Type 0) → Result A Cause → Result A Error → Type 0
Becomes becomes (Ok a) answer = answer ≡ Ok a
Becomes becomes (Err cause) (Err e) = becomes cause e
Becomes becomes (Err cause) (Ok a) = ⊥
