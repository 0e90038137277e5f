-- One wait after another.
use Rattle.std.proofs.Common.{◌≡◌, ℕ, List, [], ◌∷◌, true, false, Bool, Option, Result, Ok, Err, refl}
use Rattle.std.specs.declared.io.Error.{Error as Cause}
use Rattle.calloop_poll.specs.declared.sys.Readiness.{Readiness}
use Rattle.calloop_poll.specs.sys.Pollers.{Outside}
use Rattle.calloop_poll.specs.sys.Polls.{PollView}
use Rattle.calloop_poll.specs.sys.Waits.{Interruption, IsInterruption, Waits, asked_for, is_zero}

module _ {P : Type 0} (O : Outside P) (v : PollView P) (timeout : Option ℕ) (start : ℕ) (asked : Option ℕ) where
  pub answered : (p w q : P) (given : List (ℕ × Readiness)) (later : ℕ) → O.waits p asked (Ok tt) given w → O.reads w later q → Waits O v timeout start asked p [] (Ok later) given q
  answered p w q given later waits reads = (w, waits, reads)

  pub faulted : (p q : P) (given : List (ℕ × Readiness)) (cause : Cause) → O.waits p asked (Err cause) given q → (¬ IsInterruption cause)
      → Waits O v timeout start asked p [] (Err cause) given q
  faulted p q given cause waits none = (waits, none)

  -- an interruption with nothing left to wait for
  pub ended : (p w q : P) (seen : List (ℕ × Readiness)) (cause : Cause) (later : ℕ) (posted : Bool) → O.waits p asked (Err cause) seen w → IsInterruption cause → O.reads w later q → is_zero (asked_for v posted timeout start later) ≡ true
      → Waits O v timeout start asked p (record { cause = cause; given = seen; waited = w; now = later; read = q; posted = posted } ∷ []) (Ok later) [] q
  ended p w q seen cause later posted waits is reads zero = (waits, is, reads, rw zero (refl, refl, refl, refl))

  pub interrupted : (p w r q : P) (seen given : List (ℕ × Readiness)) (cause : Cause) (later : ℕ) (posted : Bool) (is : List (Interruption P)) (answer : Result ℕ Cause) → O.waits p asked (Err cause) seen w → IsInterruption cause → O.reads w later r
      → is_zero (asked_for v posted timeout start later) ≡ false → Waits O v timeout start (asked_for v posted timeout start later) r is answer given q
      → Waits O v timeout start asked p (record { cause = cause; given = seen; waited = w; now = later; read = r; posted = posted } ∷ is) answer given q
  interrupted p w r q seen given cause later posted is answer waits was reads zero rest = (waits, was, reads, rw zero rest)
