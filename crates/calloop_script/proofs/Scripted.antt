-- A scripted wait that ends in an error.
use Rattle.std.proofs.Common.{◌≡◌, ℕ, List, [], ◌∷◌, Option, Err, refl}
use Rattle.std.specs.IoError.{error_kind}
use Rattle.std.specs.declared.io.Error.{Error as Cause}
use Rattle.std.specs.declared.io.ErrorKind.TheVariants.{Interrupted, Other}
use Rattle.calloop_script.specs.declared.ScriptAnswer.{ScriptAnswer}
use Rattle.calloop_script.specs.declared.ScriptEnd.TheVariants.{Interrupted as Interruption, Fault}
use Rattle.calloop_script.specs.ScriptPollers.{WaitAnswered}

module _ (answers left : List ScriptAnswer) (first : ScriptAnswer) (moment : ℕ) (asked : Option ℕ) (cause : Cause) (is : answers ≡ first ∷ left) where
  pub interrupted : first.end ≡ Interruption → error_kind cause ≡ Interrupted → WaitAnswered answers moment asked (Err cause) [] first.moment.nanos left
  interrupted end kind = rw is (rw end (cause, refl, kind, refl), refl, refl)

  pub faulted : first.end ≡ Fault → error_kind cause ≡ Other → WaitAnswered answers moment asked (Err cause) [] first.moment.nanos left
  faulted end kind = rw is (rw end (cause, refl, kind, refl), refl, refl)
