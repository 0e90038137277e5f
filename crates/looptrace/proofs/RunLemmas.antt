-- What the loop of a script wrote is what its lines may write by what the loop holds.
use Rattle.std.proofs.Common.{◌≡◌, ℕ, List, [], ◌∷◌, Option, Some, None, Result, Ok, Err, IfOk, IfSome, inl, inr}
use Rattle.looptrace.specs.declared.runner.ScriptLoop.{ScriptLoop}
use Rattle.looptrace.specs.Lines.{lines_of}
use Rattle.looptrace.specs.Texts.{next_number}
use Rattle.looptrace.specs.Traces.{Written, Writes}
use Rattle.looptrace.specs.Runs.{IsStart, state_of, trace_step, line_step, MayWrite}

pub writes_of : {R : Type 0} (lines : List (List ℕ)) (s : ScriptLoop R) (number : ℕ) (w : Written) → Writes line_step s number lines w → Writes trace_step (state_of s) number lines w
writes_of [] s number w h = h
writes_of (line ∷ lines) s number w (inl refused) = inl refused
writes_of (line ∷ lines) s number w (inr h) = inr (state_of h.0, h.1, h.2, h.3, writes_of lines h.0 (next_number number) h.2 h.4, h.5)

pub may_write : {E : Type 0} {R : Type 0} (s : ScriptLoop R) → IsStart (state_of s) → (result : Result ℕ E) (first : Option (List ℕ)) (Out Errors : Written → Type 0)
    → IfOk result (λ status. IfSome first (λ script. (w : Written) × Writes line_step s 1 (lines_of script) w × Out w × Errors w × (status ≡ w.status)))
    → IfOk result (λ status. IfSome first (λ script. (w : Written) × MayWrite script w × Out w × Errors w × (status ≡ w.status)))
may_write s start (Err e) first Out Errors h = tt
may_write s start (Ok status) None Out Errors h = tt
may_write s start (Ok status) (Some script) Out Errors h = (h.0, (state_of s, start, writes_of (lines_of script) s 1 h.0 h.1), h.2, h.3, h.4)
