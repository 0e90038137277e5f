-- A write to one slot of a table.
use Rattle.std.proofs.Common.{◌≡◌, ◌≢◌, ℕ, Bool, if◌then◌else◌, inl, inr, Option, sym, ◌∙◌, ap}
use Rattle.std.proofs.lemmas.Bool.Decides.{eqb_tells}
use mathlib.Core.Path.{fun_ext}
use Rattle.calloop_wake.specs.declared.tasks.Task.{Task}
use Rattle.calloop_wake.specs.Executors.{with_slot}

pub written : (old new : ℕ → Option Task) (slot : ℕ) (task : Option Task) → new slot ≡ task
    → ((other : ℕ) → other ≢ slot → new other ≡ old other) → new ≡ with_slot slot task old
written old new slot task here there = fun_ext (λ other.
    elim (eqb_tells other slot) [
      | inl h ↦ ap new h.1 ∙ here ∙ sym (ap (λ (b : Bool). if b then task else old other) h.0)
      | inr h ↦ there other h.1 ∙ sym (ap (λ (b : Bool). if b then task else old other) h.0)
    ])

-- if nothing is written, nothing changes
pub unwritten : (old new : ℕ → Option Task) → ((slot : ℕ) → new slot ≡ old slot) → new ≡ old
unwritten old new same = fun_ext same
