-- The position of the answer under a ticket.
use Rattle.std.proofs.Common.{◌≡◌, ℕ, zero, suc, ◌<◌, ◌+◌, ◌⊎◌, inl, inr, length, get_or, true, false, if◌then◌else◌, nat_eq, List, [], ◌∷◌, Some, None, slice_get, refl, ap, sym, ◌∙◌, arith}
use Rattle.calloop_loop.specs.declared.asks.Answered.{Answered}
use Rattle.calloop_loop.specs.Askings.{answer_under, without, StandsAt}

-- none of those before this place has the ticket
abbrev pub NoneBefore : {D : Type 0} → (ticket place : ℕ) → List (Answered D) → Type 0
NoneBefore {D} ticket place answers = (k : ℕ) (a : Answered D) → k < place → slice_get answers k ≡ Some a → nat_eq a.ticket ticket ≡ false

pub stands_at : {D : Type 0} (ticket place : ℕ) (a : Answered D) (answers : List (Answered D)) → slice_get answers place ≡ Some a → nat_eq a.ticket ticket ≡ true → NoneBefore ticket place answers → StandsAt ticket place answers
stands_at ticket place a [] is hit before = let e = is in cc
stands_at {D} ticket zero a (x ∷ xs) is hit before =
    let same : x ≡ a = cc in
    let here : nat_eq x.ticket ticket ≡ true = ap (λ (y : Answered D). nat_eq y.ticket ticket) same ∙ hit in
    (a, is, sym (ap (λ b. if b then xs else x ∷ without ticket xs) here), ap (λ b. if b then Some x.answer else answer_under ticket xs) here ∙ ap (λ (y : Answered D). Some y.answer) same)
stands_at {D} ticket (suc place) a (x ∷ xs) is hit before =
    let other : nat_eq x.ticket ticket ≡ false = before 0 x (omega arith) refl in
    let rest = stands_at ticket place a xs is hit (λ k b less at. before (suc k) b (omega (arith, less)) at) in
    (rest.0, rest.1, ap (λ l. x ∷ l) rest.2 ∙ sym (ap (λ b. if b then xs else x ∷ without ticket xs) other), ap (λ b. if b then Some x.answer else answer_under ticket xs) other ∙ rest.3)

pub stands_nowhere : {D : Type 0} (ticket : ℕ) (answers : List (Answered D)) → ((k : ℕ) (a : Answered D) → slice_get answers k ≡ Some a → nat_eq a.ticket ticket ≡ false) → (answer_under ticket answers ≡ None) × (without ticket answers ≡ answers)
stands_nowhere ticket [] none = (refl, refl)
stands_nowhere {D} ticket (x ∷ xs) none =
    let other : nat_eq x.ticket ticket ≡ false = none 0 x refl in
    let rest = stands_nowhere ticket xs (λ k a at. none (suc k) a at) in
    (ap (λ b. if b then Some x.answer else answer_under ticket xs) other ∙ rest.0, ap (λ b. if b then xs else x ∷ without ticket xs) other ∙ ap (λ l. x ∷ l) rest.1)

pub within : {A : Type 0} (k : ℕ) (a : A) (as' : List A) → slice_get as' k ≡ Some a → k < length as'
within k a [] is = let e = is in cc
within zero a (x ∷ xs) is = omega arith
within (suc k) a (x ∷ xs) is = let less = within k a xs is in omega (arith, less)

less_or : (k n : ℕ) → k < n + 1 → (k < n) ⊎ (k ≡ n)
less_or zero zero less = inr refl
less_or zero (suc n) less = inl (omega arith)
less_or (suc k) zero less = absurd (omega (arith, less))
less_or (suc k) (suc n) less = elim (less_or k n (omega (arith, less))) [ inl lower ↦ inl (omega (arith, lower)) | inr same ↦ inr (ap suc same) ]

pub before_next : {D : Type 0} (ticket place : ℕ) (a : Answered D) (answers : List (Answered D)) → slice_get answers place ≡ Some a → nat_eq a.ticket ticket ≡ false → NoneBefore ticket place answers → NoneBefore ticket (place + 1) answers
before_next {D} ticket place a answers is other before k b less at =
    elim (less_or k place (omega (arith, less))) [
      | inl lower ↦ before k b lower at
      | inr same ↦ (let one : Some a ≡ Some b = sym is ∙ ap (λ n. slice_get answers n) (sym same) ∙ at in let eq : a ≡ b = cc in ap (λ (y : Answered D). nat_eq y.ticket ticket) (sym eq) ∙ other)
    ]

pub got : {A : Type 0} (a : A) (i : ℕ) (as' : List A) → i < length as' → a ≡ get_or as' i a → slice_get as' i ≡ Some a
got a i [] less is = absurd (omega (arith, less))
got {A} a zero (x ∷ xs) less is = ap (λ (y : A). Some y) (sym is)
got a (suc i) (x ∷ xs) less is = got a i xs (omega (arith, less)) is
