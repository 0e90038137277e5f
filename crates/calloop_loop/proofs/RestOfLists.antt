-- What is left of a list behind a place.
use Rattle.std.proofs.Common.{◌≡◌, ◌+◌, ℕ, zero, suc, List, [], ◌∷◌, drop, ap, ◌∙◌, arith, Some, slice_get}

rest_of : {A : Type 0} (ts : List A) (i : ℕ) (t : A) → slice_get ts i ≡ Some t → drop i ts ≡ t ∷ drop (suc i) ts
rest_of [] i t is = cc
rest_of (x ∷ xs) zero t is = cc
rest_of (x ∷ xs) (suc i) t is = rest_of xs i t is

pub rest_from : {A : Type 0} (ts : List A) (i : ℕ) (t : A) → slice_get ts i ≡ Some t → drop i ts ≡ t ∷ drop (i + 1) ts
rest_from ts i t is = let next : suc i ≡ i + 1 = omega arith in rest_of ts i t is ∙ ap (λ n. t ∷ drop n ts) next
