-- A function is applied to each element of a list, one after the other.
use Rattle.std.proofs.Common.{◌≡◌, ℕ, zero, suc, ◌+◌, ◌<◌, ◌≤◌, List, [], ◌∷◌, length, map, get_or, refl, ap, sym, ◌∙◌, arith, add-one}
use Rattle.std.proofs.Math.ListN.{set}

-- to as many of the first ones
abbrev pub partly : {A : Type 0} → (A → A) → ℕ → List A → List A
partly f zero xs = xs
partly f (suc n) [] = []
partly f (suc n) (x ∷ xs) = f x ∷ partly f n xs

pub partly_all : {A : Type 0} (f : A → A) (n : ℕ) (xs : List A) → length xs ≤ n → partly f n xs ≡ map f xs
partly_all f zero [] all = refl
partly_all f (suc n) [] all = refl
partly_all f zero (x ∷ xs) all = absurd (omega arith)
partly_all f (suc n) (x ∷ xs) all = ap (λ l. f x ∷ l) (partly_all f n xs (omega arith))

next_of : {A : Type 0} (f : A → A) (n : ℕ) (xs : List A) (x : A) → n < length xs → x ≡ get_or (partly f n xs) n x → set (partly f n xs) n (f x) ≡ partly f (suc n) xs
next_of f zero [] x within is = absurd (omega arith)
next_of f (suc n) [] x within is = absurd (omega arith)
next_of f zero (y ∷ xs) x within is = ap (λ z. f z ∷ xs) is
next_of f (suc n) (y ∷ xs) x within is = ap (λ l. f y ∷ l) (next_of f n xs x (omega arith) is)

-- and to the next one
pub partly_next : {A : Type 0} (f : A → A) (n : ℕ) (xs : List A) (x : A) → n < length xs → x ≡ get_or (partly f n xs) n x → set (partly f n xs) n (f x) ≡ partly f (n + 1) xs
partly_next f n xs x within is = next_of f n xs x within is ∙ ap (λ k. partly f k xs) (sym (add-one n))
