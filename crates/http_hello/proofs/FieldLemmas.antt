-- Tests of a list's elements, one after another.
use Rattle.std.proofs.Common.{◌≡◌, ℕ, zero, suc, ◌<◌, ◌≤◌, Bool, true, false, ◌||◌, List, [], ◌∷◌, length, take, map, get_or, refl, ap, sym, ◌∙◌, arith}
use Rattle.std.proofs.lemmas.List.{take_all}
use Rattle.std.specs.List.{list_any}

-- neither part of a test passes
or_left : (x y : Bool) → (x || y) ≡ false → x ≡ false
or_left true y h = h
or_left false y h = refl

or_right : (x y : Bool) → (x || y) ≡ false → y ≡ false
or_right true y h = cc
or_right false y h = h

list_any-map : {X Y : Type 0} (p : Y → Bool) (f : X → Y) (xs : List X) → list_any p (map f xs) ≡ list_any (λ x. p (f x)) xs
list_any-map p f [] = refl
list_any-map p f (x ∷ xs) = ap (λ b. p (f x) || b) (list_any-map p f xs)

-- none of the first elements passes, and they are all
pub none_of_all : {X Y : Type 0} (p : Y → Bool) (f : X → Y) (xs : List X) (i : ℕ) → length xs ≤ i
    → list_any (λ x. p (f x)) (take i xs) ≡ false → list_any p (map f xs) ≡ false
none_of_all p f xs i all none =
    list_any-map p f xs ∙ ap (list_any (λ x. p (f x))) (sym (take_all i xs all)) ∙ none

-- none passes, so this one doesn't
pub none_at : {X Y : Type 0} (p : Y → Bool) (f : X → Y) (xs : List X) (i : ℕ) (d : X) → i < length xs
    → list_any p (map f xs) ≡ false → p (f (get_or xs i d)) ≡ false
none_at p f [] i d within none = absurd (omega (arith, within))
none_at p f (x ∷ xs) zero d within none = or_left (p (f x)) _ none
none_at p f (x ∷ xs) (suc i) d within none =
    none_at p f xs i d (omega (arith, within)) (or_right (p (f x)) _ none)
