use Rattle.std.proofs.Common.{◌≡◌, ◌≢◌, ℕ, suc, zero, ◌<◌, List, [], ◌∷◌, length, get_or, refl, ap, arith, slice_get, Some, map}
use Rattle.std.proofs.Math.ListN.{set}
use Rattle.calloop_slots.specs.Slots.{with_change}

-- a change at an index is a write of the changed element
pub changed-set : {A : Type 0} (f : A → A) (xs : List A) (i : ℕ) (x : A) → x ≡ get_or xs i x → i < length xs → set xs i (f x) ≡ with_change f xs i
changed-set f [] i x e h = absurd (omega arith)
changed-set f (y ∷ ys) zero x e h = ap (λ v. f v ∷ ys) e
changed-set f (y ∷ ys) (suc i) x e h = ap (λ vs. y ∷ vs) (changed-set f ys i x e (omega arith))

-- a change passes through a map
pub map-changed : {A B : Type 0} (g : A → B) (f : A → A) (f' : B → B) (xs : List A) (i : ℕ) → ((x : A) → g (f x) ≡ f' (g x)) → map g (with_change f xs i) ≡ with_change f' (map g xs) i
map-changed g f f' [] i h = refl
map-changed g f f' (x ∷ xs) zero h = ap (λ v. v ∷ map g xs) (h x)
map-changed g f f' (x ∷ xs) (suc i) h = ap (λ vs. g x ∷ vs) (map-changed g f f' xs i h)

pub get_some : {A : Type 0} (xs : List A) (i : ℕ) (x d : A) → slice_get xs i ≡ Some x → get_or xs i d ≡ x
get_some [] i x d e = cc
get_some (y ∷ ys) zero x d e = cc
get_some (y ∷ ys) (suc i) x d e = get_some ys i x d e

pub length-changed : {A : Type 0} (f : A → A) (xs : List A) (i : ℕ) → length (with_change f xs i) ≡ length xs
length-changed f [] i = refl
length-changed f (x ∷ xs) zero = refl
length-changed f (x ∷ xs) (suc i) = ap suc (length-changed f xs i)

pub slice_get-changed_at : {A : Type 0} (f : A → A) (xs : List A) (i : ℕ) (x : A) → slice_get xs i ≡ Some x → slice_get (with_change f xs i) i ≡ Some (f x)
slice_get-changed_at f [] i x e = cc
slice_get-changed_at f (y ∷ ys) zero x e = let same : y ≡ x = cc in ap (λ v. Some (f v)) same
slice_get-changed_at f (y ∷ ys) (suc i) x e = slice_get-changed_at f ys i x e

pub slice_get-changed_other : {A : Type 0} (f : A → A) (xs : List A) (i j : ℕ) → j ≢ i → slice_get (with_change f xs i) j ≡ slice_get xs j
slice_get-changed_other f [] i j d = refl
slice_get-changed_other f (y ∷ ys) zero zero d = absurd (d refl)
slice_get-changed_other f (y ∷ ys) zero (suc j) d = refl
slice_get-changed_other f (y ∷ ys) (suc i) zero d = refl
slice_get-changed_other f (y ∷ ys) (suc i) (suc j) d = slice_get-changed_other f ys i j (λ e. d (ap suc e))
