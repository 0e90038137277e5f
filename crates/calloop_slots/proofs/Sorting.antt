-- The wheel stays sorted.
use Rattle.std.proofs.Common.{◌≡◌, ◌≢◌, ℕ, ◌<◌, ◌≤◌, Bool, true, false, cond, if◌then◌else◌, List, [], ◌∷◌, filter, refl, sym, arith}
use Rattle.std.proofs.lemmas.Bool.Decides.{nat_tests}
use Rattle.calloop_slots.specs.Deadlines.{is_before, after_insert, has_counter, is_due, after_first_due, IsAhead, IsSorted, AllBelow}
use Rattle.calloop_slots.specs.declared.wheel.Entry.{Entry}

before-trans : (x y z : Entry) → is_before x y ≡ true → is_before y z ≡ true → is_before x z ≡ true
before-trans x y z h k = grind (arith, nat_tests)

-- of two with different counters, one comes first
before-other : (x e : Entry) → is_before x e ≡ false → e.counter ≢ x.counter → is_before e x ≡ true
before-other x e h ne = grind (arith, nat_tests)

pub AllBelow-inserted : (n : ℕ) (e : Entry) (xs : List Entry) → e.counter < n → AllBelow n xs → AllBelow n (after_insert e xs)
AllBelow-inserted n e [] lt h = (lt, tt)
AllBelow-inserted n e (x ∷ xs) lt h =
    elim (is_before x e) as (λ b. AllBelow n (if b then x ∷ after_insert e xs else e ∷ x ∷ xs)) [
      | true ↦ (h.0, AllBelow-inserted n e xs lt h.1)
      | false ↦ (lt, (h.0, h.1))
    ]

pub AllBelow-more : (m n : ℕ) (xs : List Entry) → m ≤ n → AllBelow m xs → AllBelow n xs
AllBelow-more m n [] le h = tt
AllBelow-more m n (x ∷ xs) le h = (omega arith, AllBelow-more m n xs le h.1)

pub AllBelow-filter : (t : Entry → Bool) (n : ℕ) (xs : List Entry) → AllBelow n xs → AllBelow n (filter t xs)
AllBelow-filter t n [] h = tt
AllBelow-filter t n (x ∷ xs) h =
    elim (t x) as (λ b. AllBelow n (cond b (x ∷ filter t xs) (filter t xs))) [
      | true ↦ (h.0, AllBelow-filter t n xs h.1)
      | false ↦ AllBelow-filter t n xs h.1
    ]

IsAhead-filter : (t : Entry → Bool) (y : Entry) (xs : List Entry) → IsAhead y xs → IsAhead y (filter t xs)
IsAhead-filter t y [] h = tt
IsAhead-filter t y (x ∷ xs) h =
    elim (t x) as (λ b. IsAhead y (cond b (x ∷ filter t xs) (filter t xs))) [
      | true ↦ (h.0, h.1, IsAhead-filter t y xs h.2)
      | false ↦ IsAhead-filter t y xs h.2
    ]

pub IsSorted-filter : (t : Entry → Bool) (xs : List Entry) → IsSorted xs → IsSorted (filter t xs)
IsSorted-filter t [] h = tt
IsSorted-filter t (x ∷ xs) h =
    elim (t x) as (λ b. IsSorted (cond b (x ∷ filter t xs) (filter t xs))) [
      | true ↦ (IsAhead-filter t x xs h.0, IsSorted-filter t xs h.1)
      | false ↦ IsSorted-filter t xs h.1
    ]

IsAhead-inserted : (y e : Entry) (xs : List Entry) → is_before y e ≡ true → y.counter ≢ e.counter → IsAhead y xs → IsAhead y (after_insert e xs)
IsAhead-inserted y e [] b ne h = (b, ne, tt)
IsAhead-inserted y e (x ∷ xs) b ne h =
    elim (is_before x e) as (λ c. IsAhead y (if c then x ∷ after_insert e xs else e ∷ x ∷ xs)) [
      | true ↦ (h.0, h.1, IsAhead-inserted y e xs b ne h.2)
      | false ↦ (b, ne, (h.0, h.1, h.2))
    ]

-- an entry comes before all that the next one comes before, if its counter differs from each
IsAhead-over : (e x : Entry) (xs : List Entry) → is_before e x ≡ true → IsAhead x xs → has_counter e.counter xs ≡ false → IsAhead e xs
IsAhead-over e x [] b h free = tt
IsAhead-over e x (y ∷ ys) b h free =
    (before-trans e x y b h.0, λ same. grind (arith, nat_tests), IsAhead-over e x ys b h.2 (grind (arith, nat_tests)))

sorted-at : (e x : Entry) (xs rest : List Entry) (b : Bool) → is_before x e ≡ b → e.counter ≢ x.counter → has_counter e.counter xs ≡ false
    → IsAhead x xs → IsSorted xs → ((is_before x e ≡ true) → IsAhead x rest) → IsSorted rest → IsSorted (if b then x ∷ rest else e ∷ x ∷ xs)
sorted-at e x xs rest true is ne free ahead sorted more kept = (more is, kept)
sorted-at e x xs rest false is ne free ahead sorted more kept =
    let lt : is_before e x ≡ true = before-other x e is ne in
    ((lt, ne, IsAhead-over e x xs lt ahead free), (ahead, sorted))

pub IsSorted-inserted : (e : Entry) (xs : List Entry) → has_counter e.counter xs ≡ false → IsSorted xs → IsSorted (after_insert e xs)
IsSorted-inserted e [] free h = (tt, tt)
IsSorted-inserted e (x ∷ xs) free h =
    let ne : e.counter ≢ x.counter = λ same. grind (arith, nat_tests) in
    let rest : has_counter e.counter xs ≡ false = grind (arith, nat_tests) in
    sorted-at e x xs (after_insert e xs) (is_before x e) refl ne rest h.0 h.1 (λ b. IsAhead-inserted x e xs b (λ same. ne (sym same)) h.0)
    (IsSorted-inserted e xs rest h.1)

pub AllBelow-free : (n : ℕ) (xs : List Entry) → AllBelow n xs → has_counter n xs ≡ false
AllBelow-free n [] h = refl
AllBelow-free n (x ∷ xs) h = let k = AllBelow-free n xs h.1 in let lt = h.0 in grind (arith, nat_tests)

pub IsSorted-after_first_due : (now : ℕ) (xs : List Entry) → IsSorted xs → IsSorted (after_first_due now xs)
IsSorted-after_first_due now [] h = tt
IsSorted-after_first_due now (x ∷ xs) h =
    elim (is_due now x) as (λ b. IsSorted (if b then xs else x ∷ xs)) [ true ↦ h.1 | false ↦ h ]

pub AllBelow-after_first_due : (now n : ℕ) (xs : List Entry) → AllBelow n xs → AllBelow n (after_first_due now xs)
AllBelow-after_first_due now n [] h = tt
AllBelow-after_first_due now n (x ∷ xs) h =
    elim (is_due now x) as (λ b. AllBelow n (if b then xs else x ∷ xs)) [ true ↦ h.1 | false ↦ h ]
