-- The effect of each step of the board on the open keys and on the marked ones.
use Rattle.std.proofs.Common.{◌≡◌, ◌≢◌, ℕ, zero, suc, ◌-◌, ◌^◌, ◌<◌, ◌≤◌, Bool, true, false, ◌&&◌, ◌||◌, not, cond, if◌then◌else◌, ◌⊎◌, inl, List, [], ◌∷◌, nat_eq, nat_lt, map, filter, length, refl, sym, ◌∙◌, ap, arith, ltb-true, ltb-false, le-ltb, false-eqb}
use Rattle.std.proofs.lemmas.Bool.Decides.{nat_tests}
use Rattle.calloop_wake.specs.Boards.{place, is_open, is_marked, any_marked, after_open_place, after_close_place, after_post, wakes, after_unpost, is_taken, bound, keys_within, taken_keys, AllAbove, IsAscending, AllGreater, IsRising}
use Rattle.calloop_wake.specs.declared.board.Place.{Place}

pub is_open-after_open : (j k : ℕ) (ps : List Place) → is_open j (after_open_place k ps) ≡ (nat_eq k j || is_open j ps)
is_open-after_open j k [] = refl
is_open-after_open j k (p ∷ ps) = let h = is_open-after_open j k ps in grind arith

pub is_marked-after_open : (j k : ℕ) (ps : List Place) → is_marked j (after_open_place k ps) ≡ is_marked j ps
is_marked-after_open j k [] = grind arith
is_marked-after_open j k (p ∷ ps) = let h = is_marked-after_open j k ps in grind arith

pub is_open-after_close : (j k : ℕ) (ps : List Place) → is_open j (after_close_place k ps) ≡ (is_open j ps && not (nat_eq j k))
is_open-after_close j k [] = refl
is_open-after_close j k (p ∷ ps) = let h = is_open-after_close j k ps in grind (arith, nat_tests)

pub is_marked-after_close : (j k : ℕ) (ps : List Place) → is_marked j (after_close_place k ps) ≡ (is_marked j ps && not (nat_eq j k))
is_marked-after_close j k [] = refl
is_marked-after_close j k (p ∷ ps) = let h = is_marked-after_close j k ps in grind (arith, nat_tests)

pub is_open-after_post : (j k : ℕ) (ps : List Place) → is_open j (after_post k ps) ≡ is_open j ps
is_open-after_post j k [] = refl
is_open-after_post j k (p ∷ ps) = ap (λ b. nat_eq p.key j || b) (is_open-after_post j k ps)

pub is_marked-after_post : (j k : ℕ) (ps : List Place) → is_marked j (after_post k ps) ≡ (is_marked j ps || (nat_eq j k && is_open j ps))
is_marked-after_post j k [] = grind arith
is_marked-after_post j k (p ∷ ps) = let h = is_marked-after_post j k ps in grind (arith, nat_tests)

pub is_open-after_unpost : (j b : ℕ) (ps : List Place) → is_open j (after_unpost b ps) ≡ is_open j ps
is_open-after_unpost j b [] = refl
is_open-after_unpost j b (p ∷ ps) = ap (λ o. nat_eq p.key j || o) (is_open-after_unpost j b ps)

pub is_marked-after_unpost : (j b : ℕ) (ps : List Place) → is_marked j (after_unpost b ps) ≡ (is_marked j ps && not (nat_lt j b))
is_marked-after_unpost j b [] = refl
is_marked-after_unpost j b (p ∷ ps) = let h = is_marked-after_unpost j b ps in grind (arith, nat_tests)

-- a post that sets a new mark wakes
pub marked-after_post : (j k : ℕ) (ps : List Place) → is_marked j (after_post k ps) ≡ true → (is_marked j ps ≡ true) ⊎ (wakes k ps ≡ true)
marked-after_post j k [] h = inl h
marked-after_post j k (p ∷ ps) h = let ih = marked-after_post j k ps in grind (arith, nat_tests)

pub none_marked : (j : ℕ) (ps : List Place) → any_marked ps ≡ false → is_marked j ps ≡ false
none_marked j [] h = refl
none_marked j (p ∷ ps) h = let ih = none_marked j ps in grind arith

none_below : (below : ℕ) (ps : List Place) → any_marked ps ≡ false → taken_keys below ps ≡ []
none_below below [] h = refl
none_below below (p ∷ ps) h = let ih = none_below below ps in grind arith

pub none_taken : (room : ℕ) (ps : List Place) → any_marked ps ≡ false → keys_within room ps ≡ []
none_taken room ps h = none_below (bound room ps) ps h

-- The order of the keys.

pub AllAbove-less : (j k : ℕ) (ps : List Place) → j ≤ k → AllAbove k ps → AllAbove j ps
AllAbove-less j k [] le h = omega arith
AllAbove-less j k (p ∷ ps) le h = (omega arith, AllAbove-less j k ps le h.1)

pub AllAbove-filter : (t : Place → Bool) (k : ℕ) (ps : List Place) → AllAbove k ps → AllAbove k (filter t ps)
AllAbove-filter t k [] h = h
AllAbove-filter t k (p ∷ ps) h =
    elim (t p) as (λ b. AllAbove k (cond b (p ∷ filter t ps) (filter t ps))) [
      | true ↦ (h.0, AllAbove-filter t k ps h.1)
      | false ↦ AllAbove-filter t k ps h.1
    ]

pub IsAscending-filter : (t : Place → Bool) (ps : List Place) → IsAscending ps → IsAscending (filter t ps)
IsAscending-filter t [] h = tt
IsAscending-filter t (p ∷ ps) h =
    elim (t p) as (λ b. IsAscending (cond b (p ∷ filter t ps) (filter t ps))) [
      | true ↦ (AllAbove-filter t p.key ps h.0, IsAscending-filter t ps h.1)
      | false ↦ IsAscending-filter t ps h.1
    ]

pub AllAbove-open : (j k : ℕ) (ps : List Place) → j < k → AllAbove j ps → AllAbove j (after_open_place k ps)
AllAbove-open j k [] lt h = (lt, h)
AllAbove-open j k (p ∷ ps) lt h =
    elim (nat_lt k p.key) as (λ b. AllAbove j (if b then place k ∷ p ∷ ps else p ∷ after_open_place k ps)) [
      | true ↦ (lt, (h.0, h.1))
      | false ↦ (h.0, AllAbove-open j k ps lt h.1)
    ]

or-false_left : (a b : Bool) → (a || b) ≡ false → a ≡ false
or-false_left true b h = h
or-false_left false b h = refl

or-false_right : (a b : Bool) → (a || b) ≡ false → b ≡ false
or-false_right true b h = absurd (cc)
or-false_right false b h = h

ascending_open-at : (k : ℕ) (p : Place) (ps rest : List Place) (b : Bool) → nat_lt k p.key ≡ b → nat_eq p.key k ≡ false → IsAscending (p ∷ ps)
    → AllAbove p.key ps → ((p.key < k) → AllAbove p.key rest) → IsAscending rest → IsAscending (if b then place k ∷ p ∷ ps else p ∷ rest)
ascending_open-at k p ps rest true is ne h above more sorted =
    let lt : k < p.key = ltb-true k p.key is in ((lt, AllAbove-less k p.key ps (omega arith) above), h)
ascending_open-at k p ps rest false is ne h above more sorted =
    let le : p.key ≤ k = ltb-false k p.key is in let d : p.key ≢ k = false-eqb p.key k (sym ne) in (more (omega arith), sorted)

pub IsAscending-open : (k : ℕ) (ps : List Place) → k < 2 ^ 64 - 1 → is_open k ps ≡ false → IsAscending ps → IsAscending (after_open_place k ps)
IsAscending-open k [] token shut h = (token, tt)
IsAscending-open k (p ∷ ps) token shut h =
    ascending_open-at k p ps (after_open_place k ps) (nat_lt k p.key) refl (or-false_left (nat_eq p.key k) (is_open k ps) shut) h h.0
    (λ lt. AllAbove-open p.key k ps lt h.0)
    (IsAscending-open k ps token (or-false_right (nat_eq p.key k) (is_open k ps) shut) h.1)

and-false : (a : Bool) → (a && false) ≡ false
and-false true = refl
and-false false = refl

-- no key below a bound is taken from the places above it
none-below : (b : ℕ) (ps : List Place) → AllAbove b ps → length (taken_keys b ps) ≡ 0
none-below b [] h = refl
none-below b (p ∷ ps) h =
    let rest = none-below b ps h.1 in
    let high : nat_lt p.key b ≡ false = le-ltb p.key b (omega (arith, h.0)) in
    let e : is_taken b p ≡ false = ap (λ t. p.marked && t) high ∙ and-false p.marked in
    ap (λ t. length (map (λ q. q.key) (cond t (p ∷ filter (is_taken b) ps) (filter (is_taken b) ps)))) e ∙ rest

one-more : (b : ℕ) (p : Place) (ps : List Place) (t : Bool) (n : ℕ) → length (taken_keys b ps) ≤ n → length (map (λ q. q.key) (cond t (p ∷ filter (is_taken b) ps) (filter (is_taken b) ps))) ≤ suc n
one-more b p ps true n h = omega (arith, h)
one-more b p ps false n h = omega (arith, h)

within-at : (room : ℕ) (k : ℕ) (m : Bool) (ps : List Place) → AllAbove k ps → ((n : ℕ) → length (keys_within n ps) ≤ n) → length (keys_within room (record { key = k; marked = m } ∷ ps)) ≤ room
within-at zero k false ps above rest = rest zero
within-at (suc room) k false ps above rest = rest (suc room)
within-at zero k true ps above rest =
    let none = none-below k ps above in
    let e : nat_lt k k ≡ false = le-ltb k k (omega arith) in
    rw e (omega (arith, none))
within-at (suc room) k true ps above rest = one-more (bound room ps) (record { key = k; marked = true }) ps (nat_lt k (bound room ps)) room (rest room)

-- at most as many keys are taken as there is room for
pub keys-within : (room : ℕ) (ps : List Place) → IsAscending ps → length (keys_within room ps) ≤ room
keys-within room [] h = omega arith
keys-within room (p ∷ ps) h = within-at room p.key p.marked ps h.0 (λ n. keys-within n ps h.1)

keys-greater : (k : ℕ) (ps : List Place) → AllAbove k ps → AllGreater k (map (λ p. p.key) ps)
keys-greater k [] h = h
keys-greater k (p ∷ ps) h = (h.0, keys-greater k ps h.1)

pub keys-rising : (ps : List Place) → IsAscending ps → IsRising (map (λ p. p.key) ps)
keys-rising [] h = tt
keys-rising (p ∷ ps) h = (keys-greater p.key ps h.0, keys-rising ps h.1)

-- the taken keys ascend
pub taken_keys-rising : (b : ℕ) (ps : List Place) → IsAscending ps → IsRising (taken_keys b ps)
taken_keys-rising b ps h = keys-rising (filter (is_taken b) ps) (IsAscending-filter (is_taken b) ps h)
