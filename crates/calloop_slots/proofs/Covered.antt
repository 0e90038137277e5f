-- Levels in which each word has a bit of the level above over it.
use Rattle.std.proofs.Common.{◌≡◌, ℕ, zero, suc, ◌+◌, ◌-◌, ◌*◌, ◌/◌, ◌^◌, ◌<◌, ◌≤◌, true, false, if◌then◌else◌, nat_lt, List, [], ◌∷◌, ◌++◌, length, map, get_or, refl, sym, ◌∙◌, ap, subst, arith, length-append, Result, Ok, Err, OnOk, OnErr}
use Rattle.std.proofs.lemmas.Bool.Decides.{nat_tests}
use Rattle.calloop_slots.specs.Widths.{most_slots, level_count}
use Rattle.calloop_slots.specs.Vacancies.{place, AreEnough, IsCovered, grown}
use Rattle.calloop_slots.proofs.Levels.{place-step, same-count}
use Rattle.calloop_slots.proofs.Told.{length-grown}

-- levels with the same numbers of words cover the same slots
covered-same : (most : ℕ) (ls ls' : List (List ℕ)) → map length ls' ≡ map length ls → IsCovered most ls → IsCovered most ls'
covered-same most [] [] e h = tt
covered-same most [] (ws' ∷ below') e h = cc
covered-same most (ws ∷ below) [] e h = cc
covered-same most (ws ∷ below) (ws' ∷ below') e h =
    let long : length ws' ≡ length ws = cc in
    let rest : map length below' ≡ map length below = cc in
    (omega (arith, h.0), subst (λ n. IsCovered (64 * n) below') (sym long) (covered-same (64 * length ws) below below' rest h.1))

pub enough-same : (ls ls' : List (List ℕ)) → map length ls' ≡ map length ls → AreEnough ls → AreEnough ls'
enough-same ls ls' e enough = (same-count ls ls' e ∙ enough.0, covered-same 1 ls ls' e enough.1)

-- Levels that grow.

place-above : (slot : ℕ) (ws : List ℕ) (below : List (List ℕ)) → place below slot / 64 ≡ place (ws ∷ below) slot
place-above slot ws below = place-step (length below) slot

one-more : (n p most most' : ℕ) → n ≤ most → most ≤ most' → n ≤ p → (most' ≤ p → most < most') → n + 1 ≤ most'
one-more n p most most' few le past more = grind arith

covered-grown : (slot most most' : ℕ) (ls : List (List ℕ)) → most ≤ most' → (most' ≤ place ls slot → most < most') → IsCovered most ls → IsCovered most' (grown slot ls)
covered-grown slot most most' [] le more h = tt
covered-grown slot most most' (ws ∷ below) le more h =
    let p : ℕ = place (ws ∷ below) slot in
    elim (nat_lt p (length ws)) as (λ b. nat_lt p (length ws) ≡ b
    → (length (if b then ws else ws ++ 0 ∷ []) ≤ most') × IsCovered (64 * length (if b then ws else ws ++ 0 ∷ [])) (grown slot below)) [
      | true ↦ λ e.
          (let here : place (ws ∷ below) slot < length ws = grind (arith, nat_tests) in
          (omega (arith, h.0), covered-grown slot (64 * length ws) (64 * length ws) below (omega arith) (λ far. absurd (omega (arith, place-above slot ws below))) h.1))
      | false ↦ λ e.
          (let past : length ws ≤ place (ws ∷ below) slot = grind (arith, nat_tests) in
          let long : length (ws ++ 0 ∷ []) ≡ length ws + 1 = length-append ws (0 ∷ []) in
          let fits : length ws + 1 ≤ most' = one-more (length ws) p most most' h.0 le past more in
          let fits' : length (ws ++ 0 ∷ []) ≤ most' = omega arith in
          (fits', covered-grown slot (64 * length ws) (64 * length (ws ++ 0 ∷ [])) below (omega arith) (λ _. omega arith) h.1))
    ] refl

pub enough-grown : (slot : ℕ) (ls : List (List ℕ)) → slot < most_slots → AreEnough ls → AreEnough (grown slot ls)
enough-grown slot ls small enough =
    let within : place ls slot < 1 = subst (λ n. slot / 2 ^ (6 * n) < 1) (sym enough.0) (omega arith) in
    (length-grown slot ls ∙ enough.0, covered-grown slot 1 1 ls (omega arith) (λ far. absurd (omega arith)) enough.1)

-- they grew, or stayed if there was no memory
pub enough-after : {T E : Type 0} (r : Result T E) (slot : ℕ) (ls ls' : List (List ℕ)) → slot < most_slots → AreEnough ls
    → OnOk r (ls' ≡ grown slot ls) → OnErr r (ls' ≡ ls) → AreEnough ls'
enough-after (Ok x) slot ls ls' small enough ok err = subst (λ (l : List (List ℕ)). AreEnough l) (sym ok) (enough-grown slot ls small enough)
enough-after (Err e) slot ls ls' small enough ok err = subst (λ (l : List (List ℕ)). AreEnough l) (sym err) enough

-- If the lowest level has the word over a slot, nothing grows.

nothing-grows : (n slot most : ℕ) (d : List ℕ) (ls : List (List ℕ)) → length ls ≡ suc n → IsCovered most ls → slot / 64 < length (get_or ls n d) → (grown slot ls ≡ ls) × (place ls slot < most)
nothing-grows n slot most d [] long h has = cc
nothing-grows zero slot most d (ws ∷ []) long h has =
    let here : place (ws ∷ []) slot < length ws = omega arith in
    let e : nat_lt (place (ws ∷ []) slot) (length ws) ≡ true = grind (arith, nat_tests) in
    (ap (λ b. (if b then ws else ws ++ 0 ∷ []) ∷ []) e, omega (arith, h.0))
nothing-grows zero slot most d (ws ∷ vs ∷ below) long h has = cc
nothing-grows (suc n) slot most d (ws ∷ below) long h has =
    let rest = nothing-grows n slot (64 * length ws) d below (omega arith) h.1 has in
    let here : place (ws ∷ below) slot < length ws = omega (arith, rest.1, place-above slot ws below) in
    let e : nat_lt (place (ws ∷ below) slot) (length ws) ≡ true = grind (arith, nat_tests) in
    (ap (λ b. (if b then ws else ws ++ 0 ∷ []) ∷ grown slot below) e ∙ ap (λ l. ws ∷ l) rest.0, omega (arith, h.0))

pub enough-stay : (slot : ℕ) (d : List ℕ) (ls : List (List ℕ)) → AreEnough ls → nat_lt (slot / 64) (length (get_or ls (level_count - 1) d)) ≡ true → grown slot ls ≡ ls
enough-stay slot d ls enough has =
    let lt : slot / 64 < length (get_or ls (level_count - 1) d) = grind (arith, nat_tests) in
    (nothing-grows (level_count - 1) slot 1 d ls enough.0 enough.1 lt).0
