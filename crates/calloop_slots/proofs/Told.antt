-- The vacant slots, and the levels that list them.
use Rattle.std.proofs.Common.{◌≡◌, ℕ, zero, suc, ◌+◌, ◌-◌, ◌*◌, ◌/◌, ◌%◌, ◌^◌, ◌<◌, ◌≤◌, Bool, true, false, not, if◌then◌else◌, nat_eq, nat_lt, List, [], ◌∷◌, ◌++◌, length, slice_get, Some, refl, sym, ◌∙◌, ap, subst, arith, eqb-true, length-append}
use Rattle.std.proofs.lemmas.Bool.Decides.{nat_tests}
use Rattle.std.proofs.lemmas.List.{get_or_past}
use Rattle.std.proofs.lemmas.Nat.{pow_pos}
use Rattle.std.proofs.lemmas.Nat.Bits.{bit_at-zero}
use Rattle.std.proofs.Math.ListN.{get_or-append}
use Rattle.std.proofs.Math.Seq.{get_or-append_right}
use Rattle.std.proofs.Math.Nat.{zero-div, lt-div-mul-add, div-lt_iff_lt-mul}
use Rattle.std.specs.Int.{bit_at}
use Rattle.calloop_slots.specs.Widths.{most_slots, level_count}
use Rattle.calloop_slots.specs.declared.list.Content.{Content}
use Rattle.calloop_slots.specs.declared.list.Content.TheVariants.{Vacant, InTurn}
use Rattle.calloop_slots.specs.declared.list.Slot.{Slot}
use Rattle.calloop_slots.specs.declared.token.RegistrationToken.{RegistrationToken}
use Rattle.calloop_slots.specs.Slots.{with_change, with_content, content_at, is_empty, is_vacant, first_vacant, after_claim, taken_up}
use Rattle.calloop_slots.specs.Vacancies.{word_at, is_set, bit_above, place, AreLevels, HasBits, IsFirst, with_slot, with_place, grown, is_vacant_in, no_words, TellVacant}
use Rattle.calloop_slots.proofs.Indexed.{length-changed}
use Rattle.calloop_slots.proofs.Named.{named_slot, named_within}
use Rattle.calloop_slots.proofs.Vacancy.{claimed_within}

-- The vacant slots of a list.

vacant-within : {S : Type 0} (ss : List (Slot S)) (i : ℕ) → is_vacant_in ss i ≡ true → i < length ss
vacant-within [] i h = cc
vacant-within (s ∷ ss) zero h = omega arith
vacant-within (s ∷ ss) (suc i) h = omega (arith, vacant-within ss i h)

pub first-is : {S : Type 0} (ss : List (Slot S)) (i : ℕ) → IsFirst (is_vacant_in ss) i → i ≡ first_vacant ss
first-is [] i h = let no = h.found in cc
first-is (s ∷ ss) zero h = sym (ap (λ b. if b then 0 else suc (first_vacant ss)) h.found)
first-is (s ∷ ss) (suc i) h =
    let rest : i ≡ first_vacant ss = first-is ss i (record { found = h.found; least = λ j lt. h.least (suc j) (omega arith) }) in
    ap suc rest ∙ sym (ap (λ b. if b then 0 else suc (first_vacant ss)) (h.least 0 (omega arith)))

pub first-within : {S : Type 0} (ss : List (Slot S)) (i : ℕ) → IsFirst (is_vacant_in ss) i → i < length ss
first-within ss i h = vacant-within ss i h.found

pub none-first : {S : Type 0} (ss : List (Slot S)) → ((i : ℕ) → is_vacant_in ss i ≡ false) → first_vacant ss ≡ length ss
none-first [] h = refl
none-first (s ∷ ss) h = ap (λ b. if b then 0 else suc (first_vacant ss)) (h 0) ∙ ap suc (none-first ss (λ i. h (suc i)))

vacant-at : {S : Type 0} (ss : List (Slot S)) (i : ℕ) (s : Slot S) → slice_get ss i ≡ Some s → is_vacant_in ss i ≡ is_vacant s
vacant-at [] i s h = cc
vacant-at (r ∷ ss) zero s h = let same : r ≡ s = cc in ap (λ x. is_vacant x) same
vacant-at (r ∷ ss) (suc i) s h = vacant-at ss i s h

named-filled : {S : Type 0} (ss : List (Slot S)) (t : RegistrationToken) → is_empty (content_at ss t) ≡ false → is_vacant_in ss t.slot ≡ false
named-filled ss t h = let n = named_slot ss t h in vacant-at ss t.slot n.0 n.1 ∙ ap (λ c. is_empty c) (sym n.3) ∙ h

vacant-changed : {S : Type 0} (f : Slot S → Slot S) (v : Bool) (ss : List (Slot S)) (i : ℕ) → ((s : Slot S) → is_vacant (f s) ≡ v) → i < length ss
    → (j : ℕ) → is_vacant_in (with_change f ss i) j ≡ with_slot i v (is_vacant_in ss) j
vacant-changed f v [] i h lt j = absurd (omega arith)
vacant-changed f v (s ∷ ss) zero h lt zero = h s
vacant-changed f v (s ∷ ss) zero h lt (suc j) =
    let apart : nat_eq (suc j) 0 ≡ false = grind arith in sym (ap (λ b. if b then v else is_vacant_in ss j) apart)
vacant-changed f v (s ∷ ss) (suc i) h lt zero =
    let apart : nat_eq 0 (suc i) ≡ false = grind arith in sym (ap (λ b. if b then v else is_vacant s) apart)
vacant-changed f v (s ∷ ss) (suc i) h lt (suc j) =
    let same : nat_eq j i ≡ nat_eq (suc j) (suc i) = grind (arith, nat_tests) in
    vacant-changed f v ss i h (omega arith) j ∙ ap (λ b. if b then v else is_vacant_in ss j) same

vacant-added : {S : Type 0} (s : Slot S) (ss : List (Slot S)) → is_vacant s ≡ false → (j : ℕ) → is_vacant_in (ss ++ s ∷ []) j ≡ is_vacant_in ss j
vacant-added s [] h zero = h
vacant-added s [] h (suc j) = refl
vacant-added s (r ∷ ss) h zero = refl
vacant-added s (r ∷ ss) h (suc j) = vacant-added s ss h j

without-filled : (f : ℕ → Bool) (k : ℕ) → f k ≡ false → (i : ℕ) → f i ≡ with_slot k false f i
without-filled f k h i =
    elim (nat_eq i k) as (λ b. nat_eq i k ≡ b → f i ≡ (if b then false else f i)) [
      | true ↦ λ e. ap f (eqb-true i k e) ∙ h
      | false ↦ λ e. refl
    ] refl

-- What the levels say.

said-same : (f g : ℕ → Bool) (ls : List (List ℕ)) → ((i : ℕ) → f i ≡ g i) → (i : ℕ) → bit_above f ls i ≡ bit_above g ls i
said-same f g [] h i = h i
said-same f g (ws ∷ below) h i = refl

levels-same : (f g : ℕ → Bool) (ls : List (List ℕ)) → ((i : ℕ) → f i ≡ g i) → AreLevels f ls → AreLevels g ls
levels-same f g [] h are = tt
levels-same f g (ws ∷ below) h are = (λ i. are.0 i ∙ said-same f g below h i, levels-same f g below h are.1)

last-zero : (k : ℕ) → word_at (0 ∷ []) k ≡ word_at [] 0
last-zero zero = refl
last-zero (suc k) = refl

word-appended : (ws : List ℕ) (i : ℕ) (b : Bool) → nat_lt i (length ws) ≡ b → word_at (ws ++ 0 ∷ []) i ≡ word_at ws i
word-appended ws i true e = let lt : i < length ws = grind (arith, nat_tests) in get_or-append ws (0 ∷ []) 0 i lt
word-appended ws i false e =
    let le : length ws ≤ i = grind (arith, nat_tests) in
    get_or-append_right ws (0 ∷ []) i 0 le ∙ last-zero (i - length ws) ∙ sym (get_or_past ws i 0 le)

word-extended : (p : ℕ) (ws : List ℕ) (i : ℕ) → word_at (with_place p ws) i ≡ word_at ws i
word-extended p ws i = elim (nat_lt p (length ws)) as (λ b. word_at (if b then ws else ws ++ 0 ∷ []) i ≡ word_at ws i) [ true ↦ refl | false ↦ word-appended ws i (nat_lt i (length ws)) refl ]

is_set-extended : (p : ℕ) (ws : List ℕ) (i : ℕ) → is_set (with_place p ws) i ≡ is_set ws i
is_set-extended p ws i = ap (λ x. nat_eq (bit_at x (i % 64)) 1) (word-extended p ws (i / 64))

said-grown : (f : ℕ → Bool) (n : ℕ) (ls : List (List ℕ)) (i : ℕ) → bit_above f (grown n ls) i ≡ bit_above f ls i
said-grown f n [] i = refl
said-grown f n (ws ∷ below) i = ap (λ x. not (nat_eq x 0)) (word-extended (place (ws ∷ below) n) ws i)

levels-grown : (f : ℕ → Bool) (n : ℕ) (ls : List (List ℕ)) → AreLevels f ls → AreLevels f (grown n ls)
levels-grown f n [] are = tt
levels-grown f n (ws ∷ below) are =
    (λ i. is_set-extended (place (ws ∷ below) n) ws i ∙ are.0 i ∙ sym (said-grown f n below i), levels-grown f n below are.1)

pub length-grown : (n : ℕ) (ls : List (List ℕ)) → length (grown n ls) ≡ length ls
length-grown n [] = refl
length-grown n (ws ∷ below) = ap suc (length-grown n below)

place-grown : (n i : ℕ) (ls : List (List ℕ)) → place (grown n ls) i ≡ place ls i
place-grown n i ls = ap (λ k. i / 2 ^ (6 * k)) (length-grown n ls)

extended-long : (p : ℕ) (ws : List ℕ) → length ws ≤ length (with_place p ws)
extended-long p ws = elim (nat_lt p (length ws)) as (λ b. length ws ≤ length (if b then ws else ws ++ 0 ∷ [])) [ true ↦ omega arith | false ↦ omega (arith, length-append ws (0 ∷ [])) ]

extended-enough : (p : ℕ) (ws : List ℕ) → p ≤ length ws → p < length (with_place p ws)
extended-enough p ws h =
    elim (nat_lt p (length ws)) as (λ b. nat_lt p (length ws) ≡ b → p < length (if b then ws else ws ++ 0 ∷ [])) [
      | true ↦ λ e. grind (arith, nat_tests)
      | false ↦ λ e. omega (arith, length-append ws (0 ∷ []))
    ] refl

bits-kept : (n i : ℕ) (ls : List (List ℕ)) → HasBits ls i → HasBits (grown n ls) i
bits-kept n i [] h = tt
bits-kept n i (ws ∷ below) h =
    let lt : place (ws ∷ below) i < length ws = h.0 in
    (omega (arith, extended-long (place (ws ∷ below) n) ws, place-grown n i (ws ∷ below)), bits-kept n i below h.1)

next-div : (m d : ℕ) → 0 < d → suc m / d ≤ m / d + 1
next-div m d h =
    let lt : m < m / d * d + d = lt-div-mul-add h in
    let more : (m / d + 2) * d ≡ m / d * d + 2 * d = omega arith in
    let below : suc m < (m / d + 2) * d = omega arith in
    let q : suc m / d < m / d + 2 = (div-lt_iff_lt-mul h).1 below in
    omega arith

next-place : (n : ℕ) (ls : List (List ℕ)) (ws : List ℕ) → ((i : ℕ) → i < n → place ls i < length ws) → place ls n ≤ length ws
next-place zero ls ws h = omega (arith, zero-div (2 ^ (6 * length ls)))
next-place (suc m) ls ws h = omega (arith, h m (omega arith), next-div m (2 ^ (6 * length ls)) (pow_pos (6 * length ls)))

bits-grown : (n : ℕ) (ls : List (List ℕ)) → ((i : ℕ) → i < n → HasBits ls i) → HasBits (grown n ls) n
bits-grown n [] h = tt
bits-grown n (ws ∷ below) h =
    let enough = extended-enough (place (ws ∷ below) n) ws (next-place n (ws ∷ below) ws (λ i lt. (h i lt).0)) in
    (omega (arith, enough, place-grown n n (ws ∷ below)), bits-grown n below (λ i lt. (h i lt).1))

added-bits : {S : Type 0} (ss : List (Slot S)) (ls : List (List ℕ)) → TellVacant ss ls → (i : ℕ) (b : Bool) → nat_lt i (length ss) ≡ b → i ≤ length ss → HasBits (grown (length ss) ls) i
added-bits ss ls T i true e le = let lt : i < length ss = grind (arith, nat_tests) in bits-kept (length ss) i ls (T.bits i lt)
added-bits ss ls T i false e le =
    let ge : length ss ≤ i = grind (arith, nat_tests) in
    let same : length ss ≡ i = omega arith in
    subst (λ (k : ℕ). HasBits (grown (length ss) ls) k) same (bits-grown (length ss) ls T.bits)

-- The effect of each call of the list.

none-said : (S : Type 0) (n i : ℕ) → bit_above (is_vacant_in {S = S} []) (no_words n) i ≡ false
none-said S zero i = refl
none-said S (suc n) i = refl

none-told : (S : Type 0) (n : ℕ) → AreLevels (is_vacant_in {S = S} []) (no_words n)
none-told S zero = tt
none-told S (suc n) = (λ i. ap (λ x. nat_eq x 1) (bit_at-zero (i % 64)) ∙ sym (none-said S n i), none-told S n)

pub told-none : {S : Type 0} → TellVacant {S = S} [] (no_words level_count)
told-none {S} = record { few = omega arith; bits = λ i lt. absurd (omega arith); told = none-told S level_count }

told-by : {S : Type 0} (ss ss' : List (Slot S)) (ls ls' : List (List ℕ)) → TellVacant ss ls → length ss' ≡ length ss → ((i : ℕ) → HasBits ls i → HasBits ls' i) → AreLevels (is_vacant_in ss') ls' → TellVacant ss' ls'
told-by ss ss' ls ls' T long bits told =
    let few : length ss ≤ most_slots = T.few in
    record { few = omega arith; bits = λ i lt. bits i (T.bits i (omega arith)); told = told }

pub claimed-long : {S : Type 0} (ss : List (Slot S)) (i : ℕ) → IsFirst (is_vacant_in ss) i → length (after_claim ss) ≡ length ss
claimed-long ss i first =
    let at : i ≡ first_vacant ss = first-is ss i first in
    let within : i < length ss = first-within ss i first in
    ap (λ l. length l) (claimed_within ss (omega arith)) ∙ length-changed taken_up ss (first_vacant ss)

-- the first vacant slot is taken
pub told-taken_up : {S : Type 0} (ss : List (Slot S)) (ls ls' : List (List ℕ)) (i : ℕ) → TellVacant ss ls → IsFirst (is_vacant_in ss) i → ((j : ℕ) → HasBits ls j → HasBits ls' j)
    → AreLevels (with_slot i false (is_vacant_in ss)) ls' → TellVacant (after_claim ss) ls'
told-taken_up ss ls ls' i T first bits are =
    let at : i ≡ first_vacant ss = first-is ss i first in
    let within : i < length ss = first-within ss i first in
    let is : after_claim ss ≡ with_change taken_up ss i = claimed_within ss (omega arith) ∙ ap (λ k. with_change taken_up ss k) (sym at) in
    told-by ss (after_claim ss) ls ls' T (ap (λ l. length l) is ∙ length-changed taken_up ss i) bits
    (levels-same (with_slot i false (is_vacant_in ss)) (is_vacant_in (after_claim ss)) ls' (λ j. sym (ap (λ l. is_vacant_in l j) is ∙ vacant-changed taken_up false ss i (λ s. refl) within j)) are)

-- a slot is added
pub told-added : {S : Type 0} (ss : List (Slot S)) (ls : List (List ℕ)) → TellVacant ss ls → length ss < most_slots → TellVacant (ss ++ record { version = 0; content = InTurn } ∷ []) (grown (length ss) ls)
told-added {S} ss ls T h =
    let s : Slot S = record { version = 0; content = InTurn } in
    let long : length (ss ++ s ∷ []) ≡ length ss + 1 = length-append ss (s ∷ []) in
    record {
      few = omega arith;
      bits = λ i lt. added-bits ss ls T i (nat_lt i (length ss)) refl (omega arith);
      told = levels-same (is_vacant_in ss) (is_vacant_in (ss ++ s ∷ [])) (grown (length ss) ls) (λ j. sym (vacant-added s ss refl j)) (levels-grown (is_vacant_in ss) (length ss) ls T.told);
    }

-- a slot that isn't vacant changes, and still isn't
pub told-kept : {S : Type 0} (ss : List (Slot S)) (ls : List (List ℕ)) (c : Content S) (t : RegistrationToken) → TellVacant ss ls → is_empty (content_at ss t) ≡ false → is_empty c ≡ false
    → TellVacant (with_change (with_content c) ss t.slot) ls
told-kept ss ls c t T filled h =
    let within : t.slot < length ss = named_within ss t filled in
    told-by ss (with_change (with_content c) ss t.slot) ls ls T (length-changed (with_content c) ss t.slot) (λ i b. b)
    (levels-same (is_vacant_in ss) (is_vacant_in (with_change (with_content c) ss t.slot)) ls
    (λ j. without-filled (is_vacant_in ss) t.slot (named-filled ss t filled) j ∙ sym (vacant-changed (with_content c) false ss t.slot (λ s. h) within j)) T.told)

-- a slot becomes vacant
pub told-vacated : {S : Type 0} (ss : List (Slot S)) (ls ls' : List (List ℕ)) (t : RegistrationToken) → TellVacant ss ls → is_empty (content_at ss t) ≡ false → ((i : ℕ) → HasBits ls i → HasBits ls' i)
    → AreLevels (with_slot t.slot true (is_vacant_in ss)) ls' → TellVacant (with_change (with_content Vacant) ss t.slot) ls'
told-vacated ss ls ls' t T filled bits are =
    let within : t.slot < length ss = named_within ss t filled in
    told-by ss (with_change (with_content Vacant) ss t.slot) ls ls' T (length-changed (with_content Vacant) ss t.slot) bits
    (levels-same (with_slot t.slot true (is_vacant_in ss)) (is_vacant_in (with_change (with_content Vacant) ss t.slot)) ls' (λ j. sym (vacant-changed (with_content Vacant) true ss t.slot (λ s. refl) within j)) are)
