-- The levels of words that say which slots are vacant.
use Rattle.std.proofs.Common.{◌≡◌, ℕ, zero, suc, ◌+◌, ◌*◌, ◌/◌, ◌%◌, ◌^◌, ◌<◌, ◌≤◌, Bool, true, false, not, if◌then◌else◌, nat_eq, nat_lt, List, [], ◌∷◌, length, map, get_or, refl, sym, ◌∙◌, ap, subst, arith, eqb-true, false-eqb}
use Rattle.std.proofs.Math.ListN.{set}
use Rattle.std.proofs.lemmas.Bool.Decides.{nat_tests}
use Rattle.std.proofs.Math.Nat.{div-div-eq-div-mul, div-le_self}
use Rattle.std.proofs.lemmas.List.{get_or-set_other, get_or_past, length-map}
use Rattle.std.proofs.lemmas.Nat.{pow-add}
use Rattle.std.proofs.lemmas.Grind.{get_or-set_at, get_or_default_zero}
use Rattle.std.proofs.lemmas.Nat.Bits.{bit_at-zero, bit_at-trailing_zeros, bit_at_set_same, bit_at_set_other, bit_at_clear_same, bit_at_clear_other}
use Rattle.std.specs.Int.{w64, bit_at, bit_not, trailing_zeros}
use Rattle.std.specs.Int.Bits.{bit_and, bit_or}
use Rattle.calloop_slots.specs.Widths.{most_slots, most_words}
use Rattle.calloop_slots.specs.Vacancies.{word_at, is_set, is_filled, bit_above, place, AreLevels, HasBits, Takes, IsFirst, AreEnough, with_slot}
use Rattle.calloop_slots.specs.declared.vacancies.Taken.{Taken}

-- A written word.

word_at-set : (ws : List ℕ) (p w i : ℕ) → p < length ws → word_at (set ws p w) i ≡ (if nat_eq i p then w else word_at ws i)
word_at-set ws p w i h =
    elim (nat_eq i p) as (λ b. nat_eq i p ≡ b → get_or (set ws p w) i 0 ≡ (if b then w else get_or ws i 0)) [
      | true ↦ λ e. get_or-set_at ws p i w 0 (eqb-true i p e) h
      | false ↦ λ e. get_or-set_other ws p i w 0 (false-eqb i p (sym e))
    ] refl

is_filled-set : (ws : List ℕ) (p w : ℕ) → p < length ws → (i : ℕ) → is_filled (set ws p w) i ≡ with_slot p (not (nat_eq w 0)) (is_filled ws) i
is_filled-set ws p w h i =
    ap (λ x. not (nat_eq x 0)) (word_at-set ws p w i h)
    ∙ elim (nat_eq i p) as (λ b. not (nat_eq (if b then w else word_at ws i) 0) ≡ (if b then not (nat_eq w 0) else is_filled ws i)) [ true ↦ refl | false ↦ refl ]

-- in one word only the bit changes, to v
abbrev IsWith : (v : Bool) → (k w w' : ℕ) → Type 0
IsWith v k w w' = (j : ℕ) → j < 64 → nat_eq (bit_at w' j) 1 ≡ (if nat_eq j k then v else nat_eq (bit_at w j) 1)

written-at : (ws : List ℕ) (b w : ℕ) (v : Bool) → IsWith v (b % 64) (word_at ws (b / 64)) w → (i : ℕ) (e : Bool) → nat_eq (i / 64) (b / 64) ≡ e
    → nat_eq (bit_at (if e then w else word_at ws (i / 64)) (i % 64)) 1 ≡ with_slot b v (is_set ws) i
written-at ws b w v h i true e =
    let same : i / 64 ≡ b / 64 = eqb-true (i / 64) (b / 64) e in
    let bit : nat_eq (i % 64) (b % 64) ≡ nat_eq i b = grind (arith, nat_tests) in
    h (i % 64) (omega arith) ∙ ap (λ t. if t then v else nat_eq (bit_at (word_at ws (b / 64)) (i % 64)) 1) bit
    ∙ ap (λ p. if nat_eq i b then v else nat_eq (bit_at (word_at ws p) (i % 64)) 1) (sym same)
written-at ws b w v h i false e =
    let ne : nat_eq i b ≡ false = grind (arith, nat_tests) in
    sym (ap (λ t. if t then v else is_set ws i) ne)

is_set-written : (ws : List ℕ) (b w : ℕ) (v : Bool) → b / 64 < length ws → IsWith v (b % 64) (word_at ws (b / 64)) w → (i : ℕ) → is_set (set ws (b / 64) w) i ≡ with_slot b v (is_set ws) i
is_set-written ws b w v lt h i =
    ap (λ x. nat_eq (bit_at x (i % 64)) 1) (word_at-set ws (b / 64) w (i / 64) lt) ∙ written-at ws b w v h i (nat_eq (i / 64) (b / 64)) refl

bit-marked : (w k : ℕ) → k < 64 → IsWith true k w (bit_or w (1 * 2 ^ k % 2 ^ 64))
bit-marked w k h j _ =
    elim (nat_eq j k) as (λ b. nat_eq j k ≡ b → nat_eq (bit_at (bit_or w (1 * 2 ^ k % 2 ^ 64)) j) 1 ≡ (if b then true else nat_eq (bit_at w j) 1)) [
      | true ↦ λ e. ap (λ i. nat_eq (bit_at (bit_or w (1 * 2 ^ k % 2 ^ 64)) i) 1) (eqb-true j k e) ∙ ap (λ x. nat_eq x 1) (bit_at_set_same w64 w k h)
      | false ↦ λ e. ap (λ x. nat_eq x 1) (bit_at_set_other w64 w k h j (false-eqb j k (sym e)))
    ] refl

bit-cleared : (w k : ℕ) → k < 64 → IsWith false k w (bit_and w (bit_not w64 (1 * 2 ^ k % 2 ^ 64)))
bit-cleared w k h j low =
    elim (nat_eq j k) as (λ b. nat_eq j k ≡ b → nat_eq (bit_at (bit_and w (bit_not w64 (1 * 2 ^ k % 2 ^ 64))) j) 1 ≡ (if b then false else nat_eq (bit_at w j) 1)) [
      | true ↦ λ e. ap (λ i. nat_eq (bit_at (bit_and w (bit_not w64 (1 * 2 ^ k % 2 ^ 64))) i) 1) (eqb-true j k e) ∙ ap (λ x. nat_eq x 1) (bit_at_clear_same w64 w k h)
      | false ↦ λ e. ap (λ x. nat_eq x 1) (bit_at_clear_other w64 w k h j low (false-eqb j k (sym e)))
    ] refl

is_set-marked : (ws : List ℕ) (b : ℕ) → b / 64 < length ws → (i : ℕ) → is_set (set ws (b / 64) (bit_or (word_at ws (b / 64)) (1 * 2 ^ (b % 64) % 2 ^ 64))) i ≡ with_slot b true (is_set ws) i
is_set-marked ws b h = is_set-written ws b _ true h (bit-marked (word_at ws (b / 64)) (b % 64) (omega arith))

marked-filled : (w k : ℕ) → k < 64 → not (nat_eq (bit_or w (1 * 2 ^ k % 2 ^ 64)) 0) ≡ true
marked-filled w k h =
    let n : ℕ = bit_or w (1 * 2 ^ k % 2 ^ 64) in
    let one : bit_at n k ≡ 1 = bit_at_set_same w64 w k h in
    elim (nat_eq n 0) as (λ b. nat_eq n 0 ≡ b → not b ≡ true) [
      | true ↦ λ e. (let z : bit_at n k ≡ 0 = ap (λ x. bit_at x k) (eqb-true n 0 e) ∙ bit_at-zero k in absurd (omega arith))
      | false ↦ λ e. refl
    ] refl

is_filled-marked : (ws : List ℕ) (b : ℕ) → b / 64 < length ws → (i : ℕ) → is_filled (set ws (b / 64) (bit_or (word_at ws (b / 64)) (1 * 2 ^ (b % 64) % 2 ^ 64))) i ≡ with_slot (b / 64) true (is_filled ws) i
is_filled-marked ws b h i =
    is_filled-set ws (b / 64) _ h i ∙ ap (λ v. with_slot (b / 64) v (is_filled ws) i) (marked-filled (word_at ws (b / 64)) (b % 64) (omega arith))

-- the bit is set if it was in the word that was read
pub bit-set : (ws : List ℕ) (b w : ℕ) → b / 64 < length ws → w ≡ get_or ws (b / 64) w → (i : ℕ) → is_set (set ws (b / 64) (bit_or w (1 * 2 ^ (b % 64) % 2 ^ 64))) i ≡ with_slot b true (is_set ws) i
bit-set ws b w h e i =
    subst (λ (x : ℕ). is_set (set ws (b / 64) (bit_or x (1 * 2 ^ (b % 64) % 2 ^ 64))) i ≡ with_slot b true (is_set ws) i) (sym (e ∙ get_or_default_zero ws (b / 64) w h)) (is_set-marked ws b h i)

pub bit-filled : (ws : List ℕ) (b w : ℕ) → b / 64 < length ws → w ≡ get_or ws (b / 64) w → (i : ℕ) → is_filled (set ws (b / 64) (bit_or w (1 * 2 ^ (b % 64) % 2 ^ 64))) i ≡ with_slot (b / 64) true (is_filled ws) i
bit-filled ws b w h e i =
    subst (λ (x : ℕ). is_filled (set ws (b / 64) (bit_or x (1 * 2 ^ (b % 64) % 2 ^ 64))) i ≡ with_slot (b / 64) true (is_filled ws) i) (sym (e ∙ get_or_default_zero ws (b / 64) w h)) (is_filled-marked ws b h i)

-- The least bit of a word.

abbrev least_bit : List ℕ → ℕ → ℕ
least_bit ws p = p * 64 + trailing_zeros w64 (word_at ws p)

is_set-cleared : (ws : List ℕ) (p : ℕ) → p < length ws → 0 < word_at ws p → word_at ws p < 2 ^ 64
    → (i : ℕ) → is_set (set ws p (bit_and (word_at ws p) (bit_not w64 (1 * 2 ^ trailing_zeros w64 (word_at ws p) % 2 ^ 64)))) i ≡ with_slot (least_bit ws p) false (is_set ws) i
is_set-cleared ws p h some fits i =
    let z : ℕ = trailing_zeros w64 (word_at ws p) in
    let low : z < 64 = (bit_at-trailing_zeros w64 (word_at ws p) some fits).0 in
    let at : (p * 64 + z) / 64 ≡ p = omega arith in
    let bit : (p * 64 + z) % 64 ≡ z = omega arith in
    let here : (p * 64 + z) / 64 < length ws = omega arith in
    let w : ℕ = bit_and (word_at ws p) (bit_not w64 (1 * 2 ^ z % 2 ^ 64)) in
    let one : IsWith false ((p * 64 + z) % 64) (word_at ws ((p * 64 + z) / 64)) w =
    subst (λ (k : ℕ). IsWith false k (word_at ws ((p * 64 + z) / 64)) w) (sym bit) (subst (λ (q : ℕ). IsWith false z (word_at ws q) w) (sym at) (bit-cleared (word_at ws p) z low)) in
    subst (λ (q : ℕ). is_set (set ws q w) i ≡ with_slot (p * 64 + z) false (is_set ws) i) at (is_set-written ws (p * 64 + z) w false here one i)

least_bit-set : (ws : List ℕ) (p : ℕ) → 0 < word_at ws p → word_at ws p < 2 ^ 64 → is_set ws (least_bit ws p) ≡ true
least_bit-set ws p some fits =
    let z : ℕ = trailing_zeros w64 (word_at ws p) in
    let t = bit_at-trailing_zeros w64 (word_at ws p) some fits in
    let low : z < 64 = t.0 in
    let at : (p * 64 + z) / 64 ≡ p = omega arith in
    let bit : (p * 64 + z) % 64 ≡ z = omega arith in
    ap (λ q. nat_eq (bit_at (word_at ws q) ((p * 64 + z) % 64)) 1) at ∙ ap (λ k. nat_eq (bit_at (word_at ws p) k) 1) bit ∙ ap (λ x. nat_eq x 1) t.1

empty-zero : (ws : List ℕ) (q : ℕ) → is_filled ws q ≡ false → word_at ws q ≡ 0
empty-zero ws q h = grind (arith, nat_tests)

zero-unset : (ws : List ℕ) (i : ℕ) → word_at ws (i / 64) ≡ 0 → is_set ws i ≡ false
zero-unset ws i h = ap (λ x. nat_eq (bit_at x (i % 64)) 1) h ∙ ap (λ x. nat_eq x 1) (bit_at-zero (i % 64))

below-unset : (ws : List ℕ) (p z i : ℕ) → z < 64 → ((j : ℕ) → j < z → bit_at (word_at ws p) j ≡ 0) → ((q : ℕ) → q < p → is_filled ws q ≡ false) → i < p * 64 + z
    → (e : Bool) → nat_lt (i / 64) p ≡ e → is_set ws i ≡ false
below-unset ws p z i low bits words lt true e =
    let h : i / 64 < p = grind (arith, nat_tests) in
    zero-unset ws i (empty-zero ws (i / 64) (words (i / 64) h))
below-unset ws p z i low bits words lt false e =
    let ge : p ≤ i / 64 = grind (arith, nat_tests) in
    let at : i / 64 ≡ p = omega arith in
    ap (λ q. nat_eq (bit_at (word_at ws q) (i % 64)) 1) at ∙ ap (λ x. nat_eq x 1) (bits (i % 64) (omega arith))

least_bit-least : (ws : List ℕ) (p : ℕ) → 0 < word_at ws p → word_at ws p < 2 ^ 64 → ((q : ℕ) → q < p → is_filled ws q ≡ false) → (i : ℕ) → i < least_bit ws p → is_set ws i ≡ false
least_bit-least ws p some fits words i lt =
    let t = bit_at-trailing_zeros w64 (word_at ws p) some fits in
    below-unset ws p (trailing_zeros w64 (word_at ws p)) i t.0 t.2 words lt (nat_lt (i / 64) p) refl

-- What a take leaves of a level.

pub takes-slot : (vacant : ℕ → Bool) (slot : ℕ) (ls : List (List ℕ)) → length ls ≡ 0 → Takes vacant slot (record { slot = slot; emptied = true }) ls ls
takes-slot vacant slot [] h = record { there = λ h. absurd (omega arith); found = λ h. h; least = λ h. h; levels = λ h. tt; above = λ h q. refl }
takes-slot vacant slot (ws ∷ below) h = absurd (omega arith)

takes-level : (vacant : ℕ → Bool) (ws ws' : List ℕ) (p bit : ℕ) (t : Taken) (e : Bool) (below below' : List (List ℕ)) → AreLevels vacant (ws ∷ below) → is_filled ws p ≡ true → is_set ws bit ≡ true
    → (((q : ℕ) → q < p → is_filled ws q ≡ false) → (i : ℕ) → i < bit → is_set ws i ≡ false)
    → ((i : ℕ) → is_set ws' i ≡ with_slot bit (not t.emptied) (is_set ws) i) → ((q : ℕ) → is_filled ws' q ≡ with_slot p (not e) (is_filled ws) q)
    → Takes vacant bit t below below' → Takes vacant p (record { slot = t.slot; emptied = e }) (ws ∷ below) (ws' ∷ below')
takes-level vacant ws ws' p bit t e below below' are filled is least bits words T =
    let here : bit_above vacant below bit ≡ true = sym (are.0 bit) ∙ is in
    record {
      there = λ h. filled;
      found = λ h. T.found here;
      least = λ none. T.least (λ q lt. sym (are.0 q) ∙ least none q lt);
      levels = λ h. ((λ i. bits i ∙ ap (λ b. if nat_eq i bit then not t.emptied else b) (are.0 i) ∙ sym (T.above here i)), T.levels here);
      above = λ h q. words q;
    }

unchanged : (f : ℕ → Bool) (k : ℕ) → f k ≡ true → (i : ℕ) → f i ≡ with_slot k true f i
unchanged f k h i =
    elim (nat_eq i k) as (λ b. nat_eq i k ≡ b → f i ≡ (if b then true else f i)) [
      | true ↦ λ e. ap f (eqb-true i k e) ∙ h
      | false ↦ λ e. refl
    ] refl

word-filled : (ws : List ℕ) (p : ℕ) → 0 < word_at ws p → is_filled ws p ≡ true
word-filled ws p h = grind (arith, nat_tests)

-- the word keeps a bit
kept-level : (vacant : ℕ → Bool) (ws : List ℕ) (p : ℕ) (t : Taken) (below below' : List (List ℕ)) → 0 < word_at ws p → word_at ws p < 2 ^ 64 → t.emptied ≡ false
    → Takes vacant (least_bit ws p) t below below' → AreLevels vacant (ws ∷ below)
    → Takes vacant p (record { slot = t.slot; emptied = false }) (ws ∷ below) (ws ∷ below')
kept-level vacant ws p t below below' some fits kept T are =
    takes-level vacant ws ws p (least_bit ws p) t false below below' are (word-filled ws p some) (least_bit-set ws p some fits) (least_bit-least ws p some fits)
    (λ i. unchanged (is_set ws) (least_bit ws p) (least_bit-set ws p some fits) i ∙ ap (λ b. with_slot (least_bit ws p) (not b) (is_set ws) i) (sym kept))
    (λ q. unchanged (is_filled ws) p (word-filled ws p some) q) T

pub takes-kept : (vacant : ℕ → Bool) (ls : List (List ℕ)) (ws : List ℕ) (p w : ℕ) (t : Taken) (below below' : List (List ℕ)) → ls ≡ ws ∷ below → w ≡ word_at ws p → 0 < w → w < 2 ^ 64 → not t.emptied ≡ true
    → (AreLevels vacant below → Takes vacant (p * 64 + trailing_zeros w64 w) t below below') → AreLevels vacant ls
    → Takes vacant p (record { slot = t.slot; emptied = false }) ls (ws ∷ below')
takes-kept vacant ls ws p w t below below' is word some fits kept T are =
    let are' : AreLevels vacant (ws ∷ below) = subst (λ (l : List (List ℕ)). AreLevels vacant l) is are in
    let some' : 0 < word_at ws p = omega arith in
    let fits' : word_at ws p < 2 ^ 64 = omega arith in
    let T' : Takes vacant (least_bit ws p) t below below' = subst (λ (x : ℕ). Takes vacant (p * 64 + trailing_zeros w64 x) t below below') word (T are'.1) in
    let off : t.emptied ≡ false = grind arith in
    subst (λ (l : List (List ℕ)). Takes vacant p (record { slot = t.slot; emptied = false }) l (ws ∷ below')) (sym is) (kept-level vacant ws p t below below' some' fits' off T' are')

-- a bit of the word is cleared
abbrev cleared : ℕ → ℕ
cleared w = bit_and w (bit_not w64 (1 * 2 ^ trailing_zeros w64 w % 2 ^ 64))

cleared-level : (vacant : ℕ → Bool) (ws : List ℕ) (p : ℕ) (t : Taken) (below below' : List (List ℕ)) → p < length ws → 0 < word_at ws p → word_at ws p < 2 ^ 64 → t.emptied ≡ true
    → Takes vacant (least_bit ws p) t below below' → AreLevels vacant (ws ∷ below)
    → Takes vacant p (record { slot = t.slot; emptied = nat_eq (cleared (word_at ws p)) 0 }) (ws ∷ below) (set ws p (cleared (word_at ws p)) ∷ below')
cleared-level vacant ws p t below below' h some fits emptied T are =
    takes-level vacant ws _ p (least_bit ws p) t _ below below' are (word-filled ws p some) (least_bit-set ws p some fits) (least_bit-least ws p some fits)
    (λ i. is_set-cleared ws p h some fits i ∙ ap (λ b. with_slot (least_bit ws p) (not b) (is_set ws) i) (sym emptied))
    (is_filled-set ws p _ h) T

pub takes-cleared : (vacant : ℕ → Bool) (ls : List (List ℕ)) (ws ws' : List ℕ) (p w : ℕ) (t : Taken) (below below' : List (List ℕ)) → ls ≡ ws ∷ below → w ≡ word_at ws p → p < length ws → 0 < w → w < 2 ^ 64
    → ws' ≡ set ws p (cleared w) → not t.emptied ≡ false
    → (AreLevels vacant below → Takes vacant (p * 64 + trailing_zeros w64 w) t below below') → AreLevels vacant ls
    → Takes vacant p (record { slot = t.slot; emptied = nat_eq (cleared w) 0 }) ls (ws' ∷ below')
takes-cleared vacant ls ws ws' p w t below below' is word h some fits wrote emptied T are =
    let are' : AreLevels vacant (ws ∷ below) = subst (λ (l : List (List ℕ)). AreLevels vacant l) is are in
    let some' : 0 < word_at ws p = omega arith in
    let fits' : word_at ws p < 2 ^ 64 = omega arith in
    let T' : Takes vacant (least_bit ws p) t below below' = subst (λ (x : ℕ). Takes vacant (p * 64 + trailing_zeros w64 x) t below below') word (T are'.1) in
    let on : t.emptied ≡ true = grind arith in
    let U : Takes vacant p (record { slot = t.slot; emptied = nat_eq (cleared w) 0 }) (ws ∷ below) (set ws p (cleared w) ∷ below') =
    subst (λ (x : ℕ). Takes vacant p (record { slot = t.slot; emptied = nat_eq (cleared x) 0 }) (ws ∷ below) (set ws p (cleared x) ∷ below')) (sym word) (cleared-level vacant ws p t below below' h some' fits' on T' are') in
    subst (λ (l : List (List ℕ)). Takes vacant p (record { slot = t.slot; emptied = nat_eq (cleared w) 0 }) l (ws' ∷ below')) (sym is)
    (subst (λ (l : List ℕ). Takes vacant p (record { slot = t.slot; emptied = nat_eq (cleared w) 0 }) (ws ∷ below) (l ∷ below')) (sym wrote) U)

-- a word that isn't 0 has a bit that is set, and something below it
pub takes-none : (ls : List (List ℕ)) (ws : List ℕ) (p w : ℕ) (below below' : List (List ℕ)) → ls ≡ ws ∷ below → w ≡ word_at ws p → 0 < w → w < 2 ^ 64
    → (below' ≡ below) × ((vacant : ℕ → Bool) → AreLevels vacant below → bit_above vacant below (p * 64 + trailing_zeros w64 w) ≡ false)
    → (ws ∷ below' ≡ ls) × ((vacant : ℕ → Bool) → AreLevels vacant ls → bit_above vacant ls p ≡ false)
takes-none ls ws p w below below' is word some fits h =
    let some' : 0 < word_at ws p = omega arith in
    let fits' : word_at ws p < 2 ^ 64 = omega arith in (
      ap (λ l. ws ∷ l) h.0 ∙ sym is,
      λ vacant are. (
          let are' : AreLevels vacant (ws ∷ below) = subst (λ (l : List (List ℕ)). AreLevels vacant l) is are in
          let none : bit_above vacant below (least_bit ws p) ≡ false = subst (λ (x : ℕ). bit_above vacant below (p * 64 + trailing_zeros w64 x) ≡ false) word (h.1 vacant are'.1) in
          let both : true ≡ false = sym (least_bit-set ws p some' fits') ∙ are'.0 (least_bit ws p) ∙ none in
          absurd (cc)
          ),
    )

-- no word of the highest level is left
none-below : (vacant : ℕ → Bool) (ls : List (List ℕ)) → AreLevels vacant ls → ((i : ℕ) → bit_above vacant ls i ≡ false) → (i : ℕ) → vacant i ≡ false
none-below vacant [] are h = h
none-below vacant (ws ∷ below) are h = none-below vacant below are.1 (λ i. sym (are.0 i) ∙ zero-unset ws i (empty-zero ws (i / 64) (h (i / 64))))

none-above : (ws : List ℕ) → length ws ≤ 1 → is_filled ws 0 ≡ false → (i : ℕ) → is_filled ws i ≡ false
none-above ws h e zero = e
none-above ws h e (suc i) = ap (λ x. not (nat_eq x 0)) (get_or_past ws (suc i) 0 (omega arith))

pub none_vacant : (vacant : ℕ → Bool) (ls : List (List ℕ)) → AreEnough ls → bit_above vacant ls 0 ≡ false → AreLevels vacant ls → (i : ℕ) → vacant i ≡ false
none_vacant vacant [] enough h are = absurd (omega (arith, enough.0))
none_vacant vacant (ws ∷ below) enough h are = none-below vacant (ws ∷ below) are (none-above ws enough.1.0 h)

some-levels : (ls : List (List ℕ)) → AreEnough ls → 0 < length ls
some-levels ls enough = omega (arith, enough.0)

pub takes-first : (vacant : ℕ → Bool) (t : Taken) (ls ls' : List (List ℕ)) → AreEnough ls → Takes vacant 0 t ls ls' → IsFirst vacant t.slot
takes-first vacant t ls ls' enough T = record { found = T.found (T.there (some-levels ls enough)); least = T.least (λ q lt. absurd (omega arith)) }

pub takes-levels : (vacant : ℕ → Bool) (t : Taken) (ls ls' : List (List ℕ)) → AreEnough ls → Takes vacant 0 t ls ls' → AreLevels (with_slot t.slot false vacant) ls'
takes-levels vacant t ls ls' enough T = T.levels (T.there (some-levels ls enough))

-- The positions of a slot's bits.

pow-step : (n : ℕ) → 2 ^ (6 * n) * 64 ≡ 2 ^ (6 * suc n)
pow-step n = let six : 6 * n + 6 ≡ 6 * suc n = omega arith in sym (pow-add 2 (6 * n) 6) ∙ ap (λ k. 2 ^ k) six

pub place-step : (n slot : ℕ) → slot / 2 ^ (6 * n) / 64 ≡ slot / 2 ^ (6 * suc n)
place-step n slot = div-div-eq-div-mul slot (2 ^ (6 * n)) 64 ∙ ap (λ k. slot / k) (pow-step n)

pub place-small : (n slot : ℕ) → slot < most_slots → slot / 2 ^ (6 * (n + 1)) < most_words
place-small n slot h =
    let le : slot / 2 ^ (6 * n) ≤ slot = div-le_self slot (2 ^ (6 * n)) in
    let one : suc n ≡ n + 1 = omega arith in
    let is : slot / 2 ^ (6 * n) / 64 ≡ slot / 2 ^ (6 * (n + 1)) = place-step n slot ∙ ap (λ k. slot / 2 ^ (6 * k)) one in
    omega arith

pub same-count : (ls ls' : List (List ℕ)) → map length ls' ≡ map length ls → length ls' ≡ length ls
same-count ls ls' e = sym (length-map ls' length) ∙ ap length e ∙ length-map ls length

-- levels of the same words have the bits of the same slots
pub HasBits-same : (ls ls' : List (List ℕ)) → map length ls' ≡ map length ls → (i : ℕ) → HasBits ls i → HasBits ls' i
HasBits-same [] [] e i h = tt
HasBits-same [] (ws' ∷ below') e i h = cc
HasBits-same (ws ∷ below) [] e i h = cc
HasBits-same (ws ∷ below) (ws' ∷ below') e i h =
    let long : length ws' ≡ length ws = cc in
    let rest : map length below' ≡ map length below = cc in
    let at : place (ws' ∷ below') i ≡ place (ws ∷ below) i = ap (λ n. i / 2 ^ (6 * suc n)) (same-count below below' rest) in
    let lt : place (ws ∷ below) i < length ws = h.0 in
    (omega arith, HasBits-same below below' rest i h.1)

-- A slot that becomes vacant.

pub has-bit : (slot : ℕ) (ls : List (List ℕ)) (ws : List ℕ) (below : List (List ℕ)) → ls ≡ ws ∷ below → HasBits ls slot → slot / 2 ^ (6 * length below) / 64 < length ws
has-bit slot ls ws below is h =
    let at : HasBits (ws ∷ below) slot = subst (λ (l : List (List ℕ)). HasBits l slot) is h in
    let lt : place (ws ∷ below) slot < length ws = at.0 in
    let e : slot / 2 ^ (6 * length below) / 64 ≡ place (ws ∷ below) slot = place-step (length below) slot in
    omega arith

pub has-rest : (slot : ℕ) (ls : List (List ℕ)) (ws : List ℕ) (below : List (List ℕ)) → ls ≡ ws ∷ below → HasBits ls slot → HasBits below slot
has-rest slot ls ws below is h = (subst (λ (l : List (List ℕ)). HasBits l slot) is h).1

pub marked-levels : (slot : ℕ) (ls : List (List ℕ)) (ws ws' : List ℕ) (below below' : List (List ℕ)) → ls ≡ ws ∷ below
    → ((i : ℕ) → is_set ws' i ≡ with_slot (slot / 2 ^ (6 * length below)) true (is_set ws) i)
    → ((vacant : ℕ → Bool) (q : ℕ) → bit_above (with_slot slot true vacant) below' q ≡ with_slot (place below slot) true (bit_above vacant below) q)
    → ((vacant : ℕ → Bool) → AreLevels vacant below → AreLevels (with_slot slot true vacant) below')
    → (vacant : ℕ → Bool) → AreLevels vacant ls → AreLevels (with_slot slot true vacant) (ws' ∷ below')
marked-levels slot ls ws ws' below below' is bits above rest vacant are =
    let are' : AreLevels vacant (ws ∷ below) = subst (λ (l : List (List ℕ)). AreLevels vacant l) is are in
    ((λ i. bits i ∙ ap (λ b. if nat_eq i (place below slot) then true else b) (are'.0 i) ∙ sym (above vacant i)), rest vacant are'.1)

pub marked-above : (slot : ℕ) (ls : List (List ℕ)) (ws ws' : List ℕ) (below : List (List ℕ)) → ls ≡ ws ∷ below
    → ((i : ℕ) → is_filled ws' i ≡ with_slot (slot / 2 ^ (6 * length below) / 64) true (is_filled ws) i)
    → (vacant : ℕ → Bool) (q : ℕ) → is_filled ws' q ≡ with_slot (place ls slot) true (bit_above vacant ls) q
marked-above slot ls ws ws' below is words vacant q =
    words q ∙ ap (λ k. with_slot k true (is_filled ws) q) (place-step (length below) slot)
    ∙ subst (λ (l : List (List ℕ)). with_slot (place (ws ∷ below) slot) true (is_filled ws) q ≡ with_slot (place l slot) true (bit_above vacant l) q) (sym is) refl
