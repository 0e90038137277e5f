-- What the slots of a board store of its keys, beside the map.
use Rattle.std.proofs.Common.{rules, ◌≡◌, ℕ, zero, suc, ◌≤◌, true, false, cond, subst, if◌then◌else◌, List, [], ◌∷◌, get_or, set, nat_eq, Option, None, Some, is_some, IsSome, refl, sym, ◌∙◌, ap, arith, false-eqb, eqb-true}
use Rattle.std.proofs.lemmas.Bool.Decides.{nat_tests}
use Rattle.std.proofs.lemmas.List.{get_or-set_other}
use Rattle.std.specs.declared.cmp.Ordering.TheVariants.{Less, Equal, Greater}
use Rattle.std.specs.Ordering.{nat_cmp, match_ordering}
use Rattle.std.specs.BTreeMap.{insert_entry, is_at}
use Rattle.std.specs.Map.{remove_entry, keys_of}
use Rattle.std.specs.List.{AllByRecursion}
use Rattle.std.specs.List.Sorted.{IsStrictlySortedBy}
use Rattle.std.specs.Option.{option_map}
use Rattle.calloop_wake.proofs.Posted.{at_eq}
use Rattle.calloop_slots.specs.Tokens.{slot_of_key}
use Rattle.calloop_wake.specs.Posts.{standing_at, of_key, by_slot_at, or_by_map, with_slots, IsFree, AreOpen, Changes}
use Rattle.calloop_wake.specs.declared.places.SlotKey.{SlotKey}

abbrev pub Slots : Type 0
Slots = List (Option SlotKey)

abbrev pub Entries : Type 0
Entries = List (ℕ × Option ℕ)

-- the entry of a key, by what its slot stores
abbrev pub standing_by : Option (Option ℕ) → Option (Option ℕ) → Option (Option ℕ)
standing_by here o = option_map (λ (at : Option ℕ). or_by_map here at) o

pub standing-with : (k : ℕ) (slots : Slots) (es : Entries) → standing_at k (with_slots slots es) ≡ standing_by (by_slot_at k slots) (standing_at k es)
standing-with k slots [] = refl
standing-with k slots (e ∷ es) =
    elim (is_at (nat_cmp k) e.0) as (λ b. is_at (nat_cmp k) e.0 ≡ b → cond b (Some (or_by_map (by_slot_at e.0 slots) e.1)) (standing_at k (with_slots slots es)) ≡ standing_by (by_slot_at k slots) (cond b (Some e.1) (standing_at k es))) [
      | true ↦ λ is. (let same : k ≡ e.0 = eqb-true k e.0 (sym (at_eq k e.0) ∙ is) in ap (λ (q : ℕ). Some (or_by_map (by_slot_at q slots) e.1)) (sym same))
      | false ↦ λ is. standing-with k slots es
    ] refl

pub keys-with : (slots : Slots) (es : Entries) → keys_of (with_slots slots es) ≡ keys_of es
keys-with slots [] = refl
keys-with slots (e ∷ es) = ap (λ (l : List ℕ). e.0 ∷ l) (keys-with slots es)

-- Slots that agree on all keys but one.

abbrev pub Agree : ℕ → Slots → Slots → Type 0
Agree k slots slots' = (q : ℕ) → nat_eq q k ≡ false → by_slot_at q slots' ≡ by_slot_at q slots

pub agree-same : (k : ℕ) (slots slots' : Slots) → ((s : ℕ) → get_or slots' s None ≡ get_or slots s None) → (q : ℕ) → by_slot_at q slots' ≡ by_slot_at q slots
agree-same k slots slots' same q = ap (λ (o : Option SlotKey). of_key q o) (same (slot_of_key q))

abbrev AllApart : ℕ → Entries → Type 0
AllApart k [] = Unit {0}
AllApart k (e ∷ es) = (nat_eq e.0 k ≡ false) × AllApart k es

same-with : (k : ℕ) (slots slots' : Slots) (es : Entries) → Agree k slots slots' → AllApart k es → with_slots slots' es ≡ with_slots slots es
same-with k slots slots' [] agree apart = refl
same-with k slots slots' (e ∷ es) agree apart =
    ap (λ (o : Option (Option ℕ)). (e.0, or_by_map o e.1) ∷ with_slots slots' es) (agree e.0 apart.0)
    ∙ ap (λ (l : Entries). (e.0, or_by_map (by_slot_at e.0 slots) e.1) ∷ l) (same-with k slots slots' es agree apart.1)

less-le : (k j : ℕ) → nat_cmp k j ≡ Less → k ≤ j
less-le k j is = grind arith

apart-above : (k j : ℕ) (es : Entries) → k ≤ j → AllByRecursion (λ y. nat_cmp j y ≡ Less) (keys_of es) → AllApart k es
apart-above k j [] le above = tt
apart-above k j (e ∷ es) le above = (let less : nat_cmp j e.0 ≡ Less = above.0 in grind (arith, nat_tests), apart-above k j es le above.1)

pub insert-with : (k : ℕ) (slots slots' : Slots) (es : Entries) → IsStrictlySortedBy nat_cmp (keys_of es) → Agree k slots slots' → or_by_map (by_slot_at k slots') None ≡ None
    → with_slots slots' (insert_entry nat_cmp es k None) ≡ insert_entry nat_cmp (with_slots slots es) k None
unfolding IsStrictlySortedBy
insert-with k slots slots' [] sorted agree none = ap (λ (at : Option ℕ). (k, at) ∷ []) none
insert-with k slots slots' (e ∷ es) sorted agree none =
    elim (nat_cmp k e.0) as (λ o. nat_cmp k e.0 ≡ o → with_slots slots' (match_ordering o ((k, None) ∷ e ∷ es) ((e.0, None) ∷ es) (e ∷ insert_entry nat_cmp es k None))
    ≡ match_ordering o ((k, None) ∷ with_slots slots (e ∷ es)) ((e.0, None) ∷ with_slots slots es) ((e.0, or_by_map (by_slot_at e.0 slots) e.1) ∷ insert_entry nat_cmp (with_slots slots es) k None)) [
      | Less ↦ λ is.
          let apart : AllApart k (e ∷ es) = (grind (arith, nat_tests), apart-above k e.0 es (less-le k e.0 is) sorted.0) in
          ap (λ (at : Option ℕ). (k, at) ∷ with_slots slots' (e ∷ es)) none ∙ ap (λ (l : Entries). (k, None) ∷ l) (same-with k slots slots' (e ∷ es) agree apart)
      | Equal ↦ λ is.
          let same : k ≡ e.0 = grind arith in
          let here : or_by_map (by_slot_at e.0 slots') None ≡ None = subst (λ (q : ℕ). or_by_map (by_slot_at q slots') None ≡ None) same none in
          ap (λ (at : Option ℕ). (e.0, at) ∷ with_slots slots' es) here ∙ ap (λ (l : Entries). (e.0, None) ∷ l) (same-with k slots slots' es agree (apart-above k e.0 es (omega arith) sorted.0))
      | Greater ↦ λ is.
          let other : nat_eq e.0 k ≡ false = grind (arith, nat_tests) in
          ap (λ (o : Option (Option ℕ)). (e.0, or_by_map o e.1) ∷ with_slots slots' (insert_entry nat_cmp es k None)) (agree e.0 other)
          ∙ ap (λ (l : Entries). (e.0, or_by_map (by_slot_at e.0 slots) e.1) ∷ l) (insert-with k slots slots' es sorted.1 agree none)
    ] refl

pub remove-with : (k : ℕ) (slots slots' : Slots) (es : Entries) → IsStrictlySortedBy nat_cmp (keys_of es) → Agree k slots slots'
    → with_slots slots' (remove_entry (is_at (nat_cmp k)) es) ≡ remove_entry (is_at (nat_cmp k)) (with_slots slots es)
unfolding IsStrictlySortedBy
remove-with k slots slots' [] sorted agree = refl
remove-with k slots slots' (e ∷ es) sorted agree =
    elim (is_at (nat_cmp k) e.0) as (λ b. is_at (nat_cmp k) e.0 ≡ b → with_slots slots' (cond b es (e ∷ remove_entry (is_at (nat_cmp k)) es))
    ≡ cond b (with_slots slots es) ((e.0, or_by_map (by_slot_at e.0 slots) e.1) ∷ remove_entry (is_at (nat_cmp k)) (with_slots slots es))) [
      | true ↦ λ is.
          let same : k ≡ e.0 = eqb-true k e.0 (sym (at_eq k e.0) ∙ is) in
          same-with k slots slots' es agree (apart-above k e.0 es (omega arith) sorted.0)
      | false ↦ λ is.
          let differs : nat_eq k e.0 ≡ false = sym (at_eq k e.0) ∙ is in
          let other : nat_eq e.0 k ≡ false = grind (arith, nat_tests) in
          ap (λ (o : Option (Option ℕ)). (e.0, or_by_map o e.1) ∷ with_slots slots' (remove_entry (is_at (nat_cmp k)) es)) (agree e.0 other)
          ∙ ap (λ (l : Entries). (e.0, or_by_map (by_slot_at e.0 slots) e.1) ∷ l) (remove-with k slots slots' es sorted.1 agree)
    ] refl

-- a change of the map, and of what the slots store of its key
pub changed-with : (k : ℕ) (to to' : Option (Option ℕ)) (slots slots' : Slots) (es fs : Entries) → Changes k to' es fs → Agree k slots slots' → standing_by (by_slot_at k slots') to' ≡ to
    → Changes k to (with_slots slots es) (with_slots slots' fs)
changed-with k to to' slots slots' es fs changes agree is q =
    standing-with q slots' fs ∙ ap (λ (o : Option (Option ℕ)). standing_by (by_slot_at q slots') o) (changes q)
    ∙ elim (nat_eq k q) as (λ b. nat_eq k q ≡ b → standing_by (by_slot_at q slots') (if b then to' else standing_at q es) ≡ (if b then to else standing_at q (with_slots slots es))) [
      | true ↦ λ e. (let same : k ≡ q = eqb-true k q e in subst (λ (j : ℕ). standing_by (by_slot_at j slots') to' ≡ to) same is)
      | false ↦ λ e. (let other : nat_eq q k ≡ false = grind (arith, nat_tests) in
          ap (λ (h : Option (Option ℕ)). standing_by h (standing_at q es)) (agree q other) ∙ sym (standing-with q slots es))
    ] refl

-- A write to a slot.

set-or : (P : Option SlotKey → Type 0) (slots : Slots) (s : ℕ) (here : Option SlotKey) → P here → P None → P (get_or (set slots s here) s None)
set-or P [] s here h n = n
set-or P (x ∷ xs) zero here h n = h
set-or P (x ∷ xs) (suc s) here h n = set-or P xs s here h n

set-there : (slots : Slots) (s : ℕ) (x : SlotKey) (here : Option SlotKey) → get_or slots s None ≡ Some x → get_or (set slots s here) s None ≡ here
set-there [] s x here is = cc
set-there (y ∷ ys) zero x here is = refl
set-there (y ∷ ys) (suc s) x here is = set-there ys s x here is

-- the slot stores this key
abbrev pub IsOf : ℕ → Option SlotKey → Type 0
IsOf k None = Unit {0}
IsOf k (Some here) = here.key ≡ k

of-other : (q k : ℕ) (here : Option SlotKey) → IsOf k here → nat_eq q k ≡ false → of_key q here ≡ None
of-other q k None is other = refl
of-other q k (Some here) is other = (let no : nat_eq here.key q ≡ false = grind (arith, nat_tests) in ap (λ b. if b then Some here.at else None) no)

pub agree-put : (k : ℕ) (slots : Slots) (here : Option SlotKey) → IsFree k slots → IsOf k here → Agree k slots (set slots (slot_of_key k) here)
agree-put k slots here free is q other =
    elim (nat_eq (slot_of_key q) (slot_of_key k)) as (λ b. nat_eq (slot_of_key q) (slot_of_key k) ≡ b → by_slot_at q (set slots (slot_of_key k) here) ≡ by_slot_at q slots) [
      | true ↦ λ e.
          let same : slot_of_key q ≡ slot_of_key k = eqb-true (slot_of_key q) (slot_of_key k) e in
          let gone : of_key q (get_or (set slots (slot_of_key k) here) (slot_of_key k) None) ≡ None = set-or (λ (o : Option SlotKey). of_key q o ≡ None) slots (slot_of_key k) here (of-other q k here is other) refl in
          ap (λ (s : ℕ). of_key q (get_or (set slots (slot_of_key k) here) s None)) same ∙ gone ∙ sym (free q other same)
      | false ↦ λ e. ap (λ (o : Option SlotKey). of_key q o) (get_or-set_other slots (slot_of_key k) (slot_of_key q) here None (false-eqb (slot_of_key q) (slot_of_key k) (sym e)))
    ] refl

found : (k : ℕ) (o : Option SlotKey) (at : Option ℕ) → of_key k o ≡ Some at → (x : SlotKey) × (o ≡ Some x) × (x.key ≡ k)
found k None at is = absurd (cc)
found k (Some x) at is =
    elim (nat_eq x.key k) as (λ b. nat_eq x.key k ≡ b → (if b then Some x.at else None) ≡ Some at → (y : SlotKey) × (Some x ≡ Some y) × (y.key ≡ k)) [
      | true ↦ λ e _. (x, refl, eqb-true x.key k e)
      | false ↦ λ e n. absurd (cc)
    ] refl is

-- a key that its slot stores isn't in the map
pub free-found : (k : ℕ) (slots : Slots) (at : Option ℕ) → by_slot_at k slots ≡ Some at → IsFree k slots
free-found k slots at is q other same =
    let x = found k (get_or slots (slot_of_key k) None) at is in
    ap (λ (s : ℕ). of_key q (get_or slots s None)) same ∙ ap (λ (o : Option SlotKey). of_key q o) x.1 ∙ of-other q k (Some x.0) x.2 other

pub put-there : (k : ℕ) (slots : Slots) (before at : Option ℕ) → by_slot_at k slots ≡ Some before → by_slot_at k (set slots (slot_of_key k) (Some (record { key = k; at = at }))) ≡ Some at
put-there k slots before at is =
    let x = found k (get_or slots (slot_of_key k) None) before is in
    ap (λ (o : Option SlotKey). of_key k o) (set-there slots (slot_of_key k) x.0 (Some (record { key = k; at = at })) x.1)
    ∙ (let own : nat_eq k k ≡ true = grind (arith, nat_tests) in ap (λ b. if b then Some at else None) own)

-- a slot that stores nothing of its key, or that it isn't posted
abbrev pub IsQuietHere : Option (Option ℕ) → Type 0
IsQuietHere o = or_by_map o None ≡ None

pub put-quiet : (k : ℕ) (slots : Slots) → IsQuietHere (by_slot_at k (set slots (slot_of_key k) (Some (record { key = k; at = None }))))
put-quiet k slots =
    set-or (λ (o : Option SlotKey). IsQuietHere (of_key k o)) slots (slot_of_key k) (Some (record { key = k; at = None }))
    (let own : nat_eq k k ≡ true = grind (arith, nat_tests) in ap (λ b. or_by_map (if b then Some None else None) None) own) refl

pub put-none : (k : ℕ) (slots : Slots) → by_slot_at k (set slots (slot_of_key k) None) ≡ None
put-none k slots = set-or (λ (o : Option SlotKey). of_key k o ≡ None) slots (slot_of_key k) None refl refl

-- The open keys.

pub open-changed : (k : ℕ) (to : Option (Option ℕ)) (slots slots' : Slots) (es fs : Entries) → AreOpen slots es → Changes k to es fs → Agree k slots slots'
    → (is_some (by_slot_at k slots') ≡ true → is_some to ≡ true) → AreOpen slots' fs
open-changed k to slots slots' es fs are changes agree here q is =
    ap (λ (o : Option (Option ℕ)). is_some o) (changes q) ∙
    elim (nat_eq k q) as (λ b. nat_eq k q ≡ b → is_some (if b then to else standing_at q es) ≡ true) [
      | true ↦ λ e. here (subst (λ (j : ℕ). is_some (by_slot_at j slots') ≡ true) (sym (eqb-true k q e)) is)
      | false ↦ λ e. (let other : nat_eq q k ≡ false = grind (arith, nat_tests) in are q (ap (λ (o : Option (Option ℕ)). is_some o) (sym (agree q other)) ∙ is))
    ] refl

-- the entry of a key that its slot stores
pub standing-found : (k : ℕ) (slots : Slots) (es : Entries) (at : Option ℕ) → AreOpen slots es → by_slot_at k slots ≡ Some at → standing_at k (with_slots slots es) ≡ Some at
standing-found k slots es at are is =
    let there : is_some (standing_at k es) ≡ true = are k (ap (λ (o : Option (Option ℕ)). is_some o) is) in
    standing-with k slots es ∙ ap (λ (h : Option (Option ℕ)). standing_by h (standing_at k es)) is
    ∙ elim (standing_at k es) as (λ o. is_some o ≡ true → standing_by (Some at) o ≡ Some at) [ None ↦ λ e. absurd (cc) | Some x ↦ λ e. refl ] there

-- the entry of a key that its slot doesn't store
pub standing-other : (k : ℕ) (slots : Slots) (es : Entries) → by_slot_at k slots ≡ None → standing_at k (with_slots slots es) ≡ standing_at k es
standing-other k slots es is =
    standing-with k slots es ∙ ap (λ (h : Option (Option ℕ)). standing_by h (standing_at k es)) is
    ∙ elim (standing_at k es) as (λ o. standing_by None o ≡ o) [ None ↦ refl | Some x ↦ refl ]

-- the same map, with another number for a key that its slot stores
pub unchanged-at : (k : ℕ) (es : Entries) → Changes k (standing_at k es) es es
unchanged-at k es q =
    elim (nat_eq k q) as (λ b. nat_eq k q ≡ b → standing_at q es ≡ (if b then standing_at k es else standing_at q es)) [
      | true ↦ λ e. ap (λ (j : ℕ). standing_at j es) (sym (eqb-true k q e))
      | false ↦ λ e. refl
    ] refl

-- The places after each call.

the_some : (o : Option (Option ℕ)) → is_some o ≡ true → (at : Option ℕ) × (o ≡ Some at)
the_some None is = absurd (cc)
the_some (Some at) is = (at, refl)

pub none_some : IsSome {T = Option ℕ} None → ⊥
none_some is = search rules

the_none : (o : Option (Option ℕ)) → is_some o ≡ false → o ≡ None
the_none None is = refl
the_none (Some at) is = absurd (cc)

standing_some : (o : Option (Option ℕ)) (at : Option ℕ) → is_some o ≡ true → standing_by (Some at) o ≡ Some at
standing_some None at is = absurd (cc)
standing_some (Some x) at is = refl

-- the map after a change of one key
pub changes-from : (k : ℕ) (to : Option (Option ℕ)) (es fs : Entries) → ((q : ℕ) → standing_at q fs ≡ cond (is_at (nat_cmp k) q) to (standing_at q es)) → Changes k to es fs
changes-from k to es fs updates q = updates q ∙ ap (λ b. cond b to (standing_at q es)) (at_eq k q)

-- more slots
pub reached : (slots slots' : Slots) (es : Entries) → ((s : ℕ) → get_or slots' s None ≡ get_or slots s None) → with_slots slots' es ≡ with_slots slots es
reached slots slots' [] same = refl
reached slots slots' (e ∷ es) same =
    ap (λ (o : Option (Option ℕ)). (e.0, or_by_map o e.1) ∷ with_slots slots' es) (agree-same 0 slots slots' same e.0)
    ∙ ap (λ (l : Entries). (e.0, or_by_map (by_slot_at e.0 slots) e.1) ∷ l) (reached slots slots' es same)

pub reached-open : (slots slots' : Slots) (es : Entries) → ((s : ℕ) → get_or slots' s None ≡ get_or slots s None) → AreOpen slots es → AreOpen slots' es
reached-open slots slots' es same are q is = are q (ap (λ (o : Option (Option ℕ)). is_some o) (sym (agree-same 0 slots slots' same q)) ∙ is)

module _ (k : ℕ) (slots : Slots) (es old : Entries) (are : AreOpen slots es) (view : with_slots slots es ≡ old) where
  pub noted_slot : (at : Option ℕ) (slots' : Slots) → is_some (by_slot_at k slots) ≡ true → slots' ≡ set slots (slot_of_key k) (Some (record { key = k; at = at }))
      → Changes k (Some at) old (with_slots slots' es) × AreOpen slots' es
  noted_slot at slots' is put =
      let x = the_some (by_slot_at k slots) is in
      let agree : Agree k slots slots' = subst (λ (s : Slots). Agree k slots s) (sym put) (agree-put k slots (Some (record { key = k; at = at })) (free-found k slots x.0 x.1) refl) in
      let there : by_slot_at k slots' ≡ Some at = ap (λ (s : Slots). by_slot_at k s) put ∙ put-there k slots x.0 at x.1 in
      let stands : is_some (standing_at k es) ≡ true = are k is in
      let to : standing_by (by_slot_at k slots') (standing_at k es) ≡ Some at = ap (λ (h : Option (Option ℕ)). standing_by h (standing_at k es)) there ∙ standing_some (standing_at k es) at stands in (
        subst (λ (l : Entries). Changes k (Some at) l (with_slots slots' es)) view (changed-with k (Some at) (standing_at k es) slots slots' es es (unchanged-at k es) agree to),
        open-changed k (standing_at k es) slots slots' es es are (unchanged-at k es) agree (λ _. stands),
      )

  pub noted_map : (at : Option ℕ) (fs : Entries) → is_some (by_slot_at k slots) ≡ false → Changes k (Some at) es fs → Changes k (Some at) old (with_slots slots fs) × AreOpen slots fs
  noted_map at fs is changes =
      let none : by_slot_at k slots ≡ None = the_none (by_slot_at k slots) is in
      let to : standing_by (by_slot_at k slots) (Some at) ≡ Some at = ap (λ (h : Option (Option ℕ)). standing_by h (Some at)) none in (
        subst (λ (l : Entries). Changes k (Some at) l (with_slots slots fs)) view (changed-with k (Some at) (Some at) slots slots es fs changes (λ q _. refl) to),
        open-changed k (Some at) slots slots es fs are changes (λ q _. refl) (λ _. refl),
      )

  -- the entry in the map, if the slot stores nothing of the key
  pub standing_in_map : is_some (by_slot_at k slots) ≡ false → standing_at k old ≡ standing_at k es
  standing_in_map is = ap (λ (l : Entries). standing_at k l) (sym view) ∙ standing-other k slots es (the_none (by_slot_at k slots) is)

  -- a key that isn't in the map is in no slot
  pub slot_nothing : standing_at k es ≡ None → by_slot_at k slots ≡ None
  slot_nothing none =
      elim (by_slot_at k slots) as (λ o. by_slot_at k slots ≡ o → o ≡ None) [
        | None ↦ λ _. refl
        | Some at ↦ λ is. absurd (let no : true ≡ is_some {T = Option ℕ} None = sym (are k (ap (λ (o : Option (Option ℕ)). is_some o) is)) ∙ ap (λ (o : Option (Option ℕ)). is_some o) none in cc)
      ] refl

  -- a key that its slot stores is open
  pub is_there : is_some (by_slot_at k slots) ≡ true → is_some (standing_at k old) ≡ true
  is_there is =
      let x = the_some (by_slot_at k slots) is in
      ap (λ (l : Entries). is_some (standing_at k l)) (sym view) ∙ ap (λ (o : Option (Option ℕ)). is_some o) (standing-found k slots es x.0 are x.1)

  pub standing_nowhere : standing_at k es ≡ None → standing_at k old ≡ None
  standing_nowhere none = ap (λ (l : Entries). standing_at k l) (sym view) ∙ standing-with k slots es ∙ ap (λ (o : Option (Option ℕ)). standing_by (by_slot_at k slots) o) none

  pub standing_by_slot : (at : Option ℕ) → by_slot_at k slots ≡ Some at → standing_at k old ≡ Some at
  standing_by_slot at is = ap (λ (l : Entries). standing_at k l) (sym view) ∙ standing-found k slots es at are is

  module _ (fs : Entries) (sorted : IsStrictlySortedBy nat_cmp (keys_of es)) where
    -- the slot agrees on all others, and no longer stores the key
    closed_as : (slots' : Slots) → Agree k slots slots' → by_slot_at k slots' ≡ None → fs ≡ remove_entry (is_at (nat_cmp k)) es → Changes k None es fs
        → (with_slots slots' fs ≡ remove_entry (is_at (nat_cmp k)) old) × Changes k None old (with_slots slots' fs) × AreOpen slots' fs
    closed_as slots' agree gone is changes = (
      ap (λ (l : Entries). with_slots slots' l) is ∙ remove-with k slots slots' es sorted agree ∙ ap (λ (l : Entries). remove_entry (is_at (nat_cmp k)) l) view,
      subst (λ (l : Entries). Changes k None l (with_slots slots' fs)) view (changed-with k None None slots slots' es fs changes agree refl),
      open-changed k None slots slots' es fs are changes agree (λ e. absurd (let no : is_some (by_slot_at k slots') ≡ false = ap (λ (o : Option (Option ℕ)). is_some o) gone in cc)),
    )

    pub closed_slot : (at : Option ℕ) (slots' : Slots) → by_slot_at k slots ≡ Some at → slots' ≡ set slots (slot_of_key k) None → fs ≡ remove_entry (is_at (nat_cmp k)) es → Changes k None es fs
        → (with_slots slots' fs ≡ remove_entry (is_at (nat_cmp k)) old) × Changes k None old (with_slots slots' fs) × AreOpen slots' fs
    closed_slot at slots' here put is changes =
        closed_as slots' (subst (λ (s : Slots). Agree k slots s) (sym put) (agree-put k slots None (free-found k slots at here) tt)) (ap (λ (s : Slots). by_slot_at k s) put ∙ put-none k slots) is changes

    pub closed_map : by_slot_at k slots ≡ None → fs ≡ remove_entry (is_at (nat_cmp k)) es → Changes k None es fs
        → (with_slots slots fs ≡ remove_entry (is_at (nat_cmp k)) old) × Changes k None old (with_slots slots fs) × AreOpen slots fs
    closed_map none is changes = closed_as slots (λ q _. refl) none is changes

    opened_as : (slots' : Slots) → Agree k slots slots' → IsQuietHere (by_slot_at k slots') → fs ≡ insert_entry nat_cmp es k None → Changes k (Some None) es fs
        → (with_slots slots' fs ≡ insert_entry nat_cmp old k None) × Changes k (Some None) old (with_slots slots' fs) × AreOpen slots' fs
    opened_as slots' agree quiet is changes = (
      ap (λ (l : Entries). with_slots slots' l) is ∙ insert-with k slots slots' es sorted agree quiet ∙ ap (λ (l : Entries). insert_entry nat_cmp l k None) view,
      subst (λ (l : Entries). Changes k (Some None) l (with_slots slots' fs)) view (changed-with k (Some None) (Some None) slots slots' es fs changes agree (ap (λ (at : Option ℕ). Some at) quiet)),
      open-changed k (Some None) slots slots' es fs are changes agree (λ _. refl),
    )

    pub opened_slot : (far slots' : Slots) → ((s : ℕ) → get_or far s None ≡ get_or slots s None) → IsFree k far → slots' ≡ set far (slot_of_key k) (Some (record { key = k; at = None }))
        → fs ≡ insert_entry nat_cmp es k None → Changes k (Some None) es fs
        → (with_slots slots' fs ≡ insert_entry nat_cmp old k None) × Changes k (Some None) old (with_slots slots' fs) × AreOpen slots' fs
    opened_slot far slots' same free put is changes =
        let agree : Agree k far slots' = subst (λ (s : Slots). Agree k far s) (sym put) (agree-put k far (Some (record { key = k; at = None })) free refl) in
        opened_as slots' (λ q other. agree q other ∙ agree-same k slots far same q) (subst (λ (s : Slots). IsQuietHere (by_slot_at k s)) (sym put) (put-quiet k far)) is changes

    pub opened_map : (far : Slots) → ((s : ℕ) → get_or far s None ≡ get_or slots s None) → by_slot_at k far ≡ None
        → fs ≡ insert_entry nat_cmp es k None → Changes k (Some None) es fs
        → (with_slots far fs ≡ insert_entry nat_cmp old k None) × Changes k (Some None) old (with_slots far fs) × AreOpen far fs
    opened_map far same none is changes =
        opened_as far (λ q _. agree-same k slots far same q) (ap (λ (o : Option (Option ℕ)). or_by_map o None) none) is changes
