-- The two maps of a wheel, and the list that they stand for.
use Rattle.std.proofs.Common.{◌≡◌, ◌≢◌, ℕ, Bool, true, false, not, ◌||◌, cond, subst, if◌then◌else◌, List, [], ◌∷◌, nat_eq, Option, None, Some, is_some, refl, sym, ◌∙◌, ap, arith}
use Rattle.std.proofs.lemmas.Bool.Decides.{nat_tests}
use Rattle.std.specs.declared.cmp.Ordering.{Ordering}
use Rattle.std.specs.declared.cmp.Ordering.TheVariants.{Less, Equal, Greater}
use Rattle.std.specs.Ordering.{nat_cmp, is_eq, match_ordering, ordering_then}
use Rattle.std.specs.BTreeMap.{insert_entry, is_at}
use Rattle.std.specs.Map.{lookup, remove_entry}
use Rattle.calloop_slots.specs.Deadlines.{is_before, after_insert, has_counter, without_counter, IsAhead, IsSorted}
use Rattle.calloop_slots.specs.Wheels.{entry_at, entries_of, deadline_of, NameTheSame, HaveTheSame}
use Rattle.calloop_slots.specs.declared.token.Token.{Token}
use Rattle.calloop_slots.specs.declared.wheel.Due.{Due}
use Rattle.calloop_slots.specs.declared.wheel.Entry.{Entry}
use Rattle.calloop_slots.specs.declared.wheel.Instant.{Instant}

abbrev pub due_cmp : Due → Due → Ordering
due_cmp x y = ordering_then (nat_cmp x.deadline.nanos y.deadline.nanos) (nat_cmp x.counter y.counter)

not_before : (k d : Due) (t u : Token) → due_cmp k d ≡ Less → is_before (entry_at (d, u)) (entry_at (k, t)) ≡ false
not_before k d t u e = grind (arith, nat_tests)

is_behind : (k d : Due) (t u : Token) → due_cmp k d ≡ Greater → is_before (entry_at (d, u)) (entry_at (k, t)) ≡ true
is_behind k d t u e = grind (arith, nat_tests)

same_counter : (k d : Due) → due_cmp k d ≡ Equal → k.counter ≡ d.counter
same_counter k d e = grind (arith, nat_tests)

same_due : (k d : Due) → k.deadline ≡ d.deadline → k.counter ≡ d.counter → is_eq (due_cmp k d) ≡ true
same_due k d e f = grind (arith, nat_tests)

-- After a new pair.

insert_at : (k : Due) (t : Token) (p : Due × Token) (ps : List (Due × Token)) → nat_eq p.0.counter k.counter ≡ false → entries_of (insert_entry due_cmp ps k t) ≡ after_insert (entry_at (k, t)) (entries_of ps)
    → entries_of (insert_entry due_cmp (p ∷ ps) k t) ≡ after_insert (entry_at (k, t)) (entries_of (p ∷ ps))
insert_at k t p ps apart rest =
    elim (due_cmp k p.0) as (λ o. due_cmp k p.0 ≡ o → entries_of (match_ordering o ((k, t) ∷ p ∷ ps) ((p.0, t) ∷ ps) (p ∷ insert_entry due_cmp ps k t)) ≡ after_insert (entry_at (k, t)) (entry_at p ∷ entries_of ps)) [
      | Less ↦ λ is. sym (ap (λ b. if b then entry_at p ∷ after_insert (entry_at (k, t)) (entries_of ps) else entry_at (k, t) ∷ entry_at p ∷ entries_of ps) (not_before k p.0 t p.1 is))
      | Equal ↦ λ is. (let e : p.0.counter ≡ k.counter = sym (same_counter k p.0 is) in absurd (grind (arith, nat_tests)))
      | Greater ↦ λ is. ap (λ l. entry_at p ∷ l) rest ∙ sym (ap (λ b. if b then entry_at p ∷ after_insert (entry_at (k, t)) (entries_of ps) else entry_at (k, t) ∷ entry_at p ∷ entries_of ps) (is_behind k p.0 t p.1 is))
    ] refl

pub entries_of-insert : (k : Due) (t : Token) (ps : List (Due × Token)) → has_counter k.counter (entries_of ps) ≡ false → entries_of (insert_entry due_cmp ps k t) ≡ after_insert (entry_at (k, t)) (entries_of ps)
entries_of-insert k t [] free = refl
entries_of-insert k t (p ∷ ps) free =
    let apart : nat_eq p.0.counter k.counter ≡ false = grind (arith, nat_tests) in
    let rest : has_counter k.counter (entries_of ps) ≡ false = grind (arith, nat_tests) in
    insert_at k t p ps apart (entries_of-insert k t ps rest)

pub deadline_of-inserted : (q : ℕ) (e : Entry) (xs : List Entry) → has_counter e.counter xs ≡ false → deadline_of q (after_insert e xs) ≡ (if nat_eq e.counter q then Some e.deadline else deadline_of q xs)
deadline_of-inserted q e [] free = refl
deadline_of-inserted q e (x ∷ xs) free =
    let rest : has_counter e.counter xs ≡ false = grind (arith, nat_tests) in
    let more : deadline_of q (after_insert e xs) ≡ (if nat_eq e.counter q then Some e.deadline else deadline_of q xs) = deadline_of-inserted q e xs rest in
    elim (is_before x e) as (λ b. deadline_of q (if b then x ∷ after_insert e xs else e ∷ x ∷ xs) ≡ (if nat_eq e.counter q then Some e.deadline else if nat_eq x.counter q then Some x.deadline else deadline_of q xs)) [
      | true ↦ grind (arith, nat_tests)
      | false ↦ refl
    ]

-- The entry of a counter.

pub is_some-deadline_of : (q : ℕ) (xs : List Entry) → is_some (deadline_of q xs) ≡ has_counter q xs
is_some-deadline_of q [] = refl
is_some-deadline_of q (x ∷ xs) = let h = is_some-deadline_of q xs in
    elim (nat_eq x.counter q) as (λ b. is_some (if b then Some x.deadline else deadline_of q xs) ≡ (b || has_counter q xs)) [ true ↦ refl | false ↦ h ]

pub without_none : (c : ℕ) (xs : List Entry) → has_counter c xs ≡ false → without_counter c xs ≡ xs
without_none c [] free = refl
without_none c (x ∷ xs) free =
    let apart : nat_eq x.counter c ≡ false = grind (arith, nat_tests) in
    let rest : has_counter c xs ≡ false = grind (arith, nat_tests) in
    let h = without_none c xs rest in
    ap (λ b. cond (not b) (x ∷ without_counter c xs) (without_counter c xs)) apart ∙ ap (λ l. x ∷ l) h

first_gone : (x : Entry) (xs : List Entry) → has_counter x.counter xs ≡ false → without_counter x.counter (x ∷ xs) ≡ xs
first_gone x xs free =
    let same : nat_eq x.counter x.counter ≡ true = grind arith in
    ap (λ b. cond (not b) (x ∷ without_counter x.counter xs) (without_counter x.counter xs)) same ∙ without_none x.counter xs free

pub ahead_free : (x : Entry) (xs : List Entry) → IsAhead x xs → has_counter x.counter xs ≡ false
ahead_free x [] h = refl
ahead_free x (y ∷ ys) h = let k = ahead_free x ys h.2 in let ne : x.counter ≢ y.counter = h.1 in grind (arith, nat_tests)

pub deadline_of-without : (q c : ℕ) (xs : List Entry) → deadline_of q (without_counter c xs) ≡ (if nat_eq c q then None else deadline_of q xs)
deadline_of-without q c [] = elim (nat_eq c q) as (λ b. ◌≡◌ {A = Option Instant} None (if b then None else None)) [ true ↦ refl | false ↦ refl ]
deadline_of-without q c (x ∷ xs) = let h = deadline_of-without q c xs in grind (arith, nat_tests)

-- The second map, as a function of counters.

abbrev at : (q : ℕ) → List (ℕ × Instant) → Option Instant
at q m = lookup (nat_eq q) m

pub same-entered : (m n : List (ℕ × Instant)) (e : Entry) (xs : List Entry) → has_counter e.counter xs ≡ false → NameTheSame xs m
    → ((q : ℕ) → at q n ≡ cond (nat_eq e.counter q) (Some e.deadline) (at q m)) → NameTheSame (after_insert e xs) n
same-entered m n e xs free same updates q =
    updates q ∙ ap (λ o. if nat_eq e.counter q then Some e.deadline else o) (same q) ∙ sym (deadline_of-inserted q e xs free)

pub same-left : (m n : List (ℕ × Instant)) (c : ℕ) (xs : List Entry) → NameTheSame xs m
    → ((q : ℕ) → at q n ≡ cond (nat_eq c q) None (at q m)) → NameTheSame (without_counter c xs) n
same-left m n c xs same updates q =
    updates q ∙ ap (λ o. if nat_eq c q then None else o) (same q) ∙ sym (deadline_of-without q c xs)

-- a table that has the same deadlines
pub same-trimmed : (xs : List Entry) (m n : List (ℕ × Instant)) → HaveTheSame m n → NameTheSame xs m → NameTheSame xs n
same-trimmed xs m n trimmed same q = trimmed q ∙ same q

free_inserted : (e : Entry) (xs : List Entry) → has_counter e.counter xs ≡ false → without_counter e.counter (after_insert e xs) ≡ xs
free_inserted e [] free = let r : nat_eq e.counter e.counter ≡ true = grind arith in ap (λ b. cond (not b) (e ∷ []) []) r
free_inserted e (x ∷ xs) free =
    let apart : nat_eq x.counter e.counter ≡ false = grind (arith, nat_tests) in
    let r : nat_eq e.counter e.counter ≡ true = grind arith in
    let rest : has_counter e.counter xs ≡ false = grind (arith, nat_tests) in
    let h = free_inserted e xs rest in
    let k = without_none e.counter xs rest in
    elim (is_before x e) as (λ b. without_counter e.counter (if b then x ∷ after_insert e xs else e ∷ x ∷ xs) ≡ x ∷ xs) [
      | true ↦ ap (λ b. cond (not b) (x ∷ without_counter e.counter (after_insert e xs)) (without_counter e.counter (after_insert e xs))) apart ∙ ap (λ l. x ∷ l) h
      | false ↦ ap (λ b. cond (not b) (e ∷ without_counter e.counter (x ∷ xs)) (without_counter e.counter (x ∷ xs))) r
          ∙ ap (λ b. cond (not b) (x ∷ without_counter e.counter xs) (without_counter e.counter xs)) apart ∙ ap (λ l. x ∷ l) k
    ]

-- removing what was entered restores the maps
pub same-back : (m n o : List (ℕ × Instant)) (e : Entry) (xs : List Entry) → has_counter e.counter xs ≡ false → NameTheSame xs m
    → ((q : ℕ) → at q n ≡ cond (nat_eq e.counter q) (Some e.deadline) (at q m))
    → ((q : ℕ) → at q o ≡ cond (nat_eq e.counter q) None (at q n)) → NameTheSame xs o
same-back m n o e xs free same entered left q =
    same-left n o e.counter (after_insert e xs) (same-entered m n e xs free same entered) left q ∙ ap (λ l. deadline_of q l) (free_inserted e xs free)

-- What leaves the first map.

other_due : (k d : Due) → nat_eq d.counter k.counter ≡ false → is_eq (due_cmp k d) ≡ false
other_due k d e = grind (arith, nat_tests)

remove_at : (c : ℕ) (d : Instant) (p : Due × Token) (ps : List (Due × Token)) (b : Bool) → nat_eq p.0.counter c ≡ b → has_counter p.0.counter (entries_of ps) ≡ false
    → (if b then Some p.0.deadline else deadline_of c (entries_of ps)) ≡ Some d
    → (deadline_of c (entries_of ps) ≡ Some d → entries_of (remove_entry (is_at (due_cmp (record { deadline = d; counter = c }))) ps) ≡ without_counter c (entries_of ps))
    → entries_of (remove_entry (is_at (due_cmp (record { deadline = d; counter = c }))) (p ∷ ps)) ≡ without_counter c (entries_of (p ∷ ps))
remove_at c d p ps true e free is rest =
    let same : p.0.counter ≡ c = grind (arith, nat_tests) in
    let whole : p.0.deadline ≡ d = cc in
    let here : is_at (due_cmp (record { deadline = d; counter = c })) p.0 ≡ true = same_due (record { deadline = d; counter = c }) p.0 (sym whole) (sym same) in
    let none : has_counter c (entries_of ps) ≡ false = ap (λ k. has_counter k (entries_of ps)) (sym same) ∙ free in
    ap (λ b. entries_of (cond b ps (p ∷ remove_entry (is_at (due_cmp (record { deadline = d; counter = c }))) ps))) here
    ∙ sym (ap (λ b. cond (not b) (entry_at p ∷ without_counter c (entries_of ps)) (without_counter c (entries_of ps))) e ∙ without_none c (entries_of ps) none)
remove_at c d p ps false e free is rest =
    let there : is_at (due_cmp (record { deadline = d; counter = c })) p.0 ≡ false = other_due (record { deadline = d; counter = c }) p.0 e in
    ap (λ b. entries_of (cond b ps (p ∷ remove_entry (is_at (due_cmp (record { deadline = d; counter = c }))) ps))) there
    ∙ ap (λ l. entry_at p ∷ l) (rest is)
    ∙ sym (ap (λ b. cond (not b) (entry_at p ∷ without_counter c (entries_of ps)) (without_counter c (entries_of ps))) e)

pub entries_of-remove : (c : ℕ) (d : Instant) (ps : List (Due × Token)) → IsSorted (entries_of ps) → deadline_of c (entries_of ps) ≡ Some d
    → entries_of (remove_entry (is_at (due_cmp (record { deadline = d; counter = c }))) ps) ≡ without_counter c (entries_of ps)
entries_of-remove c d [] sorted is = refl
entries_of-remove c d (p ∷ ps) sorted is =
    remove_at c d p ps (nat_eq p.0.counter c) refl (ahead_free (entry_at p) (entries_of ps) sorted.0) is (entries_of-remove c d ps sorted.1)

pub removed_none : (c : ℕ) (ps : List (Due × Token)) → deadline_of c (entries_of ps) ≡ None → entries_of ps ≡ without_counter c (entries_of ps)
removed_none c ps none = sym (without_none c (entries_of ps) (sym (is_some-deadline_of c (entries_of ps)) ∙ ap (λ o. is_some o) none))

-- the first pair leaves both maps
pub same-popped : (m n : List (ℕ × Instant)) (p : Due × Token) (ps qs : List (Due × Token)) → ps ≡ p ∷ qs → IsSorted (entries_of ps) → NameTheSame (entries_of ps) m
    → ((q : ℕ) → at q n ≡ cond (nat_eq p.0.counter q) None (at q m)) → NameTheSame (entries_of qs) n
same-popped m n p ps qs is sorted same left =
    let order : IsSorted (entries_of (p ∷ qs)) = subst (λ (l : List (Due × Token)). IsSorted (entries_of l)) is sorted in
    let names : NameTheSame (entries_of (p ∷ qs)) m = subst (λ (l : List (Due × Token)). NameTheSame (entries_of l) m) is same in
    let free : has_counter p.0.counter (entries_of qs) ≡ false = ahead_free (entry_at p) (entries_of qs) order.0 in
    let gone : without_counter p.0.counter (entries_of (p ∷ qs)) ≡ entries_of qs = first_gone (entry_at p) (entries_of qs) free in
    subst (λ (l : List Entry). NameTheSame l n) gone (same-left m n p.0.counter (entries_of (p ∷ qs)) names left)
