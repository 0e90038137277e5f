-- Counting armings in their places.
use Rattle.std.proofs.Common.{◌≡◌, ℕ, ◌+◌, ◌<◌, ◌≤◌, List, [], ◌∷◌, ◌++◌, map, filter, not, refl, ap, arith, Some, Bool, true, false, ◌&&◌, if◌then◌else◌, nat_eq, nat_lt, nat_le}
use Rattle.std.proofs.lemmas.Bool.Decides.{nat_tests}
use Rattle.calloop_slots.specs.Deadlines.{is_before, is_due, is_other, after_insert, without_counter, has_counter, due, not_due}
use Rattle.calloop_poll.specs.declared.sys.poll.Pending.{Pending}
use Rattle.calloop_poll.specs.sys.Polls.{timer_event, timer_events, tail_of}
use Rattle.calloop_loop.specs.Ledgers.{Arming, NumberedEntry, Origin, Elsewhere, Due, Waiting, TimerCall, latest, armed_among, entry_in, number_of, arming_of, is_under_other, is_under, from_elsewhere, from_deadline, due_in, not_due_in, heads_of}
use Rattle.calloop_laws.specs.Laws.{one, how_many, is_armed_as, is_due_as, waits_as, is_number, is_same, is_timely, came_timely, AllOnTime, AllOwnCalls, event_of}

pub counted-append : {A : Type 0} (p : A → Bool) (xs ys : List A) → how_many p (xs ++ ys) ≡ how_many p xs + how_many p ys
counted-append p [] ys = omega arith
counted-append p (x ∷ xs) ys = omega (arith, counted-append p xs ys)

pub counted-filter : {A : Type 0} (p q : A → Bool) (xs : List A) → how_many p (filter q xs) ≤ how_many p xs
counted-filter p q [] = omega arith
counted-filter p q (x ∷ xs) =
    elim (q x) as (λ b. how_many p (if b then x ∷ filter q xs else filter q xs) ≤ one p x + how_many p xs) [ true ↦ omega (arith, counted-filter p q xs) | false ↦ omega (arith, counted-filter p q xs) ]

pub counted-armed_among : (p : NumberedEntry → Bool) (a : NumberedEntry) (xs : List NumberedEntry) → how_many p (armed_among a xs) ≡ one p a + how_many p xs
counted-armed_among p a [] = refl
counted-armed_among p a (x ∷ xs) =
    elim (is_before x.entry a.entry) as (λ b. how_many p (if b then x ∷ armed_among a xs else a ∷ x ∷ xs) ≡ one p a + (one p x + how_many p xs)) [ true ↦ omega (arith, counted-armed_among p a xs) | false ↦ refl ]

pub counted-split : (p : NumberedEntry → Bool) (counter : ℕ) (xs : List NumberedEntry) → how_many p (filter (is_under_other counter) xs) + how_many p (filter (is_under counter) xs) ≡ how_many p xs
counted-split p counter [] = refl
counted-split p counter (x ∷ xs) =
    elim (nat_eq x.entry.counter counter) as (λ b. how_many p (if not b then x ∷ filter (is_under_other counter) xs else filter (is_under_other counter) xs) + how_many p (if b then x ∷ filter (is_under counter) xs else filter (is_under counter) xs) ≡ one p x + how_many p xs)
    [ true ↦ omega (arith, counted-split p counter xs) | false ↦ omega (arith, counted-split p counter xs) ]

pub counted-number_of : (n : ℕ) (xs : List NumberedEntry) → how_many (is_number n) (map number_of xs) ≡ how_many (is_armed_as n) xs
counted-number_of n [] = refl
counted-number_of n (x ∷ xs) = ap (λ k. one (is_armed_as n) x + k) (counted-number_of n xs)

pub counted-due : (n now : ℕ) (xs : List NumberedEntry) → how_many (waits_as n) (map (from_deadline now) (due_in now xs)) + how_many (is_armed_as n) (not_due_in now xs) ≡ how_many (is_armed_as n) xs
counted-due n now [] = refl
counted-due n now (x ∷ xs) =
    elim (is_due now x.entry) as (λ b. how_many (waits_as n) (map (from_deadline now) (if b then x ∷ due_in now xs else [])) + how_many (is_armed_as n) (if b then not_due_in now xs else x ∷ xs) ≡ one (is_armed_as n) x + how_many (is_armed_as n) xs)
    [ true ↦ omega (arith, counted-due n now xs) | false ↦ omega arith ]

pub counted-elsewhere : (n : ℕ) (es : List Pending) → how_many (waits_as n) (map from_elsewhere es) ≡ 0
counted-elsewhere n [] = refl
counted-elsewhere n (e ∷ es) = omega (arith, counted-elsewhere n es)

pub counted-cut : {A : Type 0} (p : A → Bool) (xs ys : List A) → how_many p (tail_of xs) + how_many p (ys ++ heads_of xs) ≡ how_many p xs + how_many p ys
counted-cut p [] ys = omega (arith, counted-append p ys [])
counted-cut p (x ∷ xs) ys = omega (arith, counted-append p ys (x ∷ []))

pub next_number : (n count : ℕ) → (if nat_eq count n then 1 else 0) + (if nat_lt n count then 1 else 0) ≡ (if nat_lt n (count + 1) then 1 else 0)
next_number n count = grind (arith, nat_tests)

pub not_yet : (count : ℕ) → ◌≡◌ {A = ℕ} (if nat_lt count count then 1 else 0) 0
not_yet count = grind (arith, nat_tests)

pub on_time-append : (xs ys : List Waiting) → AllOnTime xs → AllOnTime ys → AllOnTime (xs ++ ys)
on_time-append [] ys h k = k
on_time-append (x ∷ xs) ys h k = (h.0, on_time-append xs ys h.1 k)

pub on_time-elsewhere : (es : List Pending) → AllOnTime (map from_elsewhere es)
on_time-elsewhere [] = tt
on_time-elsewhere (e ∷ es) = (tt, on_time-elsewhere es)

pub on_time-due : (now : ℕ) (xs : List NumberedEntry) → AllOnTime (map (from_deadline now) (due_in now xs))
on_time-due now [] = tt
on_time-due now (x ∷ xs) =
    elim (is_due now x.entry) as (λ b. nat_le x.entry.deadline.nanos now ≡ b → AllOnTime (map (from_deadline now) (if b then x ∷ due_in now xs else []))) [ true ↦ λ e. (grind (arith, nat_tests), on_time-due now xs) | false ↦ λ _. tt ] refl

pub on_time-tail : (xs : List Waiting) → AllOnTime xs → AllOnTime (tail_of xs)
on_time-tail [] h = tt
on_time-tail (x ∷ xs) h = h.1

pub on_time-heads : (xs : List Waiting) → AllOnTime xs → AllOnTime (heads_of xs)
on_time-heads [] h = tt
on_time-heads (x ∷ xs) h = (h.0, tt)

pub own-append : (f : Arming → ℕ) (xs ys : List TimerCall) → AllOwnCalls f xs → AllOwnCalls f ys → AllOwnCalls f (xs ++ ys)
own-append f [] ys h k = k
own-append f (x ∷ xs) ys h k = (h.0, own-append f xs ys h.1 k)

-- what was gathered stays gathered
pub own_more : (f g : Arming → ℕ) (cs : List TimerCall) → ((a : Arming) → f a ≤ g a) → AllOwnCalls f cs → AllOwnCalls g cs
own_more f g [] more h = tt
own_more f g (c ∷ cs) more h = let m = more h.0.0 in ((h.0.0, h.0.1, h.0.2, omega (arith, h.0.3)), own_more f g cs more h.1)

-- the ledger's lists and what they stand for

pub entries-armed_among : (a : NumberedEntry) (xs : List NumberedEntry) → map entry_in (armed_among a xs) ≡ after_insert a.entry (map entry_in xs)
entries-armed_among a [] = refl
entries-armed_among a (x ∷ xs) =
    elim (is_before x.entry a.entry) as (λ b. map entry_in (if b then x ∷ armed_among a xs else a ∷ x ∷ xs) ≡ (if b then x.entry ∷ after_insert a.entry (map entry_in xs) else a.entry ∷ x.entry ∷ map entry_in xs))
    [ true ↦ ap (λ l. x.entry ∷ l) (entries-armed_among a xs) | false ↦ refl ]

pub entries-filter : (counter : ℕ) (xs : List NumberedEntry) → map entry_in (filter (is_under_other counter) xs) ≡ without_counter counter (map entry_in xs)
entries-filter counter [] = refl
entries-filter counter (x ∷ xs) =
    elim (is_other counter x.entry) as (λ b. map entry_in (if b then x ∷ filter (is_under_other counter) xs else filter (is_under_other counter) xs) ≡ (if b then x.entry ∷ without_counter counter (map entry_in xs) else without_counter counter (map entry_in xs)))
    [ true ↦ ap (λ l. x.entry ∷ l) (entries-filter counter xs) | false ↦ entries-filter counter xs ]

pub entries-not_due : (now : ℕ) (xs : List NumberedEntry) → map entry_in (not_due_in now xs) ≡ not_due now (map entry_in xs)
entries-not_due now [] = refl
entries-not_due now (x ∷ xs) =
    elim (is_due now x.entry) as (λ b. map entry_in (if b then not_due_in now xs else x ∷ xs) ≡ (if b then not_due now (map entry_in xs) else x.entry ∷ map entry_in xs)) [ true ↦ entries-not_due now xs | false ↦ refl ]

pub events-due : (now : ℕ) (xs : List NumberedEntry) → map event_of (map (from_deadline now) (due_in now xs)) ≡ timer_events (due now (map entry_in xs))
events-due now [] = refl
events-due now (x ∷ xs) =
    elim (is_due now x.entry) as (λ b. map event_of (map (from_deadline now) (if b then x ∷ due_in now xs else [])) ≡ timer_events (if b then x.entry ∷ due now (map entry_in xs) else [])) [ true ↦ ap (λ l. timer_event x.entry ∷ l) (events-due now xs) | false ↦ refl ]

pub events-elsewhere : (es : List Pending) → map event_of (map from_elsewhere es) ≡ es
events-elsewhere [] = refl
events-elsewhere (e ∷ es) = ap (λ l. e ∷ l) (events-elsewhere es)

pub events-append : (xs ys : List Waiting) → map event_of (xs ++ ys) ≡ map event_of xs ++ map event_of ys
events-append [] ys = refl
events-append (x ∷ xs) ys = ap (λ l. x.event ∷ l) (events-append xs ys)

pub events-tail : (xs : List Waiting) → map event_of (tail_of xs) ≡ tail_of (map event_of xs)
events-tail [] = refl
events-tail (x ∷ xs) = refl

-- armings under their counters

abbrev pub is_armed_by : Arming → NumberedEntry → Bool
is_armed_by a x = is_same a (arming_of x)

eq_swap : (m n : ℕ) → nat_eq m n ≡ false → nat_eq n m ≡ false
eq_swap m n e = grind (arith, nat_tests)

-- those of another counter are left
pub kept-by : (counter : ℕ) (a : Arming) (xs : List NumberedEntry) → nat_eq counter a.counter ≡ false → how_many (is_armed_by a) (filter (is_under_other counter) xs) ≡ how_many (is_armed_by a) xs
kept-by counter a [] differs = refl
kept-by counter a (x ∷ xs) differs =
    elim (nat_eq x.entry.counter counter) as (λ b. nat_eq x.entry.counter counter ≡ b → how_many (is_armed_by a) (if not b then x ∷ filter (is_under_other counter) xs else filter (is_under_other counter) xs) ≡ how_many (is_armed_by a) (x ∷ xs)) [
      | true ↦ λ yes. (let un : nat_eq a.counter x.entry.counter ≡ false = grind (arith, nat_tests) in rw un (omega (arith, kept-by counter a xs differs)))
      | false ↦ λ _. ap (λ k. one (is_armed_by a) x + k) (kept-by counter a xs differs)
    ] refl

-- if no entry is under its counter
pub unarmed : (a : Arming) (xs : List NumberedEntry) → has_counter a.counter (map entry_in xs) ≡ false → how_many (is_armed_by a) xs ≡ 0
unarmed a [] h = refl
unarmed a (x ∷ xs) h =
    let no : nat_eq x.entry.counter a.counter ≡ false = grind (arith, nat_tests) in
    let rest : has_counter a.counter (map entry_in xs) ≡ false = grind (arith, nat_tests) in
    rw (eq_swap x.entry.counter a.counter no) (omega (arith, unarmed a xs rest))

all_three : (p q r : Bool) → p && (q && r) ≡ true → r ≡ true
all_three true true r e = e
all_three true false r e = cc
all_three false q r e = cc

-- a due one is gathered in time
timely_due : (a : Arming) (x : NumberedEntry) (now : ℕ) → is_due now x.entry ≡ true → one (is_armed_by a) x ≤ one (came_timely a) (from_deadline now x)
timely_due a x now due =
    elim (is_same a (arming_of x)) as (λ b. is_same a (arming_of x) ≡ b → ◌≤◌ (if b then 1 else 0) (if b && nat_le a.deadline.nanos now then 1 else 0)) [
      | true ↦ λ e.
          (let at : nat_eq a.deadline.nanos x.entry.deadline.nanos ≡ true = all_three (nat_eq a.counter x.entry.counter) (nat_eq a.number x.number) (nat_eq a.deadline.nanos x.entry.deadline.nanos) e in
          let come : nat_le a.deadline.nanos now ≡ true = grind (arith, nat_tests) in rw come (omega arith))
      | false ↦ λ _. omega arith
    ] refl

pub gathered-by : (a : Arming) (now : ℕ) (xs : List NumberedEntry) → how_many (is_armed_by a) xs ≤ how_many (is_armed_by a) (not_due_in now xs) + how_many (came_timely a) (map (from_deadline now) (due_in now xs))
gathered-by a now [] = omega arith
gathered-by a now (x ∷ xs) =
    elim (is_due now x.entry) as (λ b. is_due now x.entry ≡ b → one (is_armed_by a) x + how_many (is_armed_by a) xs ≤ how_many (is_armed_by a) (if b then not_due_in now xs else x ∷ xs) + how_many (came_timely a) (map (from_deadline now) (if b then x ∷ due_in now xs else [])))
    [ true ↦ λ due. omega (arith, gathered-by a now xs, timely_due a x now due) | false ↦ λ _. omega arith ] refl

pub timely-elsewhere : (a : Arming) (es : List Pending) → how_many (came_timely a) (map from_elsewhere es) ≡ 0
timely-elsewhere a [] = refl
timely-elsewhere a (e ∷ es) = omega (arith, timely-elsewhere a es)

second_of : (p q r : Bool) → (if p && (q && r) then 1 else 0) ≤ (if q then 1 else 0)
second_of true true true = omega arith
second_of true true false = omega arith
second_of true false r = omega arith
second_of false true r = omega arith
second_of false false r = omega arith

first_of_two : (p q : Bool) → (if p && q then 1 else 0) ≤ (if p then 1 else 0)
first_of_two true true = omega arith
first_of_two true false = omega arith
first_of_two false q = omega arith

turned_round : (m n : ℕ) → nat_eq m n ≡ nat_eq n m
turned_round m n = grind (arith, nat_tests)

waits_timely : (a : Arming) (o : Origin) → (if is_timely a o then 1 else 0) ≤ (if is_due_as a.number o then 1 else 0)
waits_timely a Elsewhere = omega arith
waits_timely a (Due b gathered) =
    omega (arith, first_of_two (is_same a b) (nat_le a.deadline.nanos gathered), second_of (nat_eq a.counter b.counter) (nat_eq a.number b.number) (nat_eq a.deadline.nanos b.deadline.nanos), ap {B = ℕ} (λ c. if c then 1 else 0) (turned_round a.number b.number))

-- what came from an arming in time came from it
pub timely-least : (a : Arming) (xs : List Waiting) → how_many (came_timely a) xs ≤ how_many (waits_as a.number) xs
timely-least a [] = omega arith
timely-least a (x ∷ xs) = omega (arith, waits_timely a x.origin, timely-least a xs)

-- the numbers of armings fall

abbrev pub Falls : ℕ → List Arming → Type 0
Falls n [] = Unit {0}
Falls n (a ∷ as') = (a.number < n) × Falls a.number as'

pub latest_below : (n c : ℕ) (ms : List Arming) (a : Arming) → Falls n ms → latest c ms ≡ Some a → a.number < n
latest_below n c [] a h is = absurd (cc)
latest_below n c (m ∷ ms) a h is =
    elim (nat_eq m.counter c) as (λ b. (if b then Some m else latest c ms) ≡ Some a → a.number < n)
    [ true ↦ λ e. (let same : m ≡ a = cc in rw (← same) h.0) | false ↦ λ e. (let lt = latest_below m.number c ms a h.1 e in omega (arith, h.0)) ] is

-- the latest armings under different counters are different ones
pub latest_apart : (n c d : ℕ) (ms : List Arming) (a b : Arming) → Falls n ms → latest c ms ≡ Some a → latest d ms ≡ Some b → nat_eq c d ≡ false → nat_eq a.number b.number ≡ false
latest_apart n c d [] a b h is at differs = absurd (cc)
latest_apart n c d (m ∷ ms) a b h is at differs =
    elim (nat_eq m.counter c) as (λ u. nat_eq m.counter c ≡ u → (if u then Some m else latest c ms) ≡ Some a → nat_eq a.number b.number ≡ false) [
      | true ↦ λ here e.
          (let same : m ≡ a = cc in
          elim (nat_eq m.counter d) as (λ w. nat_eq m.counter d ≡ w → (if w then Some m else latest d ms) ≡ Some b → nat_eq a.number b.number ≡ false) [
            | true ↦ λ there f. absurd (let x : nat_eq c d ≡ true = grind (arith, nat_tests) in cc)
            | false ↦ λ there f. (let lt = latest_below m.number d ms b h.1 f in let eq : m.number ≡ a.number = ap (λ (k : Arming). k.number) same in grind (arith, nat_tests))
          ] refl at)
      | false ↦ λ here e.
          (elim (nat_eq m.counter d) as (λ w. nat_eq m.counter d ≡ w → (if w then Some m else latest d ms) ≡ Some b → nat_eq a.number b.number ≡ false) [
            | true ↦ λ there f. (let same : m ≡ b = cc in let lt = latest_below m.number c ms a h.1 e in let eq : m.number ≡ b.number = ap (λ (k : Arming). k.number) same in grind (arith, nat_tests))
            | false ↦ λ there f. latest_apart m.number c d ms a b h.1 e f differs
          ] refl at)
    ] refl is
