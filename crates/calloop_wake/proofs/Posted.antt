-- The places of a board and the list of its posted keys.
use Rattle.std.proofs.Common.{◌≡◌, ◌≢◌, ℕ, zero, suc, ◌+◌, ◌-◌, ◌^◌, ◌<◌, ◌≤◌, Bool, true, false, not, min, ◌&&◌, ◌||◌, cond, subst, if◌then◌else◌, List, [], ◌∷◌, ◌++◌, map, filter, length, take, drop, get_or, nat_eq, nat_lt, Option, None, Some, is_some, IsSome, refl, sym, ◌∙◌, ap, arith, le-ltb, lt-ltb, ltb-false}
use Rattle.std.proofs.lemmas.Bool.Decides.{nat_tests}
use Rattle.std.specs.declared.cmp.Ordering.TheVariants.{Less, Equal, Greater}
use Rattle.std.specs.Ordering.{nat_cmp, match_ordering}
use Rattle.std.specs.BTreeMap.{insert_entry, is_at}
use Rattle.std.specs.Map.{lookup, remove_entry, keys_of}
use Rattle.std.specs.List.{list_any, swap_remove, IsDistinct, AllByRecursion}
use Rattle.std.specs.Option.{option_map, SomeIff}
use Rattle.std.specs.List.Sorted.{IsPermutation, IsSorted, IsStrictlySortedBy}
use Rattle.std.proofs.lemmas.Map.Lookups.{btree_set_from_contains, exact_unsigned}
use Rattle.std.specs.Cmp.{nat_eq_equiv, nat_cmp_total}
use Rattle.std.proofs.lemmas.List.{get_or_append_left, get_or_push, get_or_default, length_push, length-map, length-drop, get_or-drop, take_min, drop_min, length-take-le, take_more}
use Rattle.std.proofs.lemmas.List.Sorted.{IsNonDecreasingBy-from_sort, IsPermutation-swap_remove, list_any-IsPermutation}
use Rattle.std.proofs.lemmas.List.Folds.{list_any-append}
use Rattle.std.proofs.lemmas.Map.Steps.{length-le_from_keys}
use Rattle.std.proofs.lemmas.Map.Keys.{IsDistinct-from_apart, IsStrictlyIncreasing-from_distinct, sorted_from_strictly_increasing, IsDistinct-IsPermutation, IsDistinct-head, IsDistinct-tail, IsDistinct-push}
use Rattle.calloop_wake.proofs.BoardSteps.{none_marked, keys-rising, is_marked-after_close, is_marked-after_open, is_marked-after_post, IsAscending-open, IsAscending-filter}
use Rattle.calloop_wake.specs.Boards.{bound, keys_within, taken_keys, is_taken, without_mark, after_unpost, place, is_open, is_marked, any_marked, wakes, after_open_place, after_close_place, after_post, AllAbove, IsAscending, AllGreater, IsRising}
use Rattle.calloop_wake.specs.Posts.{place_at, places_of, standing_at, posted_keys, Changes, is_quiet, posted_at, index_of, left_at, place_after, IsBoard}
use Rattle.calloop_wake.specs.declared.board.Place.{Place}

pub at_eq : (c q : ℕ) → is_at (nat_cmp c) q ≡ nat_eq c q
at_eq c q = grind (arith, nat_tests)

-- The places, and the entry of a key.

above_unmarked : (j k : ℕ) (ps : List Place) → j ≤ k → AllAbove k ps → is_marked j ps ≡ false
above_unmarked j k [] le h = refl
above_unmarked j k (p ∷ ps) le h =
    let rest = above_unmarked j k ps le h.1 in
    let lt : k < p.key = h.0 in
    grind (arith, nat_tests)

abbrev pub is_standing : Option (Option ℕ) → Bool
is_standing None = false
is_standing (Some o) = is_some o

pub is_marked-places : (q : ℕ) (es : List (ℕ × Option ℕ)) → IsAscending (places_of es) → is_marked q (places_of es) ≡ is_standing (standing_at q es)
is_marked-places q [] h = refl
is_marked-places q (e ∷ es) h =
    let rest = is_marked-places q es h.1 in
    let above = above_unmarked e.0 e.0 (places_of es) (omega arith) h.0 in
    elim (nat_eq e.0 q) as (λ b. nat_eq e.0 q ≡ b → (b && is_some e.1 || is_marked q (places_of es)) ≡ is_standing (cond (is_at (nat_cmp q) e.0) (Some e.1) (standing_at q es))) [
      | true ↦ λ is. (let same : e.0 ≡ q = grind (arith, nat_tests) in
          let here : is_at (nat_cmp q) e.0 ≡ true = grind (arith, nat_tests) in
          let none : is_marked q (places_of es) ≡ false = ap (λ k. is_marked k (places_of es)) (sym same) ∙ above in
          grind (arith, nat_tests))
      | false ↦ λ is. (let there : is_at (nat_cmp q) e.0 ≡ false = grind (arith, nat_tests) in
          rest ∙ sym (ap (λ b. is_standing (cond b (Some e.1) (standing_at q es))) there))
    ] refl

pub is_open-places : (q : ℕ) (es : List (ℕ × Option ℕ)) → is_open q (places_of es) ≡ is_some (standing_at q es)
is_open-places q [] = refl
is_open-places q (e ∷ es) =
    let rest = is_open-places q es in
    elim (nat_eq e.0 q) as (λ b. nat_eq e.0 q ≡ b → (b || is_open q (places_of es)) ≡ is_some (cond (is_at (nat_cmp q) e.0) (Some e.1) (standing_at q es))) [
      | true ↦ λ is. (let here : is_at (nat_cmp q) e.0 ≡ true = grind (arith, nat_tests) in sym (ap (λ b. is_some (cond b (Some e.1) (standing_at q es))) here))
      | false ↦ λ is. (let there : is_at (nat_cmp q) e.0 ≡ false = grind (arith, nat_tests) in
          rest ∙ sym (ap (λ b. is_some (cond b (Some e.1) (standing_at q es))) there))
    ] refl

pub keys-places : (es : List (ℕ × Option ℕ)) → map (λ (p : Place). p.key) (places_of es) ≡ keys_of es
keys-places [] = refl
keys-places (e ∷ es) = ap (λ l. e.0 ∷ l) (keys-places es)

heads : (x y : ℕ) (xs ys : List ℕ) → x ∷ xs ≡ y ∷ ys → (x ≡ y) × (xs ≡ ys)
heads x y xs ys h = (cc, cc)

above_keys : (k : ℕ) (xs ys : List Place) → map (λ (p : Place). p.key) xs ≡ map (λ (p : Place). p.key) ys → AllAbove k xs → AllAbove k ys
above_keys k [] [] e h = h
above_keys k [] (y ∷ ys) e h = absurd (cc)
above_keys k (x ∷ xs) [] e h = absurd (cc)
above_keys k (x ∷ xs) (y ∷ ys) e h =
    let s = heads x.key y.key (map (λ (p : Place). p.key) xs) (map (λ (p : Place). p.key) ys) e in
    (subst (λ (j : ℕ). k < j) s.0 h.0, above_keys k xs ys s.1 h.1)

pub ascending_keys : (xs ys : List Place) → map (λ (p : Place). p.key) xs ≡ map (λ (p : Place). p.key) ys → IsAscending xs → IsAscending ys
ascending_keys [] [] e h = tt
ascending_keys [] (y ∷ ys) e h = absurd (cc)
ascending_keys (x ∷ xs) [] e h = absurd (cc)
ascending_keys (x ∷ xs) (y ∷ ys) e h =
    let s = heads x.key y.key (map (λ (p : Place). p.key) xs) (map (λ (p : Place). p.key) ys) e in
    (subst (λ (j : ℕ). AllAbove j ys) s.0 (above_keys x.key xs ys s.1 h.0), ascending_keys xs ys s.1 h.1)

first_mark : (p : Place) (ps : List Place) → AllAbove p.key ps → is_marked p.key (p ∷ ps) ≡ p.marked
first_mark p ps h =
    let none = above_unmarked p.key p.key ps (omega arith) h in
    let same : nat_eq p.key p.key ≡ true = grind arith in
    grind (arith, nat_tests)

later_marks : (q : ℕ) (p : Place) (ps : List Place) → AllAbove p.key ps → is_marked q ps ≡ (is_marked q (p ∷ ps) && not (nat_eq p.key q))
later_marks q p ps h =
    elim (nat_eq p.key q) as (λ b. nat_eq p.key q ≡ b → is_marked q ps ≡ ((b && p.marked || is_marked q ps) && not b)) [
      | true ↦ λ is. (let same : p.key ≡ q = grind (arith, nat_tests) in
          let none : is_marked q ps ≡ false = ap (λ k. is_marked k ps) (sym same) ∙ above_unmarked p.key p.key ps (omega arith) h in
          grind (arith, nat_tests))
      | false ↦ λ is. grind (arith, nat_tests)
    ] refl

same_place : (x y : Place) → x.key ≡ y.key → x.marked ≡ y.marked → x ≡ y
same_place x y k m = ap {A = ℕ} {B = Place} (λ n. record { key = n; marked = x.marked }) k ∙ ap {A = Bool} {B = Place} (λ b. record { key = y.key; marked = b }) m

-- places with the same keys and the same marks are equal
pub places_equal : (xs ys : List Place) → map (λ (p : Place). p.key) xs ≡ map (λ (p : Place). p.key) ys → IsAscending xs → IsAscending ys
    → ((q : ℕ) → is_marked q xs ≡ is_marked q ys) → xs ≡ ys
places_equal [] [] e h g marks = refl
places_equal [] (y ∷ ys) e h g marks = absurd (cc)
places_equal (x ∷ xs) [] e h g marks = absurd (cc)
places_equal (x ∷ xs) (y ∷ ys) e h g marks =
    let s = heads x.key y.key (map (λ (p : Place). p.key) xs) (map (λ (p : Place). p.key) ys) e in
    let m : x.marked ≡ y.marked = sym (first_mark x xs h.0) ∙ marks x.key ∙ ap (λ k. is_marked k (y ∷ ys)) s.0 ∙ first_mark y ys g.0 in
    let one : ◌≡◌ {A = Place} x y = same_place x y s.0 m in
    let rest = places_equal xs ys s.1 h.1 g.1 (λ q. later_marks q x xs h.0 ∙ ap (λ b. b && not (nat_eq x.key q)) (marks q) ∙ ap (λ k. is_marked q (y ∷ ys) && not (nat_eq k q)) s.0 ∙ sym (later_marks q y ys g.0)) in
    ap (λ (p : Place). p ∷ xs) one ∙ ap (λ l. y ∷ l) rest

-- Another place, or one less.

insert_at : (k : ℕ) (e : ℕ × Option ℕ) (es : List (ℕ × Option ℕ)) → nat_eq e.0 k ≡ false → places_of (insert_entry nat_cmp es k None) ≡ after_open_place k (places_of es)
    → places_of (insert_entry nat_cmp (e ∷ es) k None) ≡ after_open_place k (places_of (e ∷ es))
insert_at k e es apart rest =
    elim (nat_cmp k e.0) as (λ o. nat_cmp k e.0 ≡ o → places_of (match_ordering o ((k, None) ∷ e ∷ es) ((e.0, None) ∷ es) (e ∷ insert_entry nat_cmp es k None)) ≡ after_open_place k (place_at e ∷ places_of es)) [
      | Less ↦ λ is. (let lt : nat_lt k e.0 ≡ true = grind (arith, nat_tests) in sym (ap (λ b. if b then place k ∷ place_at e ∷ places_of es else place_at e ∷ after_open_place k (places_of es)) lt))
      | Equal ↦ λ is. absurd (grind (arith, nat_tests))
      | Greater ↦ λ is. (let le : nat_lt k e.0 ≡ false = grind (arith, nat_tests) in ap (λ l. place_at e ∷ l) rest ∙ sym (ap (λ b. if b then place k ∷ place_at e ∷ places_of es else place_at e ∷ after_open_place k (places_of es)) le))
    ] refl

pub places_of-insert : (k : ℕ) (es : List (ℕ × Option ℕ)) → is_open k (places_of es) ≡ false → places_of (insert_entry nat_cmp es k None) ≡ after_open_place k (places_of es)
places_of-insert k [] shut = refl
places_of-insert k (e ∷ es) shut =
    let apart : nat_eq e.0 k ≡ false = grind (arith, nat_tests) in
    let rest : is_open k (places_of es) ≡ false = grind (arith, nat_tests) in
    insert_at k e es apart (places_of-insert k es rest)

above_closed : (j k : ℕ) (ps : List Place) → j ≤ k → AllAbove k ps → after_close_place j ps ≡ ps
above_closed j k [] le h = refl
above_closed j k (p ∷ ps) le h =
    let rest = above_closed j k ps le h.1 in
    let lt : k < p.key = h.0 in
    let apart : nat_eq p.key j ≡ false = grind (arith, nat_tests) in
    ap (λ b. cond (not b) (p ∷ after_close_place j ps) (after_close_place j ps)) apart ∙ ap (λ l. p ∷ l) rest

pub places_of-remove : (k : ℕ) (es : List (ℕ × Option ℕ)) → IsAscending (places_of es) → places_of (remove_entry (is_at (nat_cmp k)) es) ≡ after_close_place k (places_of es)
places_of-remove k [] h = refl
places_of-remove k (e ∷ es) h =
    let rest = places_of-remove k es h.1 in
    let above = above_closed e.0 e.0 (places_of es) (omega arith) h.0 in
    elim (nat_eq e.0 k) as (λ b. nat_eq e.0 k ≡ b → places_of (cond (is_at (nat_cmp k) e.0) es (e ∷ remove_entry (is_at (nat_cmp k)) es)) ≡ cond (not b) (place_at e ∷ after_close_place k (places_of es)) (after_close_place k (places_of es))) [
      | true ↦ λ is. (let same : e.0 ≡ k = grind (arith, nat_tests) in
          let here : is_at (nat_cmp k) e.0 ≡ true = grind (arith, nat_tests) in
          ap (λ b. places_of (cond b es (e ∷ remove_entry (is_at (nat_cmp k)) es))) here ∙ sym above ∙ ap (λ j. after_close_place j (places_of es)) same)
      | false ↦ λ is. (let there : is_at (nat_cmp k) e.0 ≡ false = grind (arith, nat_tests) in
          ap (λ b. places_of (cond b es (e ∷ remove_entry (is_at (nat_cmp k)) es))) there ∙ ap (λ l. place_at e ∷ l) rest)
    ] refl

marked_or : (k q : ℕ) (to : Option ℕ) (es : List (ℕ × Option ℕ)) → IsAscending (places_of es) → is_standing (if nat_eq k q then Some to else standing_at q es) ≡ (if nat_eq k q then is_some to else is_marked q (places_of es))
marked_or k q to es h = elim (nat_eq k q) as (λ b. is_standing (if b then Some to else standing_at q es) ≡ (if b then is_some to else is_marked q (places_of es))) [ true ↦ refl | false ↦ sym (is_marked-places q es h) ]

-- a change at one key, in the places
pub places_changed : (k : ℕ) (to : Option ℕ) (es fs : List (ℕ × Option ℕ)) (ps : List Place) → IsAscending (places_of es) → keys_of fs ≡ keys_of es → Changes k (Some to) es fs
    → map (λ (p : Place). p.key) ps ≡ keys_of es → ((q : ℕ) → is_marked q ps ≡ (if nat_eq k q then is_some to else is_marked q (places_of es))) → places_of fs ≡ ps
places_changed k to es fs ps h keys changes same marks =
    let up : IsAscending (places_of fs) = ascending_keys (places_of es) (places_of fs) (keys-places es ∙ sym keys ∙ sym (keys-places fs)) h in
    places_equal (places_of fs) ps (keys-places fs ∙ keys ∙ sym same) up (ascending_keys (places_of es) ps (keys-places es ∙ sym same) h)
    (λ q. is_marked-places q fs up ∙ ap is_standing (changes q) ∙ marked_or k q to es h ∙ sym (marks q))

still : (k q i : ℕ) (to : Option ℕ) (es fs : List (ℕ × Option ℕ)) → Changes k (Some to) es fs → (to ≡ Some i → ⊥) → standing_at q fs ≡ Some (Some i) → standing_at q es ≡ Some (Some i)
still k q i to es fs changes never h =
    elim (nat_eq k q) as (λ b. (if b then Some to else standing_at q es) ≡ Some (Some i) → standing_at q es ≡ Some (Some i)) [ true ↦ λ e. absurd (never (cc)) | false ↦ λ e. e ] (sym (changes q) ∙ h)

gone_not : (k q i : ℕ) (es fs : List (ℕ × Option ℕ)) → Changes k None es fs → standing_at q fs ≡ Some (Some i) → (nat_eq k q ≡ false) × (standing_at q es ≡ Some (Some i))
gone_not k q i es fs changes h =
    elim (nat_eq k q) as (λ b. (if b then None else standing_at q es) ≡ Some (Some i) → (b ≡ false) × (standing_at q es ≡ Some (Some i))) [ true ↦ λ e. absurd (cc) | false ↦ λ e. (refl, e) ] (sym (changes q) ∙ h)

unmarked_stay : (k q : ℕ) (ps : List Place) → is_marked k ps ≡ false → is_marked q ps ≡ (is_marked q ps && not (nat_eq q k))
unmarked_stay k q ps none =
    elim (nat_eq q k) as (λ b. nat_eq q k ≡ b → is_marked q ps ≡ (is_marked q ps && not b)) [
      | true ↦ λ is. (let same : k ≡ q = grind (arith, nat_tests) in let n : is_marked q ps ≡ false = ap (λ j. is_marked j ps) (sym same) ∙ none in grind (arith, nat_tests))
      | false ↦ λ is. grind (arith, nat_tests)
    ] refl

-- A place is opened.

pub opened : (k : ℕ) (es fs : List (ℕ × Option ℕ)) (ps : List ℕ) (cap more : ℕ) → IsBoard es ps cap → k < 2 ^ 64 - 1 → standing_at k es ≡ None → fs ≡ insert_entry nat_cmp es k None
    → Changes k (Some None) es fs → length fs ≤ more → (places_of fs ≡ after_open_place k (places_of es)) × IsBoard fs ps more
opened k es fs ps cap more b token none is changes room =
    let shut : is_open k (places_of es) ≡ false = is_open-places k es ∙ ap (λ o. is_some o) none in
    let view : places_of fs ≡ after_open_place k (places_of es) = ap (λ l. places_of l) is ∙ places_of-insert k es shut in (
      view,
      record {
        ascending = subst IsAscending (sym view) (IsAscending-open k (places_of es) token shut b.ascending);
        once = b.once;
        same = λ q. b.same q ∙ sym (is_marked-after_open q k (places_of es)) ∙ ap (λ l. is_marked q l) (sym view);
        standing = λ q i h. b.standing q i (still k q i None es fs changes (λ e. cc) h);
        room = room;
      },
    )

-- A place is closed.

pub closed_quiet : (k : ℕ) (es fs : List (ℕ × Option ℕ)) (ps : List ℕ) (cap : ℕ) → IsBoard es ps cap → is_standing (standing_at k es) ≡ false → fs ≡ remove_entry (is_at (nat_cmp k)) es
    → Changes k None es fs → length fs ≤ length es → (places_of fs ≡ after_close_place k (places_of es)) × IsBoard fs ps cap
closed_quiet k es fs ps cap b quiet is changes less =
    let view : places_of fs ≡ after_close_place k (places_of es) = ap (λ l. places_of l) is ∙ places_of-remove k es b.ascending in
    let none : is_marked k (places_of es) ≡ false = is_marked-places k es b.ascending ∙ quiet in (
      view,
      record {
        ascending = subst IsAscending (sym view) (IsAscending-filter (λ p. not (nat_eq p.key k)) (places_of es) b.ascending);
        once = b.once;
        same = λ q. b.same q ∙ unmarked_stay k q (places_of es) none ∙ sym (is_marked-after_close q k (places_of es)) ∙ ap (λ l. is_marked q l) (sym view);
        standing = λ q i h. b.standing q i (gone_not k q i es fs changes h).1;
        room = (let r = b.room in omega arith);
      },
    )

none_passes : (k : ℕ) (ks : List ℕ) → AllByRecursion (λ y. nat_eq k y ≡ false) ks → list_any (nat_eq k) ks ≡ false
none_passes k [] h = refl
none_passes k (j ∷ ks) h = let rest = none_passes k ks h.1 in let one : nat_eq k j ≡ false = h.0 in grind (arith, nat_tests)

pub member_at : (xs : List ℕ) (i : ℕ) (x d : ℕ) → i < length xs → get_or xs i d ≡ x → list_any (nat_eq x) xs ≡ true
member_at [] i x d lt is = absurd (omega arith)
member_at (y ∷ ys) zero x d lt is = let same : nat_eq x y ≡ true = grind (arith, nat_tests) in grind (arith, nat_tests)
member_at (y ∷ ys) (suc i) x d lt is = let rest = member_at ys i x d (omega arith) is in grind (arith, nat_tests)

-- the posted key that leaves the list, and the positions of the others then
pub record IsOut (ps qs : List ℕ) (i k : ℕ) : Type 0 where
  pub within : i < length ps
  pub here : (d : ℕ) → get_or ps i d ≡ k
  pub moves : IsPermutation ps (k ∷ qs)
  pub len : length qs + 1 ≡ length ps
  pub last : (d : ℕ) → i + 1 < length ps → get_or qs i d ≡ get_or ps (length ps - 1) d
  pub others : (j d : ℕ) → j ≢ i → j + 1 < length ps → get_or qs j d ≡ get_or ps j d

pub posted_is : (o : Option (Option ℕ)) (i : ℕ) → posted_at o ≡ Some i → o ≡ Some (Some i)
posted_is None i h = absurd (cc)
posted_is (Some a) i h = ap (λ b. Some b) h

pub out : (es : List (ℕ × Option ℕ)) (ps qs : List ℕ) (cap k i x m n : ℕ) → IsBoard es ps cap → posted_at (standing_at k es) ≡ Some i → x ≡ get_or ps i x → qs ≡ swap_remove ps i x → m ≡ length qs → n ≡ length ps → m + 1 ≡ n
    → ((d : ℕ) → i + 1 < n → get_or qs i d ≡ get_or ps (n - 1) d) → ((j d : ℕ) → j ≢ i → j + 1 < n → get_or qs j d ≡ get_or ps j d) → IsOut ps qs i k
out es ps qs cap k i x m n b at value items em en len last others =
    let s = b.standing k i (posted_is (standing_at k es) i at) in
    let same : x ≡ k = value ∙ s.1 x in
    record {
      within = s.0;
      here = s.1;
      moves = subst (λ l. IsPermutation ps (k ∷ l)) (sym (items ∙ ap (λ y. swap_remove ps i y) same)) (IsPermutation-swap_remove ps i k s.0 (sym (s.1 k)));
      len = omega arith;
      last = λ d h. last d (omega arith) ∙ ap (λ l. get_or ps (l - 1) d) en;
      others = λ j d apart h. others j d apart (omega arith);
    }

flips : (x y : ℕ) → nat_eq x y ≡ nat_eq y x
flips x y = grind (arith, nat_tests)

member_out : (k q : ℕ) (ps qs : List ℕ) (b : Bool) → nat_eq q k ≡ b → list_any (nat_eq q) ps ≡ (nat_eq q k || list_any (nat_eq q) qs) → list_any (nat_eq k) qs ≡ false → list_any (nat_eq q) qs ≡ (list_any (nat_eq q) ps && not b)
member_out k q ps qs true is h gone = let same : k ≡ q = grind (arith, nat_tests) in let n : list_any (nat_eq q) qs ≡ false = ap (λ j. list_any (nat_eq j) qs) (sym same) ∙ gone in grind (arith, nat_tests)
member_out k q ps qs false is h gone = grind (arith, nat_tests)

-- the place of a posted key is closed
pub closed_posted : (k i : ℕ) (es fs : List (ℕ × Option ℕ)) (ps qs : List ℕ) (cap : ℕ) → IsBoard es ps cap → IsOut ps qs i k → fs ≡ remove_entry (is_at (nat_cmp k)) es
    → (places_of fs ≡ after_close_place k (places_of es)) × IsAscending (places_of fs) × IsDistinct nat_eq qs × ((q : ℕ) → list_any (nat_eq q) qs ≡ is_marked q (places_of fs))
closed_posted k i es fs ps qs cap b o is =
    let view : places_of fs ≡ after_close_place k (places_of es) = ap (λ l. places_of l) is ∙ places_of-remove k es b.ascending in
    let both : IsDistinct nat_eq (k ∷ qs) = IsDistinct-IsPermutation nat_eq flips ps (k ∷ qs) o.moves b.once in
    let gone : list_any (nat_eq k) qs ≡ false = none_passes k qs (IsDistinct-head nat_eq k qs both) in (
      view,
      subst IsAscending (sym view) (IsAscending-filter (λ p. not (nat_eq p.key k)) (places_of es) b.ascending),
      IsDistinct-tail nat_eq k qs both,
      λ q. member_out k q ps qs (nat_eq q k) refl (list_any-IsPermutation (nat_eq q) ps (k ∷ qs) o.moves) gone ∙ ap (λ m. m && not (nat_eq q k)) (b.same q)
          ∙ sym (is_marked-after_close q k (places_of es)) ∙ ap (λ l. is_marked q l) (sym view),
    )

-- another posted key keeps its position, unless it was the last
stays : (k i q j : ℕ) (es fs : List (ℕ × Option ℕ)) (ps qs : List ℕ) (cap : ℕ) → IsBoard es ps cap → IsOut ps qs i k → Changes k None es fs → standing_at q fs ≡ Some (Some j)
    → (j + 1 ≡ length ps → ⊥) → (j < length qs) × ((d : ℕ) → get_or qs j d ≡ q)
stays k i q j es fs ps qs cap b o changes h before =
    let g = gone_not k q j es fs changes h in
    let s = b.standing q j g.1 in
    let lt : j < length ps = s.0 in
    let apart : j ≢ i = λ e. (let same : k ≡ q = sym (o.here 0) ∙ ap (λ n. get_or ps n 0) (sym e) ∙ s.1 0 in let ne = g.0 in absurd (grind (arith, nat_tests))) in
    let n = o.len in
    let early : j + 1 < length ps = omega arith in
    (omega arith, λ d. o.others j d apart early ∙ s.1 d)

pub closed_last : (k i : ℕ) (es fs : List (ℕ × Option ℕ)) (ps qs : List ℕ) (cap : ℕ) → IsBoard es ps cap → IsOut ps qs i k → fs ≡ remove_entry (is_at (nat_cmp k)) es
    → Changes k None es fs → length fs ≤ length es → length qs ≤ i → IsBoard fs qs cap
closed_last k i es fs ps qs cap b o is changes less end =
    let c = closed_posted k i es fs ps qs cap b o is in
    record {
      ascending = c.1;
      once = c.2;
      same = c.3;
      standing = λ q j h. stays k i q j es fs ps qs cap b o changes h (λ e. (let g = gone_not k q j es fs changes h in let s = b.standing q j g.1 in let n = o.len in let w = o.within in
          let at : j ≡ i = omega arith in
          let same : k ≡ q = sym (o.here 0) ∙ ap (λ m. get_or ps m 0) (sym at) ∙ s.1 0 in let ne = g.0 in absurd (grind (arith, nat_tests))));
      room = (let r = b.room in omega arith);
    }

pub moved_stands : (k i l : ℕ) (es fs : List (ℕ × Option ℕ)) (ps qs : List ℕ) (cap : ℕ) → IsBoard es ps cap → IsOut ps qs i k → fs ≡ remove_entry (is_at (nat_cmp k)) es
    → i < length qs → get_or qs i l ≡ l → is_standing (standing_at l fs) ≡ true
moved_stands k i l es fs ps qs cap b o is lt here =
    let c = closed_posted k i es fs ps qs cap b o is in
    sym (is_marked-places l fs c.1) ∙ sym (c.3 l) ∙ member_at qs i l l lt here

pub is_there : (o : Option (Option ℕ)) → is_standing o ≡ true → IsSome o
is_there None h = absurd (cc)
is_there (Some x) h = refl

kept_marks : (l q i : ℕ) (es : List (ℕ × Option ℕ)) → is_marked l (places_of es) ≡ true → is_marked q (places_of es) ≡ (if nat_eq l q then is_some (Some i) else is_marked q (places_of es))
kept_marks l q i es h =
    elim (nat_eq l q) as (λ b. nat_eq l q ≡ b → is_marked q (places_of es) ≡ (if b then true else is_marked q (places_of es))) [
      | true ↦ λ is. (let same : l ≡ q = grind (arith, nat_tests) in ap (λ j. is_marked j (places_of es)) (sym same) ∙ h)
      | false ↦ λ is. refl
    ] refl

moved_standing : (k i l q j : ℕ) (es fs gs : List (ℕ × Option ℕ)) (ps qs : List ℕ) (cap : ℕ) → IsBoard es ps cap → IsOut ps qs i k → Changes k None es fs → i < length qs
    → ((d : ℕ) → get_or qs i d ≡ l) → Changes l (Some (Some i)) fs gs → standing_at q gs ≡ Some (Some j) → (j < length qs) × ((d : ℕ) → get_or qs j d ≡ q)
moved_standing k i l q j es fs gs ps qs cap b o changes lt here more h =
    elim (nat_eq l q) as (λ t. nat_eq l q ≡ t → (if t then Some (Some i) else standing_at q fs) ≡ Some (Some j) → (j < length qs) × ((d : ℕ) → get_or qs j d ≡ q)) [
      | true ↦ λ is e. (let same : l ≡ q = grind (arith, nat_tests) in let at : i ≡ j = cc in
          (subst (λ n. n < length qs) at lt, λ d. ap (λ n. get_or qs n d) (sym at) ∙ here d ∙ same))
      | false ↦ λ is e. stays k i q j es fs ps qs cap b o changes e (λ end. (let n = o.len in
          let back : j ≡ length ps - 1 = omega arith in
          let early : i + 1 < length ps = omega arith in
          let same : l ≡ q = sym (here 0) ∙ o.last 0 early ∙ ap (λ m. get_or ps m 0) (sym back) ∙ (b.standing q j (gone_not k q j es fs changes e).1).1 0 in
          absurd (grind (arith, nat_tests))))
    ] refl (sym (more q) ∙ h)

pub closed_moved : (k i l : ℕ) (es fs gs : List (ℕ × Option ℕ)) (ps qs : List ℕ) (cap : ℕ) → IsBoard es ps cap → IsOut ps qs i k → fs ≡ remove_entry (is_at (nat_cmp k)) es
    → Changes k None es fs → length fs ≤ length es → i < length qs → get_or qs i l ≡ l → Changes l (Some (Some i)) fs gs → keys_of gs ≡ keys_of fs → length gs ≡ length fs
    → (places_of gs ≡ after_close_place k (places_of es)) × IsBoard gs qs cap
closed_moved k i l es fs gs ps qs cap b o is changes less lt here more keys same_len =
    let c = closed_posted k i es fs ps qs cap b o is in
    let marked : is_marked l (places_of fs) ≡ true = sym (c.3 l) ∙ member_at qs i l l lt here in
    let view : places_of gs ≡ places_of fs = places_changed l (Some i) fs gs (places_of fs) c.1 keys more (keys-places fs) (λ q. kept_marks l q i fs marked) in
    let stands : (d : ℕ) → get_or qs i d ≡ l = λ d. get_or_default qs i d l lt ∙ here in (
      view ∙ c.0,
      record {
        ascending = subst IsAscending (sym view) c.1;
        once = c.2;
        same = λ q. c.3 q ∙ ap (λ p. is_marked q p) (sym view);
        standing = λ q j h. moved_standing k i l q j es fs gs ps qs cap b o changes lt stands more h;
        room = (let r = b.room in omega arith);
      },
    )

-- A key is posted.

above_asleep : (j k : ℕ) (ps : List Place) → j ≤ k → AllAbove k ps → wakes j ps ≡ false
above_asleep j k [] le h = refl
above_asleep j k (p ∷ ps) le h =
    let rest = above_asleep j k ps le h.1 in
    let lt : k < p.key = h.0 in
    grind (arith, nat_tests)

pub wakes-places : (q : ℕ) (es : List (ℕ × Option ℕ)) → IsAscending (places_of es) → wakes q (places_of es) ≡ is_quiet (standing_at q es)
wakes-places q [] h = refl
wakes-places q (e ∷ es) h =
    let rest = wakes-places q es h.1 in
    let above = above_asleep e.0 e.0 (places_of es) (omega arith) h.0 in
    elim (nat_eq e.0 q) as (λ b. nat_eq e.0 q ≡ b → (b && not (is_some e.1) || wakes q (places_of es)) ≡ is_quiet (cond (is_at (nat_cmp q) e.0) (Some e.1) (standing_at q es))) [
      | true ↦ λ is. (let same : e.0 ≡ q = grind (arith, nat_tests) in
          let here : is_at (nat_cmp q) e.0 ≡ true = grind (arith, nat_tests) in
          let none : wakes q (places_of es) ≡ false = ap (λ k. wakes k (places_of es)) (sym same) ∙ above in
          grind (arith, nat_tests))
      | false ↦ λ is. (let there : is_at (nat_cmp q) e.0 ≡ false = grind (arith, nat_tests) in
          rest ∙ sym (ap (λ b. is_quiet (cond b (Some e.1) (standing_at q es))) there))
    ] refl

keys-posted : (k : ℕ) (ps : List Place) → map (λ (p : Place). p.key) (after_post k ps) ≡ map (λ (p : Place). p.key) ps
keys-posted k [] = refl
keys-posted k (p ∷ ps) = ap (λ l. p.key ∷ l) (keys-posted k ps)

open_or : (k q : ℕ) (es : List (ℕ × Option ℕ)) → is_open k (places_of es) ≡ true → (is_marked q (places_of es) || (nat_eq q k && is_open q (places_of es))) ≡ (if nat_eq k q then true else is_marked q (places_of es))
open_or k q es shown =
    elim (nat_eq k q) as (λ b. nat_eq k q ≡ b → (is_marked q (places_of es) || (nat_eq q k && is_open q (places_of es))) ≡ (if b then true else is_marked q (places_of es))) [
      | true ↦ λ is. (let same : k ≡ q = grind (arith, nat_tests) in let o : is_open q (places_of es) ≡ true = ap (λ j. is_open j (places_of es)) (sym same) ∙ shown in grind (arith, nat_tests))
      | false ↦ λ is. grind (arith, nat_tests)
    ] refl

pushed_or : (k q : ℕ) (b : Bool) → (b || (nat_eq q k || false)) ≡ (if nat_eq k q then true else b)
pushed_or k q b = grind (arith, nat_tests)

marked_standing : (k q j : ℕ) (es fs : List (ℕ × Option ℕ)) (ps : List ℕ) (cap : ℕ) → IsBoard es ps cap → Changes k (Some (Some (length ps))) es fs → standing_at q fs ≡ Some (Some j)
    → (j < length (ps ++ k ∷ [])) × ((d : ℕ) → get_or (ps ++ k ∷ []) j d ≡ q)
marked_standing k q j es fs ps cap b changes h =
    let n = length_push ps k in
    elim (nat_eq k q) as (λ t. nat_eq k q ≡ t → (if t then Some (Some (length ps)) else standing_at q es) ≡ Some (Some j) → (j < length (ps ++ k ∷ [])) × ((d : ℕ) → get_or (ps ++ k ∷ []) j d ≡ q)) [
      | true ↦ λ is e. (let same : k ≡ q = grind (arith, nat_tests) in let at : length ps ≡ j = cc in (omega arith, λ d. get_or_push ps k d j at ∙ same))
      | false ↦ λ is e. (let s = b.standing q j e in let lt : j < length ps = s.0 in (omega arith, λ d. get_or_append_left ps (k ∷ []) d j lt ∙ s.1 d))
    ] refl (sym (changes q) ∙ h)

pub marked : (k n : ℕ) (es fs : List (ℕ × Option ℕ)) (ps qs : List ℕ) (cap more : ℕ) → IsBoard es ps cap → standing_at k es ≡ Some None → n ≡ length ps → (IsSome (standing_at k es) → Changes k (Some (Some n)) es fs)
    → keys_of fs ≡ keys_of es → length fs ≡ length es → qs ≡ ps ++ k ∷ [] → cap ≤ more → (places_of fs ≡ after_post k (places_of es)) × IsBoard fs qs more
marked k n es fs ps qs cap more b quiet count does keys len is le =
    let changes : Changes k (Some (Some (length ps))) es fs = subst (λ m. Changes k (Some (Some m)) es fs) count (does (subst (λ o. IsSome o) (sym quiet) refl)) in
    let shown : is_open k (places_of es) ≡ true = is_open-places k es ∙ ap (λ o. is_some o) quiet in
    let view : places_of fs ≡ after_post k (places_of es) =
    places_changed k (Some (length ps)) es fs (after_post k (places_of es)) b.ascending keys changes (keys-posted k (places_of es) ∙ keys-places es)
    (λ q. is_marked-after_post q k (places_of es) ∙ open_or k q es shown) in
    let new : list_any (nat_eq k) ps ≡ false = b.same k ∙ is_marked-places k es b.ascending ∙ ap (λ o. is_standing o) quiet in (
      view,
      record {
        ascending = ascending_keys (places_of es) (places_of fs) (keys-places es ∙ sym keys ∙ sym (keys-places fs)) b.ascending;
        once = subst (λ l. IsDistinct nat_eq l) (sym is) (IsDistinct-push nat_eq_equiv ps k b.once new);
        same = λ q. ap (λ l. list_any (nat_eq q) l) is ∙ list_any-append (nat_eq q) ps (k ∷ []) ∙ pushed_or k q (list_any (nat_eq q) ps) ∙ ap (λ m. if nat_eq k q then true else m) (b.same q)
            ∙ sym (open_or k q es shown) ∙ sym (is_marked-after_post q k (places_of es)) ∙ ap (λ l. is_marked q l) (sym view);
        standing = λ q j h. subst (λ l. (j < length l) × ((d : ℕ) → get_or l j d ≡ q)) (sym is) (marked_standing k q j es fs ps cap b changes h);
        room = (let r = b.room in omega arith);
      },
    )

pub quiet_is : (o : Option (Option ℕ)) → is_quiet o ≡ true → o ≡ Some None
quiet_is None h = absurd (cc)
quiet_is (Some None) h = refl
quiet_is (Some (Some i)) h = absurd (cc)

pub not_posted : (o : Option (Option ℕ)) → posted_at o ≡ None → is_standing o ≡ false
not_posted None h = refl
not_posted (Some a) h = ap (λ b. is_some b) h

loud : (o : Option (Option ℕ)) → is_quiet o ≡ false → is_some o ≡ true → is_standing o ≡ true
loud None h e = absurd (cc)
loud (Some None) h e = absurd (cc)
loud (Some (Some i)) h e = refl

joined : (a b : Bool) → (b ≡ true → a ≡ true) → a ≡ (a || b)
joined true b h = refl
joined false true h = h refl
joined false false h = refl

posted_twice : (k q : ℕ) (es : List (ℕ × Option ℕ)) → IsAscending (places_of es) → is_quiet (standing_at k es) ≡ false → is_marked q (places_of es) ≡ (is_marked q (places_of es) || (nat_eq q k && is_open q (places_of es)))
posted_twice k q es h quiet =
    elim (nat_eq q k) as (λ b. nat_eq q k ≡ b → is_marked q (places_of es) ≡ (is_marked q (places_of es) || (b && is_open q (places_of es)))) [
      | true ↦ λ is. (let same : k ≡ q = grind (arith, nat_tests) in
          let loudly : is_open q (places_of es) ≡ true → is_marked q (places_of es) ≡ true = λ e. is_marked-places q es h ∙ loud (standing_at q es) (ap (λ j. is_quiet (standing_at j es)) (sym same) ∙ quiet) (sym (is_open-places q es) ∙ e) in
          joined (is_marked q (places_of es)) (is_open q (places_of es)) loudly)
      | false ↦ λ is. grind (arith, nat_tests)
    ] refl

-- a post of a key that has no place, or is posted, marks nothing
pub not_anew : (k : ℕ) (es : List (ℕ × Option ℕ)) → IsAscending (places_of es) → is_quiet (standing_at k es) ≡ false → places_of es ≡ after_post k (places_of es)
not_anew k es h quiet =
    places_equal (places_of es) (after_post k (places_of es)) (sym (keys-posted k (places_of es))) h (ascending_keys (places_of es) (after_post k (places_of es)) (sym (keys-posted k (places_of es))) h)
    (λ q. posted_twice k q es h quiet ∙ sym (is_marked-after_post q k (places_of es)))

same_lookup : (q : ℕ) (es : List (ℕ × Option ℕ)) → lookup (nat_eq q) es ≡ standing_at q es
same_lookup q [] = refl
same_lookup q (e ∷ es) = ap (λ o. cond (nat_eq q e.0) (Some e.1) o) (same_lookup q es) ∙ sym (ap (λ b. cond b (Some e.1) (standing_at q es)) (at_eq q e.0))

is_here : (k q : ℕ) (es : List (ℕ × Option ℕ)) (b : Bool) → (b || (nat_eq q k || false)) ≡ true → standing_at k es ≡ Some None → (b ≡ true → is_standing (standing_at q es) ≡ true) → IsSome (lookup (nat_eq q) es)
is_here k q es true h quiet m = subst (λ o. IsSome o) (sym (same_lookup q es)) (is_there (standing_at q es) (m refl))
is_here k q es false h quiet m =
    let same : k ≡ q = grind (arith, nat_tests) in
    subst (λ o. IsSome o) (sym (same_lookup q es ∙ ap (λ j. standing_at j es) (sym same) ∙ quiet)) refl

-- there is room for a key that isn't posted yet
pub room_left : (k : ℕ) (es : List (ℕ × Option ℕ)) (ps : List ℕ) (cap : ℕ) → IsBoard es ps cap → standing_at k es ≡ Some None → length ps < length es
room_left k es ps cap b quiet =
    let new : list_any (nat_eq k) ps ≡ false = b.same k ∙ is_marked-places k es b.ascending ∙ ap (λ o. is_standing o) quiet in
    let both : IsDistinct nat_eq (ps ++ k ∷ []) = IsDistinct-push nat_eq_equiv ps k b.once new in
    let le = length-le_from_keys nat_eq_equiv (ps ++ k ∷ []) es both (λ q h. is_here k q es (list_any (nat_eq q) ps) (sym (list_any-append (nat_eq q) ps (k ∷ [])) ∙ h) quiet (λ m. sym (is_marked-places q es b.ascending) ∙ sym (b.same q) ∙ m)) in
    let n = length_push ps k in
    omega arith

-- Positions of keys in a list.

pub list_any-posted : (q : ℕ) (ps : List Place) → list_any (nat_eq q) (posted_keys ps) ≡ is_marked q ps
list_any-posted q [] = refl
list_any-posted q (p ∷ ps) =
    let rest = list_any-posted q ps in
    elim p.marked as (λ b. list_any (nat_eq q) (map (λ (r : Place). r.key) (cond b (p ∷ filter (λ r. r.marked) ps) (filter (λ r. r.marked) ps))) ≡ (nat_eq p.key q && b || is_marked q ps)) [
      | true ↦ grind (arith, nat_tests)
      | false ↦ grind (arith, nat_tests)
    ]

abbrev found_or : Option ℕ → Option ℕ → Option ℕ
found_or None o = o
found_or (Some i) o = Some i

found_none : (o : Option ℕ) → o ≡ found_or o None
found_none None = refl
found_none (Some i) = refl

map_found : (b : Bool) (n : ℕ) (o : Option ℕ) → option_map (λ i. suc i) (found_or o (if b then Some n else None)) ≡ found_or (option_map (λ i. suc i) o) (if b then Some (suc n) else None)
map_found true n None = refl
map_found false n None = refl
map_found b n (Some i) = refl

some_mapped : (o : Option ℕ) → is_some (option_map (λ (i : ℕ). suc i) o) ≡ is_some o
some_mapped None = refl
some_mapped (Some i) = refl

none_is : (o : Option ℕ) → is_some o ≡ false → o ≡ None
none_is None h = refl
none_is (Some i) h = absurd (cc)

map_is : (o : Option ℕ) (i : ℕ) → option_map (λ (j : ℕ). suc j) o ≡ Some i → (j : ℕ) × (o ≡ Some j) × (suc j ≡ i)
map_is None i h = absurd (cc)
map_is (Some j) i h = (j, refl, cc)

other_at : (x : ℕ) (xs : List ℕ) (i d : ℕ) → i < length xs → list_any (nat_eq x) xs ≡ false → nat_eq x (get_or xs i d) ≡ false
other_at x [] i d lt h = absurd (omega arith)
other_at x (y ∷ ys) zero d lt h = grind (arith, nat_tests)
other_at x (y ∷ ys) (suc i) d lt h = let rest : list_any (nat_eq x) ys ≡ false = grind (arith, nat_tests) in other_at x ys i d (omega arith) rest

pub list_any-index : (q : ℕ) (xs : List ℕ) → list_any (nat_eq q) xs ≡ is_some (index_of q xs)
list_any-index q [] = refl
list_any-index q (x ∷ xs) =
    let rest = list_any-index q xs in
    elim (nat_eq x q) as (λ b. nat_eq x q ≡ b → (nat_eq q x || list_any (nat_eq q) xs) ≡ is_some (if b then Some 0 else option_map (λ i. suc i) (index_of q xs))) [
      | true ↦ λ is. grind (arith, nat_tests)
      | false ↦ λ is. (let other : nat_eq q x ≡ false = flips q x ∙ is in ap (λ b. b || list_any (nat_eq q) xs) other ∙ rest ∙ sym (some_mapped (index_of q xs)))
    ] refl

index_none : (q : ℕ) (xs : List ℕ) → list_any (nat_eq q) xs ≡ false → index_of q xs ≡ None
index_none q xs h = none_is (index_of q xs) (sym (list_any-index q xs) ∙ h)

-- the position at which it is found
pub index_is : (q i d : ℕ) (xs : List ℕ) → index_of q xs ≡ Some i → (i < length xs) × (get_or xs i d ≡ q)
index_is q i d [] h = absurd (cc)
index_is q i d (x ∷ xs) h =
    elim (nat_eq x q) as (λ b. nat_eq x q ≡ b → (if b then Some 0 else option_map (λ i. suc i) (index_of q xs)) ≡ Some i → (i < suc (length xs)) × (get_or (x ∷ xs) i d ≡ q)) [
      | true ↦ λ is e. (let z : 0 ≡ i = cc in let same : x ≡ q = grind (arith, nat_tests) in (omega arith, ap (λ n. get_or (x ∷ xs) n d) (sym z) ∙ same))
      | false ↦ λ is e. (let s = map_is (index_of q xs) i e in let r = index_is q s.0 d xs s.1 in let lt : s.0 < length xs = r.0 in let up : suc s.0 ≡ i = s.2 in
          (omega arith, ap (λ n. get_or (x ∷ xs) n d) (sym up) ∙ r.1))
    ] refl h

-- with another key
pub index_of-push : (q k : ℕ) (xs : List ℕ) → index_of q (xs ++ k ∷ []) ≡ found_or (index_of q xs) (if nat_eq k q then Some (length xs) else None)
index_of-push q k [] = elim (nat_eq k q) as (λ b. ◌≡◌ {A = Option ℕ} (if b then Some 0 else None) (if b then Some 0 else None)) [ true ↦ refl | false ↦ refl ]
index_of-push q k (x ∷ xs) =
    let rest = index_of-push q k xs in
    elim (nat_eq x q) as (λ b. ◌≡◌ {A = Option ℕ} (if b then Some 0 else option_map (λ i. suc i) (index_of q (xs ++ k ∷ []))) (found_or (if b then Some 0 else option_map (λ i. suc i) (index_of q xs)) (if nat_eq k q then Some (suc (length xs)) else None))) [
      | true ↦ refl
      | false ↦ ap (λ o. option_map (λ i. suc i) o) rest ∙ map_found (nat_eq k q) (length xs) (index_of q xs)
    ]

pub fresh_at : (xs : List ℕ) (i d : ℕ) → IsDistinct nat_eq xs → i < length xs → index_of (get_or xs i d) (take i xs) ≡ None
fresh_at [] i d h lt = absurd (omega arith)
fresh_at (x ∷ xs) zero d h lt = refl
fresh_at (x ∷ xs) (suc i) d h lt =
    let rest = fresh_at xs i d (IsDistinct-tail nat_eq x xs h) (omega arith) in
    let gone = none_passes x xs (IsDistinct-head nat_eq x xs h) in
    let apart : nat_eq x (get_or xs i d) ≡ false = other_at x xs i d (omega arith) gone in
    ap (λ b. if b then Some 0 else option_map (λ i. suc i) (index_of (get_or xs i d) (take i xs))) apart ∙ ap (λ o. option_map (λ i. suc i) o) rest

-- another key is noted
pub noted_more : (gone i q d : ℕ) (at : Option ℕ) (xs : List ℕ) (before : Option (Option ℕ)) → IsDistinct nat_eq xs → i < length xs → at ≡ left_at gone i
    → (if nat_eq (get_or xs i d) q then Some at else place_after gone (index_of q (take i xs)) before) ≡ place_after gone (index_of q (take (i + 1) xs)) before
noted_more gone i q d at xs before once lt is =
    let k = get_or xs i d in
    let len : length (take i xs) ≡ i = length-take-le i xs (omega arith) in
    let more : index_of q (take (i + 1) xs) ≡ found_or (index_of q (take i xs)) (if nat_eq (get_or xs i d) q then Some i else None) =
    ap (λ l. index_of q l) (take_more xs i d lt) ∙ index_of-push q k (take i xs) ∙ ap (λ n. found_or (index_of q (take i xs)) (if nat_eq (get_or xs i d) q then Some n else None)) len in
    elim (nat_eq (get_or xs i d) q) as (λ b. nat_eq (get_or xs i d) q ≡ b → (if b then Some at else place_after gone (index_of q (take i xs)) before) ≡ place_after gone (found_or (index_of q (take i xs)) (if b then Some i else None)) before) [
      | true ↦ λ e. (let same : get_or xs i d ≡ q = grind (arith, nat_tests) in
          let none : index_of q (take i xs) ≡ None = ap (λ n. index_of n (take i xs)) (sym same) ∙ fresh_at xs i d once lt in
          ap (λ o. Some o) is ∙ sym (ap (λ o. place_after gone (found_or o (Some i)) before) none))
      | false ↦ λ e. ap (λ o. place_after gone o before) (found_none (index_of q (take i xs)))
    ] refl ∙ sym (ap (λ o. place_after gone o before) more)

pub left_by : (r : Option ℕ) (gone i : ℕ) → SomeIff r (gone ≤ i) (i - gone) → r ≡ left_at gone i
left_by None gone i h = (let lt : nat_lt i gone ≡ true = lt-ltb i gone (omega (arith, h)) in sym (ap (λ b. if b then None else Some (i - gone)) lt))
left_by (Some x) gone i h = (let le : nat_lt i gone ≡ false = le-ltb i gone h.0 in ap (λ o. Some o) h.1 ∙ sym (ap (λ b. if b then None else Some (i - gone)) le))

-- What is left after keys are taken.

bound_above : (room k : ℕ) (ps : List Place) → AllAbove k ps → k < bound room ps
bound_above room k [] h = h
bound_above zero k (p ∷ ps) h =
    elim p.marked as (λ b. k < (if b then p.key else bound zero ps)) [ true ↦ h.0 | false ↦ bound_above zero k ps h.1 ]
bound_above (suc room) k (p ∷ ps) h =
    elim p.marked as (λ b. k < (if b then bound room ps else bound (suc room) ps)) [ true ↦ bound_above room k ps h.1 | false ↦ bound_above (suc room) k ps h.1 ]

none_taken : (b : ℕ) (ps : List Place) → AllAbove b ps → taken_keys b ps ≡ []
none_taken b [] h = refl
none_taken b (p ∷ ps) h =
    let rest = none_taken b ps h.1 in
    let high : nat_lt p.key b ≡ false = le-ltb p.key b (omega (arith, h.0)) in
    let out : is_taken b p ≡ false = grind (arith, nat_tests) in
    ap (λ t. map (λ (q : Place). q.key) (cond t (p ∷ filter (is_taken b) ps) (filter (is_taken b) ps))) out ∙ rest

and_true : (b : Bool) → (b && not false) ≡ b
and_true true = refl
and_true false = refl

none_unmarked : (b : ℕ) (ps : List Place) → AllAbove b ps → after_unpost b ps ≡ ps
none_unmarked b [] h = refl
none_unmarked b (p ∷ ps) h =
    let rest = none_unmarked b ps h.1 in
    let high : nat_lt p.key b ≡ false = le-ltb p.key b (omega (arith, h.0)) in
    ap (λ (q : Place). q ∷ after_unpost b ps) (same_place (without_mark b p) p refl (ap (λ t. p.marked && not t) high ∙ and_true p.marked)) ∙ ap (λ l. p ∷ l) rest

first_taken : (b k : ℕ) (m : Bool) (ps : List Place) → (m && nat_lt k b) ≡ true → taken_keys b (record { key = k; marked = m } ∷ ps) ≡ k ∷ taken_keys b ps
first_taken b k m ps h = ap (λ t. map (λ (q : Place). q.key) (cond t (record { key = k; marked = m } ∷ filter (is_taken b) ps) (filter (is_taken b) ps))) h

first_left : (b k : ℕ) (m : Bool) (ps : List Place) → (m && nat_lt k b) ≡ false → taken_keys b (record { key = k; marked = m } ∷ ps) ≡ taken_keys b ps
first_left b k m ps h = ap (λ t. map (λ (q : Place). q.key) (cond t (record { key = k; marked = m } ∷ filter (is_taken b) ps) (filter (is_taken b) ps))) h

take_none : (ks : List ℕ) → take 0 ks ≡ []
take_none [] = refl
take_none (k ∷ ks) = refl

-- the first of the posted keys are taken
taken_at : (room k : ℕ) (m : Bool) (ps : List Place) → AllAbove k ps → ((n : ℕ) → keys_within n ps ≡ take n (posted_keys ps)) → keys_within room (record { key = k; marked = m } ∷ ps) ≡ take room (posted_keys (record { key = k; marked = m } ∷ ps))
taken_at zero k false ps h rest = rest zero
taken_at (suc room) k false ps h rest = rest (suc room)
taken_at zero k true ps h rest =
    let low : nat_lt k k ≡ false = grind arith in
    first_left k k true ps low ∙ none_taken k ps h
taken_at (suc room) k true ps h rest =
    let low : nat_lt k (bound room ps) ≡ true = lt-ltb k (bound room ps) (bound_above room k ps h) in
    first_taken (bound room ps) k true ps low ∙ ap (λ l. k ∷ l) (rest room)

pub keys_taken : (room : ℕ) (ps : List Place) → IsAscending ps → keys_within room ps ≡ take room (posted_keys ps)
keys_taken zero [] h = refl
keys_taken (suc room) [] h = refl
keys_taken room (p ∷ ps) h = taken_at room p.key p.marked ps h.0 (λ n. keys_taken n ps h.1)

-- and the others stay
left_here : (room k : ℕ) (m : Bool) (ps : List Place) → AllAbove k ps → ((n : ℕ) → posted_keys (after_unpost (bound n ps) ps) ≡ drop n (posted_keys ps))
    → posted_keys (after_unpost (bound room (record { key = k; marked = m } ∷ ps)) (record { key = k; marked = m } ∷ ps)) ≡ drop room (posted_keys (record { key = k; marked = m } ∷ ps))
left_here zero k false ps h rest = rest zero
left_here (suc room) k false ps h rest = rest (suc room)
left_here zero k true ps h rest =
    let low : nat_lt k k ≡ false = grind arith in
    ap (λ t. map (λ (q : Place). q.key) (cond (not t) (record { key = k; marked = not t } ∷ filter (λ (q : Place). q.marked) (after_unpost k ps)) (filter (λ (q : Place). q.marked) (after_unpost k ps)))) low
    ∙ ap (λ l. k ∷ posted_keys l) (none_unmarked k ps h)
left_here (suc room) k true ps h rest =
    let low : nat_lt k (bound room ps) ≡ true = lt-ltb k (bound room ps) (bound_above room k ps h) in
    ap (λ t. map (λ (q : Place). q.key) (cond (not t) (record { key = k; marked = not t } ∷ filter (λ (q : Place). q.marked) (after_unpost (bound room ps) ps)) (filter (λ (q : Place). q.marked) (after_unpost (bound room ps) ps)))) low
    ∙ rest room

pub keys_left : (room : ℕ) (ps : List Place) → IsAscending ps → posted_keys (after_unpost (bound room ps) ps) ≡ drop room (posted_keys ps)
keys_left zero [] h = refl
keys_left (suc room) [] h = refl
keys_left room (p ∷ ps) h = left_here room p.key p.marked ps h.0 (λ n. keys_left n ps h.1)

-- The list is sorted, as the places are.

greater : (k : ℕ) (ks : List ℕ) → AllGreater k ks → AllByRecursion (λ y. nat_cmp k y ≡ Less) ks
greater k [] h = tt
greater k (j ∷ js) h = ((let lt : k < j = h.0 in grind (arith, nat_tests)), greater k js h.1)

rises : (ks : List ℕ) → IsRising ks → IsStrictlySortedBy nat_cmp ks
unfolding IsStrictlySortedBy
rises [] h = tt
rises (k ∷ ks) h = (greater k ks h.0, rises ks h.1)

same_any : (q : ℕ) (ks : List ℕ) → list_any (is_at (nat_cmp q)) ks ≡ list_any (nat_eq q) ks
same_any q [] = refl
same_any q (k ∷ ks) = ap (λ b. b || list_any (is_at (nat_cmp q)) ks) (at_eq q k) ∙ ap (λ b. nat_eq q k || b) (same_any q ks)

pub sorted_once : (es : List (ℕ × Option ℕ)) (ps s : List ℕ) (cap : ℕ) → IsBoard es ps cap → IsPermutation ps s → IsDistinct nat_eq s
sorted_once es ps s cap b moves = IsDistinct-IsPermutation nat_eq flips ps s moves b.once

pub sorted_is : (es : List (ℕ × Option ℕ)) (ps s : List ℕ) (cap : ℕ) → IsBoard es ps cap → IsPermutation ps s → IsSorted nat_cmp s → s ≡ posted_keys (places_of es)
sorted_is es ps s cap b moves sorted =
    let once = sorted_once es ps s cap b moves in
    let up : IsStrictlySortedBy nat_cmp s = sorted_from_strictly_increasing s (IsStrictlyIncreasing-from_distinct s (IsNonDecreasingBy-from_sort (λ x. x) s sorted) once) in
    let keys = posted_keys (places_of es) in
    let rising : IsStrictlySortedBy nat_cmp keys = rises keys (keys-rising (filter (λ p. p.marked) (places_of es)) (IsAscending-filter (λ p. p.marked) (places_of es) b.ascending)) in
    btree_set_from_contains nat_cmp_total (record { keys = s }) (record { keys = keys }) up rising
    (λ q. same_any q s ∙ sym (list_any-IsPermutation (nat_eq q) ps s moves) ∙ b.same q ∙ sym (list_any-posted q (places_of es)) ∙ sym (same_any q keys)) exact_unsigned

-- The rest of it.

distinct_drop : (n : ℕ) (ks : List ℕ) → IsDistinct nat_eq ks → IsDistinct nat_eq (drop n ks)
distinct_drop zero [] h = h
distinct_drop zero (k ∷ ks) h = h
distinct_drop (suc n) [] h = h
distinct_drop (suc n) (k ∷ ks) h = distinct_drop n ks (IsDistinct-tail nat_eq k ks h)

abbrev is_left : (gone : ℕ) → Option ℕ → Bool
is_left gone None = false
is_left gone (Some i) = not (nat_lt i gone)

left_mapped : (n : ℕ) (o : Option ℕ) → is_left (suc n) (option_map (λ (i : ℕ). suc i) o) ≡ is_left n o
left_mapped n None = refl
left_mapped n (Some i) = grind (arith, nat_tests)

all_left : (o : Option ℕ) → is_some o ≡ is_left 0 o
all_left None = refl
all_left (Some i) = grind (arith, nat_tests)

any_dropped : (q n : ℕ) (ks : List ℕ) → IsDistinct nat_eq ks → list_any (nat_eq q) (drop n ks) ≡ is_left n (index_of q ks)
any_dropped q zero [] h = refl
any_dropped q zero (k ∷ ks) h = list_any-index q (k ∷ ks) ∙ all_left (index_of q (k ∷ ks))
any_dropped q (suc n) [] h = refl
any_dropped q (suc n) (k ∷ ks) h =
    let rest = any_dropped q n ks (IsDistinct-tail nat_eq k ks h) in
    let gone = none_passes k ks (IsDistinct-head nat_eq k ks h) in
    elim (nat_eq k q) as (λ b. nat_eq k q ≡ b → list_any (nat_eq q) (drop n ks) ≡ is_left (suc n) (if b then Some 0 else option_map (λ i. suc i) (index_of q ks))) [
      | true ↦ λ is. (let same : k ≡ q = grind (arith, nat_tests) in
          let none : index_of q ks ≡ None = index_none q ks (ap (λ j. list_any (nat_eq j) ks) (sym same) ∙ gone) in
          let low : nat_lt 0 (suc n) ≡ true = lt-ltb 0 (suc n) (omega arith) in
          rest ∙ ap (λ o. is_left n o) none ∙ sym (ap (λ t. not t) low))
      | false ↦ λ is. rest ∙ sym (left_mapped n (index_of q ks))
    ] refl

standing_left : (gone : ℕ) (o : Option ℕ) (before : Option (Option ℕ)) → (o ≡ None → is_standing before ≡ false) → is_standing (place_after gone o before) ≡ is_left gone o
standing_left gone None before h = h refl
standing_left gone (Some i) before h = elim (nat_lt i gone) as (λ b. is_some (if b then None else Some (i - gone)) ≡ not b) [ true ↦ refl | false ↦ refl ]

stands_left : (gone q j : ℕ) (o : Option ℕ) (before : Option (Option ℕ)) (ks : List ℕ) → ((i d : ℕ) → o ≡ Some i → (i < length ks) × (get_or ks i d ≡ q)) → (o ≡ None → is_standing before ≡ false)
    → place_after gone o before ≡ Some (Some j) → (j < length (drop gone ks)) × ((d : ℕ) → get_or (drop gone ks) j d ≡ q)
stands_left gone q j None before ks found never h = absurd (let n : is_standing before ≡ false = never refl in let y : is_standing before ≡ true = ap (λ o. is_standing o) h in cc)
stands_left gone q j (Some i) before ks found never h =
    elim (nat_lt i gone) as (λ b. nat_lt i gone ≡ b → Some (if b then None else Some (i - gone)) ≡ Some (Some j) → (j < length (drop gone ks)) × ((d : ℕ) → get_or (drop gone ks) j d ≡ q)) [
      | true ↦ λ is e. absurd (cc)
      | false ↦ λ is e. (let at : i - gone ≡ j = cc in let le : gone ≤ i = ltb-false i gone is in let lt : i < length ks = (found i 0 refl).0 in let n = length-drop gone ks in let up : gone + j ≡ i = omega arith in
          (omega arith, λ d. get_or-drop gone ks j d ∙ ap (λ m. get_or ks m d) up ∙ (found i d refl).1))
    ] refl h

keys_unposted : (b : ℕ) (ps : List Place) → map (λ (p : Place). p.key) (after_unpost b ps) ≡ map (λ (p : Place). p.key) ps
keys_unposted b [] = refl
keys_unposted b (p ∷ ps) = ap (λ l. p.key ∷ l) (keys_unposted b ps)

pub unposted : (room gone : ℕ) (es fs : List (ℕ × Option ℕ)) (ps s : List ℕ) (cap : ℕ) → IsBoard es ps cap → IsPermutation ps s → IsSorted nat_cmp s
    → ((q : ℕ) → standing_at q fs ≡ place_after gone (index_of q s) (standing_at q es)) → keys_of fs ≡ keys_of es → gone ≡ min room (length s)
    → (places_of fs ≡ after_unpost (bound room (places_of es)) (places_of es)) × IsBoard fs (drop gone s) cap
unposted room gone es fs ps s cap b moves sorted standing keys is =
    let once = sorted_once es ps s cap b moves in
    let all = sorted_is es ps s cap b moves sorted in
    let up : IsAscending (places_of fs) = ascending_keys (places_of es) (places_of fs) (keys-places es ∙ sym keys ∙ sym (keys-places fs)) b.ascending in
    let never : (q : ℕ) → index_of q s ≡ None → is_standing (standing_at q es) ≡ false =
    λ q none. sym (is_marked-places q es b.ascending) ∙ sym (b.same q) ∙ list_any-IsPermutation (nat_eq q) ps s moves ∙ list_any-index q s ∙ ap (λ o. is_some o) none in
    let same : (q : ℕ) → is_marked q (places_of fs) ≡ list_any (nat_eq q) (drop gone s) =
    λ q. is_marked-places q fs up ∙ ap is_standing (standing q) ∙ standing_left gone (index_of q s) (standing_at q es) (never q) ∙ sym (any_dropped q gone s once) in
    let after = after_unpost (bound room (places_of es)) (places_of es) in
    let dropped : drop gone s ≡ posted_keys after = ap (λ n. drop n s) is ∙ drop_min room s ∙ ap (λ l. drop room l) all ∙ sym (keys_left room (places_of es) b.ascending) in
    let view : places_of fs ≡ after =
    places_equal (places_of fs) after (keys-places fs ∙ keys ∙ sym (keys-places es) ∙ sym (keys_unposted (bound room (places_of es)) (places_of es))) up
    (ascending_keys (places_of es) after (sym (keys_unposted (bound room (places_of es)) (places_of es))) b.ascending)
    (λ q. same q ∙ ap (λ l. list_any (nat_eq q) l) dropped ∙ list_any-posted q after) in
    let len : length fs ≡ length es = sym (length-map fs (λ (e : ℕ × Option ℕ). e.0)) ∙ ap (λ (l : List ℕ). length l) keys ∙ length-map es (λ (e : ℕ × Option ℕ). e.0) in (
      view,
      record {
        ascending = up;
        once = distinct_drop gone s once;
        same = λ q. sym (same q);
        standing = λ q j h. stands_left gone q j (index_of q s) (standing_at q es) s (λ i d e. index_is q i d s e) (never q) (sym (standing q) ∙ h);
        room = (let r = b.room in omega arith);
      },
    )

pub taken_are : (room gone : ℕ) (es : List (ℕ × Option ℕ)) (ps s : List ℕ) (cap : ℕ) → IsBoard es ps cap → IsPermutation ps s → IsSorted nat_cmp s → gone ≡ min room (length s)
    → take gone s ≡ keys_within room (places_of es)
taken_are room gone es ps s cap b moves sorted is =
    ap (λ n. take n s) is ∙ take_min room s ∙ ap (λ l. take room l) (sorted_is es ps s cap b moves sorted) ∙ sym (keys_taken room (places_of es) b.ascending)

pub listed_open : (es : List (ℕ × Option ℕ)) (ps s : List ℕ) (cap : ℕ) → IsBoard es ps cap → IsPermutation ps s → (q : ℕ) → list_any (nat_eq q) s ≡ true → IsSome (standing_at q es)
listed_open es ps s cap b moves q h = is_there (standing_at q es) (sym (is_marked-places q es b.ascending) ∙ sym (b.same q) ∙ list_any-IsPermutation (nat_eq q) ps s moves ∙ h)

-- A board with no place, and a look at one.

pub fresh : (es : List (ℕ × Option ℕ)) (ps : List ℕ) (cap : ℕ) → es ≡ [] → ps ≡ [] → IsBoard es ps cap
fresh es ps cap e f =
    subst (λ (l : List (ℕ × Option ℕ)). IsBoard l ps cap) (sym e) (subst (λ (l : List ℕ). IsBoard [] l cap) (sym f) (record {
      ascending = tt;
      once = IsDistinct-from_apart nat_eq [] (λ i j d lt within. absurd (omega arith));
      same = λ q. refl;
      standing = λ q i h. absurd (cc);
      room = omega arith;
    }))

no_mark : (ps : List Place) → ((q : ℕ) → is_marked q ps ≡ false) → any_marked ps ≡ false
no_mark [] h = refl
no_mark (p ∷ ps) h =
    let same : nat_eq p.key p.key ≡ true = grind arith in
    let here = h p.key in
    let rest : any_marked ps ≡ false = no_mark ps (λ q. (let r = h q in grind (arith, nat_tests))) in
    grind (arith, nat_tests)

pub none_posted : (es : List (ℕ × Option ℕ)) (ps : List ℕ) (cap n : ℕ) → IsBoard es ps cap → n ≡ length ps → nat_eq n 0 ≡ true → any_marked (places_of es) ≡ false
none_posted es [] cap n b is none = no_mark (places_of es) (λ q. sym (b.same q))
none_posted es (k ∷ ks) cap n b is none = absurd (let z : n ≡ 0 = grind (arith, nat_tests) in omega arith)

pub some_posted : (es : List (ℕ × Option ℕ)) (ps : List ℕ) (cap n : ℕ) → IsBoard es ps cap → n ≡ length ps → nat_eq n 0 ≡ false → any_marked (places_of es) ≡ true
some_posted es [] cap n b is more = absurd (let z : nat_eq n 0 ≡ true = ap (λ m. nat_eq m 0) is in cc)
some_posted es (k ∷ ks) cap n b is more =
    let here : is_marked k (places_of es) ≡ true = sym (b.same k) ∙ member_at (k ∷ ks) 0 k k (omega arith) refl in
    elim (any_marked (places_of es)) as (λ m. any_marked (places_of es) ≡ m → m ≡ true) [ true ↦ λ e. refl | false ↦ λ e. absurd (let no = none_marked k (places_of es) e in cc) ] refl

pub no_place : (o : Option (Option ℕ)) → is_some o ≡ false → o ≡ None
no_place None h = refl
no_place (Some a) h = absurd (cc)
