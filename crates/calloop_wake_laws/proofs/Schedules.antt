-- Each step of the wake machine keeps what makes its worlds covered.
use Rattle.std.proofs.Common.{nat_lt, ◌≡◌, ◌≢◌, ℕ, ◌+◌, ◌-◌, ◌<◌, ◌≤◌, Bool, true, false, ◌&&◌, ◌||◌, not, if◌then◌else◌, ◌⊎◌, inl, inr, List, [], ◌∷◌, Option, Some, None, nat_eq, refl, sym, ◌∙◌, ap, ap₂, subst, arith, true≢false, add-zero, eq-eqb, ne_eqb, zero, suc}
use Rattle.std.proofs.lemmas.Bool.Decides.{nat_tests, eqb_tells}
use Rattle.std.proofs.Math.Bool.{and-true, or-true, or-false}
use Rattle.calloop_wake.specs.Cells.{one}
use Rattle.calloop_wake.specs.Boards.{is_open, is_marked, any_marked, after_open_place, after_close_place, after_post, after_unpost}
use Rattle.calloop_wake_laws.specs.Wakes.{Bag, and_one, and_any, less_one, Loop, Awake, Looked, WakeWorld, start, WakeStep, At, Kind, owed_by, owed_at, ClearKey, SetKey, OpenTurn, OpenPlace, ClosePlace, Post, Back, Look, Unpost, Wakeup, Sleep, Return, with_cell, Needs, after, IsSchedule, after_all, IsCovered}
use Rattle.calloop_wake.specs.declared.board.Place.{Place}
use Rattle.calloop_wake.proofs.BoardSteps.{is_open-after_open, is_marked-after_open, is_open-after_close, is_marked-after_close, is_open-after_post, is_marked-after_post, is_open-after_unpost, is_marked-after_unpost, marked-after_post, none_marked}

-- what a kind of cells keeps, whenever nobody is within a step
pub record IsLawful (K : Kind) : Type 1 where
  pub IsLit : K.Cell → Type 0
  pub own_key : (s : K.Own) (c : K.Cell) → K.key (K.after s c) ≡ K.key c
  pub own_lit : (s : K.Own) (c : K.Cell) → K.Needs s c → IsLit c → IsLit (K.after s c)
  pub keyed_key : (k : ℕ) (c : K.Cell) → K.key (K.keyed k c) ≡ Some k
  pub keyed_pinged : (k : ℕ) (c : K.Cell) → K.pinged (K.keyed k c) ≡ K.pinged c
  pub keyed_lit : (k : ℕ) (c : K.Cell) → IsLit c → IsLit (K.keyed k c)
  pub unkeyed_key : (b : Bool) (c : K.Cell) → K.key (K.unkeyed b c) ≡ None
  pub unkeyed_lit : (b : Bool) (c : K.Cell) → IsLit c → IsLit (K.unkeyed b c)
  pub opens_own : (k : ℕ) (c : K.Cell) → K.opens k c ≡ true → K.key c ≡ Some k
  pub opened_key : (c : K.Cell) → K.key (K.opened c) ≡ K.key c
  pub opened_pinged : (c : K.Cell) → K.pinged (K.opened c) ≡ false
  pub opened_lit : (k : ℕ) (c : K.Cell) → K.opens k c ≡ true → IsLit c → IsLit (K.opened c)
  pub standing : (c : K.Cell) → IsLit c → K.IsStanding c

-- a cell to which nothing has happened
pub record IsFresh (K : Kind) (law : IsLawful K) (c : K.Cell) : Type 0 where
  pub lit : law.IsLit c
  pub quiet : K.pinged c ≡ false
  pub unkeyed : K.key c ≡ None

-- what holds of every cell but one, and of the cell that takes that one's place
pub with_cell_cases : {C : Type 0} (P : C → Type 0) (n j : ℕ) (c : C) (cells : ℕ → C) → (j ≡ n → P c) → (j ≢ n → P (cells j)) → P (with_cell n c cells j)
with_cell_cases {C} P n j c cells here there =
    elim (eqb_tells j n) [
      | inl h ↦ let Q : Bool → Type 0 = λ b. P (if b then c else cells j) in subst Q (sym h.0) (here h.1)
      | inr h ↦ let Q : Bool → Type 0 = λ b. P (if b then c else cells j) in subst Q (sym h.0) (there h.1)
    ]

-- every pinged cell's key is posted, owed or held as a pass
abbrev pub IsPingedKnown : (K : Kind) → (ℕ → K.Cell) → List Place → Bag → Bag → Type 0
IsPingedKnown K cells board debts passes = (n k : ℕ) → (K.pinged (cells n)) ≡ true → (K.key (cells n)) ≡ Some k → 0 < one (is_marked k board) + debts k + passes k

-- if the loop has looked, it is told of a mark
abbrev pub IsHeard : List Place → ℕ → Bool → Loop → Type 0
IsHeard board wakeups signal loop = (k : ℕ) → loop ≢ Awake → is_marked k board ≡ true → (0 < wakeups) ⊎ (signal ≡ true)

-- each open place has at most one holder: its key's cell, the opened place's pass, or the close permit. Nothing else is held
pub record IsPlaced (K : Kind) (cells : ℕ → K.Cell) (board : List Place) (opened permits : Bag) : Type 0 where
  pub alone : (m n k : ℕ) → (K.key (cells m)) ≡ Some k → (K.key (cells n)) ≡ Some k → m ≡ n
  pub only : (n k : ℕ) → (K.key (cells n)) ≡ Some k → opened k + permits k ≡ 0
  pub place : (n k : ℕ) → (K.key (cells n)) ≡ Some k → is_open k board ≡ true
  pub waits : (k : ℕ) → opened k + permits k ≤ one (is_open k board)

pub record IsKept (K : Kind) (law : IsLawful K) (w : WakeWorld K.Cell) : Type 0 where
  pub lit : (n : ℕ) → law.IsLit (w.cells n)
  pub known : IsPingedKnown K w.cells w.board w.debts w.passes
  pub heard : IsHeard w.board w.wakeups w.signal w.loop
  pub placed : IsPlaced K w.cells w.board w.opened w.permits

-- Bags.

pub and_any-more : (o : Option ℕ) (bag : Bag) (k : ℕ) → bag k ≤ and_any o bag k
and_any-more None bag k = omega arith
and_any-more (Some j) bag k = omega arith

pub and_any-there : (o : Option ℕ) (bag : Bag) (k : ℕ) → o ≡ Some k → 0 < and_any o bag k
and_any-there o bag k h = rw h (grind (arith, nat_tests))

pub and_any-other : (o : Option ℕ) (bag : Bag) (k : ℕ) → o ≢ Some k → and_any o bag k ≡ bag k
and_any-other None bag k h = refl
and_any-other (Some j) bag k h =
    let d : k ≢ j = λ e. h (ap Some (sym e)) in grind (arith, nat_tests)

pub and_any-cases : (o : Option ℕ) (bag : Bag) (k : ℕ) → ((o ≡ Some k) × (and_any o bag k ≡ bag k + 1)) ⊎ ((o ≢ Some k) × (and_any o bag k ≡ bag k))
and_any-cases None bag k = inr (λ h. absurd (cc), refl)
and_any-cases (Some j) bag k =
    elim (eqb_tells k j) [
      | inl h ↦ inl (ap Some (sym h.1), ap (λ b. bag k + one b) h.0)
      | inr h ↦ inr (λ e. absurd (h.1 (cc)), ap (λ b. bag k + one b) h.0 ∙ add-zero (bag k))
    ]

pub one-le : (b : Bool) → one b ≤ 1
one-le true = omega arith
one-le false = omega arith

pub one-pos : (b : Bool) → 0 < one b → one b ≡ 1
one-pos true h = refl
one-pos false h = absurd (omega arith)

pub one-true : (b : Bool) → one b ≡ 1 → b ≡ true
one-true true h = refl
one-true false h = absurd (omega arith)

pub less_one-le : (j : ℕ) (bag : Bag) (k : ℕ) → less_one j bag k ≤ bag k
less_one-le j bag k = omega arith

pub less_one-other : (j k : ℕ) (bag : Bag) → k ≢ j → less_one j bag k ≡ bag k
less_one-other j k bag d = grind (arith, nat_tests)

pub less_one-same : (k : ℕ) (bag : Bag) → less_one k bag k ≡ bag k - 1
less_one-same k bag = grind (arith, nat_tests)

pub and_one-other : (j k : ℕ) (bag : Bag) → k ≢ j → and_one j bag k ≡ bag k
and_one-other j k bag d = grind (arith, nat_tests)

module _ (K : Kind) (law : IsLawful K) where
  -- Cells.

  pub with_cell-all : (P : K.Cell → Type 0) (n : ℕ) (c : K.Cell) (cells : ℕ → K.Cell) → P c → ((j : ℕ) → P (cells j)) → (j : ℕ) → P (with_cell n c cells j)
  with_cell-all P n c cells new old j = with_cell_cases P n j c cells (λ _. new) (λ _. old j)

  -- Pings.

  -- a step of one cell that takes no pass: if the cell is pinged after it, it was so under the same key, or its key is owed
  pub known-cell : (w : WakeWorld K.Cell) (n : ℕ) (c : K.Cell) (o : Option ℕ) → IsPingedKnown K w.cells w.board w.debts w.passes
      → ((K.pinged c) ≡ true → ((K.pinged (w.cells n)) ≡ true) × ((K.key c) ≡ (K.key (w.cells n))) ⊎ (o ≡ (K.key c)))
      → IsPingedKnown K (with_cell n c w.cells) w.board (and_any o w.debts) w.passes
  known-cell w n c o known fresh j k =
      let P : K.Cell → Type 0 = λ c. (K.pinged c) ≡ true → (K.key c) ≡ Some k → 0 < one (is_marked k w.board) + (and_any o w.debts) k + w.passes k in
      let more = and_any-more o w.debts k in
      with_cell_cases P n j c w.cells
      (λ _ p q. elim (fresh p) [
        | inl was ↦ let h = known n k was.0 (sym was.1 ∙ q) in omega arith
        | inr gives ↦ let h = and_any-there o w.debts k (gives ∙ q) in omega arith
      ])
      (λ _ p q. let h = known j k p q in omega arith)

  -- a step of its own that leaves the cell pinged returns a debt of its key, or the cell was pinged before
  pub fresh-owed : (c d : K.Cell) → K.key d ≡ K.key c → K.pinged d ≡ true → (K.pinged c ≡ true) × (K.key d ≡ K.key c) ⊎ (owed_by K c d ≡ K.key d)
  fresh-owed c d same is = elim (K.pinged c) as (λ b. (b ≡ true) × (K.key d ≡ K.key c) ⊎ ((if b then None else if K.pinged d then K.key d else None) ≡ K.key d)) [ true ↦ inl (refl, same) | false ↦ inr (ap (λ b. if b then K.key d else None) is) ]

  pub owed_at-pinged : (k : ℕ) (c : K.Cell) → K.pinged c ≡ true → owed_at K k c ≡ Some k
  owed_at-pinged k c h = ap (λ b. if b then Some k else None) h

  -- a turn is opened by the pass of the cell's own key, which no other cell has
  pub known-opened : (w : WakeWorld K.Cell) (n k : ℕ) (c : K.Cell) → (K.pinged c) ≡ false → (K.key (w.cells n)) ≡ Some k
      → ((a b x : ℕ) → (K.key (w.cells a)) ≡ Some x → (K.key (w.cells b)) ≡ Some x → a ≡ b)
      → IsPingedKnown K w.cells w.board w.debts w.passes
      → IsPingedKnown K (with_cell n c w.cells) w.board w.debts (less_one k w.passes)
  known-opened w n k c quiet own alone known j x =
      let P : K.Cell → Type 0 = λ c. (K.pinged c) ≡ true → (K.key c) ≡ Some x → 0 < one (is_marked x w.board) + w.debts x + (less_one k w.passes) x in
      with_cell_cases P n j c w.cells
      (λ _ p q. absurd (true≢false (sym p ∙ quiet)))
      (λ d p q.
      let other : x ≢ k = λ e. d (alone j n x q (own ∙ ap Some (sym e))) in
      let l = less_one-other k x w.passes other in
      let h = known j x p q in omega arith)

  pub known-board : (w : WakeWorld K.Cell) (board : List Place) → ((n x : ℕ) → (K.key (w.cells n)) ≡ Some x → one (is_marked x w.board) ≤ one (is_marked x board))
      → IsPingedKnown K w.cells w.board w.debts w.passes → IsPingedKnown K w.cells board w.debts w.passes
  known-board w board more known n x p q = let h = known n x p q in let m = more n x q in omega arith

  pub marked-after_close : (x k : ℕ) (ps : List Place) → x ≢ k → is_marked x (after_close_place k ps) ≡ is_marked x ps
  marked-after_close x k ps d = is_marked-after_close x k ps ∙ (ap (λ b. is_marked x ps && not b) (ne_eqb x k d) ∙ and-true (is_marked x ps))

  -- a key of a cell is open, so a debt of it that is posted is marked
  pub known-post : (w : WakeWorld K.Cell) (k : ℕ) → 0 < w.debts k → IsPlaced K w.cells w.board w.opened w.permits → IsPingedKnown K w.cells w.board w.debts w.passes
      → IsPingedKnown K w.cells (after_post k w.board) (less_one k w.debts) w.passes
  known-post w k held placed known n x p q =
      let m = is_marked-after_post x k w.board in
      elim (eqb_tells x k) [
        | inl y ↦
            let a : is_marked x (after_post k w.board) ≡ true =
            m ∙ (ap₂ (λ b o. is_marked x w.board || (b && o)) y.0 (placed.place n x q) ∙ or-true (is_marked x w.board)) in
            let b : one (is_marked x (after_post k w.board)) ≡ 1 = ap one a in
            omega arith
        | inr y ↦
            let a : is_marked x (after_post k w.board) ≡ is_marked x w.board =
            m ∙ (ap (λ b. is_marked x w.board || (b && is_open x w.board)) y.0 ∙ or-false (is_marked x w.board)) in
            let b : one (is_marked x (after_post k w.board)) ≡ one (is_marked x w.board) = ap one a in
            let l = less_one-other k x w.debts y.1 in
            let h = known n x p q in
            omega arith
      ]

  pub known-back : (w : WakeWorld K.Cell) (k : ℕ) → IsPingedKnown K w.cells w.board w.debts w.passes
      → IsPingedKnown K w.cells w.board (and_one k w.debts) (less_one k w.passes)
  known-back w k known n x p q =
      let h = known n x p q in
      elim (eqb_tells x k) [
        | inl y ↦ let a : one (nat_eq x k) ≡ 1 = ap one y.0 in omega arith
        | inr y ↦ let a : one (nat_eq x k) ≡ 0 = ap one y.0 in omega arith
      ]

  one-split : (a b : Bool) → one a ≡ one (a && not b) + one (a && b)
  one-split true true = refl
  one-split true false = refl
  one-split false b = refl

  pub known-unpost : (w : WakeWorld K.Cell) (b : ℕ) → IsPingedKnown K w.cells w.board w.debts w.passes
      → IsPingedKnown K w.cells (after_unpost b w.board) w.debts (λ j. w.passes j + one (is_marked j w.board && nat_lt j b))
  known-unpost w b known n x p q =
      let h = known n x p q in let m = ap one (is_marked-after_unpost x b w.board) in let s = one-split (is_marked x w.board) (nat_lt x b) in omega arith

  -- Places.

  pub placed-same : (cells cells' : ℕ → K.Cell) (board : List Place) (opened permits : Bag) → ((j : ℕ) → (K.key (cells' j)) ≡ (K.key (cells j)))
      → IsPlaced K cells board opened permits → IsPlaced K cells' board opened permits
  placed-same cells cells' board opened permits same p = record {
    alone = λ m n k h i. p.alone m n k (sym (same m) ∙ h) (sym (same n) ∙ i);
    only = λ n k h. p.only n k (sym (same n) ∙ h);
    place = λ n k h. p.place n k (sym (same n) ∙ h);
    waits = p.waits;
  }

  pub placed-cell : (w : WakeWorld K.Cell) (n : ℕ) (c : K.Cell) → (K.key c) ≡ (K.key (w.cells n)) → IsPlaced K w.cells w.board w.opened w.permits → IsPlaced K (with_cell n c w.cells) w.board w.opened w.permits
  placed-cell w n c same p =
      placed-same w.cells (with_cell n c w.cells) w.board w.opened w.permits
      (λ j. let P : K.Cell → Type 0 = λ d. (K.key d) ≡ (K.key (w.cells j)) in
      with_cell_cases P n j c w.cells (λ e. same ∙ ap (λ m. (K.key (w.cells m))) (sym e)) (λ _. refl))
      p

  -- the cell's key is cleared, and the permit to close its place is returned
  pub placed-clear : (w : WakeWorld K.Cell) (n : ℕ) (c : K.Cell) → (K.key c) ≡ None → IsPlaced K w.cells w.board w.opened w.permits
      → IsPlaced K (with_cell n c w.cells) w.board w.opened (and_any (K.key (w.cells n)) w.permits)
  placed-clear w n c none p =
      let not_here : (k : ℕ) → (K.key c) ≢ Some k = λ k h. absurd (cc (none, h)) in
      let other : (j k : ℕ) → j ≢ n → (K.key (w.cells j)) ≡ Some k → and_any (K.key (w.cells n)) w.permits k ≡ w.permits k =
      λ j k d h. and_any-other (K.key (w.cells n)) w.permits k (λ e. d (p.alone j n k h e)) in
      record {
        alone = λ a b k.
            let Q : K.Cell → Type 0 = λ d. (K.key d) ≡ Some k → (K.key (with_cell n c w.cells b)) ≡ Some k → a ≡ b in
            with_cell_cases Q n a c w.cells (λ _ h. absurd (not_here k h))
            (λ _ h.
            let R : K.Cell → Type 0 = λ d. (K.key d) ≡ Some k → a ≡ b in
            with_cell_cases R n b c w.cells (λ _ i. absurd (not_here k i)) (λ _ i. p.alone a b k h i));
        only = λ j k.
            let Q : K.Cell → Type 0 = λ d. (K.key d) ≡ Some k → w.opened k + and_any (K.key (w.cells n)) w.permits k ≡ 0 in
            with_cell_cases Q n j c w.cells (λ _ h. absurd (not_here k h)) (λ d h. let e = other j k d h in let f = p.only j k h in omega arith);
        place = λ j k.
            let Q : K.Cell → Type 0 = λ d. (K.key d) ≡ Some k → is_open k w.board ≡ true in
            with_cell_cases Q n j c w.cells (λ _ h. absurd (not_here k h)) (λ d h. p.place j k h);
        waits = λ k.
            let h = p.waits k in
            elim (and_any-cases (K.key (w.cells n)) w.permits k) [
              | inl e ↦ let o = p.only n k e.0 in let i = p.place n k e.0 in let m : one (is_open k w.board) ≡ 1 = ap one i in omega arith
              | inr e ↦ omega arith
            ];
      }

  -- a cell without a key takes the key of a place that was opened
  pub placed-fill : (cells : ℕ → K.Cell) (board : List Place) (opened permits : Bag) (n k : ℕ) (c : K.Cell) → (K.key c) ≡ Some k → (K.key (cells n)) ≡ None → 0 < opened k
      → IsPlaced K cells board opened permits → IsPlaced K (with_cell n c cells) board (less_one k opened) permits
  placed-fill cells board opened permits n k c is none held p =
      let free : (j x : ℕ) → (K.key (cells j)) ≡ Some x → x ≢ k =
      λ j x h e. let z = p.only j x h in let z' : opened k + permits k ≡ 0 = subst (λ (y : ℕ). opened y + permits y ≡ 0) e z in absurd (omega arith) in
      let own : (x : ℕ) → (K.key c) ≡ Some x → x ≡ k = λ x h. cc in
      let full : one (is_open k board) ≡ 1 = one-pos (is_open k board) (let h = p.waits k in omega arith) in
      record {
        alone = λ a b x.
            let Q : K.Cell → Type 0 = λ d. (K.key d) ≡ Some x → (K.key (with_cell n c cells b)) ≡ Some x → a ≡ b in
            with_cell_cases Q n a c cells
            (λ e h.
            let R : K.Cell → Type 0 = λ d. (K.key d) ≡ Some x → a ≡ b in
            with_cell_cases R n b c cells (λ f _. e ∙ sym f) (λ _ i. absurd (free b x i (own x h))))
            (λ _ h.
            let R : K.Cell → Type 0 = λ d. (K.key d) ≡ Some x → a ≡ b in
            with_cell_cases R n b c cells (λ _ i. absurd (free a x h (own x i))) (λ _ i. p.alone a b x h i));
        only = λ j x.
            let Q : K.Cell → Type 0 = λ d. (K.key d) ≡ Some x → less_one k opened x + permits x ≡ 0 in
            with_cell_cases Q n j c cells
            (λ _ h. let e = own x h in let R : ℕ → Type 0 = λ y. less_one k opened y + permits y ≡ 0 in
            subst R (sym e) (let s = less_one-same k opened in let g = p.waits k in omega arith))
            (λ _ h. let o = less_one-other k x opened (free j x h) in let z = p.only j x h in omega arith);
        place = λ j x.
            let Q : K.Cell → Type 0 = λ d. (K.key d) ≡ Some x → is_open x board ≡ true in
            with_cell_cases Q n j c cells
            (λ _ h. let R : ℕ → Type 0 = λ y. is_open y board ≡ true in subst R (sym (own x h)) (one-true (is_open k board) full))
            (λ _ h. p.place j x h);
        waits = λ x. let h = p.waits x in let l = less_one-le k opened x in omega arith;
      }

  pub placed-set : (w : WakeWorld K.Cell) (n k : ℕ) (c : K.Cell) → (K.key c) ≡ Some k → 0 < w.opened k → IsPlaced K w.cells w.board w.opened w.permits
      → IsPlaced K (with_cell n c w.cells) w.board (less_one k w.opened) (and_any (K.key (w.cells n)) w.permits)
  placed-set w n k c is held p =
      let cleared : K.Cell = K.unkeyed false (w.cells n) in
      let cells : ℕ → K.Cell = with_cell n cleared w.cells in
      let none : (K.key (cells n)) ≡ None =
      let P : K.Cell → Type 0 = λ d. (K.key d) ≡ None in with_cell_cases P n n cleared w.cells (λ _. law.unkeyed_key false (w.cells n)) (λ d. absurd (d refl)) in
      placed-same (with_cell n c cells) (with_cell n c w.cells) w.board (less_one k w.opened) (and_any (K.key (w.cells n)) w.permits)
      (λ j.
      elim (eqb_tells j n) [
        | inl h ↦ let Q : Bool → Type 0 = λ b. (K.key (if b then c else w.cells j)) ≡ (K.key (if b then c else (if b then cleared else w.cells j))) in subst Q (sym h.0) refl
        | inr h ↦ let Q : Bool → Type 0 = λ b. (K.key (if b then c else w.cells j)) ≡ (K.key (if b then c else (if b then cleared else w.cells j))) in subst Q (sym h.0) refl
      ])
      (placed-fill cells w.board w.opened (and_any (K.key (w.cells n)) w.permits) n k c is none held (placed-clear w n cleared (law.unkeyed_key false (w.cells n)) p))

  -- a place that nobody holds is opened
  pub placed-open : (w : WakeWorld K.Cell) (k : ℕ) → is_open k w.board ≡ false → IsPlaced K w.cells w.board w.opened w.permits
      → IsPlaced K w.cells (after_open_place k w.board) (and_one k w.opened) w.permits
  placed-open w k shut p =
      let free : (j x : ℕ) → (K.key (w.cells j)) ≡ Some x → x ≢ k =
      λ j x h e. absurd (true≢false (sym (p.place j x h) ∙ (ap (λ y. is_open y w.board) e ∙ shut))) in
      record {
        alone = p.alone;
        only = λ j x h. let o = and_one-other k x w.opened (free j x h) in let z = p.only j x h in omega arith;
        place = λ j x h. is_open-after_open x k w.board ∙ (ap (λ b. nat_eq k x || b) (p.place j x h) ∙ or-true (nat_eq k x));
        waits = λ x.
            let h = p.waits x in let e = ap one (is_open-after_open x k w.board) in
            elim (eqb_tells x k) [
              | inl y ↦
                  let a : is_open x w.board ≡ false = ap (λ z. is_open z w.board) y.1 ∙ shut in
                  let b : nat_eq k x ≡ true = eq-eqb k x (sym y.1) in
                  let f : one (is_open x w.board) ≡ 0 = ap one a in
                  let g : one (is_open x (after_open_place k w.board)) ≡ 1 = e ∙ ap (λ z. one (z || is_open x w.board)) b in
                  let m : and_one k w.opened x ≡ w.opened x + 1 = ap (λ z. w.opened x + one z) y.0 in
                  omega arith
              | inr y ↦
                  let b : nat_eq k x ≡ false = ne_eqb k x (λ z. y.1 (sym z)) in
                  let g : one (is_open x (after_open_place k w.board)) ≡ one (is_open x w.board) = e ∙ ap (λ z. one (z || is_open x w.board)) b in
                  let m = and_one-other k x w.opened y.1 in
                  omega arith
            ];
      }

  -- a place is closed by its permit
  pub placed-close : (w : WakeWorld K.Cell) (k : ℕ) → 0 < w.permits k → IsPlaced K w.cells w.board w.opened w.permits
      → IsPlaced K w.cells (after_close_place k w.board) w.opened (less_one k w.permits)
  placed-close w k held p =
      let free : (j x : ℕ) → (K.key (w.cells j)) ≡ Some x → x ≢ k =
      λ j x h e. let z = p.only j x h in let z' : w.opened k + w.permits k ≡ 0 = subst (λ (y : ℕ). w.opened y + w.permits y ≡ 0) e z in absurd (omega arith) in
      let kept : (x : ℕ) → x ≢ k → is_open x (after_close_place k w.board) ≡ is_open x w.board =
      λ x d. is_open-after_close x k w.board ∙ (ap (λ b. is_open x w.board && not b) (ne_eqb x k d) ∙ and-true (is_open x w.board)) in
      record {
        alone = p.alone;
        only = λ j x h. let z = p.only j x h in let l = less_one-le k w.permits x in omega arith;
        place = λ j x h. kept x (free j x h) ∙ p.place j x h;
        waits = λ x.
            let h = p.waits x in
            elim (eqb_tells x k) [
              | inl y ↦
                  let l : less_one k w.permits x ≡ w.permits x - 1 = ap (λ z. w.permits x - one z) y.0 in
                  let o = one-le (is_open x w.board) in
                  let i : 0 < w.permits x = subst (λ (z : ℕ). 0 < w.permits z) (sym y.1) held in
                  omega arith
              | inr y ↦
                  let l = less_one-other k x w.permits y.1 in
                  let o = ap one (kept x y.1) in
                  omega arith
            ];
      }

  pub placed-post : (w : WakeWorld K.Cell) (k : ℕ) → IsPlaced K w.cells w.board w.opened w.permits → IsPlaced K w.cells (after_post k w.board) w.opened w.permits
  placed-post w k p = record {
    alone = p.alone;
    only = p.only;
    place = λ j x h. is_open-after_post x k w.board ∙ p.place j x h;
    waits = λ x. let h = p.waits x in let e = ap one (is_open-after_post x k w.board) in omega arith;
  }

  pub placed-unpost : (w : WakeWorld K.Cell) (b : ℕ) → IsPlaced K w.cells w.board w.opened w.permits → IsPlaced K w.cells (after_unpost b w.board) w.opened w.permits
  placed-unpost w b p = record {
    alone = p.alone;
    only = p.only;
    place = λ j x h. is_open-after_unpost x b w.board ∙ p.place j x h;
    waits = λ x. let h = p.waits x in let e = ap one (is_open-after_unpost x b w.board) in omega arith;
  }

  -- Each step.

  pub kept-cell : (w : WakeWorld K.Cell) (n : ℕ) (c : K.Cell) (o : Option ℕ) → (law.IsLit (w.cells n) → law.IsLit c) → (K.key c) ≡ (K.key (w.cells n))
      → ((K.pinged c) ≡ true → ((K.pinged (w.cells n)) ≡ true) × ((K.key c) ≡ (K.key (w.cells n))) ⊎ (o ≡ (K.key c)))
      → IsKept K law w → IsKept K law (record w { cells = with_cell n c w.cells; debts = and_any o w.debts })
  kept-cell w n c o lit same fresh h = record {
    lit = with_cell-all law.IsLit n c w.cells (lit (h.lit n)) h.lit;
    known = known-cell w n c o h.known fresh;
    heard = h.heard;
    placed = placed-cell w n c same h.placed;
  }

  pub and-left : (a b : Bool) → (a && b) ≡ true → a ≡ true
  and-left true b h = refl
  and-left false b h = h

  pub kept-opened : (w : WakeWorld K.Cell) (n k : ℕ) (c : K.Cell) → law.IsLit c → (K.key c) ≡ (K.key (w.cells n)) → (K.pinged c) ≡ false → (K.key (w.cells n)) ≡ Some k
      → IsKept K law w → IsKept K law (record w { cells = with_cell n c w.cells; passes = less_one k w.passes })
  kept-opened w n k c lit same quiet own h = record {
    lit = with_cell-all law.IsLit n c w.cells lit h.lit;
    known = known-opened w n k c quiet own h.placed.alone h.known;
    heard = h.heard;
    placed = placed-cell w n c same h.placed;
  }

  pub kept-open_turn : (w : WakeWorld K.Cell) (n k : ℕ) (b : Bool) → K.opens k (w.cells n) ≡ b → IsKept K law w
      → IsKept K law (record w {
        cells = with_cell n (if b then K.opened (w.cells n) else w.cells n) w.cells;
        passes = if b then less_one k w.passes else w.passes;
      })
  kept-open_turn w n k true is h =
      kept-opened w n k (K.opened (w.cells n)) (law.opened_lit k (w.cells n) is (h.lit n)) (law.opened_key (w.cells n)) (law.opened_pinged (w.cells n)) (law.opens_own k (w.cells n) is) h
  kept-open_turn w n k false is h = kept-cell w n (w.cells n) None (λ l. l) refl (λ p. inl (p, refl)) h

  pub heard-look : (w : WakeWorld K.Cell) (b : Bool) → any_marked w.board ≡ b → IsHeard w.board w.wakeups w.signal (if b then Awake else Looked)
  heard-look w true is x a m = absurd (a refl)
  heard-look w false is x a m = absurd (true≢false (sym m ∙ none_marked x w.board is))

  pub kept-after : (w : WakeWorld K.Cell) (s : WakeStep K.Own) → Needs K w s → IsKept K law w → IsKept K law (after K w s)
  kept-after w (At n s) need h =
      let d : K.Cell = K.after s (w.cells n) in
      kept-cell w n d (owed_by K (w.cells n) d) (law.own_lit s (w.cells n) need) (law.own_key s (w.cells n)) (fresh-owed (w.cells n) d (law.own_key s (w.cells n))) h
  kept-after w (SetKey n k) need h = record {
    lit = with_cell-all law.IsLit n (K.keyed k (w.cells n)) w.cells (law.keyed_lit k (w.cells n) (h.lit n)) h.lit;
    known = known-cell w n (K.keyed k (w.cells n)) (owed_at K k (w.cells n)) h.known (λ p. inr (owed_at-pinged k (w.cells n) (sym (law.keyed_pinged k (w.cells n)) ∙ p) ∙ sym (law.keyed_key k (w.cells n))));
    heard = h.heard;
    placed = placed-set w n k (K.keyed k (w.cells n)) (law.keyed_key k (w.cells n)) need h.placed;
  }
  kept-after w (ClearKey n by_drop) need h = record {
    lit = with_cell-all law.IsLit n (K.unkeyed by_drop (w.cells n)) w.cells (law.unkeyed_lit by_drop (w.cells n) (h.lit n)) h.lit;
    known = known-cell w n (K.unkeyed by_drop (w.cells n)) None h.known (λ p. inr (sym (law.unkeyed_key by_drop (w.cells n))));
    heard = h.heard;
    placed = placed-clear w n (K.unkeyed by_drop (w.cells n)) (law.unkeyed_key by_drop (w.cells n)) h.placed;
  }
  kept-after w (OpenTurn n k) need h = kept-open_turn w n k (K.opens k (w.cells n)) refl h
  kept-after w (OpenPlace k) need h = record {
    lit = h.lit;
    known = known-board w (after_open_place k w.board) (λ _ x _. let m = ap one (is_marked-after_open x k w.board) in omega arith) h.known;
    heard = λ x a m. h.heard x a (sym (is_marked-after_open x k w.board) ∙ m);
    placed = placed-open w k need h.placed;
  }
  kept-after w (ClosePlace k) need h = record {
    lit = h.lit;
    known = known-board w (after_close_place k w.board)
        (λ n x q.
        let d : x ≢ k = λ e. let z = h.placed.only n x q in let z' : w.opened k + w.permits k ≡ 0 = subst (λ (y : ℕ). w.opened y + w.permits y ≡ 0) e z in absurd (omega arith) in
        let m = ap one (marked-after_close x k w.board d) in omega arith) h.known;
    heard = λ x a m. h.heard x a (and-left (is_marked x w.board) (not (nat_eq x k)) (sym (is_marked-after_close x k w.board) ∙ m));
    placed = placed-close w k need h.placed;
  }
  kept-after w (Post k) need h = record {
    lit = h.lit;
    known = known-post w k need h.placed h.known;
    heard = λ x a m.
        elim (marked-after_post x k w.board m) [
          | inl was ↦ elim (h.heard x a was) [ inl n ↦ inl (omega arith) | inr s ↦ inr s ]
          | inr anew ↦ inl (let o = ap one anew in omega arith)
        ];
    placed = placed-post w k h.placed;
  }
  kept-after w (Back k) need h = record { lit = h.lit; known = known-back w k h.known; heard = h.heard; placed = h.placed }
  kept-after w Look need h = record {
    lit = h.lit;
    known = h.known;
    heard = heard-look w (any_marked w.board) refl;
    placed = h.placed;
  }
  kept-after w (Unpost b) need h = record {
    lit = h.lit;
    known = known-unpost w b h.known;
    heard = λ x a m. h.heard x a (and-left (is_marked x w.board) (not (nat_lt x b)) (sym (is_marked-after_unpost x b w.board) ∙ m));
    placed = placed-unpost w b h.placed;
  }
  kept-after w Wakeup need h = record { lit = h.lit; known = h.known; heard = λ x a m. inr refl; placed = h.placed }
  kept-after w Sleep need h = record { lit = h.lit; known = h.known; heard = λ x a m. h.heard x (λ e. absurd (cc)) m; placed = h.placed }
  kept-after w Return need h = record { lit = h.lit; known = h.known; heard = λ x a m. absurd (a refl); placed = h.placed }

  pub kept-start : (fresh : ℕ → K.Cell) → ((n : ℕ) → IsFresh K law (fresh n)) → IsKept K law (start fresh)
  kept-start fresh is = record {
    lit = λ n. (is n).lit;
    known = λ n k p. absurd (true≢false (sym p ∙ (is n).quiet));
    heard = λ k a. absurd (a refl);
    placed = record { alone = λ m n k h. (let e = (is m).unkeyed in absurd (cc (e, h))); only = λ n k h. (let e = (is n).unkeyed in absurd (cc (e, h))); place = λ n k h. (let e = (is n).unkeyed in absurd (cc (e, h))); waits = λ k. omega arith };
  }

  pub kept-after_all : (w : WakeWorld K.Cell) (ss : List (WakeStep K.Own)) → IsSchedule K w ss → IsKept K law w → IsKept K law (after_all K w ss)
  kept-after_all w [] met h = h
  kept-after_all w (s ∷ ss) met h = kept-after_all (after K w s) ss met.1 (kept-after w s met.0 h)

  some_of : (b : Bool) (m n : ℕ) → 0 < one b + m + n → (b ≡ true) ⊎ (0 < m) ⊎ (0 < n)
  some_of true m n h = inl refl
  some_of false zero n h = inr (inr (omega arith))
  some_of false (suc m) n h = inr (inl (omega arith))

  pub covered-kept : (w : WakeWorld K.Cell) → IsKept K law w → IsCovered K w
  covered-kept w h = record {
    standing = λ n. law.standing (w.cells n) (h.lit n);
    pinged = λ n k p q. some_of (is_marked k w.board) (w.debts k) (w.passes k) (h.known n k p q);
    told = h.heard;
  }

  pub covered-schedule : (fresh : ℕ → K.Cell) (ss : List (WakeStep K.Own)) → ((n : ℕ) → IsFresh K law (fresh n)) → IsSchedule K (start fresh) ss → IsCovered K (after_all K (start fresh) ss)
  covered-schedule fresh ss is met = covered-kept (after_all K (start fresh) ss) (kept-after_all (start fresh) ss met (kept-start fresh is))
