-- From every world that is kept, a pinged cell can be delivered.
use Rattle.std.proofs.Common.{◌≡◌, ◌≢◌, ℕ, zero, suc, ◌+◌, ◌<◌, ◌≤◌, nat_eq, nat_lt, Bool, true, false, ◌&&◌, ◌||◌, if◌then◌else◌, ◌⊎◌, inl, inr, List, [], ◌∷◌, ◌++◌, length, Some, refl, sym, ◌∙◌, ap, subst, arith, length-append, eq-eqb}
use Rattle.std.proofs.lemmas.Bool.Decides.{nat_tests}
use Rattle.std.proofs.Math.Bool.{or-true}
use Rattle.calloop_wake.specs.Cells.{one}
use Rattle.calloop_wake.specs.Boards.{is_open, is_marked}
use Rattle.calloop_wake_laws.specs.Wakes.{Kind, Loop, Awake, Looked, Asleep, WakeWorld, WakeStep, At, Post, Back, Wakeup, with_cell, after, IsSchedule, after_all}
use Rattle.calloop_wake_laws.specs.Delivery.{AllOwed, CanBeDelivered}
use Rattle.calloop_wake.proofs.BoardSteps.{is_marked-after_post}
use Rattle.calloop_wake_laws.proofs.Schedules.{IsLawful, IsKept, kept-after_all}

module _ (K : Kind) where
  pub schedule-append : (w : WakeWorld K.Cell) (ss ts : List (WakeStep K.Own)) → IsSchedule K w ss → IsSchedule K (after_all K w ss) ts → IsSchedule K w (ss ++ ts)
  schedule-append w [] ts h k = k
  schedule-append w (s ∷ ss) ts h k = (h.0, schedule-append (after K w s) ss ts h.1 k)

  -- steps that only this kind has, of one cell
  abbrev pub own_all : K.Cell → List K.Own → K.Cell
  own_all c [] = c
  own_all c (s ∷ ss) = own_all (K.after s c) ss

  abbrev pub AllMet : K.Cell → List K.Own → Type 0
  AllMet c [] = Unit {0}
  AllMet c (s ∷ ss) = K.Needs s c × AllMet (K.after s c) ss

  abbrev pub AllOfTurn : List K.Own → Type 0
  AllOfTurn [] = Unit {0}
  AllOfTurn (s ∷ ss) = K.OfTurn s × AllOfTurn ss

  -- the open turn can be ended, by at most so many steps
  pub record CanEnd (most : ℕ) (c : K.Cell) : Type 0 where
    pub steps : List K.Own
    pub of_turn : AllOfTurn steps
    pub few : length steps ≤ most
    pub met : AllMet c steps
    pub over : K.draining (own_all c steps) ≡ false

  pub one_step : (s : K.Own) (c : K.Cell) (most : ℕ) → 1 ≤ most → K.OfTurn s → K.Needs s c → K.draining (K.after s c) ≡ false → CanEnd most c
  one_step s c most le turn need over = record { steps = s ∷ []; of_turn = (turn, tt); few = le; met = (need, tt); over = over }

  pub more_steps : (s : K.Own) (c : K.Cell) (most : ℕ) → K.OfTurn s → K.Needs s c → CanEnd most (K.after s c) → CanEnd (suc most) c
  more_steps s c most turn need e =
      record { steps = s ∷ e.steps; of_turn = (turn, e.of_turn); few = (let f = e.few in omega arith); met = (need, e.met); over = e.over }

-- what else a kind has to keep: its own steps leave it pinged, an open turn can be ended, and if none is open, its key opens one
pub record IsDelivered (K : Kind) (law : IsLawful K) : Type 1 where
  pub own_pinged : (s : K.Own) (c : K.Cell) → K.pinged c ≡ true → K.pinged (K.after s c) ≡ true
  pub opens_it : (k : ℕ) (c : K.Cell) → K.key c ≡ Some k → K.draining c ≡ false → K.opens k c ≡ true
  pub opened_draining : (c : K.Cell) → K.draining (K.opened c) ≡ true
  pub ends : (c : K.Cell) → law.IsLit c → K.draining c ≡ true → CanEnd K 1025 c

module _ (K : Kind) (law : IsLawful K) (more : IsDelivered K law) where
  after-append : (w : WakeWorld K.Cell) (ss ts : List (WakeStep K.Own)) → after_all K w (ss ++ ts) ≡ after_all K (after_all K w ss) ts
  after-append w [] ts = refl
  after-append w (s ∷ ss) ts = after-append (after K w s) ss ts

  owed-append : (n k : ℕ) (ss ts : List (WakeStep K.Own)) → AllOwed K n k ss → AllOwed K n k ts → AllOwed K n k (ss ++ ts)
  owed-append n k [] ts h g = g
  owed-append n k (s ∷ ss) ts h g = (h.0, owed-append n k ss ts h.1 g)

  -- steps that are owed, at most so many, lead from this world to one with this property
  record Leads (n k most : ℕ) (w : WakeWorld K.Cell) (P : WakeWorld K.Cell → Type 0) : Type 0 where
    pub steps : List (WakeStep K.Own)
    pub are_owed : AllOwed K n k steps
    pub few : length steps ≤ most
    pub met : IsSchedule K w steps
    pub so : P (after_all K w steps)

  leads-on : (n k a b : ℕ) (w : WakeWorld K.Cell) (P Q : WakeWorld K.Cell → Type 0) → Leads n k a w P → ((u : WakeWorld K.Cell) → P u → Leads n k b u Q) → Leads n k (a + b) w Q
  leads-on n k a b w P Q p f =
      let q = f (after_all K w p.steps) p.so in
      record {
        steps = p.steps ++ q.steps;
        are_owed = owed-append n k p.steps q.steps p.are_owed q.are_owed;
        few = (let x = p.few in let y = q.few in let l = length-append p.steps q.steps in omega arith);
        met = schedule-append K w p.steps q.steps p.met q.met;
        so = subst Q (sym (after-append w p.steps q.steps)) q.so;
      }

  leads-nowhere : (n k most : ℕ) (w : WakeWorld K.Cell) (P : WakeWorld K.Cell → Type 0) → P w → Leads n k most w P
  leads-nowhere n k most w P h = record { steps = []; are_owed = tt; few = omega arith; met = tt; so = h }

  -- the cell is pinged under its key
  record IsRung (n k : ℕ) (w : WakeWorld K.Cell) : Type 0 where
    pub kept : IsKept K law w
    pub pinged : K.pinged (w.cells n) ≡ true
    pub key : K.key (w.cells n) ≡ Some k

  record IsIdle (n k : ℕ) (w : WakeWorld K.Cell) : Type 0 where
    pub rung : IsRung n k w
    pub quiet : K.draining (w.cells n) ≡ false

  record IsPosted (n k : ℕ) (w : WakeWorld K.Cell) : Type 0 where
    pub idle : IsIdle n k w
    pub marked : is_marked k w.board ≡ true

  record IsTold (n k : ℕ) (w : WakeWorld K.Cell) : Type 0 where
    pub posted : IsPosted n k w
    pub told : (w.loop ≡ Awake) ⊎ (w.signal ≡ true)

  with_cell-same : (n : ℕ) (c : K.Cell) (cells : ℕ → K.Cell) → with_cell n c cells n ≡ c
  with_cell-same n c cells = ap (λ b. if b then c else cells n) (eq-eqb n n refl)

  -- An open turn is ended.

  at_cell : (w : WakeWorld K.Cell) (n : ℕ) (s : K.Own) → (after K w (At n s)).cells n ≡ K.after s (w.cells n)
  at_cell w n s = with_cell-same n (K.after s (w.cells n)) w.cells

  ended_by : (n k most : ℕ) (w : WakeWorld K.Cell) (ss : List K.Own) → AllOfTurn K ss → length ss ≤ most → AllMet K (w.cells n) ss → K.draining (own_all K (w.cells n) ss) ≡ false → IsRung n k w
      → Leads n k most w (IsIdle n k)
  ended_by n k most w [] turn few met over h = leads-nowhere n k most w (IsIdle n k) (record { rung = h; quiet = over })
  ended_by n k most w (s ∷ ss) turn few met over h =
      let e = at_cell w n s in
      let next : IsRung n k (after K w (At n s)) =
      record {
        kept = kept-after_all K law w (At n s ∷ []) (met.0, tt) h.kept;
        pinged = ap K.pinged e ∙ more.own_pinged s (w.cells n) h.pinged;
        key = ap K.key e ∙ (law.own_key s (w.cells n) ∙ h.key);
      } in
      let rest = ended_by n k (length ss) (after K w (At n s)) ss turn.1 (omega arith)
      (subst (λ (c : K.Cell). AllMet K c ss) (sym e) met.1) (subst (λ (c : K.Cell). K.draining (own_all K c ss) ≡ false) (sym e) over) next in
      record {
        steps = At n s ∷ rest.steps;
        are_owed = ((refl, turn.0), rest.are_owed);
        few = (let f = rest.few in omega arith);
        met = (met.0, rest.met);
        so = rest.so;
      }

  most_ends : Bool → ℕ
  most_ends b = if b then 1025 else 0

  ended_turn : (n k : ℕ) (w : WakeWorld K.Cell) (b : Bool) → K.draining (w.cells n) ≡ b → IsRung n k w → Leads n k (if b then 1025 else 0) w (IsIdle n k)
  ended_turn n k w true is h = let e = more.ends (w.cells n) (h.kept.lit n) is in ended_by n k 1025 w e.steps e.of_turn e.few e.met e.over h
  ended_turn n k w false is h = leads-nowhere n k 0 w (IsIdle n k) (record { rung = h; quiet = is })

  -- The key is posted.

  posted_debt : (n k : ℕ) (w : WakeWorld K.Cell) → 0 < w.debts k → IsIdle n k w → Leads n k 1 w (IsPosted n k)
  posted_debt n k w held h =
      let place : is_open k w.board ≡ true = h.rung.kept.placed.place n k h.rung.key in
      record {
        steps = Post k ∷ [];
        are_owed = (refl, tt);
        few = omega arith;
        met = (held, tt);
        so = record {
          idle = record {
            rung = record { kept = kept-after_all K law w (Post k ∷ []) (held, tt) h.rung.kept; pinged = h.rung.pinged; key = h.rung.key };
            quiet = h.quiet;
          };
          marked = is_marked-after_post k k w.board ∙ (ap (λ b. is_marked k w.board || (b && is_open k w.board)) (eq-eqb k k refl) ∙ (ap (λ b. is_marked k w.board || b) place ∙ or-true (is_marked k w.board)));
        };
      }

  gone_back : (n k : ℕ) (w : WakeWorld K.Cell) → 0 < w.passes k → IsIdle n k w → Leads n k 2 w (IsPosted n k)
  gone_back n k w held h =
      let back : WakeWorld K.Cell = after K w (Back k) in
      let owed : 0 < back.debts k = (let e : one (nat_eq k k) ≡ 1 = ap one (eq-eqb k k refl) in omega arith) in
      let next : IsIdle n k back = record {
        rung = record { kept = kept-after_all K law w (Back k ∷ []) (held, tt) h.rung.kept; pinged = h.rung.pinged; key = h.rung.key };
        quiet = h.quiet;
      } in
      let rest = posted_debt n k back owed next in
      record { steps = Back k ∷ rest.steps; are_owed = (refl, rest.are_owed); few = (let f = rest.few in omega arith); met = (held, rest.met); so = rest.so }

  more_room : (n k a b : ℕ) (w : WakeWorld K.Cell) (P : WakeWorld K.Cell → Type 0) → a ≤ b → Leads n k a w P → Leads n k b w P
  more_room n k a b w P le p = record { steps = p.steps; are_owed = p.are_owed; few = (let f = p.few in omega arith); met = p.met; so = p.so }

  posted_key : (n k : ℕ) (w : WakeWorld K.Cell) (b : Bool) (d : ℕ) → is_marked k w.board ≡ b → w.debts k ≡ d → IsIdle n k w → Leads n k 2 w (IsPosted n k)
  posted_key n k w true d is owes h = leads-nowhere n k 2 w (IsPosted n k) (record { idle = h; marked = is })
  posted_key n k w false (suc d) is owes h = more_room n k 1 2 w (IsPosted n k) (omega arith) (posted_debt n k w (omega arith) h)
  posted_key n k w false zero is owes h =
      let known = h.rung.kept.known n k h.rung.pinged h.rung.key in
      let none : one (is_marked k w.board) ≡ 0 = ap one is in
      gone_back n k w (omega arith) h

  -- The loop is told.

  told_loop : (n k : ℕ) (w : WakeWorld K.Cell) → w.loop ≢ Awake → IsPosted n k w → Leads n k 1 w (IsTold n k)
  told_loop n k w away h =
      elim (h.idle.rung.kept.heard k away h.marked) [
        | inl wakeups ↦ record {
          steps = Wakeup ∷ [];
          are_owed = (tt, tt);
          few = omega arith;
          met = (wakeups, tt);
          so = record {
            posted = record {
              idle = record {
                rung = record { kept = kept-after_all K law w (Wakeup ∷ []) (wakeups, tt) h.idle.rung.kept; pinged = h.idle.rung.pinged; key = h.idle.rung.key };
                quiet = h.idle.quiet;
              };
              marked = h.marked;
            };
            told = inr refl;
          };
        }
        | inr signal ↦ leads-nowhere n k 1 w (IsTold n k) (record { posted = h; told = inr signal })
      ]

  told_by : (n k : ℕ) (w : WakeWorld K.Cell) (l : Loop) → w.loop ≡ l → IsPosted n k w → Leads n k 1 w (IsTold n k)
  told_by n k w Awake is h = leads-nowhere n k 1 w (IsTold n k) (record { posted = h; told = inl is })
  told_by n k w Looked is h = told_loop n k w (λ e. (let f = sym is ∙ e in cc)) h
  told_by n k w Asleep is h = told_loop n k w (λ e. (let f = sym is ∙ e in cc)) h

  owed_steps : (n k : ℕ) (w : WakeWorld K.Cell) (b : Bool) → K.draining (w.cells n) ≡ b → IsRung n k w → Leads n k ((if b then 1025 else 0) + (2 + 1)) w (IsTold n k)
  owed_steps n k w b is h =
      leads-on n k (if b then 1025 else 0) (2 + 1) w (IsIdle n k) (IsTold n k) (ended_turn n k w b is h)
      (λ u idle. leads-on n k 2 1 u (IsPosted n k) (IsTold n k) (posted_key n k u (is_marked k u.board) (u.debts k) refl refl idle) (λ v posted. told_by n k v v.loop refl posted))

  same_most : (b : Bool) → (if b then 1025 else 0) + (2 + 1) ≡ (if b then 1028 else 3)
  same_most true = refl
  same_most false = refl

  -- Its pass opens a turn.

  pub delivered : (w : WakeWorld K.Cell) (n k : ℕ) → IsKept K law w → K.pinged (w.cells n) ≡ true → K.key (w.cells n) ≡ Some k → CanBeDelivered K w n k
  delivered w n k kept pinged key =
      let p = owed_steps n k w (K.draining (w.cells n)) refl (record { kept = kept; pinged = pinged; key = key }) in
      let u : WakeWorld K.Cell = after_all K w p.steps in
      let idle = p.so.posted.idle in
      let opens : K.opens k (u.cells n) ≡ true = more.opens_it k (u.cells n) idle.rung.key idle.quiet in
      let below : nat_lt k (k + 1) ≡ true = grind (arith, nat_tests) in
      let here : one (is_marked k u.board && nat_lt k (k + 1)) ≡ 1 = ap one (ap (λ b. b && nat_lt k (k + 1)) p.so.posted.marked ∙ below) in
      let held : 0 < u.passes k + one (is_marked k u.board && nat_lt k (k + 1)) = omega arith in
      record {
        owed = p.steps;
        are_owed = p.are_owed;
        few = subst (λ m. length p.steps ≤ m) (same_most (K.draining (w.cells n))) p.few;
        met = p.met;
        told = p.so.told;
        taken = (tt, (tt, (held, tt)));
        opens = opens;
        opened = ap K.draining (with_cell-same n (if K.opens k (u.cells n) then K.opened (u.cells n) else u.cells n) u.cells ∙ ap (λ b. if b then K.opened (u.cells n) else u.cells n) opens) ∙ more.opened_draining (u.cells n);
      }
