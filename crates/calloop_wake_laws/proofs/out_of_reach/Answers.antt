use Rattle.std.proofs.Common.{◌≡◌, ◌<◌, ◌≤◌, ◌⊎◌, ℕ, zero, suc, Bool, true, false, ◌&&◌, not, List, [], ◌∷◌, length, inl, inr, refl, sym, ap, ◌∙◌, subst, arith}
use Rattle.calloop_wake.specs.Cells.{Cell, is_own, opens}
use Rattle.calloop_wake.specs.Channels.{ChannelCell, after_pop_of, popped_of, is_item, tells_close}
use Rattle.calloop_wake_laws.specs.PingKind as ping
use Rattle.calloop_wake_laws.specs.PingKind.{ping_kind}
use Rattle.calloop_wake_laws.specs.ChannelKind as channel
use Rattle.calloop_wake_laws.specs.ChannelKind.{ChannelPast, channel_kind, channel_after}
use Rattle.calloop_wake_laws.specs.ExecutorKind.{executor_kind}
use Rattle.calloop_wake_laws.specs.Kinds.{First, Second, either_kind, either_needs, either_after, every_kind}
use Rattle.calloop_wake_laws.specs.Lost.{with_a_key_forgotten, with_a_sleeper_left_alone, with_another_key, with_an_endless_turn, messages}
use Rattle.calloop_wake_laws.specs.Delivery.{IsOwed, AllOwed, steps_to_a_turn}
use Rattle.calloop_wake_laws.specs.Wakes.{WakeWorld, WakeStep, Awake, At, ClearKey, SetKey, OpenTurn, OpenPlace, ClosePlace, Post, Back, Unpost, Look, Wakeup, Sleep, Return, Needs, IsSchedule, after, after_all}
use Rattle.calloop_wake_laws.proofs.out_of_reach.Goals as goal

not_true : ◌≡◌ {A = Bool} false true → ⊥
not_true e = cc

none_less : 0 < 0 → ⊥
none_less h = omega arith

-- a world of pings alone in which no turn is open, and nobody owes anything
record IsStuck (w : WakeWorld every_kind.Cell) : Type 0 where
  pub cell : Cell
  pub cells : (m : ℕ) → w.cells m ≡ First cell
  pub quiet : cell.draining ≡ false
  pub debts : (j : ℕ) → w.debts j ≡ 0
  pub passes : (j : ℕ) → w.passes j ≡ 0
  pub wakeups : w.wakeups ≡ 0

module _ (w : WakeWorld every_kind.Cell) (h : IsStuck w) where
  no_step : (s : WakeStep every_kind.Own) → IsOwed every_kind 0 7 s → Needs every_kind w s → ⊥
  no_step (At m (First ping.Ring)) o need = o.1
  no_step (At m (First ping.Close)) o need = o.1
  no_step (At m (First ping.EndTurn)) o need =
      not_true (sym h.quiet ∙ subst (λ (c : every_kind.Cell). either_needs ping_kind (either_kind channel_kind executor_kind) (First ping.EndTurn) c) (h.cells m) need)
  no_step (At m (Second s)) o need =
      subst (λ (c : every_kind.Cell). either_needs ping_kind (either_kind channel_kind executor_kind) (Second s) c) (h.cells m) need
  no_step (ClearKey m by_drop) o need = o
  no_step (SetKey m j) o need = o
  no_step (OpenTurn m j) o need = o
  no_step (OpenPlace j) o need = o
  no_step (ClosePlace j) o need = o
  no_step (Post j) o need = (let e = h.debts j in omega arith)
  no_step (Back j) o need = (let e = h.passes j in omega arith)
  no_step (Unpost below) o need = o
  no_step Look o need = o
  no_step Wakeup o need = (let e = h.wakeups in omega arith)
  no_step Sleep o need = o
  no_step Return o need = o

  nothing_owed : (ss : List (WakeStep every_kind.Own)) → AllOwed every_kind 0 7 ss → IsSchedule every_kind w ss → ss ≡ []
  nothing_owed [] o met = refl
  nothing_owed (s ∷ ss) o met = absurd (no_step s o.0 met.0)

forgotten_is : IsStuck with_a_key_forgotten
forgotten_is = record { cell = _; cells = λ m. refl; quiet = refl; debts = λ j. refl; passes = λ j. refl; wakeups = refl }

sleeper_is : IsStuck with_a_sleeper_left_alone
sleeper_is = record { cell = _; cells = λ m. refl; quiet = refl; debts = λ j. refl; passes = λ j. refl; wakeups = refl }

pub returns-clause-key : goal.returns-clause-key
returns-clause-key c = λ d.
    let none = nothing_owed with_a_key_forgotten forgotten_is d.owed d.are_owed d.met in
    let taken : IsSchedule every_kind with_a_key_forgotten (steps_to_a_turn every_kind 0 7) =
    subst (λ ss. IsSchedule every_kind (after_all every_kind with_a_key_forgotten ss) (steps_to_a_turn every_kind 0 7)) none d.taken in
    none_less (taken.1.1.0)

pub returns-clause-sleeper : goal.returns-clause-sleeper
returns-clause-sleeper c = λ d.
    let none = nothing_owed with_a_sleeper_left_alone sleeper_is d.owed d.are_owed d.met in
    let told = subst (λ ss. ((after_all every_kind with_a_sleeper_left_alone ss).loop ≡ Awake) ⊎ ((after_all every_kind with_a_sleeper_left_alone ss).signal ≡ true)) none d.told in
    elim told [ inl e ↦ absurd (cc) | inr e ↦ not_true e ]

other_is : IsStuck with_another_key
other_is = record { cell = _; cells = λ m. refl; quiet = refl; debts = λ j. refl; passes = λ j. refl; wakeups = refl }

pub returns-clause-other_key : goal.returns-clause-other_key
returns-clause-other_key c = λ d.
    let none = nothing_owed with_another_key other_is d.owed d.are_owed d.met in
    not_true (subst (λ ss. every_kind.opens 7 ((after_all every_kind with_another_key ss).cells 0) ≡ true) none d.opens)

-- a turn of this channel is open, and after so many pops it still has messages, and may make further pops
record IsOpenFor (n : ℕ) (p : ChannelPast) : Type 0 where
  pub draining : p.now.cell.draining ≡ true
  pub more : p.turn.done ≡ false
  pub left : n ≤ p.turn.left
  pub queue : n ≤ length p.now.queue

-- what a pop of such a channel leaves
popped_cell : (n : ℕ) (q : List ℕ) (k : ChannelCell ℕ) → suc n ≤ length q → (after_pop_of q k).cell ≡ k.cell
popped_cell n [] k h = absurd (omega (arith, h))
popped_cell n (x ∷ xs) k h = refl

popped_queue : (n : ℕ) (q : List ℕ) (k : ChannelCell ℕ) → suc n ≤ length q → n ≤ length (after_pop_of q k).queue
popped_queue n [] k h = absurd (omega (arith, h))
popped_queue n (x ∷ xs) k h = omega (arith, h)

popped_item : (n : ℕ) (q : List ℕ) (tells : Bool) → suc n ≤ length q → not (is_item (popped_of q tells)) ≡ false
popped_item n [] tells h = absurd (omega (arith, h))
popped_item n (x ∷ xs) tells h = refl

behind_a_pop : (n : ℕ) (p : ChannelPast) → IsOpenFor (suc n) p → IsOpenFor n (channel_after channel.Pop p)
behind_a_pop n p h =
    record {
      draining = ap (λ (b : Cell). b.draining) (popped_cell n p.now.queue p.now h.queue) ∙ h.draining;
      more = popped_item n p.now.queue (tells_close p.now.cell) h.queue;
      left = let e = h.left in omega arith;
      queue = popped_queue n p.now.queue p.now h.queue;
    }

one_less : (n : ℕ) (p : ChannelPast) → IsOpenFor (suc n) p → IsOpenFor n p
one_less n p h =
    record { draining = h.draining; more = h.more; left = let e = h.left in omega arith; queue = let e = h.queue in omega arith }

-- cell 0 is such a channel
abbrev StaysOpen : ℕ → WakeWorld every_kind.Cell → Type 0
StaysOpen n w = (p : ChannelPast) × (w.cells 0 ≡ Second (First p)) × IsOpenFor n p

-- a step of cell 0 is one of that channel
met_there : (w : WakeWorld every_kind.Cell) (p : ChannelPast) (m : ℕ) (s : every_kind.Own) → w.cells 0 ≡ Second (First p) → m ≡ 0 → Needs every_kind w (At m s) → either_needs ping_kind (either_kind channel_kind executor_kind) s (Second (First p))
met_there w p m s is at need =
    subst (λ (c : every_kind.Cell). either_needs ping_kind (either_kind channel_kind executor_kind) s c) is
    (subst (λ (j : ℕ). Needs every_kind w (At j s)) at need)

popped_there : (w : WakeWorld every_kind.Cell) (p : ChannelPast) (m : ℕ) → w.cells 0 ≡ Second (First p) → m ≡ 0
    → (after every_kind w (At m (Second (First channel.Pop)))).cells 0 ≡ Second (First (channel_after channel.Pop p))
popped_there w p m is at =
    subst (λ (j : ℕ). (after every_kind w (At j (Second (First channel.Pop)))).cells 0 ≡ Second (First (channel_after channel.Pop p))) (sym at)
    (ap (λ (c : every_kind.Cell). either_after ping_kind (either_kind channel_kind executor_kind) (Second (First channel.Pop)) c) is)

step_of_it : (n : ℕ) (w : WakeWorld every_kind.Cell) (s : WakeStep every_kind.Own) → StaysOpen (suc n) w → IsOwed every_kind 0 7 s → Needs every_kind w s → StaysOpen n (after every_kind w s)
step_of_it n w (At m (First s)) h o need = absurd (met_there w h.0 m (First s) h.1 o.0 need)
step_of_it n w (At m (Second (Second s))) h o need = absurd (met_there w h.0 m (Second (Second s)) h.1 o.0 need)
step_of_it n w (At m (Second (First channel.Ring))) h o need = absurd o.1
step_of_it n w (At m (Second (First channel.Close))) h o need = absurd o.1
step_of_it n w (At m (Second (First channel.Pop))) h o need =
    (channel_after channel.Pop h.0, popped_there w h.0 m h.1 o.0, behind_a_pop n h.0 h.2)
step_of_it n w (At m (Second (First channel.Take))) h o need = absurd o.1
step_of_it n w (At m (Second (First channel.EndTurn))) h o need =
    let over = (met_there w h.0 m (Second (First channel.EndTurn)) h.1 o.0 need).1 in
    let left = h.2.left in
    absurd (elim over [ inl e ↦ omega (arith, e, left) | inr e ↦ not_true (sym h.2.more ∙ e) ])
step_of_it n w (At m (Second (First (channel.Put x)))) h o need = absurd o.1
step_of_it n w (ClearKey m by_drop) h o need = absurd o
step_of_it n w (SetKey m j) h o need = absurd o
step_of_it n w (OpenTurn m j) h o need = absurd o
step_of_it n w (OpenPlace j) h o need = absurd o
step_of_it n w (ClosePlace j) h o need = absurd o
step_of_it n w (Post j) h o need = (h.0, h.1, one_less n h.0 h.2)
step_of_it n w (Back j) h o need = (h.0, h.1, one_less n h.0 h.2)
step_of_it n w (Unpost below) h o need = absurd o
step_of_it n w Look h o need = absurd o
step_of_it n w Wakeup h o need = (h.0, h.1, one_less n h.0 h.2)
step_of_it n w Sleep h o need = absurd o
step_of_it n w Return h o need = absurd o

steps_of_it : (n : ℕ) (w : WakeWorld every_kind.Cell) (ss : List (WakeStep every_kind.Own)) → StaysOpen n w → length ss ≤ n → AllOwed every_kind 0 7 ss → IsSchedule every_kind w ss → StaysOpen 0 (after_all every_kind w ss)
steps_of_it n w [] h few o met =
    (h.0, h.1, record { draining = h.2.draining; more = h.2.more; left = omega arith; queue = omega arith })
steps_of_it zero w (s ∷ ss) h few o met = absurd (omega (arith, few))
steps_of_it (suc n) w (s ∷ ss) h few o met =
    steps_of_it n (after every_kind w s) ss (step_of_it n w s h o.0 met.0) (omega (arith, few)) o.1 met.1

and_false : (b : Bool) → (b && false) ≡ false
and_false true = refl
and_false false = refl

so_many : (n : ℕ) → n ≤ length (messages n)
so_many zero = omega arith
so_many (suc n) = (let e = so_many n in omega arith)

pub returns-clause-endless : goal.returns-clause-endless
returns-clause-endless c = λ d.
    let few : length d.owed ≤ 1028 = d.few in
    let begins : StaysOpen 1028 with_an_endless_turn =
    (_, refl, record { draining = refl; more = refl; left = omega arith; queue = so_many 1028 }) in
    let ends = steps_of_it 1028 with_an_endless_turn d.owed begins few d.are_owed d.met in
    let opens : opens 7 ends.0.now.cell ≡ true = ap (λ (x : every_kind.Cell). every_kind.opens 7 x) (sym ends.1) ∙ d.opens in
    not_true (sym (ap (λ b. is_own 7 ends.0.now.cell.key && not b) ends.2.draining ∙ and_false (is_own 7 ends.0.now.cell.key)) ∙ opens)
