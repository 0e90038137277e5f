-- A pinged cell can be delivered: steps that are owed lead to its turn. In calloop the kernel does them.
use Rattle.std.specs.Prelude.{◌≡◌, ℕ, ◌+◌, ◌≤◌, true, if◌then◌else◌, ◌⊎◌, List, [], ◌∷◌, length}
use Rattle.calloop_wake_laws.specs.Wakes.{
  Kind,
  WakeWorld,
  WakeStep,
  Awake,
  At,
  ClearKey,
  SetKey,
  OpenTurn,
  OpenPlace,
  ClosePlace,
  Post,
  Back,
  Unpost,
  Look,
  Wakeup,
  Sleep,
  Return,
  IsSchedule,
  after_all,
}

-- Steps that somebody owes, for a turn of this cell under this key: the open turn goes on, or ends; a pass of the key goes
-- back, a debt of it is posted, a wakeup is spent. None of them rings, puts, wakes, or moves a key.
abbrev pub IsOwed : (K : Kind) → (cell key : ℕ) → WakeStep K.Own → Type 0
IsOwed K n k (At m s) = (m ≡ n) × K.OfTurn s
IsOwed K n k (Back j) = j ≡ k
IsOwed K n k (Post j) = j ≡ k
IsOwed K n k Wakeup = Unit {0}
IsOwed K n k (ClearKey m by_drop) = ⊥
IsOwed K n k (SetKey m j) = ⊥
IsOwed K n k (OpenTurn m j) = ⊥
IsOwed K n k (OpenPlace j) = ⊥
IsOwed K n k (ClosePlace j) = ⊥
IsOwed K n k (Unpost below) = ⊥
IsOwed K n k Look = ⊥
IsOwed K n k Sleep = ⊥
IsOwed K n k Return = ⊥

abbrev pub AllOwed : (K : Kind) → (cell key : ℕ) → List (WakeStep K.Own) → Type 0
AllOwed K n k [] = Unit {0}
AllOwed K n k (s ∷ ss) = IsOwed K n k s × AllOwed K n k ss

-- the loop's own steps then: its wait returns, the posted keys up to this one are taken, and the pass of this one opens a turn
abbrev pub steps_to_a_turn : (K : Kind) → (cell key : ℕ) → List (WakeStep K.Own)
steps_to_a_turn K n k = Return ∷ Unpost (k + 1) ∷ OpenTurn n k ∷ []

-- from here on a turn of this cell can be opened under this key
pub record CanBeDelivered (K : Kind) (w : WakeWorld K.Cell) (n k : ℕ) : Type 0 where
  -- by steps that are owed, at most three if no turn of the cell is open, and else as many more as that turn needs
  pub owed : List (WakeStep K.Own)
  pub are_owed : AllOwed K n k owed
  pub few : length owed ≤ (if K.draining (w.cells n) then 1028 else 3)
  pub met : IsSchedule K w owed
  -- after which the loop is awake, or its wait is told
  pub told : ((after_all K w owed).loop ≡ Awake) ⊎ ((after_all K w owed).signal ≡ true)
  -- and by the loop's own steps
  pub taken : IsSchedule K (after_all K w owed) (steps_to_a_turn K n k)
  pub opens : K.opens k ((after_all K w owed).cells n) ≡ true
  pub opened : K.draining ((after_all K (after_all K w owed) (steps_to_a_turn K n k)).cells n) ≡ true
