-- Two kinds of cells as one, so that cells of both share a board. The existing kinds: pings, channels and executors.
use Rattle.std.specs.Prelude.{ℕ, Bool, Option}
use Rattle.calloop_wake.specs.Cells.{fresh}
use Rattle.calloop_wake_laws.specs.Wakes.{Kind}
use Rattle.calloop_wake_laws.specs.PingKind.{ping_kind}
use Rattle.calloop_wake_laws.specs.ChannelKind.{channel_kind, unused_channel}
use Rattle.calloop_wake_laws.specs.ExecutorKind.{executor_kind, unused_executor}

-- a value of one of two kinds
pub data Either (A B : Type 0) : Type 0 where
  First : A → Either A B
  Second : B → Either A B

module _ (K L : Kind) where
  abbrev pub either_key : Either K.Cell L.Cell → Option ℕ
  either_key (First c) = K.key c
  either_key (Second d) = L.key d

  abbrev pub either_pinged : Either K.Cell L.Cell → Bool
  either_pinged (First c) = K.pinged c
  either_pinged (Second d) = L.pinged d

  -- a kind's own step is of a cell of that kind
  abbrev pub either_needs : Either K.Own L.Own → Either K.Cell L.Cell → Type 0
  either_needs (First s) (First c) = K.Needs s c
  either_needs (First s) (Second d) = ⊥
  either_needs (Second s) (First c) = ⊥
  either_needs (Second s) (Second d) = L.Needs s d

  abbrev pub either_after : Either K.Own L.Own → Either K.Cell L.Cell → Either K.Cell L.Cell
  either_after (First s) (First c) = First (K.after s c)
  either_after (First s) (Second d) = Second d
  either_after (Second s) (First c) = First c
  either_after (Second s) (Second d) = Second (L.after s d)

  abbrev pub either_keyed : ℕ → Either K.Cell L.Cell → Either K.Cell L.Cell
  either_keyed k (First c) = First (K.keyed k c)
  either_keyed k (Second d) = Second (L.keyed k d)

  abbrev pub either_unkeyed : Bool → Either K.Cell L.Cell → Either K.Cell L.Cell
  either_unkeyed b (First c) = First (K.unkeyed b c)
  either_unkeyed b (Second d) = Second (L.unkeyed b d)

  abbrev pub either_opens : ℕ → Either K.Cell L.Cell → Bool
  either_opens k (First c) = K.opens k c
  either_opens k (Second d) = L.opens k d

  abbrev pub either_opened : Either K.Cell L.Cell → Either K.Cell L.Cell
  either_opened (First c) = First (K.opened c)
  either_opened (Second d) = Second (L.opened d)

  abbrev pub either_draining : Either K.Cell L.Cell → Bool
  either_draining (First c) = K.draining c
  either_draining (Second d) = L.draining d

  abbrev pub either_of_turn : Either K.Own L.Own → Type 0
  either_of_turn (First s) = K.OfTurn s
  either_of_turn (Second s) = L.OfTurn s

  abbrev pub either_standing : Either K.Cell L.Cell → Type 0
  either_standing (First c) = K.IsStanding c
  either_standing (Second d) = L.IsStanding d

  abbrev pub either_kind : Kind
  either_kind =
      record {
        Cell = Either K.Cell L.Cell;
        Own = Either K.Own L.Own;
        key = either_key;
        pinged = either_pinged;
        Needs = either_needs;
        after = either_after;
        keyed = either_keyed;
        unkeyed = either_unkeyed;
        opens = either_opens;
        opened = either_opened;
        draining = either_draining;
        OfTurn = either_of_turn;
        IsStanding = either_standing;
      }

-- all kinds of cells
abbrev pub every_kind : Kind
every_kind = either_kind ping_kind (either_kind channel_kind executor_kind)

-- the kind that a cell is made as
pub data Born : Type 0 where
  APing : Born
  -- the most messages that it holds
  AChannel : (bound : Option ℕ) → Born
  AnExecutor : Born

abbrev pub new_cell : Born → every_kind.Cell
new_cell APing = First fresh
new_cell (AChannel bound) = Second (First (unused_channel bound))
new_cell AnExecutor = Second (Second unused_executor)
