-- The cells of pings as a kind of the wake machine, with the steps that only they have: a ring, the close by the last sender's
-- drop, and the end of a turn.
use Rattle.std.specs.Prelude.{◌≡◌, true}
use Rattle.calloop_wake.specs.Cells.{
  Cell,
  IsStanding,
  after_ring,
  after_close,
  after_set_key,
  after_clear_key,
  in_turn,
  after_end_turn,
  opens,
}
use Rattle.calloop_wake_laws.specs.Wakes.{Kind}

pub data PingStep : Type 0 where
  Ring Close EndTurn : PingStep

-- a turn can be ended if one is open
abbrev pub ping_needs : PingStep → Cell → Type 0
ping_needs Ring c = Unit {0}
ping_needs Close c = Unit {0}
ping_needs EndTurn c = c.draining ≡ true

abbrev pub ping_after : PingStep → Cell → Cell
ping_after Ring c = after_ring c
ping_after Close c = after_close c
ping_after EndTurn c = after_end_turn c

abbrev pub is_of_turn : PingStep → Type 0
is_of_turn Ring = ⊥
is_of_turn Close = ⊥
is_of_turn EndTurn = Unit {0}

abbrev pub ping_kind : Kind
ping_kind =
    record {
      Cell = Cell;
      Own = PingStep;
      key = λ c. c.key;
      pinged = λ c. c.pinged;
      Needs = ping_needs;
      after = ping_after;
      keyed = after_set_key;
      unkeyed = after_clear_key;
      opens = opens;
      opened = in_turn;
      draining = λ c. c.draining;
      OfTurn = is_of_turn;
      IsStanding = IsStanding;
    }
