-- The cells of channels as a kind of the wake machine: a ring, the close by the last sender's drop, a put, a turn's pop, the
-- pop of a call that receives, and the end of a turn. Messages are numbers here. The machine also keeps how far the open turn
-- has come, what was put and handed out, and each telling of the close.
use Rattle.std.specs.Prelude.{◌≡◌, ℕ, ◌-◌, ◌<◌, ◌≤◌, ◌⊎◌, not, Bool, true, false, Option, List, [], ◌∷◌, ◌++◌, length}
use Rattle.calloop_wake.specs.Cells.{Cell, after_close, after_set_key, after_clear_key, opens}
use Rattle.calloop_wake.specs.Bells.{after_ping, after_drain}
use Rattle.calloop_wake.specs.Channels.{ChannelCell, fresh_channel, with_bell, has_room, pops, after_put, pop_answer, after_pop, after_take, is_item, is_close, after_end_turn, IsStandingChannel, IsSoundChannel}
use Rattle.calloop_wake_laws.specs.Wakes.{Kind}
use Rattle.calloop_wake.specs.declared.channel.LastPop.TheVariants.{NoPop}
use Rattle.calloop_wake.specs.declared.channel.Popped.{Popped}
use Rattle.calloop_wake.specs.declared.channel.Popped.TheVariants.{Item, Empty, Closed}

-- a channel's cell when a pop told the close: whether it was closed, and how many messages it had
pub record Telling : Type 0 where
  pub closed : Bool
  pub left : ℕ

-- how far a turn has come: how many pops it has left, and whether its last one found no message, as the pop's result says.
-- calloop's process_events counts its loop
pub record Progress : Type 0 where
  pub left : ℕ
  pub done : Bool

-- a turn that made no pop
abbrev pub at_start : Option ℕ → Progress
at_start bound = record { left = pops bound; done = false }

-- and after a pop
abbrev pub behind_pop : Popped ℕ → Progress → Progress
behind_pop p turn = record { left = turn.left - 1; done = not (is_item p) }

-- a channel's cell, and its past: the turn that was opened last, the messages that were put, those that were handed out, in
-- order, and the tellings of the close. calloop keeps none of it
pub record ChannelPast : Type 0 where
  pub now : ChannelCell ℕ
  pub turn : Progress
  pub taken : List ℕ
  pub given : List ℕ
  pub tellings : List Telling

-- a channel to which nothing has happened
abbrev pub unused_channel : Option ℕ → ChannelPast
unused_channel bound = record { now = fresh_channel bound; turn = at_start bound; taken = []; given = []; tellings = [] }

abbrev pub past_with : ChannelCell ℕ → ChannelPast → ChannelPast
past_with c p = record p { now = c }

abbrev pub past_with_bell : Cell → ChannelPast → ChannelPast
past_with_bell b p = record p { now = with_bell b p.now }

pub data ChannelStep : Type 0 where
  Ring Close Pop Take EndTurn : ChannelStep
  Put : (message : ℕ) → ChannelStep

-- A message is put if the receiving end is there and has room. The last sender goes once. An open turn pops as often as it
-- may, and is ended when its last pop found no message, or when it may make no further one. A call that receives takes a
-- message if there is one; it may do so within a turn too.
abbrev pub channel_needs : ChannelStep → ChannelPast → Type 0
channel_needs Ring p = Unit {0}
channel_needs Close p = p.now.cell.closed ≡ false
channel_needs Pop p = (p.now.cell.draining ≡ true) × (0 < p.turn.left)
channel_needs Take p = 0 < length p.now.queue
channel_needs EndTurn p = (p.now.cell.draining ≡ true) × ((p.turn.left ≡ 0) ⊎ (p.turn.done ≡ true))
channel_needs (Put x) p = (p.now.cell.gone ≡ false) × (has_room p.now ≡ true)

-- the message that a pop hands out
abbrev pub item_of : Popped ℕ → List ℕ
item_of (Item x) = x ∷ []
item_of Empty = []
item_of Closed = []

-- the telling of a pop that tells the close
abbrev pub told_by : (is_close : Bool) → ChannelCell ℕ → List Telling
told_by true c = record { closed = c.cell.closed; left = length c.queue } ∷ []
told_by false c = []

abbrev pub channel_after : ChannelStep → ChannelPast → ChannelPast
channel_after Ring p = past_with_bell (after_ping p.now.cell) p
channel_after Close p = past_with_bell (after_close p.now.cell) p
channel_after Pop p =
    record {
      now = after_pop p.now;
      turn = behind_pop (pop_answer p.now) p.turn;
      taken = p.taken;
      given = p.given ++ item_of (pop_answer p.now);
      tellings = p.tellings ++ told_by (is_close (pop_answer p.now)) p.now;
    }
-- a receiving call tells no close
channel_after Take p = record p { now = after_take p.now; given = p.given ++ item_of (pop_answer p.now) }
channel_after EndTurn p = past_with (after_end_turn p.now) p
channel_after (Put x) p = record p { now = after_put x p.now; taken = p.taken ++ x ∷ [] }

-- at every telling of the close the cell was closed and empty
abbrev pub AllOfEmpty : List Telling → Type 0
AllOfEmpty [] = Unit {0}
AllOfEmpty (t ∷ ts) = (t.closed ≡ true) × (t.left ≡ 0) × AllOfEmpty ts

-- What holds of a channel: no message and no close is lost; what was put is what was handed out, and then the queue; the close
-- is told at most once, and only when the cell is closed and empty; and a turn makes at most the pops that it may.
pub record IsStandingPast (p : ChannelPast) : Type 0 where
  pub standing : IsStandingChannel p.now
  pub sound : IsSoundChannel p.now
  pub in_order : p.taken ≡ p.given ++ p.now.queue
  pub once : length p.tellings ≤ 1
  pub of_empty : AllOfEmpty p.tellings
  pub bounded : p.turn.left ≤ pops p.now.bound

abbrev pub is_of_turn : ChannelStep → Type 0
is_of_turn Ring = ⊥
is_of_turn Close = ⊥
is_of_turn Pop = Unit {0}
is_of_turn Take = ⊥
is_of_turn EndTurn = Unit {0}
is_of_turn (Put x) = ⊥

abbrev pub channel_kind : Kind
channel_kind =
    record {
      Cell = ChannelPast;
      Own = ChannelStep;
      key = λ p. p.now.cell.key;
      pinged = λ p. p.now.cell.pinged;
      Needs = channel_needs;
      after = channel_after;
      keyed = λ k p. past_with_bell (after_set_key k p.now.cell) p;
      unkeyed = λ by_drop p. past_with_bell (after_clear_key by_drop p.now.cell) p;
      opens = λ k p. opens k p.now.cell;
      opened = λ p.
          record p {
            now = record { cell = after_drain p.now.cell; queue = p.now.queue; bound = p.now.bound; last = NoPop };
            turn = at_start p.now.bound;
          };
      draining = λ p. p.now.cell.draining;
      OfTurn = is_of_turn;
      IsStanding = IsStandingPast;
    }
