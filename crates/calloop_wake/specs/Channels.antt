-- The cell of a channel and its steps: for each step the cell after it, and its result.
use Rattle.std.specs.Prelude.{
  ◌≡◌,
  ℕ,
  ◌+◌,
  ◌-◌,
  ◌<◌,
  ◌≤◌,
  Bool,
  true,
  false,
  ◌&&◌,
  ◌||◌,
  not,
  if◌then◌else◌,
  Option,
  Some,
  None,
  IfSome,
  IsSome,
  Result,
  Ok,
  Err,
  List,
  [],
  ◌∷◌,
  ◌++◌,
  length,
  nat_lt,
  min,
}
use Rattle.logbook.specs.Pages.{Book}
use Rattle.calloop_wake.specs.Passes.{Taken, Keyed}
use Rattle.calloop_wake.specs.Cells.{Cell, fresh, one, opens, after_set_key}
use Rattle.calloop_wake.specs.Bells.{BellView, after_ping, after_drain, after_end, after_tell_close}
use Rattle.calloop_wake.specs.declared.Receipt.{Receipt}
use Rattle.calloop_wake.specs.declared.Tally.{Tally}
use Rattle.calloop_wake.specs.declared.ChannelTurn.{ChannelTurn}
use Rattle.calloop_wake.specs.declared.channel.LastPop.{LastPop}
use Rattle.calloop_wake.specs.declared.channel.LastPop.TheVariants.{NoPop, AnItem, NoItem}
use Rattle.calloop_wake.specs.declared.channel.Popped.{Popped}
use Rattle.calloop_wake.specs.declared.channel.Popped.TheVariants.{Item, Empty, Closed}
use Rattle.calloop_wake.specs.declared.channel.PutError.{PutError}
use Rattle.calloop_wake.specs.declared.channel.PutError.TheVariants.{Gone, Full, OutOfMemory}

-- what the ends of a channel share; in calloop's channel.rs it is the queue of std's mpsc and a ping
pub record ChannelCell (T : Type 0) : Type 0 where
  pub cell : Cell
  -- the messages that were put and not yet handed out
  pub queue : List T
  -- the most that it holds; never changes
  pub bound : Option ℕ
  -- the result of the turn's last pop
  pub last : LastPop

abbrev pub fresh_channel : {T : Type 0} → Option ℕ → ChannelCell T
fresh_channel bound = record { cell = fresh; queue = []; bound = bound; last = NoPop }

-- the channel with another bell: after a ring, a close, and a change of its key
abbrev pub with_bell : {T : Type 0} → Cell → ChannelCell T → ChannelCell T
with_bell b c = record { cell = b; queue = c.queue; bound = c.bound; last = c.last }

abbrev pub is_below : ℕ → Option ℕ → Bool
is_below n None = true
is_below n (Some bound) = nat_lt n bound

-- there is room for a message
abbrev pub has_room : {T : Type 0} → ChannelCell T → Bool
has_room c = is_below (length c.queue) c.bound

abbrev pub after_put : {T : Type 0} → T → ChannelCell T → ChannelCell T
after_put x c = record { cell = after_ping c.cell; queue = c.queue ++ x ∷ []; bound = c.bound; last = c.last }

-- the message that comes back
abbrev pub handed_back : {T : Type 0} → PutError T → T
handed_back (Gone x) = x
handed_back (Full x) = x
handed_back (OutOfMemory x) = x

-- only a channel with a bound can be full, and memory can run out only in one without
abbrev pub FitsBound : {T : Type 0} → Option ℕ → PutError T → Type 0
FitsBound bound (Gone x) = Unit {0}
FitsBound bound (Full x) = IsSome bound
FitsBound bound (OutOfMemory x) = bound ≡ None

-- the most pops of a turn; as calloop's process_events
abbrev pub pops : Option ℕ → ℕ
pops None = 1024
pops (Some bound) = min (bound + 1) 1024

-- a pass of this key opens a turn
abbrev pub after_open_turn : {T : Type 0} → ℕ → ChannelCell T → ChannelCell T
after_open_turn k c =
    if opens k c.cell then record { cell = after_drain c.cell; queue = c.queue; bound = c.bound; last = NoPop } else c

-- the close is told by a pop that finds nothing
abbrev pub tells_close : Cell → Bool
tells_close c = c.closed && not c.told

abbrev pub popped_of : {T : Type 0} → List T → (tells : Bool) → Popped T
popped_of (x ∷ xs) tells = Item x
popped_of [] tells = if tells then Closed else Empty

-- the result of a pop
abbrev pub pop_answer : {T : Type 0} → ChannelCell T → Popped T
pop_answer c = popped_of c.queue (tells_close c.cell)

abbrev pub after_pop_of : {T : Type 0} → List T → ChannelCell T → ChannelCell T
after_pop_of (x ∷ xs) c = record { cell = c.cell; queue = xs; bound = c.bound; last = AnItem }
after_pop_of [] c = record { cell = after_tell_close c.cell; queue = []; bound = c.bound; last = NoItem }

abbrev pub after_pop : {T : Type 0} → ChannelCell T → ChannelCell T
after_pop c = after_pop_of c.queue c

-- the result of a pop outside of a turn, which happens only if there is a message
abbrev pub front : {T : Type 0} → List T → Option T
front [] = None
front (x ∷ xs) = Some x

abbrev pub after_take_of : {T : Type 0} → List T → ChannelCell T → ChannelCell T
after_take_of (x ∷ xs) c = record { cell = c.cell; queue = xs; bound = c.bound; last = AnItem }
after_take_of [] c = c

abbrev pub after_take : {T : Type 0} → ChannelCell T → ChannelCell T
after_take c = after_take_of c.queue c

abbrev pub is_item : {T : Type 0} → Popped T → Bool
is_item (Item x) = true
is_item Empty = false
is_item Closed = false

abbrev pub is_close : {T : Type 0} → Popped T → Bool
is_close (Item x) = false
is_close Empty = false
is_close Closed = true

-- the turn stopped before a pop found nothing
abbrev pub is_early : LastPop → Bool
is_early NoPop = true
is_early AnItem = true
is_early NoItem = false

abbrev pub after_end_turn : {T : Type 0} → ChannelCell T → ChannelCell T
after_end_turn c = record { cell = after_end (is_early c.last) c.cell; queue = c.queue; bound = c.bound; last = c.last }

-- nothing is left to hand out or tell, or the cell is pinged
pub record IsPingedIfDue {T : Type 0} (c : ChannelCell T) : Type 0 where
  pub queue : 0 < length c.queue → c.cell.pinged ≡ true
  pub close : tells_close c.cell ≡ true → c.cell.pinged ≡ true

-- Messages and closes keep the cell pinged, between turns, and in a turn whose last pop found nothing. Calloop has no
-- word for it: a turn that stops early rings its own ping.
pub record IsLitChannel {T : Type 0} (c : ChannelCell T) : Type 0 where
  pub at_rest : c.cell.draining ≡ false → IsPingedIfDue c
  pub in_turn : is_early c.last ≡ false → IsPingedIfDue c

-- a close is told only once it has happened, and the channel holds at most its bound
pub record IsSoundChannel {T : Type 0} (c : ChannelCell T) : Type 0 where
  pub told : c.cell.told ≡ true → c.cell.closed ≡ true
  pub room : IfSome c.bound (λ bound. length c.queue ≤ bound)

-- no message and no close is lost: the cell is pinged, or a turn is open
pub record IsStandingChannel {T : Type 0} (c : ChannelCell T) : Type 0 where
  pub queue : 0 < length c.queue → (c.cell.pinged || c.cell.draining) ≡ true
  pub close : tells_close c.cell ≡ true → (c.cell.pinged || c.cell.draining) ≡ true

-- a channel's messages, and how many were put and handed out in all
pub record QueueView (T : Type 0) : Type 0 where
  pub items : List T
  pub bound : Option ℕ
  pub puts : ℕ
  pub given : ℕ

abbrev pub queue_after_put : {T : Type 0} → T → QueueView T → QueueView T
queue_after_put x q = record { items = q.items ++ x ∷ []; bound = q.bound; puts = q.puts + 1; given = q.given }

abbrev pub queue_after_pop_of : {T : Type 0} → List T → QueueView T → QueueView T
queue_after_pop_of (x ∷ xs) q = record { items = xs; bound = q.bound; puts = q.puts; given = q.given + 1 }
queue_after_pop_of [] q = q

abbrev pub queue_after_pop : {T : Type 0} → QueueView T → QueueView T
queue_after_pop q = queue_after_pop_of q.items q

-- a channel's cell, and what only contracts see of it: its name, and numbers that calloop keeps nowhere
pub record ChannelView (T : Type 0) : Type 0 where
  pub state : ChannelCell T
  -- no other cell has it
  pub name : Book
  -- the name of the board of its key; means nothing without a key
  pub board : Book
  -- how many messages were put
  pub puts : ℕ
  -- how many were handed out
  pub given : ℕ

-- the view of a cell by its parts
abbrev pub channel_of : {T : Type 0} → BellView → QueueView T → LastPop → ChannelView T
channel_of b q last =
    record {
      state = record { cell = b.cell; queue = q.items; bound = q.bound; last = last };
      name = b.name;
      board = b.board;
      puts = q.puts;
      given = q.given;
    }

abbrev pub view_with : {T : Type 0} → ChannelCell T → ChannelView T → ChannelView T
view_with s c = record { state = s; name = c.name; board = c.board; puts = c.puts; given = c.given }

-- the cell with the key of a place on this board
abbrev pub view_after_set_key : {T : Type 0} → Keyed → ChannelView T → ChannelView T
view_after_set_key k c =
    record {
      state = with_bell (after_set_key k.key c.state.cell) c.state;
      name = c.name;
      board = k.board;
      puts = c.puts;
      given = c.given;
    }

abbrev pub view_after_put : {T : Type 0} → T → ChannelView T → ChannelView T
view_after_put x c =
    record { state = after_put x c.state; name = c.name; board = c.board; puts = c.puts + 1; given = c.given }

-- the receipt of the next message: its cell's name, and how many were put before
abbrev pub receipt_of : {T : Type 0} → ChannelView T → Receipt
receipt_of c = record { name = c.name; number = c.puts }

abbrev pub view_after_pop : {T : Type 0} → ChannelView T → ChannelView T
view_after_pop c =
    record {
      state = after_pop c.state;
      name = c.name;
      board = c.board;
      puts = c.puts;
      given = c.given + one (is_item (pop_answer c.state));
    }

abbrev pub is_there : {T : Type 0} → List T → Bool
is_there [] = false
is_there (x ∷ xs) = true

abbrev pub view_after_take : {T : Type 0} → ChannelView T → ChannelView T
view_after_take c =
    record {
      state = after_take c.state;
      name = c.name;
      board = c.board;
      puts = c.puts;
      given = c.given + one (is_there c.state.queue);
    }

-- the receiving end counts the messages that it got, and the closes that it was told
abbrev pub tally_after_pop : {T : Type 0} → Popped T → Tally → Tally
tally_after_pop p tally =
    record tally { number = tally.number + one (is_item p); closes = tally.closes + one (is_close p) }

abbrev pub tally_after_take : {T : Type 0} → ChannelCell T → Tally → Tally
tally_after_take c tally = record tally { number = tally.number + one (is_there c.queue) }

-- it counts the turns that it opened
abbrev pub tally_after_open : ℕ → Cell → Tally → Tally
tally_after_open k c tally = record tally { turns = tally.turns + one (opens k c) }

-- the turn after a pop
abbrev pub turn_after_pop : {T : Type 0} → Popped T → ChannelTurn → ChannelTurn
turn_after_pop p turn = record { name = turn.name; left = turn.left - 1; done = not (is_item p) }

-- the result of opening a turn: the turn of this cell, or the pass back, marked as refused by the cell
abbrev pub turn_of : {T : Type 0} → Taken → ChannelView T → Result ChannelTurn Taken
turn_of p c =
    if opens p.key c.state.cell
    then Ok (record { name = c.name; left = pops c.state.bound; done = false })
    else Err (record p { refused = Some c.name })

-- what never changes of a channel's cell
pub record LabelView : Type 0 where
  pub name : Book
  pub bound : Option ℕ
