-- The cell of a ping and its steps: for each step the cell after it, and its result.
use Rattle.std.specs.Prelude.{
  ◌≡◌,
  ℕ,
  ◌+◌,
  ◌-◌,
  ◌<◌,
  ◌≤◌,
  Bool,
  true,
  false,
  ◌&&◌,
  ◌||◌,
  not,
  if◌then◌else◌,
  Option,
  Some,
  None,
  nat_eq,
  nat_lt,
  Result,
  Ok,
  Err,
}
use Rattle.logbook.specs.Pages.{Book}
use Rattle.calloop_wake.specs.Passes.{Taken, Keyed}
use Rattle.calloop_wake.specs.declared.Receipt.{Receipt}
use Rattle.calloop_wake.specs.declared.Tally.{Tally}
use Rattle.calloop_wake.specs.declared.ping.OpenedTurn.{OpenedTurn}

-- what the ends of a ping share; in calloop's ping.rs it is the state of an eventfd or a pipe
pub record Cell : Type 0 where
  -- the ping was rung since the last turn was opened
  pub rung : Bool
  -- the key is posted, or about to be
  pub pinged : Bool
  -- a turn is open
  pub draining : Bool
  -- the last sender is gone
  pub closed : Bool
  -- a turn was opened that tells the close
  pub told : Bool
  -- the receiving end is gone
  pub gone : Bool
  -- the key under which the loop knows it
  pub key : Option ℕ
  -- the number of senders
  pub senders : ℕ

-- a new cell without senders
abbrev pub fresh : Cell
fresh =
    record {
      rung = false;
      pinged = false;
      draining = false;
      closed = false;
      told = false;
      gone = false;
      key = None;
      senders = 0;
    }

-- the next turn has something to tell: a ring, or a close that no turn has told yet
abbrev pub is_due : Cell → Bool
is_due c = c.rung || (c.closed && not c.told)

-- what is due is pinged, between any two steps; calloop relies on the kernel for it
abbrev pub IsLit : Cell → Type 0
IsLit c = is_due c ≡ true → c.pinged ≡ true

-- no ring and no close is lost: what is due is pinged, or a turn is open
abbrev pub IsStanding : Cell → Type 0
IsStanding c = is_due c ≡ true → (c.pinged || c.draining) ≡ true

-- a close is told only once it has happened
abbrev pub IsTold : Cell → Type 0
IsTold c = c.told ≡ true → c.closed ≡ true

-- the debt of pinging the cell: its key, if it wasn't pinged
abbrev pub debt_of : Cell → Option ℕ
debt_of c = if c.pinged then None else c.key

-- calloop's Ping::ping writes to the descriptor
abbrev pub after_ring : Cell → Cell
after_ring c = record c { rung = true; pinged = true }

-- the last sender is gone: in calloop the drop of the last Ping writes to the descriptor
abbrev pub after_close : Cell → Cell
after_close c = record c { senders = 0; closed = true; pinged = true }

-- another sender, as when a Ping is cloned; calloop counts them by an Arc
abbrev pub after_add_sender : Cell → Cell
after_add_sender c = record c { senders = c.senders + 1 }

-- there is a sender beside the one that is dropped
abbrev pub has_others : Cell → Bool
has_others c = nat_lt 1 c.senders

-- one sender less, and a close if it was the last
abbrev pub after_drop_sender : Cell → Cell
after_drop_sender c = if has_others c then record c { senders = c.senders - 1 } else after_close c

-- the debt of a sender's drop
abbrev pub owed_by_drop : Cell → Option ℕ
owed_by_drop c = if has_others c then None else debt_of c

-- calloop registers the descriptor under the key
abbrev pub after_set_key : ℕ → Cell → Cell
after_set_key k c = record c { key = Some k }

-- calloop takes the descriptor out of the poller, at the latest when the receiving end is dropped
abbrev pub after_clear_key : (by_drop : Bool) → Cell → Cell
after_clear_key by_drop c = record c { key = None; gone = by_drop || c.gone }

-- the debt of setting the key: the poller reports at once a descriptor that was written before
abbrev pub owed_at : ℕ → Cell → Option ℕ
owed_at k c = if c.pinged then Some k else None

-- the key is the cell's own
abbrev pub is_own : ℕ → Option ℕ → Bool
is_own k None = false
is_own k (Some own) = nat_eq k own

-- a pass of this key opens a turn; calloop's PingSource compares the token of the event with its own
abbrev pub opens : ℕ → Cell → Bool
opens k c = is_own k c.key && not c.draining

-- a turn is open, which tells what was due
abbrev pub in_turn : Cell → Cell
in_turn c = record c { pinged = false; draining = true; rung = false; told = c.closed || c.told }

-- calloop's process_events reads the descriptor empty
abbrev pub after_open_turn : ℕ → Cell → Cell
after_open_turn k c = if opens k c then in_turn c else c

-- calloop's process_events returns
abbrev pub after_end_turn : Cell → Cell
after_end_turn c = record c { draining = false }

-- how many a test finds
abbrev pub one : Bool → ℕ
one true = 1
one false = 0

-- a cell, and what only contracts see of it: its name, and numbers that calloop keeps nowhere
pub record CoreView : Type 0 where
  pub cell : Cell
  -- no other cell has it
  pub name : Book
  -- the name of the board of its key; means nothing without a key
  pub board : Book
  -- how many rings there were
  pub rings : ℕ
  -- how many rings there were when the last turn was opened
  pub seen : ℕ
  -- how many turns took a ring
  pub taken : ℕ

-- a ring is pending exactly if there was one since the last turn was opened; the rings that turns took, and the pending
-- one, are at most all rings
pub record IsSince (c : CoreView) : Type 0 where
  pub rung : c.cell.rung ≡ true → c.seen < c.rings
  pub quiet : c.cell.rung ≡ false → c.seen ≡ c.rings
  pub taken : c.taken + one c.cell.rung ≤ c.rings

abbrev pub core_with : Cell → CoreView → CoreView
core_with cell c = record c { cell = cell }

-- the cell with the key of a place on this board
abbrev pub core_after_set_key : Keyed → CoreView → CoreView
core_after_set_key k c = record c { cell = after_set_key k.key c.cell; board = k.board }

abbrev pub core_after_ring : CoreView → CoreView
core_after_ring c = record c { cell = after_ring c.cell; rings = c.rings + 1 }

-- the receipt of the next ring: its cell's name, and how many rings there were before
abbrev pub receipt_of : CoreView → Receipt
receipt_of c = record { name = c.name; number = c.rings }

-- a pass of this key opens a turn that takes a ring
abbrev pub takes : ℕ → Cell → ℕ
takes k c = one (opens k c && c.rung)

abbrev pub core_after_open_turn : ℕ → CoreView → CoreView
core_after_open_turn k c =
    record c {
      cell = after_open_turn k c.cell;
      seen = if opens k c.cell then c.rings else c.seen;
      taken = c.taken + takes k c.cell;
    }

-- a pass of this key opens a turn that tells the close
abbrev pub closes_by_turn : ℕ → Cell → ℕ
closes_by_turn k c = one (opens k c && (c.closed && not c.told))

-- the receiving end of the cell of this name, which has set no key yet and counted nothing; its misses, the tasks that
-- were popped before their futures came, belong to executors alone
abbrev pub fresh_tally : Book → Tally
fresh_tally name = record { name = name; key = None; turns = 0; number = 0; closes = 0; misses = 0 }

-- a receiving end that has set no key yet, and opened no turn
abbrev pub tally_of : CoreView → Tally
tally_of c = fresh_tally c.name

-- the receiving end counts the turns that it opened, the rings that they took, and the closes that they told
abbrev pub tally_after_open_turn : ℕ → CoreView → Tally → Tally
tally_after_open_turn k c tally =
    record tally {
      turns = tally.turns + one (opens k c.cell);
      number = tally.number + takes k c.cell;
      closes = tally.closes + closes_by_turn k c.cell;
    }

-- the result of opening a turn: the turn of this cell with what was due, or the pass back, marked as refused by the cell
abbrev pub turn_of : Taken → CoreView → Result OpenedTurn Taken
turn_of p c =
    if opens p.key c.cell
    then Ok (record { turn = record { name = c.name }; rung = c.cell.rung; told = c.cell.closed && not c.cell.told })
    else Err (record p { refused = Some c.name })
