-- The wake machine: cells, a board and a loop, and every step that any party may take, in any order. In calloop the
-- kernel does these steps, for the descriptors of pings and the poller that waits for them; here they are steps on
-- values.
use Rattle.std.specs.Prelude.{
  ◌≡◌,
  ◌≢◌,
  ℕ,
  ◌+◌,
  ◌-◌,
  ◌<◌,
  Bool,
  true,
  false,
  if◌then◌else◌,
  ◌⊎◌,
  List,
  [],
  ◌∷◌,
  Option,
  Some,
  None,
  nat_eq,
  nat_lt,
  ◌&&◌,
}
use Rattle.calloop_wake.specs.Cells.{one}
use Rattle.calloop_wake.specs.Boards.{
  is_open,
  is_marked,
  any_marked,
  wakes,
  after_open_place,
  after_close_place,
  after_post,
  after_unpost,
}
use Rattle.calloop_wake.specs.declared.board.Place.{Place}

-- a kind of cells, e.g. the cells of pings: what the machine reads of a cell, and what its steps do to one
pub record Kind : Type 1 where
  pub Cell : Type 0
  -- the steps of this kind alone, which take neither key nor pass
  pub Own : Type 0
  pub key : Cell → Option ℕ
  pub pinged : Cell → Bool
  pub Needs : Own → Cell → Type 0
  pub after : Own → Cell → Cell
  -- its key is set, or taken away; the drop of its receiving end takes it away for good
  pub keyed : (key : ℕ) → Cell → Cell
  pub unkeyed : (by_drop : Bool) → Cell → Cell
  -- whether the pass of this key opens a turn, and the cell in its turn
  pub opens : (key : ℕ) → Cell → Bool
  pub opened : Cell → Cell
  -- whether a turn is open; and the steps of this kind alone that belong to such a turn, its pops and its end
  pub draining : Cell → Bool
  pub OfTurn : Own → Type 0
  -- what mustn't be lost is seen: the cell is pinged, or a turn is open
  pub IsStanding : Cell → Type 0

-- the debt that a step of its own returns: of the key, if the step pings anew
abbrev pub owed_by : (K : Kind) → K.Cell → K.Cell → Option ℕ
owed_by K c d = if K.pinged c then None else if K.pinged d then K.key d else None

-- the debt that setting a key returns, if the cell is pinged
abbrev pub owed_at : (K : Kind) → ℕ → K.Cell → Option ℕ
owed_at K k c = if K.pinged c then Some k else None

-- how many values of each key are out
abbrev pub Bag : Type 0
Bag = ℕ → ℕ

-- none is out
abbrev pub no_value : Bag
no_value k = 0

-- with another one of this key
abbrev pub and_one : ℕ → Bag → Bag
and_one k bag j = bag j + one (nat_eq j k)

-- with another one, if there is a key
abbrev pub and_any : Option ℕ → Bag → Bag
and_any None bag = bag
and_any (Some k) bag = and_one k bag

-- with one fewer of this key
abbrev pub less_one : ℕ → Bag → Bag
less_one k bag j = bag j - one (nat_eq j k)

-- the loop's state: at work, past a look that found no mark, or in its wait; in calloop, in dispatch_events
pub data Loop : Type 0 where
  Awake Looked Asleep : Loop

-- all that the steps change; an open turn is in its cell, as `draining`
pub record WakeWorld (C : Type 0) : Type 0 where
  -- a cell for each number; one that nobody uses is fresh
  pub cells : ℕ → C
  pub board : List Place
  -- keys that have to be posted
  pub debts : Bag
  -- keys that were taken from the board
  pub passes : Bag
  -- keys of places that were opened, and that no cell has yet
  pub opened : Bag
  -- keys whose cells have another key now
  pub permits : Bag
  -- wakeups that are owed
  pub wakeups : ℕ
  -- a wakeup reached the poller since its last wait; in calloop the poller keeps what `Notifier::notify` tells it
  pub signal : Bool
  pub loop : Loop

-- nothing has happened
abbrev pub start : {C : Type 0} → (ℕ → C) → WakeWorld C
start fresh =
    record {
      cells = fresh;
      board = [];
      debts = no_value;
      passes = no_value;
      opened = no_value;
      permits = no_value;
      wakeups = 0;
      signal = false;
      loop = Awake;
    }

-- A step of any party. A ping's own steps, set key, clear key and open turn are calloop's writes to a descriptor, its
-- registration, the taking back of it, and process_events; place, post, look and unpost are the kernel's poller; wakeup,
-- sleep and return are the wait.
pub data WakeStep (O : Type 0) : Type 0 where
  -- one of the steps that only this kind has
  At : (cell : ℕ) (own : O) → WakeStep O
  ClearKey : (cell : ℕ) (by_drop : Bool) → WakeStep O
  SetKey OpenTurn : (cell key : ℕ) → WakeStep O
  OpenPlace ClosePlace Post Back : (key : ℕ) → WakeStep O
  -- the posted keys below this bound are taken
  Unpost : (below : ℕ) → WakeStep O
  Look Wakeup Sleep Return : WakeStep O

-- the cells, with this one in the place of the cell of that number
abbrev pub with_cell : {C : Type 0} → ℕ → C → (ℕ → C) → ℕ → C
with_cell n c cells j = if nat_eq j n then c else cells j

-- What a step needs: the value that it spends, and the loop's state. A place is opened if the key has none.
-- The loop sleeps after a look that found no mark, and a loop that sleeps doesn't look. A wait can return without
-- having slept: a wait of zero has no look before it, and one that is interrupted may count as an empty answer.
-- calloop's kernel asks for none of these.
abbrev pub Needs : (K : Kind) → WakeWorld K.Cell → WakeStep K.Own → Type 0
Needs K w (At n s) = K.Needs s (w.cells n)
Needs K w (SetKey n k) = 0 < w.opened k
Needs K w (OpenTurn n k) = 0 < w.passes k
Needs K w (ClearKey n by_drop) = Unit {0}
Needs K w (OpenPlace k) = is_open k w.board ≡ false
Needs K w (ClosePlace k) = 0 < w.permits k
Needs K w (Post k) = 0 < w.debts k
Needs K w (Back k) = 0 < w.passes k
Needs K w Look = w.loop ≢ Asleep
Needs K w (Unpost below) = Unit {0}
Needs K w Wakeup = 0 < w.wakeups
Needs K w Sleep = w.loop ≡ Looked
Needs K w Return = Unit {0}

-- the world after a step: cell and board change as the contracts of the working functions say
abbrev pub after : (K : Kind) → WakeWorld K.Cell → WakeStep K.Own → WakeWorld K.Cell
after K w (At n s) =
    record w {
      cells = with_cell n (K.after s (w.cells n)) w.cells;
      debts = and_any (owed_by K (w.cells n) (K.after s (w.cells n))) w.debts;
    }
after K w (SetKey n k) =
    record w {
      cells = with_cell n (K.keyed k (w.cells n)) w.cells;
      opened = less_one k w.opened;
      debts = and_any (owed_at K k (w.cells n)) w.debts;
      permits = and_any (K.key (w.cells n)) w.permits;
    }
after K w (ClearKey n by_drop) =
    record w {
      cells = with_cell n (K.unkeyed by_drop (w.cells n)) w.cells;
      permits = and_any (K.key (w.cells n)) w.permits;
    }
-- a pass that is refused stays with its holder
after K w (OpenTurn n k) =
    record w {
      cells = with_cell n (if K.opens k (w.cells n) then K.opened (w.cells n) else w.cells n) w.cells;
      passes = if K.opens k (w.cells n) then less_one k w.passes else w.passes;
    }
after K w (OpenPlace k) = record w { board = after_open_place k w.board; opened = and_one k w.opened }
after K w (ClosePlace k) = record w { board = after_close_place k w.board; permits = less_one k w.permits }
-- a mark that is set anew owes a wakeup
after K w (Post k) =
    record w { board = after_post k w.board; debts = less_one k w.debts; wakeups = w.wakeups + one (wakes k w.board) }
after K w (Back k) = record w { passes = less_one k w.passes; debts = and_one k w.debts }
-- the permit to sleep is returned if no key is marked
after K w Look = record w { loop = if any_marked w.board then Awake else Looked }
after K w (Unpost below) =
    record w {
      board = after_unpost below w.board;
      passes = λ j. w.passes j + one (is_marked j w.board && nat_lt j below);
    }
after K w Wakeup = record w { wakeups = w.wakeups - 1; signal = true }
after K w Sleep = record w { loop = Asleep }
-- the wait returns, and consumes the signal
after K w Return = record w { signal = false; loop = Awake }

-- a schedule: any list of steps, by any number of parties, in which each finds what it needs
abbrev pub IsSchedule : (K : Kind) → WakeWorld K.Cell → List (WakeStep K.Own) → Type 0
IsSchedule K w [] = Unit {0}
IsSchedule K w (s ∷ ss) = Needs K w s × IsSchedule K (after K w s) ss

-- the world after a list of steps
abbrev pub after_all : (K : Kind) → WakeWorld K.Cell → List (WakeStep K.Own) → WakeWorld K.Cell
after_all K w [] = w
after_all K w (s ∷ ss) = after_all K (after K w s) ss

-- a key is posted, owed, or held as a pass
abbrev pub IsKnown : {C : Type 0} → WakeWorld C → ℕ → Type 0
IsKnown w k = (is_marked k w.board ≡ true) ⊎ (0 < w.debts k) ⊎ (0 < w.passes k)

-- nothing that was given to a cell is lost; calloop relies on the kernel for all three
pub record IsCovered (K : Kind) (w : WakeWorld K.Cell) : Type 0 where
  -- what mustn't be lost in a cell is pinged, or a turn of the cell is open
  pub standing : (n : ℕ) → K.IsStanding (w.cells n)
  -- a pinged cell's key is known
  pub pinged : (n k : ℕ) → K.pinged (w.cells n) ≡ true → K.key (w.cells n) ≡ Some k → IsKnown w k
  -- a key that is posted after a look that found none is told: a wakeup is owed, or the signal is set
  pub told : (k : ℕ) → w.loop ≢ Awake → is_marked k w.board ≡ true → (0 < w.wakeups) ⊎ (w.signal ≡ true)
