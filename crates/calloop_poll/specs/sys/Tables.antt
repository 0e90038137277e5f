-- The table of sockets: what is waited for under each key. calloop's poller keeps it, by descriptor; here `Poll` does, by
-- key.
use Rattle.std.specs.Prelude.{
  ◌≡◌,
  ℕ,
  ℤ,
  ◌+◌,
  List,
  Bool,
  true,
  false,
  not,
  nat_eq,
  ◌&&◌,
  if◌then◌else◌,
  Option,
  None,
  Some,
  is_some,
  Result,
  Ok,
  slice_index_or,
}
use Rattle.std.specs.Ordering.{nat_cmp}
use Rattle.std.specs.BTreeMap.{insert_entry, is_at}
use Rattle.std.specs.Map.{lookup, remove_entry}
use Rattle.std.specs.declared.io.Error.{Error as Cause}
use Rattle.std.specs.declared.io.ErrorKind.{ErrorKind}
use Rattle.std.specs.declared.io.ErrorKind.TheVariants.{AlreadyExists, NotFound}
use Rattle.calloop_slots.specs.declared.token.Token.{Token}
use Rattle.calloop_slots.specs.Tokens.{key_of, slot_of_key}
use Rattle.calloop_poll.specs.declared.sys.Watched.{Watched}
use Rattle.calloop_poll.specs.declared.sys.poll.socket_table.Indexed.{Indexed}
use Rattle.calloop_poll.specs.sys.Pollers.{Outside, Sockets, PollerCall, Add, Modify, Delete, asks, faults_of}

-- the keys ascend, and each occurs once
abbrev pub Table : Type 0
Table = List (ℕ × Watched)

abbrev pub watched_at : (key : ℕ) → Table → Option Watched
watched_at key table = lookup (is_at (nat_cmp key)) table

abbrev pub is_in : (key : ℕ) → Table → Bool
is_in key table = is_some (watched_at key table)

abbrev pub with_key : (key : ℕ) → Watched → Table → Table
with_key key watched table = insert_entry nat_cmp table key watched

abbrev pub without_key : (key : ℕ) → Table → Table
without_key key table = remove_entry (is_at (nat_cmp key)) table

-- the index's entry at a slot
abbrev pub indexed_at : (slot : ℕ) → List (Option Indexed) → Option Indexed
indexed_at slot index = slice_index_or index slot None

-- an index by slot: the entry of a key at that key's slot is in the table
abbrev pub IsIndexOf : List (Option Indexed) → Table → Type 0
IsIndexOf index table =
    (key : ℕ) (watched : Watched) → indexed_at (slot_of_key key) index ≡ Some (record { key = key; watched = watched })
    → watched_at key table ≡ Some watched

-- an edit of the table for a socket: enter it under a token; move it from one token to another, or the same; remove it; and
-- drop the entry of a token without telling a poller. The first three are calloop's register, reregister and unregister of
-- `Poll`.
pub data Edit : Type 0 where
  Enter : (token : Token) (watched : Watched) → Edit
  Change : (before token : Token) (watched : Watched) → Edit
  Leave : (token : Token) → Edit
  Discard : (token : Token) → Edit

abbrev pub moved_to : (before key : ℕ) → Watched → Table → Table
moved_to before key watched table =
    if nat_eq before key then with_key key watched table else without_key before (with_key key watched table)

abbrev pub after_edit : Edit → Table → Table
after_edit (Enter token watched) table = with_key (key_of token) watched table
after_edit (Change before token watched) table = moved_to (key_of before) (key_of token) watched table
after_edit (Leave token) table = without_key (key_of token) table
after_edit (Discard token) table = without_key (key_of token) table

-- why the table refuses, before memory is reserved and before the poller is called
abbrev pub unless_in : Bool → Option ErrorKind
unless_in true = Some AlreadyExists
unless_in false = None

abbrev pub cannot : Edit → Table → Option ErrorKind
cannot (Enter token watched) table = unless_in (is_in (key_of token) table)
cannot (Change before token watched) table =
    if is_in (key_of before) table
    then unless_in (not (nat_eq (key_of before) (key_of token)) && is_in (key_of token) table)
    else Some NotFound
cannot (Leave token) table = if is_in (key_of token) table then None else Some NotFound
cannot (Discard token) table = None

-- the edit brings a key that wasn't in the table, for which memory may run out
abbrev pub grows : Edit → Bool
grows (Enter token watched) = true
grows (Change before token watched) = not (nat_eq (key_of before) (key_of token))
grows (Leave token) = false
grows (Discard token) = false

-- About the poller: a socket with an empty interest is in the table alone.

abbrev pub is_known : Option Watched → Bool
is_known None = false
is_known (Some watched) = asks watched.interest

-- the poller call, by whether it knows the socket; calloop always calls add, modify or delete, as the edit is
abbrev pub deleted_if : (known : Bool) → Option PollerCall
deleted_if known = if known then Some Delete else None

abbrev pub call_for : (known : Bool) → (key : ℕ) → Watched → Option PollerCall
call_for known key watched =
    if asks watched.interest
    then Some (if known then Modify key watched else Add key watched)
    else deleted_if known

abbrev pub call_of : Edit → Table → Option PollerCall
call_of (Enter token watched) table = call_for false (key_of token) watched
call_of (Change before token watched) table =
    call_for (is_known (watched_at (key_of before) table)) (key_of token) watched
call_of (Leave token) table = deleted_if (is_known (watched_at (key_of token) table))
call_of (Discard token) table = None

-- a call of the poller, or none, and its count of faults
abbrev pub Called : {P : Type 0} → Outside P → P → Option PollerCall → Result (Unit {0}) Cause → P → Type 0
Called O p None answer q = (answer ≡ Ok tt) × (q ≡ p)
Called O p (Some call) answer q = O.calls p call answer q × (O.faults q ≡ O.faults p + faults_of answer)

-- the same, for this descriptor
abbrev pub CalledFor : {P : Type 0} → Sockets P → P → (fd : ℤ) → Option PollerCall → Result (Unit {0}) Cause → P → Type 0
CalledFor sockets p fd None answer q = (answer ≡ Ok tt) × (q ≡ p)
CalledFor sockets p fd (Some call) answer q = sockets p fd call answer q
