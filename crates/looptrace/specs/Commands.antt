-- The commands of a script, one on each line.
use Rattle.std.specs.Prelude.{
  ℕ,
  ◌+◌,
  ◌-◌,
  ◌*◌,
  ◌^◌,
  Bool,
  true,
  false,
  ◌&&◌,
  ◌||◌,
  List,
  [],
  ◌∷◌,
  length,
  take,
  drop,
  Option,
  Some,
  None,
  nat_lt,
  nat_le,
  nat_eq,
  ◌==◌,
  if◌then◌else◌,
  codes,
}
use Rattle.std.specs.List.{list_all, starts_with, position}
use Rattle.std.specs.Option.{option_map}
use Rattle.std.specs.Cmp.Lexicographic.{pointwise}
use Rattle.calloop_poll.specs.declared.sys.Readiness.{Readiness}
use Rattle.looptrace.specs.declared.command.Command.{Command}
use Rattle.looptrace.specs.declared.command.Command.TheVariants.{
  Nothing,
  Ping,
  Ring,
  Close,
  Remove,
  Answer,
  Timer,
  Clock,
  Fault,
  Dispatch,
}

-- `0` to `9`
abbrev pub is_digit : ℕ → Bool
is_digit b = nat_le 48 b && nat_le b 57

-- `0` to `9` and `a` to `z`
abbrev pub is_name_byte : ℕ → Bool
is_name_byte b = is_digit b || (nat_le 97 b && nat_le b 122)

-- 1 to 32 bytes of a name
abbrev pub is_name : List ℕ → Bool
is_name word = nat_le 1 (length word) && nat_le (length word) 32 && list_all is_name_byte word

-- the word itself, if it is a name
abbrev pub name_of : List ℕ → Option (List ℕ)
name_of word = if is_name word then Some word else None

-- the value of further digits after those of this value, if it fits 64 bits
abbrev pub digits_from : ℕ → List ℕ → Option ℕ
digits_from value [] = Some value
digits_from value (b ∷ bs) =
    if is_digit b && nat_lt (value * 10 + (b - 48)) (2 ^ 64) then digits_from (value * 10 + (b - 48)) bs else None

-- a decimal number of 64 bits with no leading zero but 0 itself
abbrev pub number_of : List ℕ → Option ℕ
number_of [] = None
number_of (b ∷ bs) = if b == 48 && nat_lt 0 (length bs) then None else digits_from 0 (b ∷ bs)

-- a timeout in nanoseconds, or `-` for none
abbrev pub timeout_of : List ℕ → Option (Option ℕ)
timeout_of word = if pointwise nat_eq word (codes "-") then Some None else option_map Some (number_of word)

-- a command that makes a ping
abbrev pub ping_of : List ℕ → Option Command
ping_of word = option_map Ping (name_of word)

-- a command that rings a ping
abbrev pub ring_of : List ℕ → Option Command
ring_of word = option_map Ring (name_of word)

-- a command that closes a ping
abbrev pub close_of : List ℕ → Option Command
close_of word = option_map Close (name_of word)

-- a command that makes a timer, if both words can be read
abbrev pub timer_with : (name : Option (List ℕ)) → (deadline : Option ℕ) → Option Command
timer_with None deadline = None
timer_with (Some name) None = None
timer_with (Some name) (Some deadline) = Some (Timer name deadline)

-- a name before the first space, and a deadline behind it
abbrev pub timer_parted : (space : Option ℕ) → List ℕ → Option Command
timer_parted None words = None
timer_parted (Some space) words = timer_with (name_of (take space words)) (number_of (drop (space + 1) words))

abbrev pub is_space : ℕ → Bool
is_space b = b == 32

abbrev pub timer_of : List ℕ → Option Command
timer_of words = timer_parted (position is_space words) words

-- a command that removes what a token names, if both numbers can be read
abbrev pub remove_with : (slot version : Option ℕ) → Option Command
remove_with None version = None
remove_with (Some slot) None = None
remove_with (Some slot) (Some version) = Some (Remove slot version)

-- a slot before the first space, and a version behind it
abbrev pub remove_parted : (space : Option ℕ) → List ℕ → Option Command
remove_parted None words = None
remove_parted (Some space) words = remove_with (number_of (take space words)) (number_of (drop (space + 1) words))

abbrev pub remove_of : List ℕ → Option Command
remove_of words = remove_parted (position is_space words) words

-- readable, writable or both, and never an error
abbrev pub readiness_of : List ℕ → Option Readiness
readiness_of word =
    if pointwise nat_eq word (codes "r") then Some (record { readable = true; writable = false; error = false })
    else if pointwise nat_eq word (codes "w") then Some (record { readable = false; writable = true; error = false })
    else if pointwise nat_eq word (codes "rw") then Some (record { readable = true; writable = true; error = false })
    else None

-- a command that adds an event to the pending answer, if both words can be read
abbrev pub answer_with : (key : Option ℕ) → Option Readiness → Option Command
answer_with None readiness = None
answer_with (Some key) None = None
answer_with (Some key) (Some readiness) = Some (Answer key readiness)

-- a key before the first space, and a readiness behind it
abbrev pub answer_parted : (space : Option ℕ) → List ℕ → Option Command
answer_parted None words = None
answer_parted (Some space) words = answer_with (number_of (take space words)) (readiness_of (drop (space + 1) words))

abbrev pub answer_of : List ℕ → Option Command
answer_of words = answer_parted (position is_space words) words

-- a command that sets the clock
abbrev pub clock_of : List ℕ → Option Command
clock_of word = option_map Clock (number_of word)

-- a command with a timeout
abbrev pub dispatch_of : List ℕ → Option Command
dispatch_of line =
    if starts_with nat_eq line (codes "dispatch ") then option_map Dispatch (timeout_of (drop 9 line)) else None

-- a removal, an event, or a dispatch
unfoldable pub other_of : List ℕ → Option Command
other_of line =
    if starts_with nat_eq line (codes "remove ") then remove_of (drop 7 line)
    else if starts_with nat_eq line (codes "answer ") then answer_of (drop 7 line) else dispatch_of line

-- the command of a line, if the line can be read
abbrev pub command_of : List ℕ → Option Command
command_of line =
    if length line == 0 then Some Nothing
    else if starts_with nat_eq line (codes "ping ") then ping_of (drop 5 line)
    else if starts_with nat_eq line (codes "ring ") then ring_of (drop 5 line)
    else if starts_with nat_eq line (codes "close ") then close_of (drop 6 line)
    else if starts_with nat_eq line (codes "timer ") then timer_of (drop 6 line)
    else if starts_with nat_eq line (codes "clock ") then clock_of (drop 6 line)
    else if pointwise nat_eq line (codes "fault") then Some Fault
    else other_of line
