-- A channel as a source. Its registrations are those of a ping.
use Rattle.std.specs.Prelude.{◌≡◌, ℕ, ◌+◌, ◌<◌, ◌⊎◌, Bool, true, false, ◌||◌, List, [], ◌∷◌, ◌++◌, Option}
use Rattle.logbook.specs.Pages.{Book}
use Rattle.calloop_wake.specs.declared.Tally.{Tally}
use Rattle.calloop_wake.specs.declared.ChannelTurn.{ChannelTurn}
use Rattle.calloop_wake.specs.declared.channel.Label.{Label}
use Rattle.calloop_wake.specs.declared.channel.Popped.{Popped}
use Rattle.calloop_wake.specs.declared.channel.Popped.TheVariants.{Item, Empty, Closed as NoMore}
use Rattle.calloop_wake.specs.Channels.{LabelView, pops, is_close, turn_after_pop, tally_after_pop}
use Rattle.calloop_sources.specs.sources.Calls.{CallbackCall, Calling, Went}
use Rattle.calloop_sources.specs.sources.Deeds.{Heard}
use Rattle.calloop_sources.specs.sources.Meanings.{Meaning}
use Rattle.calloop_ends.specs.declared.channel.Event.{Event}
use Rattle.calloop_ends.specs.declared.channel.Event.TheVariants.{Msg, Closed}
use Rattle.calloop_ends.specs.declared.channel.ChannelError.{ChannelError}
use Rattle.calloop_ends.specs.cell.CellSources.{OpenTurns, cell_meaning}
use Rattle.calloop_ends.specs.ping.Pings.{action_of}

-- the view of a channel: its tally, and how many messages it holds at most
pub record ReceivingEnd : Type 0 where
  pub tally : Tally
  pub bound : Option ℕ

-- the view of a sender of a bounded channel: the name of the cell to which it sends, and the bound
pub record BoundedEnd : Type 0 where
  pub name : Book
  pub bound : ℕ

-- another message was handed out
abbrev pub with_message : ReceivingEnd → ReceivingEnd
with_message c = record c { tally = record c.tally { number = c.tally.number + 1 } }

-- the calls of a channel's callback
abbrev pub ChannelCalls : Type 0 → Type 0
ChannelCalls T = List (CallbackCall (Event T) (Unit {0}) (Unit {0}))

abbrev pub calls_with : {T : Type 0} → Event T → ChannelCalls T
calls_with e = record { event = e; before = tt; after = tt; answer = tt } ∷ []

-- the call for a pop's answer: with a message, with the close, or none
abbrev pub call_of : {T : Type 0} → Popped T → ChannelCalls T
call_of (Item x) = calls_with (Msg x)
call_of Empty = []
call_of NoMore = calls_with Closed

abbrev pub calls_of : {T : Type 0} → List (Popped T) → ChannelCalls T
calls_of [] = []
calls_of (p ∷ ps) = call_of p ++ calls_of ps

-- a turn of the channel with this label, which popped nothing yet
abbrev pub turn_at_start : Label → ChannelTurn
turn_at_start label = record { name = label.name; left = pops label.bound; done = false }

-- a turn with the answers of its pops, in order
abbrev pub turn_after : {T : Type 0} → List (Popped T) → ChannelTurn → ChannelTurn
turn_after [] turn = turn
turn_after (p ∷ ps) turn = turn_after ps (turn_after_pop p turn)

abbrev pub tally_after : {T : Type 0} → List (Popped T) → Tally → Tally
tally_after [] tally = tally
tally_after (p ∷ ps) tally = tally_after ps (tally_after_pop p tally)

-- each pop is made by a turn that may make another one, and whose last pop found a message
abbrev pub ArePops : {T : Type 0} → List (Popped T) → ChannelTurn → Type 0
ArePops [] turn = Unit {0}
ArePops (p ∷ ps) turn = (0 < turn.left) × (turn.done ≡ false) × ArePops ps (turn_after_pop p turn)

-- a turn ends at a pop that finds no message, or after as many pops as it may make
abbrev pub IsOver : ChannelTurn → Type 0
IsOver turn = (turn.left ≡ 0) ⊎ (turn.done ≡ true)

-- a pop told the close
abbrev pub told_in : {T : Type 0} → List (Popped T) → Bool
told_in [] = false
told_in (p ∷ ps) = is_close p || told_in ps

-- what a turn did: its pops and their answers, what became of the turn and of the tally, whether the close was told, and that the
-- callback was called for just these
pub record Handed
    {F T X Q : Type 0}
    (may : Calling F (Event T) (Unit {0}) (Unit {0}) X Q)
    (reaches : Q → Q → Type 0)
    (turn : ChannelTurn) (tally : Tally) (f : F) (x : X) (q : Q)
    (popped : List (Popped T))
    (turn' : ChannelTurn) (tally' : Tally) (told : Bool) (g : F) (y : X) (r : Q) : Type 0 where
  pub are : ArePops popped turn
  pub turn_is : turn' ≡ turn_after popped turn
  pub tally_is : tally' ≡ tally_after popped tally
  pub told_is : told ≡ told_in popped
  pub went : Went may reaches f x q (calls_of popped) g y r

-- a turn of a channel with this bound that made no pop yet
abbrev pub fresh_turn : LabelView → ChannelTurn
fresh_turn label = record { name = label.name; left = pops label.bound; done = false }

-- the part of a channel's cell that never changes
abbrev pub label_of : ReceivingEnd → LabelView
label_of c = record { name = c.tally.name; bound = c.bound }

-- A turn pops until a pop finds no message, or until its limit. The callback is called with the messages in order, and then with
-- the close if it is told, which removes the source; the tally counts just these. calloop's process_events is this loop over its
-- queue.
abbrev pub ChannelOpens : {T : Type 0} → OpenTurns ReceivingEnd (Event T) (Unit {0}) (Unit {0})
ChannelOpens {T} c calls action after =
    (popped : List (Popped T)) × ArePops popped (fresh_turn (label_of c)) × IsOver (turn_after popped (fresh_turn (label_of c)))
    × (calls ≡ calls_of popped) × (action ≡ action_of (told_in popped))
    × (after ≡ record c { tally = tally_after popped (record c.tally { turns = c.tally.turns + 1 }) })

abbrev pub channel_tally : ReceivingEnd → Tally
channel_tally c = c.tally

-- its cell stays the same one
abbrev pub SameChannel : (before after : ReceivingEnd) → Type 0
SameChannel before after = label_of after ≡ label_of before

abbrev pub channel_meaning : {P T : Type 0}
    → Meaning ReceivingEnd P (Heard (Event T) (Unit {0}) (Unit {0}) ChannelError)
channel_meaning = cell_meaning channel_tally SameChannel ChannelOpens
