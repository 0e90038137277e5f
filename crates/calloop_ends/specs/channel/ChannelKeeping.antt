-- A turn of a channel leaves its key as it is, and makes no step of a timer. The impl cites these proofs, so they stand here.
use Rattle.std.specs.Prelude.{◌≡◌, ◌+◌, List, [], ◌∷◌}
use Rattle.std.proofs.Common.{refl, ap, ◌∙◌}
use Rattle.calloop_wake.specs.declared.Tally.{Tally}
use Rattle.calloop_wake.specs.declared.channel.Popped.{Popped}
use Rattle.calloop_wake.specs.Channels.{tally_after_pop}
use Rattle.calloop_sources.specs.sources.Meanings.{IsKeeping}
use Rattle.calloop_ends.specs.cell.CellKeeping.{OpensQuietly, cell_keeps}
use Rattle.calloop_ends.specs.channel.Channels.{ChannelOpens, SameChannel, channel_tally, channel_meaning, tally_after}

-- the pops of a turn change no key
tally_key : {T : Type 0} (ps : List (Popped T)) (tally : Tally) → (tally_after ps tally).key ≡ tally.key
tally_key [] tally = refl
tally_key (p ∷ ps) tally = tally_key ps (tally_after_pop p tally)

channel_quiet : {T : Type 0} → OpensQuietly channel_tally (ChannelOpens {T = T})
channel_quiet s t calls action h =
    ap (λ x. x.tally.key) h.5 ∙ tally_key h.0 (record s.tally { turns = s.tally.turns + 1 })

pub channel_keeps : {P T : Type 0} → IsKeeping (channel_meaning {P = P} {T = T})
channel_keeps = cell_keeps channel_tally SameChannel ChannelOpens channel_quiet
