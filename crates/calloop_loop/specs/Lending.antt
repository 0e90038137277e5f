-- What a loop becomes when its poller, or a source of it, was lent through a handle.
use Rattle.calloop_slots.specs.declared.token.RegistrationToken.{RegistrationToken}
use Rattle.calloop_slots.specs.declared.list.Content.TheVariants.{Source}
use Rattle.calloop_slots.specs.Slots.{with_change, with_content}
use Rattle.calloop_poll.specs.Lending.{with_poller}
use Rattle.calloop_loop.specs.declared.EventLoop.{EventLoop}
use Rattle.calloop_loop.specs.declared.LoopHandle.{LoopHandle}

abbrev pub with_loop_poller : {D P C R X I : Type 0} → P → EventLoop D P C R X I → EventLoop D P C R X I
with_loop_poller w l = record l { poll = with_poller w l.poll }

abbrev pub with_handle_poller : {D P C R X I : Type 0} → P → LoopHandle D P C R X I → LoopHandle D P C R X I
with_handle_poller w h = record { inner = record h.inner { now = with_loop_poller w h.inner.now } }

abbrev pub with_loop_source : {D P C R X I : Type 0} → RegistrationToken → D → EventLoop D P C R X I
    → EventLoop D P C R X I
with_loop_source token d l = record l { sources = with_change (with_content (Source d)) l.sources token.slot }

abbrev pub with_handle_source : {D P C R X I : Type 0} → RegistrationToken → D → LoopHandle D P C R X I
    → LoopHandle D P C R X I
with_handle_source token d h = record { inner = record h.inner { now = with_loop_source token d h.inner.now } }
