-- What a `Poll` becomes when its poller is lent.
use Rattle.calloop_poll.specs.declared.sys.poll.Poll.{Poll}

abbrev pub with_poller : {P C R : Type 0} → P → Poll P C R → Poll P C R
with_poller w p = record p { poller = w }
