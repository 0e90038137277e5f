-- What a dispatcher becomes when its source is lent, and a socket's source when its socket is.
use Rattle.calloop_sources.specs.declared.sources.dispatch.Dispatcher.{Dispatcher}
use Rattle.calloop_sources.specs.declared.generic.Generic.{Generic}

abbrev pub with_source : {S F : Type 0} → S → Dispatcher S F → Dispatcher S F
with_source s d = record d { source = s }

abbrev pub with_socket : {F E : Type 0} → F → Generic F E → Generic F E
with_socket io s = record s { io = record { io = io } }
