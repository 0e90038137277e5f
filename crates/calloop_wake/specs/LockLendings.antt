-- What the holder of a lock has after its content was lent.
use Rattle.atomic_table.specs.Lent.{seat_with}
use Rattle.calloop_wake.specs.declared.locked.Held.{Held}

abbrev pub held_with : {X T : Type 0} → Held X T → X → Held X T
held_with h w = record h { seat = seat_with h.seat 0 w }
