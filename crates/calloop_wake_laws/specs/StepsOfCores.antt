-- The machine's steps in terms of the cells' own: what the core of a cell returns is what the step returns.
use Rattle.std.specs.Prelude.{ℕ, Option, Some}
use Rattle.calloop_wake.specs.Cells.{Cell, fresh}
use Rattle.calloop_wake_laws.specs.Wakes.{WakeWorld, and_any, and_one, less_one, no_value, start, with_cell}

-- cell n becomes this, and this debt is added
abbrev pub with_step : {C : Type 0} → ℕ → C → Option ℕ → WakeWorld C → WakeWorld C
with_step n c debt w = record w { cells = with_cell n c w.cells; debts = and_any debt w.debts }

-- and this permit to close is added
abbrev pub with_permit : {C : Type 0} → Option ℕ → WakeWorld C → WakeWorld C
with_permit permit w = record w { permits = and_any permit w.permits }

-- the place of this key is taken
abbrev pub with_place_taken : {C : Type 0} → ℕ → WakeWorld C → WakeWorld C
with_place_taken k w = record w { opened = less_one k w.opened }

-- every cell is a ping's, has key 7, and nobody rang it; and a place was opened under key 9
abbrev pub with_key_7 : WakeWorld Cell
with_key_7 = start (λ _. record fresh { key = Some 7 })

abbrev pub with_place_9_opened : WakeWorld Cell
with_place_9_opened = record with_key_7 { opened = and_one 9 no_value }
