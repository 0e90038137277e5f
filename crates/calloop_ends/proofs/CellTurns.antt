-- The turn of a cell's receiving end, by what it finds.
use Rattle.std.proofs.Common.{◌≡◌, List, [], ◌∷◌, refl, true, Option, Some, None, Ok}
use Rattle.calloop_slots.specs.declared.token.Token.{Token}
use Rattle.calloop_wake.specs.declared.Tally.{Tally}
use Rattle.calloop_slots.specs.Tokens.{key_of}
use Rattle.calloop_wake.specs.Cells.{is_own}
use Rattle.calloop_wake.specs.Passes.{Taken}
use Rattle.calloop_sources.specs.declared.sources.source.PostAction.{PostAction}
use Rattle.calloop_sources.specs.declared.sources.source.PostAction.TheVariants.{Continue}
use Rattle.calloop_sources.specs.sources.Calls.{CallbackCall}
use Rattle.calloop_poll.specs.sys.Polls.{PollStep, TakePass}
use Rattle.calloop_ends.specs.cell.CellSources.{OpenTurns, TurnWith, CellTurn}

module _ (S P E M T Cause : Type 0) (tally : S → Tally) (Opens : OpenTurns S E M T) (s : S) (token : Token) (pass : Option Taken) where
  -- an event without a pass
  pub turn_without : is_own (key_of token) (tally s).key ≡ true → pass ≡ None → CellTurn {P = P} tally Opens {Cause = Cause} s token pass [] (Ok Continue) (TakePass ∷ []) s
  turn_without own none = rw (own, none) (refl, refl, refl, refl)

  -- an event with a pass
  pub turn_with : (p : Taken) (calls : List (CallbackCall E M T)) (action : PostAction) (steps : List (PollStep P)) (t : S) → is_own (key_of token) (tally s).key ≡ true → pass ≡ Some p
      → TurnWith tally Opens (Some p) s calls action steps t → CellTurn tally Opens {Cause = Cause} s token pass calls (Ok action) steps t
  turn_with p calls action steps t own some h = rw (own, some) h
