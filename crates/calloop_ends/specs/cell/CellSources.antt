-- The receiving end of a cell as a source: what registers, moves and takes back the cell's key, for every kind of cell. calloop
-- registers a descriptor with its poller; here a place is opened on the board under one lock, and the cell gets its key under
-- another. The view of a source is its tally, which has the key that it gave the cell.
use Rattle.std.specs.Prelude.{◌≡◌, ◌⊎◌, ℕ, List, [], ◌∷◌, Bool, true, false, Option, Some, None, IsSome, Result, Ok, Err}
use Rattle.std.specs.declared.io.ErrorKind.TheVariants.{AlreadyExists, NotFound}
use Rattle.calloop_slots.specs.declared.error.Error.{Error}
use Rattle.calloop_slots.specs.declared.error.Error.TheVariants.{TooManyTokens}
use Rattle.calloop_slots.specs.declared.token.Token.{Token}
use Rattle.calloop_slots.specs.declared.token.TokenFactory.{TokenFactory}
use Rattle.calloop_wake.specs.declared.Tally.{Tally}
use Rattle.calloop_slots.specs.Tokens.{key_of, next_token, after_token, most_tokens}
use Rattle.calloop_wake.specs.Cells.{is_own}
use Rattle.calloop_wake.specs.Passes.{Taken}
use Rattle.calloop_sources.specs.declared.sources.source.PostAction.{PostAction}
use Rattle.calloop_sources.specs.declared.sources.source.PostAction.TheVariants.{Continue}
use Rattle.calloop_sources.specs.sources.Calls.{CallbackCall}
use Rattle.calloop_sources.specs.sources.Deeds.{Deed, Heard, Registered, Reregistered, Unregistered, Turned, SaysNothing, Slept, Noticed}
use Rattle.calloop_sources.specs.sources.Holdings.{holds_none}
use Rattle.calloop_sources.specs.declared.sources.dispatch.Role.TheVariants.{Caller}
use Rattle.calloop_sources.specs.sources.Meanings.{Meaning}
use Rattle.calloop_poll.specs.sys.Pollers.{Outside}
use Rattle.calloop_poll.specs.sys.Polls.{PollView, PollStep, TakePass, PutBack, AllStepped, CannotOpen, IsOfKind}

-- why a registration fails: it is registered already, the factory has no more tokens, or the place can't be opened
pub data RefusedCell (own : Option ℕ) (f : TokenFactory) (e : Error) (g : TokenFactory) : Type 0 where
  AlreadyRegistered : IsSome own → IsOfKind AlreadyExists e → g ≡ f → RefusedCell own f e g
  NoToken : own ≡ None → e ≡ TooManyTokens → f.given ≡ most_tokens → g ≡ f → RefusedCell own f e g
  NoPlace : own ≡ None → CannotOpen e → g ≡ after_token f → RefusedCell own f e g

-- the place of its token is opened, the key is set, and what was due is posted
abbrev pub Registers : {P : Type 0} → Tally → TokenFactory → Result (Unit {0}) Error → List (PollStep P) → Tally
    → TokenFactory → Type 0
Registers tally f (Ok u) steps after g =
    (tally.key ≡ None) × (steps ≡ []) × (after ≡ record tally { key = Some (key_of (next_token f)) })
    × (g ≡ after_token f)
Registers tally f (Err e) steps after g = (steps ≡ []) × (after ≡ tally) × RefusedCell tally.key f e g

-- why a registration anew fails: it isn't registered, the factory has no more tokens, or the place of another key can't be opened
pub data RefusedAnew (own : Option ℕ) (f : TokenFactory) (e : Error) (g : TokenFactory) : Type 0 where
  NotRegistered : own ≡ None → IsOfKind NotFound e → g ≡ f → RefusedAnew own f e g
  NoTokenAnew : IsSome own → e ≡ TooManyTokens → f.given ≡ most_tokens → g ≡ f → RefusedAnew own f e g
  NoPlaceAnew : IsSome own → is_own (key_of (next_token f)) own ≡ false → CannotOpen e → g ≡ after_token f
      → RefusedAnew own f e g

-- A cell that is registered moves to its next token: the place of that is opened, the key is set, the old key's place is closed,
-- and what was due is posted. Under the same key nothing is done. calloop's poller changes the descriptor's key in one step.
abbrev pub RegistersAnew : {P : Type 0} → Tally → TokenFactory → Result (Unit {0}) Error → List (PollStep P) → Tally
    → TokenFactory → Type 0
RegistersAnew tally f (Ok u) steps after g =
    IsSome tally.key × (steps ≡ []) × (after ≡ record tally { key = Some (key_of (next_token f)) })
    × (g ≡ after_token f)
RegistersAnew tally f (Err e) steps after g = (steps ≡ []) × (after ≡ tally) × RefusedAnew tally.key f e g

-- the key is cleared and its place is closed; what is due stays due
abbrev pub Unregisters : {P : Type 0} → Tally → Result (Unit {0}) Error → List (PollStep P) → Tally → Type 0
Unregisters tally (Ok u) steps after = IsSome tally.key × (steps ≡ []) × (after ≡ record tally { key = None })
Unregisters tally (Err e) steps after = (tally.key ≡ None) × IsOfKind NotFound e × (steps ≡ []) × (after ≡ tally)

-- what a turn does that the cell opens: the source before it, its calls, its answer, and the source after it
abbrev pub OpenTurns : (S E M T : Type 0) → Type 1
OpenTurns S E M T = S → List (CallbackCall E M T) → PostAction → S → Type 0

-- the turn makes these steps, and nothing else
abbrev pub OnlySteps : {S P E M T : Type 0} → (made : List (PollStep P)) → S → List (CallbackCall E M T) → PostAction
    → List (PollStep P) → S → Type 0
OnlySteps made s calls action steps t = (calls ≡ []) × (action ≡ Continue) × (steps ≡ made) × (t ≡ s)

module _ {S P E M T : Type 0} (tally : S → Tally) (Opens : OpenTurns S E M T) where
  -- Without a pass behind the event nothing is done. With a pass, the cell opens a turn. Or it refuses the pass, which is of
  -- another key or comes while a turn is open, and the pass is put back. In calloop the descriptor is read instead.
  abbrev pub TurnWith : Option Taken → S → List (CallbackCall E M T) → PostAction → List (PollStep P) → S → Type 0
  TurnWith None s calls action steps t = OnlySteps (TakePass ∷ []) s calls action steps t
  TurnWith (Some pass) s calls action steps t =
      (Opens s calls action t × (steps ≡ TakePass ∷ []))
      ⊎ OnlySteps (TakePass ∷ PutBack (record pass { refused = Some (tally s).name }) ∷ []) s calls action steps t

  -- nor is anything done for an event of another token
  abbrev pub TurnFor : (is_own : Bool) → Option Taken → S → List (CallbackCall E M T) → PostAction → List (PollStep P) → S
      → Type 0
  TurnFor true pass s calls action steps t = TurnWith pass s calls action steps t
  TurnFor false pass s calls action steps t = OnlySteps [] s calls action steps t

  -- a turn, which never fails
  abbrev pub CellTurn : {Cause : Type 0} → S → Token → Option Taken → List (CallbackCall E M T) → Result PostAction Cause
      → List (PollStep P) → S → Type 0
  CellTurn s token pass calls (Ok action) steps t = TurnFor (is_own (key_of token) (tally s).key) pass s calls action steps t
  CellTurn s token pass calls (Err e) steps t = ⊥

-- the same, by steps that can be made
abbrev pub TakesTurn : {S P E M T Cause : Type 0} → Outside P → (tally : S → Tally) → OpenTurns S E M T → Token → S → PollView P
    → List (CallbackCall E M T) → Result PostAction Cause → S → PollView P → Type 0
TakesTurn {S} {P} outside tally Opens token s v calls answer t w =
    (steps : List (PollStep P)) × CellTurn tally Opens s token v.pass calls answer steps t × AllStepped outside v steps w

-- A source that is a cell's receiving end, with this tally. `Same` says what a registration keeps, besides the tally's key.
abbrev pub IsCell : {S P E M T Cause : Type 0} → (tally : S → Tally) → (Same : S → S → Type 0) → OpenTurns S E M T → S → PollView P
    → Deed (Heard E M T Cause) → List (PollStep P) → S → Type 0
IsCell tally Same Opens s v (Registered f answer g) steps t = Registers (tally s) f answer steps (tally t) g × Same s t
IsCell tally Same Opens s v (Reregistered f answer g) steps t =
    RegistersAnew (tally s) f answer steps (tally t) g × Same s t
IsCell tally Same Opens s v (Unregistered answer) steps t = Unregisters (tally s) answer steps (tally t) × Same s t
IsCell tally Same Opens s v (Slept given answer) steps t = SaysNothing given answer × (steps ≡ []) × (t ≡ s)
IsCell tally Same Opens s v (Noticed events) steps t = (steps ≡ []) × (t ≡ s)
IsCell tally Same Opens s v (Turned readiness token turn) steps t =
    CellTurn tally Opens s token v.pass turn.calls turn.answer steps t

-- the key that the source gave its cell
abbrev pub cell_keys : {S : Type 0} → (tally : S → Tally) → S → (key : ℕ) → Type 0
cell_keys tally s key = (tally s).key ≡ Some key

abbrev pub cell_meaning : {S P E M T Cause : Type 0} → (tally : S → Tally) → (Same : S → S → Type 0) → OpenTurns S E M T
    → Meaning S P (Heard E M T Cause)
cell_meaning tally Same Opens =
    record {
      holds = λ s. holds_none;
      keys = cell_keys tally;
      fits = λ s. Unit {0};
      needs = λ s. false;
      limit = λ s. 0;
      role = λ s. Caller;
      does = IsCell tally Same Opens;
    }
