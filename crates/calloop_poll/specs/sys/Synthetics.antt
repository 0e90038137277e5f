-- What a source asks for before a wait. calloop's `before_sleep` returns one event at most.
use Rattle.std.specs.Prelude.{◌≡◌, ℕ, ◌<◌, ◌++◌, List, [], ◌∷◌, length, Result, Ok, Err}
use Rattle.calloop_slots.specs.declared.token.Token.{Token}
use Rattle.calloop_poll.specs.declared.sys.Readiness.{Readiness}

-- the events asked for in this call, how many may be asked for, and for how many there is room
pub record SyntheticView : Type 0 where
  pub given : List (Readiness × Token)
  pub limit : ℕ
  pub room : ℕ

-- `out` was lent with this limit, and nothing was asked for yet
pub record IsLent (limit : ℕ) (out : SyntheticView) : Type 0 where
  pub limit_is : out.limit ≡ limit
  pub empty : out.given ≡ []

-- the event is appended, or handed back unchanged if the limit is reached
abbrev pub Pushed : SyntheticView → Readiness × Token → Result (Unit {0}) (Readiness × Token) → SyntheticView → Type 0
Pushed out event (Ok u) after = (length out.given < out.limit) × (after ≡ record out { given = out.given ++ event ∷ [] })
Pushed out event (Err back) after = (out.limit ≡ length out.given) × (back ≡ event) × (after ≡ out)
