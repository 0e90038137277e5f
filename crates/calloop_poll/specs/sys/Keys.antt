-- Which keys belong to which registration. calloop's sources keep their tokens, and nothing there says which registration
-- these belong to.
use Rattle.std.specs.Prelude.{◌≡◌, ℕ, ◌<◌, List, [], ◌∷◌}
use Rattle.calloop_slots.specs.Widths.{parts}
use Rattle.calloop_slots.specs.declared.token.RegistrationToken.{RegistrationToken}
use Rattle.calloop_slots.specs.declared.token.TokenFactory.{TokenFactory}
use Rattle.calloop_slots.specs.Tokens.{key_of}
use Rattle.calloop_poll.specs.sys.Tables.{Edit, Enter, Change, Leave, Discard}
use Rattle.calloop_poll.specs.sys.Polls.{PollStep, Arm, ArmAgain, Socket}

-- the key of a token of this registration, whatever the token's part (sub-id) is
abbrev pub IsKeyOf : RegistrationToken → (key : ℕ) → Type 0
IsKeyOf r key =
    (part : ℕ) × (part < parts) × (key ≡ key_of (record { slot = r.slot; version = r.version; sub_id = part }))

-- the factory makes tokens of this registration, and its count fits its width
abbrev pub IsFactoryOf : RegistrationToken → TokenFactory → Type 0
IsFactoryOf r f = (f.registration ≡ r) × (f.given < parts)

abbrev pub EditsFor : RegistrationToken → Edit → Type 0
EditsFor r (Enter token watched) = IsKeyOf r (key_of token)
EditsFor r (Change before token watched) = IsKeyOf r (key_of before) × IsKeyOf r (key_of token)
EditsFor r (Leave token) = IsKeyOf r (key_of token)
EditsFor r (Discard token) = IsKeyOf r (key_of token)

-- the step arms deadlines and edits the table under keys of this registration alone
abbrev pub ActsFor : {P : Type 0} → RegistrationToken → PollStep P → Type 0
ActsFor r (Arm deadline token) = IsKeyOf r (key_of token)
ActsFor r (ArmAgain counter deadline token) = IsKeyOf r (key_of token)
ActsFor r (Socket edit after) = EditsFor r edit
ActsFor r step = Unit {0}

abbrev pub AllActFor : {P : Type 0} → RegistrationToken → List (PollStep P) → Type 0
AllActFor r [] = Unit {0}
AllActFor r (s ∷ ss) = ActsFor r s × AllActFor r ss

-- registered under no key
abbrev pub no_key : (key : ℕ) → Type 0
no_key key = ⊥
