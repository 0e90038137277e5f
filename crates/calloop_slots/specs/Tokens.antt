-- Tokens and their keys.
use Rattle.std.specs.Prelude.{ℕ, ◌+◌, ◌-◌, ◌*◌, ◌/◌, ◌%◌, ◌<◌}
use Rattle.calloop_slots.specs.Widths.{most_slots, versions, parts}
use Rattle.calloop_slots.specs.declared.token.Token.{Token}
use Rattle.calloop_slots.specs.declared.token.RegistrationToken.{RegistrationToken}
use Rattle.calloop_slots.specs.declared.token.TokenFactory.{TokenFactory}

-- the token as one word: calloop's token.rs packs the three into a usize in the same way
abbrev pub key_of : Token → ℕ
key_of t = t.slot * (versions * parts) + t.version * parts + t.sub_id

-- the token of a word
abbrev pub token_of : ℕ → Token
token_of key = record { slot = key / (versions * parts); version = key / parts % versions; sub_id = key % parts }

-- the slot of the token of a word
abbrev pub slot_of_key : ℕ → ℕ
slot_of_key key = key / (versions * parts)

-- its numbers fit their widths, as the types of calloop's TokenInner say
pub record IsToken (t : Token) : Type 0 where
  pub slot : t.slot < most_slots
  pub version : t.version < versions
  pub sub_id : t.sub_id < parts

-- the token without its part: calloop's forget_sub_id sets the part to 0, here it is left out
abbrev pub registration_of : Token → RegistrationToken
registration_of t = record { slot = t.slot; version = t.version }

-- how many tokens a factory can give out; calloop panics at the next one
abbrev pub most_tokens : ℕ
most_tokens = parts - 1

-- the next token of a factory: the count is the sub-id, as in calloop's TokenFactory
abbrev pub next_token : TokenFactory → Token
next_token f = record { slot = f.registration.slot; version = f.registration.version; sub_id = f.given }

-- the factory after it gave out a token; calloop panics if the count is used up, here the call fails
abbrev pub after_token : TokenFactory → TokenFactory
after_token f = record f { given = f.given + 1 }
