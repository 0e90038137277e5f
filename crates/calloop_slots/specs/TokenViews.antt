-- Tokens as contracts see them: numbers of any size. Those of an actual token fit their widths.
use Rattle.std.specs.Prelude.{ℕ}

-- a token: calloop's TokenInner
pub record TokenView : Type 0 where
  pub slot : ℕ
  pub version : ℕ
  pub sub_id : ℕ

-- a registration: a TokenInner whose sub-id is 0
pub record RegistrationView : Type 0 where
  pub slot : ℕ
  pub version : ℕ
