-- The registrations of a cell, by what they find.
use Rattle.std.proofs.Common.{◌≡◌, ℕ, [], rules, refl, subst, nat_eq, Option, Some, None, IsSome, IfOk, IfErr, Result, Ok, Err, false}
use Rattle.std.specs.Option.{option_eq}
use Rattle.calloop_slots.specs.declared.error.Error.{Error}
use Rattle.calloop_slots.specs.declared.token.Token.{Token}
use Rattle.calloop_slots.specs.declared.token.TokenFactory.{TokenFactory}
use Rattle.calloop_wake.specs.declared.Tally.{Tally}
use Rattle.calloop_slots.specs.Tokens.{key_of, next_token, after_token}
use Rattle.calloop_wake.specs.Cells.{is_own}
use Rattle.calloop_poll.specs.sys.Polls.{CannotOpen}
use Rattle.calloop_ends.specs.cell.CellSources.{Registers, RegistersAnew, NoPlace, NoPlaceAnew}

pub own_by_equal : (n : ℕ) (k : Option ℕ) → option_eq nat_eq k (Some n) ≡ is_own n k
own_by_equal n None = refl
own_by_equal n (Some own) = search rules

-- the outcome of a registration whose place is opened, or can't be
pub registers : (P : Type 0) (tally : Tally) (f g : TokenFactory) (token : Token) (answer : Result (Unit {0}) Error) (after : Tally) → token ≡ next_token f → g ≡ after_token f → IfOk answer (λ _. after ≡ record tally { key = Some (key_of token) }) → IfErr answer (λ e. CannotOpen e × (after ≡ tally)) → tally.key ≡ None → Registers {P = P} tally f answer [] after g
registers P tally f g token (Ok u) after is_next is_after ok err none = (none, refl, subst (λ t. after ≡ record tally { key = Some (key_of t) }) is_next ok, is_after)
registers P tally f g token (Err e) after is_next is_after ok err none = (refl, err.1, NoPlace none err.0 is_after)

-- and of a registration anew
pub registers_anew : (P : Type 0) (tally : Tally) (f g : TokenFactory) (token : Token) (answer : Result (Unit {0}) Error) (after : Tally) → token ≡ next_token f → g ≡ after_token f → IfOk answer (λ _. after ≡ record tally { key = Some (key_of token) }) → IfErr answer (λ e. CannotOpen e × (after ≡ tally)) → IsSome tally.key → is_own (key_of token) tally.key ≡ false → RegistersAnew {P = P} tally f answer [] after g
registers_anew P tally f g token (Ok u) after is_next is_after ok err some other = (some, refl, subst (λ t. after ≡ record tally { key = Some (key_of t) }) is_next ok, is_after)
registers_anew P tally f g token (Err e) after is_next is_after ok err some other =
    (refl, err.1, NoPlaceAnew some (subst (λ t. is_own (key_of t) tally.key ≡ false) is_next other) err.0 is_after)
