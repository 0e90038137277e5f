-- The cells of pings are a lawful kind.
use Rattle.std.proofs.Common.{◌≡◌, ℕ, Bool, true, false, ◌&&◌, ◌||◌, not, Option, Some, None, refl, sym, ap, eqb-true}
use Rattle.calloop_wake.specs.Cells.{Cell, fresh, is_own, IsLit, in_turn}
use Rattle.calloop_wake_laws.specs.PingKind.{PingStep, Ring, Close, EndTurn, ping_kind}
use Rattle.calloop_wake_laws.proofs.Schedules.{IsLawful, IsFresh}

pub own-is : (k : ℕ) (o : Option ℕ) → is_own k o ≡ true → o ≡ Some k
own-is k None h = absurd (cc)
own-is k (Some j) h = ap Some (sym (eqb-true k j h))

pub and-left : (a b : Bool) → (a && b) ≡ true → a ≡ true
and-left true b h = refl
and-left false b h = h

in_turn-lit : (c : Cell) → IsLit (in_turn c)
in_turn-lit c = elim c.closed as (λ b. (b && not (b || c.told)) ≡ true → false ≡ true) [ true ↦ λ h. h | false ↦ λ h. h ]

ping_own_key : (s : PingStep) (c : Cell) → ping_kind.key (ping_kind.after s c) ≡ ping_kind.key c
ping_own_key Ring c = refl
ping_own_key Close c = refl
ping_own_key EndTurn c = refl

ping_own_lit : (s : PingStep) (c : Cell) → ping_kind.Needs s c → IsLit c → IsLit (ping_kind.after s c)
ping_own_lit Ring c need l = λ h. refl
ping_own_lit Close c need l = λ h. refl
ping_own_lit EndTurn c need l = l

pub ping_lawful : IsLawful ping_kind
ping_lawful = record {
  IsLit = IsLit;
  own_key = ping_own_key;
  own_lit = ping_own_lit;
  keyed_key = λ k c. refl;
  keyed_pinged = λ k c. refl;
  keyed_lit = λ k c l. l;
  unkeyed_key = λ b c. refl;
  unkeyed_lit = λ b c l. l;
  opens_own = λ k c h. own-is k c.key (and-left (is_own k c.key) (not c.draining) h);
  opened_key = λ c. refl;
  opened_pinged = λ c. refl;
  opened_lit = λ k c o l. in_turn-lit c;
  standing = λ c l h. ap (λ b. b || c.draining) (l h);
}

pub fresh_is : IsFresh ping_kind ping_lawful fresh
unfolding ping_lawful
fresh_is = record { lit = λ h. absurd (cc); quiet = refl; unkeyed = refl }
