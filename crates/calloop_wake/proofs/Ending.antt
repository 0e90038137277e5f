-- A turn of an executor either goes on, or ends.
use Rattle.std.proofs.Common.{◌≡◌, ℕ, nat_lt, ◌<◌, ◌≤◌, Bool, true, false, ◌&&◌, not, ◌⊎◌, inl, inr, refl, arith, ltb-true}
use Rattle.std.proofs.lemmas.Bool.Decides.{nat_tests}

both_right : (a b : Bool) → (a && b) ≡ true → b ≡ true
both_right true b h = h
both_right false b h = absurd (let e : false ≡ true = h in cc)

pub goes_more : (dry : Bool) (pops most : ℕ) → (not dry && nat_lt pops most) ≡ true → pops < most
goes_more dry pops most h = ltb-true pops most (both_right (not dry) (nat_lt pops most) h)

pub goes_wet : (dry : Bool) (pops most : ℕ) → (not dry && nat_lt pops most) ≡ true → dry ≡ false
goes_wet false pops most h = refl
goes_wet true pops most h = absurd (let e : false ≡ true = h in cc)

pub turn_over : (dry : Bool) (pops most : ℕ) → pops ≤ most → (not dry && nat_lt pops most) ≡ false → (dry ≡ true) ⊎ (pops ≡ most)
turn_over true pops most le h = inl refl
turn_over false pops most le h = let e : nat_lt pops most ≡ false = h in inr (grind (arith, nat_tests))
