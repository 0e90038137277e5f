-- The lifecycle entry after an attempted registration.
use Rattle.std.proofs.Common.{◌≡◌, Bool, true, false, ◌&&◌, List, refl, ap, if◌then◌else◌}
use Rattle.calloop_slots.specs.declared.token.RegistrationToken.{RegistrationToken}
use Rattle.calloop_loop.specs.Held.{Held, Listed, with_listing, held_after}

pub entered_done : {D I : Type 0} (needs : Bool) (token : RegistrationToken) (h : Held D I) (l : List RegistrationToken) → l ≡ (if needs then with_listing token h.lifecycle else h.lifecycle) → ◌≡◌ {A = Held D I} (record h { lifecycle = l }) (held_after h (Listed (needs && true) token))
entered_done true token h l is = ap (λ (k : List RegistrationToken). record h { lifecycle = k }) is
entered_done false token h l is = ap (λ (k : List RegistrationToken). record h { lifecycle = k }) is

pub entered_not : {D I : Type 0} (needs : Bool) (token : RegistrationToken) (h : Held D I) → h ≡ held_after h (Listed (needs && false) token)
entered_not true token h = refl
entered_not false token h = refl
