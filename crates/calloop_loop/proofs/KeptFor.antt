-- The slots of the sources for which answers are kept lie within a range.
use Rattle.std.proofs.Common.{◌≡◌, ℕ, ◌+◌, ◌<◌, ◌≤◌, ◌⊎◌, ◌++◌, ◌&&◌, List, [], ◌∷◌, map, filter, nat_eq, nat_le, nat_lt, Bool, true, false, if◌then◌else◌, Option, Some, None, IfSome, All, length, slice_index_or, zero, suc, refl, ap, sym, ◌∙◌, subst, arith}
use Rattle.std.specs.Prelude.{⊤}
use Rattle.std.proofs.lemmas.Bool.Decides.{nat_tests}
use Rattle.calloop_slots.specs.declared.token.RegistrationToken.{RegistrationToken}
use Rattle.calloop_loop.specs.declared.asks.Answered.{Answered}
use Rattle.calloop_loop.specs.Askings.{debt, is_source, Asks, none_kept_for, not_kept_for, without}

abbrev pub IsWithin : (first end : ℕ) → Option RegistrationToken → Type 0
IsWithin first end keeper = IfSome keeper (λ t. (first ≤ t.slot) × (t.slot < end))

abbrev pub AllWithin : {D : Type 0} → (first end : ℕ) → List (Answered D) → Type 0
AllWithin first end [] = ⊤
AllWithin first end (a ∷ as') = IsWithin first end a.kept_for × AllWithin first end as'

-- the same by positions
pub by_position : {D : Type 0} (f e : ℕ) (as' : List (Answered D)) → AllWithin f e as' → All (λ a. IsWithin f e a.kept_for) as'
by_position f e [] h k d within = absurd (omega (arith, within))
by_position f e (a ∷ as') h zero d within = h.0
by_position f e (a ∷ as') h (suc k) d within = by_position f e as' h.1 k d (omega (arith, within))

pub each_within : {D : Type 0} (f e : ℕ) (as' : List (Answered D)) → All (λ a. IsWithin f e a.kept_for) as' → AllWithin f e as'
each_within f e [] h = tt
each_within f e (a ∷ as') h = (h zero a (omega arith), each_within f e as' (λ k d within. h (suc k) d (omega (arith, within))))

-- a wider range has them too
wider_one : (f e g d : ℕ) (k : Option RegistrationToken) → g ≤ f → e ≤ d → IsWithin f e k → IsWithin g d k
wider_one f e g d None low high h = tt
wider_one f e g d (Some t) low high h = (omega (arith, low, h.0), omega (arith, high, h.1))

pub wider : {D : Type 0} (f e g d : ℕ) (as' : List (Answered D)) → g ≤ f → e ≤ d → AllWithin f e as' → AllWithin g d as'
wider f e g d [] low high h = tt
wider f e g d (a ∷ as') low high h = (wider_one f e g d a.kept_for low high h.0, wider f e g d as' low high h.1)

-- one more answer
pub one_more : {D : Type 0} (f e : ℕ) (as' : List (Answered D)) (a : Answered D) → AllWithin f e as' → IsWithin f e a.kept_for → AllWithin f e (as' ++ a ∷ [])
one_more f e [] a h is = (is, tt)
one_more f e (b ∷ as') a h is = (h.0, one_more f e as' a h.1 is)

-- some of them
pub of_some : {D : Type 0} (f e : ℕ) (p : Answered D → Bool) (as' : List (Answered D)) → AllWithin f e as' → AllWithin f e (filter p as')
of_some f e p [] h = tt
of_some {D} f e p (a ∷ as') h =
    elim (p a) as (λ b. AllWithin f e (if b then a ∷ filter p as' else filter p as')) [
      | true ↦ (h.0, of_some f e p as' h.1)
      | false ↦ of_some f e p as' h.1
    ]

pub of_others : {D : Type 0} (f e ticket : ℕ) (as' : List (Answered D)) → AllWithin f e as' → AllWithin f e (without ticket as')
of_others f e ticket [] h = tt
of_others f e ticket (a ∷ as') h =
    elim (nat_eq a.ticket ticket) as (λ b. AllWithin f e (if b then as' else a ∷ without ticket as')) [
      | true ↦ h.1
      | false ↦ (h.0, of_others f e ticket as' h.1)
    ]

-- some that aren't kept any more
let_go_one : (f e : ℕ) (k : Option RegistrationToken) (b : Bool) → IsWithin f e k → IsWithin f e (if b then None else k)
let_go_one f e k true h = tt
let_go_one f e k false h = h

pub let_go : {D : Type 0} (f e : ℕ) (token : RegistrationToken) (as' : List (Answered D)) → AllWithin f e as' → AllWithin f e (map (not_kept_for token) as')
let_go f e token [] h = tt
let_go f e token (a ∷ as') h = (let_go_one f e a.kept_for (is_source token a.kept_for) h.0, let_go f e token as' h.1)

-- none is kept for a source outside of the range
is_other : (f e : ℕ) (token : RegistrationToken) (k : Option RegistrationToken) → (nat_le f token.slot && nat_lt token.slot e) ≡ false → IsWithin f e k → is_source token k ≡ false
is_other f e token None outside h = refl
is_other f e token (Some t) outside h =
    let apart : nat_eq t.slot token.slot ≡ false = grind (arith, nat_tests, outside, h.0, h.1) in
    rw apart refl

pub none_outside : {D : Type 0} (f e : ℕ) (token : RegistrationToken) (as' : List (Answered D)) → (nat_le f token.slot && nat_lt token.slot e) ≡ false → AllWithin f e as' → as' ≡ map (not_kept_for token) as'
none_outside f e token [] outside h = refl
none_outside f e token (a ∷ as') outside h =
    rw (is_other f e token a.kept_for outside h.0) (ap (λ l. a ∷ l) (none_outside f e token as' outside h.1))

pub none_for_other : {D I : Type 0} (q : Asks D I) (f e : ℕ) (token : RegistrationToken) → (nat_le f token.slot && nat_lt token.slot e) ≡ false → AllWithin f e q.answers → q ≡ none_kept_for token q
none_for_other q f e token outside h = ap (λ l. record q { answers = l }) (none_outside f e token q.answers outside h)

-- a place that is owed
pub at_most_one : (o : Option ℕ) → debt o ≤ 1
at_most_one None = omega arith
at_most_one (Some n) = omega arith
