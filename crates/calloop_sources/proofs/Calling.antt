-- The calls of a callback, one list after another.
use Rattle.std.proofs.Common.{List, [], ◌∷◌, ◌++◌, subst}
use Rattle.calloop_sources.specs.sources.Calls.{CallbackCall, Calling, Went}

-- calls, and then further ones
pub went_on : {F E M T X Q : Type 0} (may : Calling F E M T X Q) (reaches : Q → Q → Type 0) (f g h : F) (x y z : X) (q r s : Q) (xs ys : List (CallbackCall E M T))
    → Went may reaches f x q xs g y r → Went may reaches g y r ys h z s → Went may reaches f x q (xs ++ ys) h z s
went_on {F} {E} {M} {T} {X} {Q} may reaches f g h x y z q r s [] ys first then =
    let a : Went may reaches f y r ys h z s = subst (λ (k : F). Went may reaches k y r ys h z s) first.0 then in
    let b : Went may reaches f x r ys h z s = subst (λ (k : X). Went may reaches f k r ys h z s) first.1 a in
    subst (λ (k : Q). Went may reaches f x k ys h z s) first.2 b
went_on {F} {E} {M} {T} {X} {Q} may reaches f g h x y z q r s (c ∷ cs) ys first then =
    (first.0, first.1, first.2, first.3, first.4, went_on may reaches first.0 g h first.1 y z first.2 r s cs ys first.5 then)
