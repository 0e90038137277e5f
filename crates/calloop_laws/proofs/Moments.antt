-- What holds between any two moments of a list of changes holds of any two of its states.
use Rattle.std.proofs.Common.{◌≡◌, List, [], ◌∷◌, ◌++◌, refl, ap}
use Rattle.calloop_loop.specs.Machine.{World, Change, world_after, world_after_all}
use Rattle.calloop_laws.specs.Laws.{moments_of, AllBehind, AnyTwo}

module _ {D I P : Type 0} (R : World D I P → World D I P → Type 0) where
  all_behind : (w u : World D I P) (cs : List (Change D I P))
      → ((between after : List (Change D I P)) → cs ≡ between ++ after → R w (world_after_all u between))
      → AllBehind R w (moments_of u cs)
  all_behind w u [] h = (h [] [] refl, tt)
  all_behind w u (c ∷ cs) h = (h [] (c ∷ cs) refl, all_behind w (world_after u c) cs (λ between after is. h (c ∷ between) after (ap (λ l. c ∷ l) is)))

  pub any_two : (w : World D I P) (cs : List (Change D I P))
      → ((before between after : List (Change D I P)) → cs ≡ before ++ (between ++ after) → R (world_after_all w before) (world_after_all (world_after_all w before) between))
      → AnyTwo R (moments_of w cs)
  any_two w [] h = (tt, tt)
  any_two w (c ∷ cs) h = (
    all_behind w (world_after w c) cs (λ between after is. h [] (c ∷ between) after (ap (λ l. c ∷ l) is)),
    any_two (world_after w c) cs (λ before between after is. h (c ∷ before) between after (ap (λ l. c ∷ l) is)),
  )
