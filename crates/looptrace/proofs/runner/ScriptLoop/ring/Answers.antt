use Rattle.std.proofs.Common.{◌≡◌, rules, List, ℕ, [], Bool, true, false, Option, Some, None, is_some, IsSome}
use Rattle.std.specs.Option.{option_map}
use Rattle.std.specs.Prelude.{MatchBool}
use Rattle.looptrace.proofs.runner.ScriptLoop.ring.Goals as goal

-- a receipt tells of an open ping
rung : {S A B : Type 0} (f : A → B) (s : S) (b : Bool) (o : Option A) (p : Option B) → b ≡ is_some o → option_map f o ≡ p
    → MatchBool b (IsSome p × (s ≡ s) × ◌≡◌ {A = List ℕ} [] []) (p ≡ None)
rung f s true (Some a) p is e = search rules
rung f s false None p is e = search rules
rung f s false (Some a) p is e = search rules
rung f s true None p is e = search rules

pub returns : goal.returns
returns g c = rung _ _ c.is_some.result c.ring.result _ c.is_some.ensures c.ring.ensures
