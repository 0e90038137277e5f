-- How the requests of callbacks are carried out, as contracts of the loop's own functions speak of it.
use Rattle.std.specs.Prelude.{◌≡◌, List, [], ◌∷◌, Bool, true, false}
use Rattle.calloop_sources.specs.sources.Deeds.{Lent}
use Rattle.calloop_sources.specs.sources.Meanings.{Meaning}
use Rattle.calloop_poll.specs.sys.Pollers.{Outside}
use Rattle.calloop_loop.specs.declared.asks.Asked.{Asked}
use Rattle.calloop_loop.specs.declared.asks.Request.{Request}
use Rattle.calloop_loop.specs.Askings.{Asks}
use Rattle.calloop_loop.specs.Held.{Begun}
use Rattle.calloop_loop.specs.Machine.{View, Change, Holds, AllFit, after_change, all_viewed}
use Rattle.calloop_loop.specs.Rules.{Outcome, Served, ServedAs}

-- one request, with its answer
abbrev pub Serves : {D I P X : Type 0} → Meaning D P (Lent X (Asks D I)) → Outside P → Request D I → View D I P
    → View D I P → Type 0
Serves {D} {I} {P} M O request v u =
    (cs : List (Change D I P)) × Served M request v cs × AllFit O v cs × (u ≡ all_viewed v cs)

-- one request, before its answer
abbrev pub ServesAs : {D I P X : Type 0} → Meaning D P (Lent X (Asks D I)) → Outside P → Request D I → Outcome
    → View D I P → View D I P → Type 0
ServesAs {D} {I} {P} M O request answer v u =
    (cs : List (Change D I P)) × ServedAs M request answer v cs × AllFit O v cs × (u ≡ all_viewed v cs)

-- the first request that was written, if there is one
abbrev pub ServesFirst : {D I P X : Type 0} → Meaning D P (Lent X (Asks D I)) → Outside P → List (Asked D I)
    → (any : Bool) → View D I P → View D I P → Type 0
ServesFirst M O [] any v u = (any ≡ false) × (u ≡ v)
ServesFirst M O (a ∷ as') any v u = (any ≡ true) × Serves M O a.request (after_change v (Holds Begun)) u

abbrev pub FirstServed : {D I P X : Type 0} → Meaning D P (Lent X (Asks D I)) → List (Asked D I) → View D I P
    → List (Change D I P) → Type 0
FirstServed M [] v cs = ⊥
FirstServed {D} {I} {P} M (a ∷ as') v cs =
    (ds : List (Change D I P)) × Served M a.request (after_change v (Holds Begun)) ds × (cs ≡ Holds Begun ∷ ds)

-- one request after the other, until none is left
abbrev pub AllServed : {D I P X : Type 0} → Meaning D P (Lent X (Asks D I)) → Outside P → View D I P
    → List (List (Change D I P)) → Type 0
AllServed M O v [] = v.held.asks.written ≡ []
AllServed M O v (cs ∷ css) =
    FirstServed M v.held.asks.written v cs × AllFit O v cs × AllServed M O (all_viewed v cs) css
