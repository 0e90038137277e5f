use Rattle.std.proofs.Common.{◌≡◌, Bool, true, false, not, Some, MatchBool, rules, refl, sym, ◌∙◌}
use Rattle.calloop_slots.specs.declared.token.Token.{Token}
use Rattle.calloop_poll.specs.declared.sys.Mode.TheVariants.{OneShot}
use Rattle.calloop_sources.specs.declared.generic.Generic.{Generic}
use Rattle.calloop_sources.specs.Generics.{Hears}
use Rattle.calloop_sources.proofs.generic.Generic.hears.Goals as goal

hears_once : {F E : Type 0} (token : Token) (s : Generic F E) (heard : Bool) → s.heard ≡ heard → s.token ≡ Some token → s.mode ≡ OneShot
    → MatchBool (not heard) (Hears token s) (¬ Hears token s)
hears_once token s true heard own is = λ h. (let no : true ≡ false = sym heard ∙ h.1 is in cc)
hears_once token s false heard own is = (own, λ _. heard)

pub returns-then-eq : goal.returns-then-eq
returns-then-eq g c = hears_once c.args.token c.args.self.now c.args.self.now.heard refl (search rules) c.in-OneShot.is
