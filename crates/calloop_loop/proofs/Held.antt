-- The registration of a source that is held.
use Rattle.std.proofs.Common.{refl, Result}
use Rattle.calloop_slots.specs.declared.error.Error.{Error}
use Rattle.calloop_slots.specs.declared.token.TokenFactory.{TokenFactory}
use Rattle.calloop_poll.specs.sys.Pollers.{Outside}
use Rattle.calloop_poll.specs.sys.Polls.{PollView}
use Rattle.calloop_sources.specs.sources.Deeds.{Registered, Lent}
use Rattle.calloop_sources.specs.sources.Meanings.{Meaning, IsHeld, Does}

pub held_reg : {A D P X Q : Type 0} (O : Outside P) (held : A → D) (m : Meaning A P (Lent X Q)) (M : Meaning D P (Lent X Q)) → IsHeld held m M
    → (s t : A) (v v' : PollView P) (f g : TokenFactory) (answer : Result (Unit {0}) Error)
    → Does O m s v (Registered f answer g) t v' → Does O M (held s) v (Registered f answer g) (held t) v'
held_reg O held m M law s t v v' f g answer r = (r.0, (law.does s v (Registered f answer g) r.0 (held t)).1 (t, refl, r.1), r.2)
