use Rattle.std.proofs.Common.{rules, ◌≡◌, ◌+◌, subst}
use Rattle.calloop_wake.specs.Locks.{WasHinted}
use Rattle.calloop_wake.proofs.Locking.{looks, looks_again}
use Rattle.calloop_wake.proofs.locked.Locked.has_hint.Goals as goal

pub load_new_seat-found-requires : goal.load_new_seat-found-requires
load_new_seat-found-requires g c = (search rules, looks _ _ _ c.as_shared-shared.result.now.key)

pub compare_exchange-requires : goal.compare_exchange-requires
compare_exchange-requires g c =
    let seat = c.load_new_seat-found.result.1 in
    (search rules, search rules, looks_again g.X.Fits.fits g.X.Core.hints _ seat.id c.in-Some.word seat.me c.as_shared-shared.result.now.key (search rules))

pub returns : goal.returns
returns g c eq =
    let found : c.compare_exchange.result ≡ c.args.number + 2 = search rules in
    let view : c.load_new_seat-found.result.1.me.0 ≡ c.args.self.now.tag = search rules in
    subst (λ v. WasHinted (g.X.Fits.fits v) g.X.Core.hints c.args.number) view (c.compare_exchange.ensures.2.1 c.args.number found)
