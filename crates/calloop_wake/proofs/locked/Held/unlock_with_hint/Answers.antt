use Rattle.std.proofs.Common.{rules, sym, subst}
use Rattle.atomic_table.specs.Table.{Allows}
use Rattle.calloop_wake.specs.Locks.{IsLock}
use Rattle.calloop_wake.proofs.Locking.{gives_back, told}
use Rattle.calloop_wake.proofs.locked.Held.unlock_with_hint.Goals as goal

pub store-requires : goal.store-requires
store-requires g c =
    let seat = c.args.self.seat in
    let fits = g.X.Fits.fits c.args.self.shared.now.key in
    let hints = g.X.Core.hints in
    let word = c.with_hint.result in (
      c.requires.0,
      search rules,
      subst (λ n. Allows (IsLock fits hints) n seat.id seat.me 0 (λ _. word) (λ _ _. Unit {0})) (sym c.requires.1.1)
          (gives_back fits hints seat.id word seat.me (told fits hints c.args.number word c.with_hint.ensures seat.me.1 c.requires.2)),
    )
