use Rattle.std.proofs.Common.{rules, sym, subst}
use Rattle.atomic_table.specs.Table.{Allows}
use Rattle.calloop_wake.specs.Locks.{IsLock}
use Rattle.calloop_wake.proofs.Locking.{gives_back, without_hint}
use Rattle.calloop_wake.proofs.locked.Held.unlock.Goals as goal

pub store-requires : goal.store-requires
store-requires g c =
    let seat = c.args.self.seat in
    let fits = g.X.Fits.fits c.args.self.shared.now.key in
    let hints = g.X.Core.hints in (
      c.requires.0,
      search rules,
      subst (λ n. Allows (IsLock fits hints) n seat.id seat.me 0 (λ _. 0) (λ _ _. Unit {0})) (sym c.requires.1.1)
          (gives_back fits hints seat.id 0 seat.me (without_hint fits hints seat.me.1 c.requires.2)),
    )
