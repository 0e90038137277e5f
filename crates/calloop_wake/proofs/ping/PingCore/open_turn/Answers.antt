use Rattle.std.proofs.Common.{◌≡◌, ◌∙◌, sym, ap, false, Some, Err, Result}
use Rattle.logbook.specs.Pages.{Book}
use Rattle.calloop_wake.specs.Passes.{Taken}
use Rattle.calloop_wake.specs.Cells.{CoreView, opens, turn_of}
use Rattle.calloop_wake.specs.contracts.ping.PingCore.{the_view}
use Rattle.calloop_wake.specs.declared.ping.PingCore.TheInside.{Inside}
use Rattle.calloop_wake.specs.declared.ping.OpenedTurn.{OpenedTurn}
use Rattle.calloop_wake.proofs.ping.PingCore.open_turn.Goals as goal

-- a refused pass is marked by the name of the cell
marked : (p : Taken) (core : CoreView) (n : Book) → opens p.key core.cell ≡ false → n ≡ core.name
    → ◌≡◌ {A = Result OpenedTurn Taken} (Err (record p { refused = Some n })) (turn_of p core)
marked p core n shut is = rw (shut, is)

-- the name of the content is the name of the cell
same_name : (core : CoreView) (n : Book) (i : Inside) → the_view i ≡ core → n ≡ i.bell.name → n ≡ core.name
same_name core n i seen is = is ∙ ap (λ (v : CoreView). v.name) seen

pub returns-then-not-opens-clause-gives : goal.returns-then-not-opens-clause-gives
returns-then-not-opens-clause-gives c =
    let p : Taken = record { key = c.pass.inside.key; board = c.pass.inside.board; refused = c.pass.inside.refused } in
    let shut : opens p.key c.args.self.now.cell ≡ false = sym (c.opens.ensures ∙ ap (λ (v : CoreView). opens p.key v.cell) c.self.view_is) ∙ c.if-not-opens.true in
    marked p c.args.self.now _ shut (search same_name) ∙ ap (λ (q : Taken). turn_of q c.args.self.now) c.pass.view_is
