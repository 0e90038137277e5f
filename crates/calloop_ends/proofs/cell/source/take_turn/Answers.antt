use Rattle.std.proofs.Common.{◌≡◌, refl, sym, ◌∙◌, ap, inl, inr, true, [], ◌∷◌}
use Rattle.calloop_sources.specs.declared.sources.source.PostAction.TheVariants.{Continue}
use Rattle.calloop_poll.specs.sys.Polls.{TakePass, PutBack, PollView, poll_after}
use Rattle.calloop_wake.specs.declared.Tally.{Tally}
use Rattle.calloop_slots.specs.Tokens.{key_of}
use Rattle.calloop_wake.specs.Cells.{is_own}
use Rattle.calloop_ends.proofs.CellTurns.{turn_without, turn_with}
use Rattle.calloop_ends.proofs.cell.source.take_turn.Goals as goal

pub returns-in_default : goal.returns-in_default
returns-in_default g c =
    let s = c.args.source.now in
    let own : is_own (key_of c.args.token) (g.K.CellSource.tally_of s).key ≡ true = ap (λ (x : Tally). is_own (key_of c.args.token) x.key) (sym c.tally.ensures) ∙ (sym c.is_mine.ensures ∙ c.if-not-is_mine.false) in
    ([], (TakePass ∷ [], turn_without _ _ _ _ _ g.row.E.Denot g.K.CellSource.tally_of g.K.CellSource.opens s c.args.token c.args.poll.now.batch.pass own (sym c.in_default.ensures.pass), ((tt, tt), c.take_pass.ensures.view)), (refl, refl, refl))

pub returns-in-Ok : goal.returns-in-Ok
returns-in-Ok g c =
    let s = c.args.source.now in
    let own : is_own (key_of c.args.token) (g.K.CellSource.tally_of s).key ≡ true = ap (λ (x : Tally). is_own (key_of c.args.token) x.key) (sym c.tally.ensures) ∙ (sym c.is_mine.ensures ∙ c.if-not-is_mine.false) in
    let h = c.in-Ok.ensures.ok in (
      h.0,
      (
        TakePass ∷ [],
        turn_with _ _ _ _ _ g.row.E.Denot g.K.CellSource.tally_of g.K.CellSource.opens s c.args.token c.args.poll.now.batch.pass c.in-Some.pass h.0 c.in-Ok.action (TakePass ∷ []) c.open_turn.new.self own (sym c.in-Some.ensures.pass)
            (inl (h.1, refl)),
        ((tt, tt), c.take_pass.ensures.view),
      ),
      h.2,
    )

pub returns-in-Err : goal.returns-in-Err
returns-in-Err g c =
    let s = c.args.source.now in
    let own : is_own (key_of c.args.token) (g.K.CellSource.tally_of s).key ≡ true = ap (λ (x : Tally). is_own (key_of c.args.token) x.key) (sym c.tally.ensures) ∙ (sym c.is_mine.ensures ∙ c.if-not-is_mine.false) in
    let h = c.in-Err.ensures.err in (
      [],
      (
        TakePass ∷ PutBack c.in-Err.pass ∷ [],
        turn_with _ _ _ _ _ g.row.E.Denot g.K.CellSource.tally_of g.K.CellSource.opens s c.args.token c.args.poll.now.batch.pass c.in-Some.pass [] Continue (TakePass ∷ PutBack c.in-Err.pass ∷ []) c.open_turn.new.self own (sym c.in-Some.ensures.pass)
            (inr (refl, refl, ap (λ p. TakePass ∷ PutBack p ∷ []) h.0, h.1)),
        ((tt, (tt, tt)), c.put_back.ensures ∙ ap (λ (v : PollView g.row.P.Denot). poll_after v (PutBack c.in-Err.pass)) c.take_pass.ensures.view),
      ),
      h.2,
    )
