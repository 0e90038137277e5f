use Rattle.std.proofs.Common.{refl, [], ◌∷◌, ◌++◌, sym, ◌∙◌, ap, subst, ◌||◌}
use Rattle.calloop_wake.specs.declared.ChannelTurn.{ChannelTurn}
use Rattle.calloop_wake.specs.Channels.{is_close}
use Rattle.calloop_ends.specs.channel.Channels.{IsOver}
use Rattle.calloop_ends.proofs.Receiving.{handed_none, handed_more, goes_left, goes_done, over}
use Rattle.calloop_ends.proofs.channel.source.ReceivingEnd+ChannelCore+T+R.hand_out.Goals as goal

pub pops-init : goal.pops-init
pops-init g c =
    (c.requires.turn, refl, refl, ([], handed_none g.F.Callback.may g.Q.Asking.reaches c.args.turn c.args.self.now.tally c.args.callback.now c.args.data.now c.args.requests.now))

pub pops-preserved-then-told : goal.pops-preserved-then-told
pops-preserved-then-told g c =
    let so = c.pops.invariant in
    let s = c.step-tells.ensures.pop in
    let goes = sym c.goes_on.ensures ∙ c.pops-test.true in (
      ap (λ t. t.name) s.1 ∙ so.0 ∙ sym (ap (λ t. t.name) s.2),
      ap (λ t. t.name) s.2 ∙ so.1,
      c.step-tells.ensures.tag ∙ so.2,
      (
        so.3.0 ++ s.0 ∷ [],
        handed_more g.F.Callback.may g.Q.Asking.reaches c.args.turn c.args.self.now.tally c.args.callback.now c.args.data.now c.args.requests.now
            so.3.0 s.0 _ _ _ _ _ _ _ _ _ _ _ _ so.3.1 (goes_left _ _ goes) (goes_done _ _ goes) s.1 s.2 (c.if-told.true ∙ ap (λ b. b || is_close s.0) (sym c.if-told.true)) s.4,
      ),
    )

pub pops-preserved : goal.pops-preserved
pops-preserved g c =
    let so = c.pops.invariant in
    let s = c.step-tells.ensures.pop in
    let goes = sym c.goes_on.ensures ∙ c.pops-test.true in (
      ap (λ t. t.name) s.1 ∙ so.0 ∙ sym (ap (λ t. t.name) s.2),
      ap (λ t. t.name) s.2 ∙ so.1,
      c.step-tells.ensures.tag ∙ so.2,
      (
        so.3.0 ++ s.0 ∷ [],
        handed_more g.F.Callback.may g.Q.Asking.reaches c.args.turn c.args.self.now.tally c.args.callback.now c.args.data.now c.args.requests.now
            so.3.0 s.0 _ _ _ _ _ _ _ _ _ _ _ _ so.3.1 (goes_left _ _ goes) (goes_done _ _ goes) s.1 s.2 (s.3 ∙ ap (λ b. b || is_close s.0) (sym c.if-told.false)) s.4,
      ),
    )

pub returns-clause-handed : goal.returns-clause-handed
returns-clause-handed g c =
    let so = c.pops.invariant in
    let ends = sym c.goes_on.ensures ∙ c.pops-test.false in
    let h = so.3.1 in (
      so.3.0,
      subst (λ (t : ChannelTurn). IsOver t) h.turn_is (over _ _ ends),
      record { are = h.are; turn_is = refl; tally_is = h.tally_is; told_is = h.told_is; went = h.went },
    )
