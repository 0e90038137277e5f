use Rattle.std.proofs.Common.{rules, sym, ◌∙◌, IsErr}
use Rattle.calloop_slots.specs.Slots.{content_at}
use Rattle.calloop_loop.specs.Machine.{view_of}
use Rattle.calloop_loop.specs.Roles.{is_callers}
use Rattle.calloop_loop.proofs.Roles.{lent_there, refused_there}
use Rattle.calloop_loop.proofs.Inserting.{written_back}
use Rattle.calloop_loop.proofs.LoopHandle.dispatcher_mut.Goals as goal

pub returns : goal.returns
returns g c =
    let p = is_callers g.D.Dispatch.means in
    let there = content_at c.args.self.now.inner.now.sources c.args.token.now in
    let seen = sym c.if-not-is_callers.false ∙ c.is_callers.ensures in (
      search rules,
      record {
        writes_back = tt;
        ok = c.get_mut.ensures.ok;
        machine = written_back g.D.Dispatch.means g.D.Idle.IdleCallback.runs g.P.Poller.outside (view_of c.args.self.now.inner.now) c.args.token.now c.get_mut.result (λ held. held.now) (lent_there p there c.get_mut.result (λ held. held.now) seen c.get_mut.ensures.ok);
        refuses = refused_there p there (IsErr c.get_mut.result) seen c.get_mut.ensures.refuses;
        err = c.get_mut.ensures.err;
      },
    )
