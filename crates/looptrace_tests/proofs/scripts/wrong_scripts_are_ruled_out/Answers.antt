use Rattle.std.proofs.Common.{◌≡◌, inl, inr, Option, None, Some, refl, sym, subst, ap, arith}
use Rattle.calloop_wake.specs.declared.Tally.{Tally}
use Rattle.calloop_sources.specs.declared.timer.Registration.{Registration}
use Rattle.calloop_sources.specs.declared.timer.Timer.{Timer}
use Rattle.calloop_sources.specs.declared.sources.dispatch.Dispatcher.{Dispatcher}
use Rattle.calloop_sources.specs.declared.sources.choice.OneOf.{OneOf}
use Rattle.calloop_sources.specs.declared.sources.choice.OneOf.TheVariants.{First, Other}
use Rattle.calloop_loop.specs.Ledgers.{Ledger}
use Rattle.calloop_laws.specs.Laws.{IsLedgerOf}
use Rattle.calloop_laws.specs.Wrong.{called_early, called_twice}
use Rattle.looptrace.specs.declared.source.Teller.{Teller}
use Rattle.looptrace.specs.declared.source.Alarm.{Alarm}
use Rattle.looptrace.specs.Sources.{Source}
use Rattle.looptrace.specs.InTime.{AllScripted}
use Rattle.looptrace_tests.proofs.scripts.wrong_scripts_are_ruled_out.Goals as goal

abbrev registration_in : OneOf (Dispatcher Tally Teller) (Dispatcher Timer Alarm) → Option Registration
registration_in (First d) = None
registration_in (Other d) = d.source.registration

some_none : (r : Registration) → Some r ≡ None → ⊥
some_none r e = cc

pub returns : goal.returns
returns g c =
    record {
      law = c.timers_are_called_in_time.ensures.in_time;
      there_is = λ name. ((name, inr (5, refl)), (tt, tt));
      exchange = λ token source h. h.1.0;
      registered = λ name registration h.
          elim h.1 [
            | inl e ↦ absurd e.1
            | inr e ↦ some_none registration (ap (λ (s : Source). registration_in s.held) e.1)
          ];
      early = λ r new none is h.
          let l : IsLedgerOf called_early r.ended.poll = subst (λ (l : Ledger). IsLedgerOf l r.ended.poll) is (h new (subst AllScripted (sym none) tt)) in
          absurd (omega (arith, l.cut_on_time.0));
      twice = λ r new none is h.
          let l : IsLedgerOf called_twice r.ended.poll = subst (λ (l : Ledger). IsLedgerOf l r.ended.poll) is (h new (subst AllScripted (sym none) tt)) in
          absurd (omega (arith, l.once 0));
    }
