use Rattle.looptrace.specs.Commands.{command_of}
use Rattle.looptrace.proofs.InTimeLemmas.{fresh_calls, line_asks}
use Rattle.looptrace.proofs.laws.timers_are_called_in_time.Goals as goal

pub returns : goal.returns
returns g c =
    record {
      lines = λ s t line said h. line_asks s t said (command_of line) h;
      in_time = λ r run at new scripted.
          c.once_where_nothing_is_asked.ensures.armings r run at new (fresh_calls r.calls r.answers scripted);
    }
