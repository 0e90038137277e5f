use Rattle.std.proofs.Common.{ap, arith}
use Rattle.calloop_slots.specs.Tokens.{key_of}
use Rattle.calloop_poll.specs.sys.Tables.{watched_at, with_key}
use Rattle.calloop_poll.specs.sys.WrongSteps.{token_of_second, to_be_read}
use Rattle.calloop_poll.proofs.sys.poll.table.wrong_steps_are_ruled_out.Goals as goal

pub returns : goal.returns
returns g c =
    record {
      elsewhere = λ after h. (let part = h.0.0 in let few = h.0.1 in let is = h.0.2 in omega (arith));
      changed = λ v after none. ap (λ t. watched_at (key_of token_of_second) (with_key (key_of token_of_second) to_be_read t)) none;
    }
