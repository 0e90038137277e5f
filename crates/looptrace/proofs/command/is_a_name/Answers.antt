use Rattle.std.proofs.Common.{◌≡◌, arith, length, nat_le, true}
use Rattle.looptrace.proofs.command.is_a_name.Goals as goal

pub returns : goal.returns
returns c =
    let any : nat_le 1 (length c.args.word.now) ≡ true = grind arith in
    let few : nat_le (length c.args.word.now) 32 ≡ true = grind arith in
    rw (any, few) c.are_for_names.ensures
