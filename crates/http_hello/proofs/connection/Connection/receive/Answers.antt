use Rattle.http_hello.proofs.connection.Connection.receive.Goals as goal
use Rattle.http_hello.proofs.ExchangeLemmas.{comes_more}

pub loop-init : goal.loop-init
loop-init c = record {
  goes_on = c.requires;
  exchanged = λ input sent x. comes_more input sent _ _ _ _ _ c.in_ok-extend_from_slice.ensures.items x;
}
