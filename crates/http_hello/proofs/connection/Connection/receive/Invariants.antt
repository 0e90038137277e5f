use Rattle.std.proofs.Common.{◌≡◌, false, length, []}
use Rattle.http_hello.proofs.connection.Connection.receive.Given as goal
use Rattle.http_hello.specs.Exchanges.{Exchanges, unread_of}

abbrev pub invariant-loop : goal.invariant-loop
invariant-loop l = record {
  goes_on : l.self.is_closing ≡ false;
  exchanged : Exchanges l.bytes [] l.fn.self l.self;
}

abbrev pub decreases-loop : goal.decreases-loop
decreases-loop l = length (unread_of l.self)
