use Rattle.http_hello.proofs.connection.Connection.turned_away.Goals as goal
use Rattle.http_hello.specs.Exchanges.{turns_away}

pub returns-clause-exchanged : goal.returns-clause-exchanged
returns-clause-exchanged c = rw c.in_ok-write_to.ensures (rw c.new-unsent.ensures.items (rw c.new.ensures.items turns_away))
