use Rattle.http_hello.proofs.connection.Connection.new.Goals as goal
use Rattle.http_hello.specs.Exchanges.{begins}

pub returns-clause-exchanged : goal.returns-clause-exchanged
returns-clause-exchanged c = rw c.new.ensures.items (rw c.new-2.ensures.items begins)
