use Rattle.timer_chain.proofs.ChainLemmas.{one_timer}
use Rattle.timer_chain.proofs.ask.Goals as goal

pub returns-then-left-gt0-clause-timers : goal.returns-then-left-gt0-clause-timers
returns-then-left-gt0-clause-timers g c =
    one_timer g.D.Choice.held c.insert_source-ticket.result c.from_deadline.result c.args.deadline _ c.args.requests.now c.insert_source-ticket.new.self
    c.from_deadline.ensures c.insert_source-ticket.ensures.ok c.insert_source-ticket.ensures.err
