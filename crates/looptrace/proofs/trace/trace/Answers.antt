use Rattle.std.specs.Io.KnownBytes.{Appends}
use Rattle.looptrace.proofs.InTimeLemmas.{all_in_time}
use Rattle.looptrace.proofs.RunLemmas.{may_write}
use Rattle.looptrace.proofs.trace.trace.Goals as goal

pub returns-clause-run : goal.returns-clause-run
returns-clause-run g c =
    may_write c.in_ok-script_loop.script_loop c.in_ok-script_loop.ensures.ok c.drive.result (g.R.Read.remaining c.args.streams.now.input)
    (λ w. Appends (g.W.Write.contents c.args.streams.now.output) (g.W.Write.contents c.drive.new.streams.output) w.out)
    (λ w. Appends (g.E.Write.contents c.args.streams.now.errors) (g.E.Write.contents c.drive.new.streams.errors) w.err)
    c.drive.ensures.run

pub returns-clause-in_time : goal.returns-clause-in_time
returns-clause-in_time g c =
    all_in_time c.drive.result (g.R.Read.remaining c.args.streams.now.input)
    (λ w. Appends (g.W.Write.contents c.args.streams.now.output) (g.W.Write.contents c.drive.new.streams.output) w.out)
    (λ w. Appends (g.E.Write.contents c.args.streams.now.errors) (g.E.Write.contents c.drive.new.streams.errors) w.err)
    c.timers_are_called_in_time.ensures.in_time
    (may_write c.in_ok-script_loop.script_loop c.in_ok-script_loop.ensures.ok c.drive.result (g.R.Read.remaining c.args.streams.now.input)
    (λ w. Appends (g.W.Write.contents c.args.streams.now.output) (g.W.Write.contents c.drive.new.streams.output) w.out)
    (λ w. Appends (g.E.Write.contents c.args.streams.now.errors) (g.E.Write.contents c.drive.new.streams.errors) w.err)
    c.drive.ensures.run)
