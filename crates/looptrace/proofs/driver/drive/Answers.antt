use Rattle.std.proofs.Common.{rules, ℕ, Result, Ok, Err, IfErr, ◌≡◌, ◌+◌, refl, sym, ap, subst, ◌∙◌, [], inr}
use Rattle.std.specs.Io.KnownBytes.{Appends}
use Rattle.std.specs.declared.io.Error.{Error}
use Rattle.looptrace.specs.Faults.{IsCause}
use Rattle.looptrace.proofs.TraceLemmas.{Ran, appends-nil, short-first, answered-true, answered-false, ran-start, ran-on, ran-end, ran-refused}
use Rattle.looptrace.proofs.driver.drive.Goals as goal

pub loop-init : goal.loop-init
loop-init g c = (appends-nil _, ran-start _ g.L.Runner.step c.args.runner.now _ _, refl)

pub loop-preserved : goal.loop-preserved
loop-preserved g c =
    let stepped = answered-true _ g.L.Runner.step c.args.runner.now _ c.carry_out.new.runner _ c.read_line.new.line.items _ c.carry_out.new.text.items
    c.in_ok-carry_out.field-0 c.in_ok-carry_out.ensures.read (search rules) (search rules) (search rules) in
    let short = short-first _ c.read_line.new.line.items c.in_ok-carry_out.field-0 c.in_ok-carry_out.ensures.long (search rules) (search rules) in
    let wrote = subst (λ o. Appends (g.W.Write.contents o) (g.W.Write.contents c.say.new.self.output) c.carry_out.new.text.items) c.in_ok-read_line.ensures.writers.0
    (subst (λ t. Appends (g.W.Write.contents c.read_line.new.self.output) (g.W.Write.contents c.say.new.self.output) t) c.deref-in-loop.ensures.value c.in_ok-say.ensures.bytes) in
    let errors = subst (λ e. Appends (g.E.Write.contents c.args.streams.now.errors) (g.E.Write.contents e) []) (sym (c.in_ok-say.ensures.others.1 ∙ c.in_ok-read_line.ensures.writers.1)) c.loop.invariant.0 in
    let ran = ran-on _ g.L.Runner.step c.args.runner.now _ _ _ _ _ _ _ _ _ _ c.in_ok-read_line.field-0 c.read_line.new.line.items c.carry_out.new.text.items
    c.loop.invariant.1 c.in_ok-read_line.ensures.line (search rules) short stepped wrote c.saturating_add-number.ensures in (
      errors,
      subst (λ i. Ran g.L.Runner.step c.args.runner.now (g.R.Read.remaining c.args.streams.now.input) (g.R.Read.remaining i) (g.W.Write.contents c.args.streams.now.output) (g.W.Write.contents c.say.new.self.output) c.carry_out.new.runner c.saturating_add-number.result)
          (sym c.in_ok-say.ensures.others.0) ran,
      c.in_ok-say.ensures.faults ∙ c.in_ok-read_line.ensures.faults ∙ c.loop.invariant.2,
    )

pub returns-then-not-branch-clause-run : goal.returns-then-not-branch-clause-run
returns-then-not-branch-clause-run g c =
    let ran = subst (λ o. Ran g.L.Runner.step c.args.runner.now (g.R.Read.remaining c.args.streams.now.input) (g.R.Read.remaining c.loop.streams.input) (g.W.Write.contents c.args.streams.now.output) (g.W.Write.contents o) c.loop.runner c.loop.number)
    (sym c.in_ok-read_line.ensures.writers.0) c.loop.invariant.1 in
    let silent = subst (λ e. Appends (g.E.Write.contents c.args.streams.now.errors) (g.E.Write.contents e) []) (sym c.in_ok-read_line.ensures.writers.1) c.loop.invariant.0 in
    ran-end _ g.L.Runner.step c.args.runner.now _ _ _ _ _ _ _ c.loop.number c.in_ok-read_line.field-0 ran c.in_ok-read_line.ensures.end (search rules) silent

pub returns-then-not-branch-clause-none : goal.returns-then-not-branch-clause-none
returns-then-not-branch-clause-none g c = c.in_ok-read_line.ensures.faults ∙ c.loop.invariant.2

pub returns-then-not-branch-2-clause-run : goal.returns-then-not-branch-2-clause-run
returns-then-not-branch-2-clause-run g c =
    let refused = answered-false _ g.L.Runner.step c.args.runner.now _ c.carry_out.new.runner _ c.read_line.new.line.items _ c.carry_out.new.text.items
    c.in_ok-carry_out.field-0 c.in_ok-carry_out.ensures.read (search rules) (search rules) in
    let ran = subst (λ o. Ran g.L.Runner.step c.args.runner.now (g.R.Read.remaining c.args.streams.now.input) (g.R.Read.remaining c.loop.streams.input) (g.W.Write.contents c.args.streams.now.output) (g.W.Write.contents o) c.loop.runner c.loop.number)
    (sym (c.in_ok-refuse.ensures.others.1 ∙ c.in_ok-read_line.ensures.writers.0)) c.loop.invariant.1 in
    let silent = subst (λ e. Appends (g.E.Write.contents c.args.streams.now.errors) (g.E.Write.contents e) []) (sym c.in_ok-read_line.ensures.writers.1) c.loop.invariant.0 in
    ran-refused _ g.L.Runner.step c.args.runner.now _ _ _ _ _ _ _ _ _ c.loop.number c.in_ok-read_line.field-0 c.read_line.new.line.items
    g.met.L.Runner.refuses ran c.in_ok-read_line.ensures.line c.in_ok-read_line.ensures.long (search rules) refused silent c.in_ok-refuse.ensures.bytes

pub returns-then-not-branch-2-clause-none : goal.returns-then-not-branch-2-clause-none
returns-then-not-branch-2-clause-none g c = c.in_ok-refuse.ensures.faults ∙ c.in_ok-read_line.ensures.faults ∙ c.loop.invariant.2

-- any error has a cause if the number of failed calls grew by one
grown : {A : Type 0} (r : Result A Error) (before after : ℕ) → after ≡ before + 1 → IfErr r (λ e. IsCause e before after)
grown (Ok a) before after grew = tt
grown (Err e) before after grew = inr grew

pub returns-in_err-read_line-clause-err : goal.returns-in_err-read_line-clause-err
returns-in_err-read_line-clause-err g c =
    let grew : c.read_line.new.self.faults.count ≡ c.args.streams.now.faults.count + 1 = c.in_err-read_line.ensures.faults ∙ ap (λ n. n + 1) c.loop.invariant.2 in
    grown c.from_residual.result c.args.streams.now.faults.count c.read_line.new.self.faults.count grew

pub returns-in_err-refuse-clause-err : goal.returns-in_err-refuse-clause-err
returns-in_err-refuse-clause-err g c =
    let grew : c.refuse.new.self.faults.count ≡ c.args.streams.now.faults.count + 1 = c.in_err-refuse.ensures.faults ∙ ap (λ n. n + 1) (c.in_ok-read_line.ensures.faults ∙ c.loop.invariant.2) in
    grown c.from_residual-in_err-refuse.result c.args.streams.now.faults.count c.refuse.new.self.faults.count grew

pub returns-in_err-say-clause-err : goal.returns-in_err-say-clause-err
returns-in_err-say-clause-err g c =
    let grew : c.say.new.self.faults.count ≡ c.args.streams.now.faults.count + 1 = c.in_err-say.ensures.faults ∙ ap (λ n. n + 1) (c.in_ok-read_line.ensures.faults ∙ c.loop.invariant.2) in
    grown c.from_residual-in_err-say.result c.args.streams.now.faults.count c.say.new.self.faults.count grew
