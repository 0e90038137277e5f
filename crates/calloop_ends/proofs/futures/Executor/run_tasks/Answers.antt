use Rattle.std.proofs.Common.{◌≡◌, ◌+◌, ◌<◌, ℕ, Option, IsSome, IfSome, is_some, refl, [], ◌∷◌, ◌++◌, sym, ◌∙◌, ap, subst, arith}
use Rattle.calloop_wake.specs.declared.Tally.{Tally}
use Rattle.calloop_wake.specs.declared.executor.TaskTurn.{TaskTurn}
use Rattle.calloop_wake.specs.declared.tasks.TaskKey.{TaskKey}
use Rattle.calloop_wake.specs.Cells.{one}
use Rattle.calloop_wake.specs.Executors.{most_tasks}
use Rattle.calloop_ends.specs.futures.Executors.{ComesOf, gave, lacks, results_of}
use Rattle.calloop_wake.proofs.Ending.{goes_more, goes_wet}
use Rattle.calloop_ends.proofs.Polling.{polled_none, polled_more}
use Rattle.calloop_ends.proofs.futures.Executor.run_tasks.Goals as goal

pub pops-init : goal.pops-init
pops-init g c =
    let pops : c.args.turn.progress.pops ≡ 0 = ap (λ (t : TaskTurn). t.progress.pops) c.requires in
    let dry : one c.args.turn.progress.dry ≡ 0 = ap (λ (t : TaskTurn). one t.progress.dry) c.requires in (
      ap (λ (t : TaskTurn). t.name) c.requires,
      omega (arith, pops),
      λ e. absurd (cc),
      refl,
      (
        [],
        0,
        0,
        0,
        omega (arith, pops, dry),
        refl,
        omega arith,
        polled_none (ComesOf g.Fut.Future.gives g.Fut.Future.polls) g.F.Callback.may g.Q.Asking.reaches c.args.callback.now c.args.data.now c.args.requests.now,
      ),
      tt,
    )

pub pops-preserved-in-Some : goal.pops-preserved-in-Some
pops-preserved-in-Some g c =
    let inv = c.pops.invariant in
    let so = inv.4 in
    let goes = sym c.goes_on.ensures ∙ c.pops-test.true in
    let more : c.pops.turn.progress.pops < most_tasks = goes_more c.pops.turn.progress.dry c.pops.turn.progress.pops most_tasks goes in
    let wet : one c.pops.turn.progress.dry ≡ 0 = ap one (goes_wet c.pops.turn.progress.dry c.pops.turn.progress.pops most_tasks goes) in
    let popped = c.in-Some.ensures.some in
    let still : one c.pop.new.turn.progress.dry ≡ 0 = ap one popped.1 in
    let popped_tally : c.pop.new.self.tally ≡ record c.pops.self { number = c.pops.self.number + one (is_some c.pops.finished) } = rw (sym c.self.view_is) (c.pop.ensures.tally ∙ ap (λ b. record c.self.inside.end.tally { number = c.self.inside.end.tally.number + one b }) c.is_some.ensures) in
    let count : c.pop.new.turn.progress.pops ≡ c.pops.turn.progress.pops + 1 = c.pop.ensures.pops in
    let number : c.pop.new.self.tally.number ≡ c.pops.self.number + one (is_some c.pops.finished) = ap (λ (t : Tally). t.number) popped_tally in
    let s = c.poll_task.ensures.polled in
    let done : one (is_some c.poll_task.result) ≡ one (gave s.0) = ap one s.1 in
    let so_far = so.4 in
    let numbers = so.5 in
    let missed = so.6 in
    let kept : c.pop.new.self.tally.misses ≡ c.pops.self.misses = ap (λ (t : Tally). t.misses) popped_tally in
    let after : c.poll_task.new.self.number ≡ c.pop.new.self.tally.number = ap (λ (t : Tally). t.number) s.3 in
    let more_missed : c.poll_task.new.self.misses ≡ c.pop.new.self.tally.misses + one (lacks s.0) = ap (λ (t : Tally). t.misses) s.3 in (
      c.pop.ensures.name ∙ inv.0 ∙ sym (ap (λ (t : Tally). t.name) s.3 ∙ ap (λ (t : Tally). t.name) popped_tally),
      omega (arith, count, more),
      λ e. subst (λ (o : Option TaskKey). IsSome o) (sym popped.0) refl,
      s.3 ∙ ap (λ (t : Tally). record t { misses = t.misses + one (lacks s.0) }) popped_tally
          ∙ ap (λ (t : Tally). record t { number = c.pops.self.number + one (is_some c.pops.finished); misses = c.pops.self.misses + one (lacks s.0) }) inv.3
          ∙ ap (λ (n : ℕ). record c.args.self.now { number = n; misses = c.pops.self.misses + one (lacks s.0) }) (sym (after ∙ number))
          ∙ ap (λ (n : ℕ). record c.args.self.now { number = c.poll_task.new.self.number; misses = n }) (sym (more_missed ∙ ap (λ n. n + one (lacks s.0)) kept)),
      (
        so.0 ++ s.0 ∷ [],
        so.1 + 1,
        so.2 + one (gave s.0),
        so.3 + one (lacks s.0),
        omega (arith, so_far, wet, still, count),
        omega (arith, numbers, number, done, after),
        omega (arith, missed, kept, more_missed),
        polled_more (ComesOf g.Fut.Future.gives g.Fut.Future.polls) g.F.Callback.may g.Q.Asking.reaches c.args.callback.now c.args.data.now c.args.requests.now so.0 s.0 so.1 so.2 so.3 _ _ _ _ _ _ so.7 s.2 s.4,
      ),
      subst (λ n. IfSome c.poll_task.result (λ done. done.task.name ≡ n)) (sym (ap (λ (t : Tally). t.name) s.3)) c.poll_task.ensures.finished,
    )

pub returns : goal.returns
returns g c =
    let inv = c.pops.invariant in
    let so = inv.4 in
    let bound = inv.1 in
    let ended : c.end_turn.new.self.tally ≡ record c.pops.self { number = c.pops.self.number + one (is_some c.pops.finished) } = rw (sym c.self-2.view_is) (c.end_turn.ensures.tally ∙ ap (λ b. record c.self-2.inside.end.tally { number = c.self-2.inside.end.tally.number + one b }) c.is_some-2.ensures) in
    let so_far = so.4 in
    let count = so.7.count_is in (
      so.0,
      omega (arith, bound, so_far, count),
      ended ∙ ap (λ (t : Tally). record t { number = c.pops.self.number + one (is_some c.pops.finished) }) inv.3
          ∙ ap (λ (n : ℕ). record c.args.self.now { number = n; misses = c.pops.self.misses }) (so.5 ∙ ap (λ n. c.args.self.now.number + n) so.7.results_is)
          ∙ ap (λ (n : ℕ). record c.args.self.now { number = c.args.self.now.number + results_of so.0; misses = n }) (so.6 ∙ ap (λ n. c.args.self.now.misses + n) so.7.misses_is),
      so.7.all_given,
      so.7.went,
    )
