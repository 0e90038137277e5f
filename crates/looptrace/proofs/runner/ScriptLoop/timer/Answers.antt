use Rattle.std.proofs.Common.{◌≡◌, ℕ, List, ◌∙◌, sym, ap, Some, None, refl}
use Rattle.calloop_sources.specs.declared.timer.Timer.{Timer}
use Rattle.calloop_sources.specs.Timers.{fresh_timer}
use Rattle.std.specs.Option.{option_map}
use Rattle.calloop_loop.specs.Machine.{view_of}
use Rattle.looptrace.specs.Sources.{Source, timer_in}
use Rattle.looptrace.specs.Runs.{IsNewTimer, new_timer, pending_of}
use Rattle.looptrace.proofs.InsertLemmas.{line_is}
use Rattle.looptrace.proofs.runner.ScriptLoop.timer.Goals as goal

new_is : (timer : Timer) (deadline : ℕ) (name : List ℕ) (asked : List ℕ) → timer ≡ fresh_timer (Some (record { nanos = deadline })) → name ≡ asked → ◌≡◌ {A = Source} (timer_in (record { source = timer; callback = record { name = name } })) (new_timer asked deadline)
new_is timer deadline name asked is_unarmed same =
    ap (λ (timer : Timer). timer_in (record { source = timer; callback = record { name = name } })) is_unarmed ∙ ap (λ (name : List ℕ). new_timer name deadline) same

pub returns-clause-ok : goal.returns-clause-ok
returns-clause-ok g c =
    let name : List ℕ = c.args.name.now in
    let none = sym c.is_taken.ensures ∙ c.if-is_taken.false in
    let source = new_is c.from_deadline-source.result c.args.deadline c.in_ok-new.field-0 name c.from_deadline-source.ensures (c.in_ok-new.ensures ∙ c.as_slice.ensures) in
    let kept : c.in_ok-kept.kept ≡ name = c.in_ok-kept.ensures ∙ c.as_slice-2.ensures in
    let says = c.in_ok-keep.ensures in (
      says.0,
      says.1,
      line_is (λ d. timer_in d) (record { name = c.in_ok-new.field-0 }) c.insert_source-answer.result name c.in_ok-kept.kept None (timer_in (record { source = c.from_deadline-source.result; callback = record { name = c.in_ok-new.field-0 } })) (IsNewTimer name c.args.deadline)
          _ (view_of c.args.self.now.event_loop) _ c.args.self.now.sources _ c.args.self.now.fault (option_map pending_of c.args.self.now.pending) says.0
          none (source, refl) (ap view_of c.handle.ensures.value) kept c.insert_source-answer.ensures.case says.2,
    )
