use Rattle.std.proofs.Common.{◌≡◌, ℕ, List, ◌∙◌, sym, ap, Some}
use Rattle.std.specs.Option.{option_map}
use Rattle.calloop_wake.specs.declared.Tally.{Tally}
use Rattle.calloop_loop.specs.Machine.{view_of}
use Rattle.looptrace.specs.Sources.{ping_in}
use Rattle.looptrace.specs.declared.source.Teller.{Teller}
use Rattle.looptrace.specs.Runs.{IsNewPing, pending_of}
use Rattle.looptrace.proofs.InsertLemmas.{line_is}
use Rattle.looptrace.proofs.runner.ScriptLoop.ping.Goals as goal

pub returns-clause-ok : goal.returns-clause-ok
returns-clause-ok g c =
    let name : List ℕ = c.args.name.now in
    let none = sym c.is_taken.ensures ∙ c.if-is_taken.false in
    let kept : c.in_ok-kept.kept ≡ name = c.in_ok-kept.ensures ∙ c.as_slice-2.ensures in
    let teller : Teller = record { name = c.in_ok-new.field-0 } in
    let made = c.in-Ok.ensures.ok in
    let says = c.in_ok-keep.ensures in (
      says.0,
      says.1,
      line_is (λ d. ping_in d) teller c.insert_source-answer.result name c.in_ok-kept.kept (Some c.in-Ok.ping) (ping_in (record { source = c.in-Ok.source; callback = teller })) (IsNewPing name)
          _ (view_of c.args.self.now.event_loop) _ c.args.self.now.sources _ c.args.self.now.fault (option_map pending_of c.args.self.now.pending) says.0
          none (ap (λ (t : Tally). t.key) made, ap (λ (t : Tally). t.number) made, ap (λ (n : List ℕ). record { name = n }) (c.in_ok-new.ensures ∙ c.as_slice.ensures), sym (ap (λ (t : Tally). Some t.name) made))
          (ap view_of c.handle.ensures.value) kept c.insert_source-answer.ensures.case says.2,
    )
