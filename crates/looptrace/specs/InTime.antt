-- The calls that the lines of a script make, for the law of its timers.
use Rattle.std.specs.Prelude.{◌≡◌, ◌⊎◌, ℕ, List, [], ◌∷◌, Option}
use Rattle.logbook.specs.Pages.{Book}
use Rattle.calloop_script.specs.declared.ScriptPoller.{ScriptPoller}
use Rattle.calloop_loop.specs.declared.LoopCall.{LoopCall}
use Rattle.calloop_loop.specs.declared.LoopCall.TheVariants.{Insert, Exchange}
use Rattle.looptrace.specs.Sources.{Source}
use Rattle.calloop_loop.specs.declared.LoopAnswer.{LoopAnswer}
use Rattle.calloop_loop.specs.Machine.{World, View, IsNew, visible}
use Rattle.calloop_loop.specs.Rules.{Run, RunLeads}
use Rattle.calloop_laws.specs.Laws.{IsLedgerOf}
use Rattle.calloop_laws.specs.EveryRun.{LoopRun}
use Rattle.calloop_script.specs.ScriptPollers.{script_outside}
use Rattle.looptrace.specs.Sources.{source_meaning, no_idles}
use Rattle.looptrace.specs.Lines.{lines_of}
use Rattle.looptrace.specs.Traces.{Written, WritesTo}
use Rattle.looptrace.specs.Runs.{State, IsStart, IsNewPing, new_timer, trace_step}

abbrev pub ScriptCall : Type 0
ScriptCall = LoopCall Source ScriptPoller (Option (List ℕ)) (Unit {0})

-- a call as lines make it: what it inserts is a ping or a timer that was never registered, and it exchanges no source
abbrev pub IsScripted : ScriptCall → Type 0
IsScripted (Insert source) =
    (name : List ℕ)
    × (((ping : Option Book) × IsNewPing name source ping) ⊎ ((deadline : ℕ) × (source ≡ new_timer name deadline)))
IsScripted (Exchange token source) = ⊥
IsScripted call = Unit {0}

abbrev pub AllScripted : List ScriptCall → Type 0
AllScripted [] = Unit {0}
AllScripted (call ∷ calls) = IsScripted call × AllScripted calls

abbrev pub ScriptAnswerOf : Type 0
ScriptAnswerOf = LoopAnswer Source ScriptPoller (Option (List ℕ)) (Unit {0})

-- some such calls lead from what a loop held to what it then holds
pub record Asks (old new : View Source (Unit {0}) ScriptPoller) : Type 0 where
  pub calls : List ScriptCall
  pub answers : List ScriptAnswerOf
  pub scripted : AllScripted calls
  pub leads : RunLeads source_meaning no_idles script_outside calls answers old new

-- From every machine to which nothing has happened, and that agrees with what a loop held, there is a run to one that agrees with
-- what it then holds, in which no timer is called early, nor twice for one arming.
abbrev pub LeadsInTime : (old new : View Source (Unit {0}) ScriptPoller) → Type 0
LeadsInTime old new =
    (u : World Source (Unit {0}) ScriptPoller) → IsNew u → visible u ≡ old
    → (r : LoopRun Source (Unit {0}) ScriptPoller (Option (List ℕ)))
    × Run source_meaning no_idles script_outside r.calls r.answers r.changes r.began r.ended
    × (r.began ≡ u) × (visible r.ended ≡ new) × IsLedgerOf r.ended.ledger r.ended.poll

-- the lines of a script may write this, and what they do to the loop is such a run
abbrev pub MayWriteInTime : List ℕ → Written → Type 0
MayWriteInTime script w =
    (start : State) × (finish : State) × IsStart start × WritesTo trace_step start 1 (lines_of script) w finish
    × LeadsInTime start.loop finish.loop
