-- An insertion of a source under a free name is an insertion of what holds it.
use Rattle.std.proofs.Common.{Bool, false, ◌≡◌, ℕ, List, subst, refl, Some, Option, Result, Ok, Err}
use Rattle.logbook.specs.Pages.{Book}
use Rattle.calloop_slots.specs.declared.error.InsertError.{InsertError}
use Rattle.calloop_slots.specs.declared.token.RegistrationToken.{RegistrationToken}
use Rattle.calloop_sources.specs.declared.sources.dispatch.Dispatcher.{Dispatcher}
use Rattle.calloop_script.specs.declared.ScriptPoller.{ScriptPoller}
use Rattle.calloop_loop.specs.declared.LoopCall.TheVariants.{Insert}
use Rattle.calloop_loop.specs.declared.LoopAnswer.TheVariants.{Inserted}
use Rattle.calloop_loop.specs.Machine.{View}
use Rattle.calloop_loop.specs.Rules.{held_answer}
use Rattle.looptrace.specs.Sources.{Source}
use Rattle.looptrace.specs.Named.{Named, is_taken}
use Rattle.looptrace.specs.Runs.{Calls, Pending, InsertSays, InsertLine}

-- what is said of the answer is said of the held one
says_held : {S F : Type 0} (held : Dispatcher S F → Source) (callback : F) (answer : Result RegistrationToken (InsertError S)) (name : List ℕ) (ping : Option Book) (before after : List Named) (said : List ℕ)
    → InsertSays name ping answer before after said → InsertSays name ping (held_answer held callback answer) before after said
says_held held callback (Ok token) name ping before after said h = h
says_held held callback (Err refused) name ping before after said h = h

pub line_is : {S F : Type 0} (held : Dispatcher S F → Source) (callback : F) (answer : Result RegistrationToken (InsertError S)) (name kept : List ℕ) (ping : Option Book) (d : Source) (made : Source → Option Book → Type 0)
    (v w x : View Source (Unit {0}) ScriptPoller) (before after : List Named) (fault : Bool) (pending : Option Pending) (said : List ℕ)
    → is_taken name before ≡ false → made d ping → v ≡ w → kept ≡ name
    → Calls (Insert d) (Inserted (held_answer held callback answer)) v x → InsertSays kept ping answer before after said
    → InsertLine (record { loop = w; sources = before; fault = fault; pending = pending }) name made (Some (record { loop = x; sources = after; fault = fault; pending = pending }, said))
line_is {S} {F} held callback answer name kept ping d made v w x before after fault pending said none is_made loop same call says = (
  none,
  d,
  ping,
  is_made,
  held_answer held callback answer,
  subst (λ (w : View Source (Unit {0}) ScriptPoller). Calls (Insert d) (Inserted (held_answer held callback answer)) w x) loop call,
  subst (λ (n : List ℕ). InsertSays n ping (held_answer held callback answer) before after said) same (says_held held callback answer kept ping before after said says),
  refl,
  refl,
)
