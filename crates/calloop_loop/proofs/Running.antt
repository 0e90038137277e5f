-- Lists of calls, one after the other.
use Rattle.std.proofs.Common.{List, [], ◌∷◌, refl}
use Rattle.calloop_poll.specs.sys.Pollers.{Outside}
use Rattle.calloop_loop.specs.declared.LoopCall.{LoopCall}
use Rattle.calloop_loop.specs.declared.LoopAnswer.{LoopAnswer}
use Rattle.calloop_sources.specs.sources.Deeds.{Lent}
use Rattle.calloop_sources.specs.sources.Meanings.{Meaning}
use Rattle.calloop_loop.specs.Askings.{Asks, Runs}
use Rattle.calloop_loop.specs.Machine.{View}
use Rattle.calloop_loop.specs.Rules.{Case, Did, RunLeads, all_traced}
use Rattle.calloop_loop.proofs.Seen.{did_leads}

module _ {D I P X : Type 0} (M : Meaning D P (Lent X (Asks D I))) (runs : Runs D I X) (O : Outside P) where
  pub run_none : (v : View D I P) → RunLeads M runs O [] [] v v
  run_none v w e = ([], w, refl, e)

  pub run_first : (call : LoopCall D P X I) (answer : LoopAnswer D P X I) (calls : List (LoopCall D P X I)) (answers : List (LoopAnswer D P X I)) (v u t : View D I P) → Did (Case M runs O call answer) v u → RunLeads M runs O calls answers u t → RunLeads M runs O (call ∷ calls) (answer ∷ answers) v t
  run_first call answer calls answers v u t d h w e =
      let x = did_leads (Case M runs O call answer) v u d w e in
      let y = h (all_traced w x.0) x.2 in
      (x.0 ∷ y.0, y.1, (x.1, y.2), y.3)
