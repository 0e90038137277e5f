-- What a caller can show of a run, so that no source brings a timer counter or a key into the loop: of its calls with
-- their results, and of the relations of its sources and idles. calloop's sources hold nothing of their loop to bring.
use Rattle.std.specs.Prelude.{List, [], ◌∷◌, Ok}
use Rattle.std.proofs.Common.{sym, subst}
use Rattle.calloop_slots.specs.declared.token.Token.{Token}
use Rattle.calloop_poll.specs.declared.sys.Readiness.{Readiness}
use Rattle.calloop_poll.specs.sys.Polls.{PollView, PollStep}
use Rattle.calloop_sources.specs.sources.Deeds.{Turned, Lent}
use Rattle.calloop_sources.specs.sources.Meanings.{Meaning}
use Rattle.calloop_sources.specs.sources.Quiet.{IsQuiet, IsQuietRun}
use Rattle.calloop_loop.specs.declared.LoopCall.{LoopCall}
use Rattle.calloop_loop.specs.declared.LoopCall.TheVariants.{Insert, Exchange}
use Rattle.calloop_loop.specs.declared.LoopAnswer.{LoopAnswer}
use Rattle.calloop_loop.specs.declared.LoopAnswer.TheVariants.{Exchanged}
use Rattle.calloop_loop.specs.declared.asks.Asked.{Asked}
use Rattle.calloop_loop.specs.declared.asks.Request.{Request}
use Rattle.calloop_loop.specs.declared.asks.Request.TheVariants.{Insert as AskInsert}
use Rattle.calloop_loop.specs.Askings.{Asks, Runs}
use Rattle.calloop_laws.specs.Laws.{IsFresh, IsNoMore, Any, HasNoMoreKeys}

-- a request that inserts a source inserts one that satisfies C
abbrev pub IsOnly : {D I : Type 0} → (D → Type 0) → Request D I → Type 0
IsOnly C (AskInsert d) = C d
IsOnly C request = Unit {0}

abbrev pub AreOnly : {D I : Type 0} → (D → Type 0) → List (Asked D I) → Type 0
AreOnly C [] = Unit {0}
AreOnly C (a ∷ as') = IsOnly C a.request × AreOnly C as'

-- a turn requests no other insertions than of such sources
abbrev pub AsksOnly : {D I P X : Type 0} → (D → Type 0) → Meaning D P (Lent X (Asks D I)) → Type 0
AsksOnly {D} {I} {P} {X} C m =
    (s t : D) (v : PollView P) (readiness : Readiness) (token : Token) (turn : Lent X (Asks D I))
    (steps : List (PollStep P))
    → m.does s v (Turned readiness token turn) steps t → AreOnly C turn.asked_before.written
    → AreOnly C turn.asked_after.written

-- and neither does an idle, which runs at the end of a dispatch
abbrev pub RunsOnly : {D I X : Type 0} → (D → Type 0) → Runs D I X → Type 0
RunsOnly {D} {I} {X} C runs =
    (i : I) (x y : X) (q r : Asks D I) → runs i x q y r → AreOnly C q.written → AreOnly C r.written

-- every source that a call inserts satisfies C; every replacement satisfies S relative to the replaced one, named in the result
abbrev pub CallBrings : {D I P X : Type 0} → (D → Type 0) → (D → D → Type 0) → LoopCall D P X I → LoopAnswer D P X I → Type 0
CallBrings C S (Insert d) answer = C d
CallBrings C S (Exchange token new) (Exchanged (Ok old)) = S old new
CallBrings C S call answer = Unit {0}

abbrev pub AllCallsBring : {D I P X : Type 0} → (D → Type 0) → (D → D → Type 0) → List (LoopCall D P X I)
    → List (LoopAnswer D P X I) → Type 0
AllCallsBring C S (call ∷ calls) (answer ∷ answers) = CallBrings C S call answer × AllCallsBring C S calls answers
AllCallsBring C S calls answers = Unit {0}

-- each turn and each idle requests no other insertions than of sources that hold no counter
abbrev pub AsksFresh : {D I P X : Type 0} → Meaning D P (Lent X (Asks D I)) → Type 0
AsksFresh m = AsksOnly (IsFresh m) m

abbrev pub RunsFresh : {D I P X : Type 0} → Meaning D P (Lent X (Asks D I)) → Runs D I X → Type 0
RunsFresh m runs = RunsOnly (IsFresh m) runs

-- each source that a call inserts holds no counter; and a replacement holds at most what the replaced source holds
abbrev pub AllFreshCalls : {D I P X : Type 0} → Meaning D P (Lent X (Asks D I)) → List (LoopCall D P X I)
    → List (LoopAnswer D P X I) → Type 0
AllFreshCalls m calls answers = AllCallsBring (IsFresh m) (IsNoMore m) calls answers

-- and a replacement has no key that the replaced source doesn't have
abbrev pub AllKeepKeys : {D I P X : Type 0} → Meaning D P (Lent X (Asks D I)) → List (LoopCall D P X I)
    → List (LoopAnswer D P X I) → Type 0
AllKeepKeys m calls answers = AllCallsBring Any (HasNoMoreKeys m) calls answers

-- Proofs from here on, which a caller cites.

pub quiet_asks : {D I P X : Type 0} (C : D → Type 0) (m : Meaning D P (Lent X (Asks D I))) → IsQuiet m → AsksOnly C m
quiet_asks {D} {I} C m quiet s t v readiness token turn steps h before =
    subst (λ (q : Asks D I). AreOnly C q.written) (sym (quiet s t v readiness token turn steps h)) before

pub quiet_runs : {D I X : Type 0} (C : D → Type 0) (runs : Runs D I X) → IsQuietRun runs → RunsOnly C runs
quiet_runs {D} {I} C runs quiet i x y q r h before =
    subst (λ (a : Asks D I). AreOnly C a.written) (sym (quiet i x y q r h)) before
