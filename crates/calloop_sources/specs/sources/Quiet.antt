-- Callbacks and dispatchers that ask the loop for nothing. calloop's closures may hold a handle of their loop, so nothing of
-- this can be said there.
use Rattle.std.specs.Prelude.{◌≡◌, List, [], ◌∷◌}
use Rattle.std.proofs.Common.{◌∙◌}
use Rattle.calloop_slots.specs.declared.error.Error.{Error}
use Rattle.calloop_slots.specs.declared.token.Token.{Token}
use Rattle.calloop_poll.specs.declared.sys.Readiness.{Readiness}
use Rattle.calloop_sources.specs.declared.sources.choice.OneOf.TheVariants.{First, Other}
use Rattle.calloop_poll.specs.sys.Polls.{PollView, PollStep}
use Rattle.calloop_sources.specs.sources.Calls.{Calling, CallbackCall, Went}
use Rattle.calloop_sources.specs.sources.Deeds.{Turned, Lent, Heard}
use Rattle.calloop_sources.specs.sources.Meanings.{Meaning, with_callback, one_of, seen_as}

-- a call leaves the requests unchanged
abbrev pub IsQuietCall : {F E M T X Q : Type 0} → Calling F E M T X Q → Type 0
IsQuietCall {F} {E} {M} {T} {X} {Q} may =
    (f g : F) (e : E) (m n : M) (x y : X) (q r : Q) (t : T) → may f e m x q t g n y r → r ≡ q

-- a turn leaves the requests unchanged
abbrev pub IsQuiet : {D P X Q : Type 0} → Meaning D P (Lent X Q) → Type 0
IsQuiet {D} {P} {X} {Q} m =
    (s t : D) (v : PollView P) (readiness : Readiness) (token : Token) (turn : Lent X Q) (steps : List (PollStep P))
    → m.does s v (Turned readiness token turn) steps t → turn.asked_after ≡ turn.asked_before

-- so does an idle callback, which runs at the end of a dispatch
abbrev pub IsQuietRun : {I X Q : Type 0} → (I → X → Q → X → Q → Type 0) → Type 0
IsQuietRun {I} {X} {Q} runs = (i : I) (x y : X) (q r : Q) → runs i x q y r → r ≡ q

-- Proofs from here on, which the impls cite.

went_quiet : {F E M T X Q : Type 0} (may : Calling F E M T X Q) (reaches : Q → Q → Type 0) → IsQuietCall may
    → (f g : F) (x y : X) (q r : Q) (cs : List (CallbackCall E M T)) → Went may reaches f x q cs g y r → r ≡ q
went_quiet may reaches quiet f g x y q r [] h = h.2
went_quiet may reaches quiet f g x y q r (c ∷ cs) h =
    went_quiet may reaches quiet h.0 g h.1 y h.2 r cs h.5
    ∙ quiet f h.0 c.event c.before c.after x h.1 q h.2 c.answer h.3

pub quiet_dispatcher : {S F P E M T Cause X Q : Type 0} (m : Meaning S P (Heard E M T Cause)) (may : Calling F E M T X Q)
    (reaches : Q → Q → Type 0) (becomes : Cause → Error → Type 0) → IsQuietCall may
    → IsQuiet (with_callback m may reaches becomes)
quiet_dispatcher m may reaches becomes quiet s t v readiness token turn steps h =
    went_quiet may reaches quiet s.callback t.callback turn.before turn.after turn.asked_before turn.asked_after
    h.inner.calls h.went

pub quiet_one_of : {A B P X Q : Type 0} (m : Meaning A P (Lent X Q)) (n : Meaning B P (Lent X Q)) → IsQuiet m → IsQuiet n
    → IsQuiet (one_of m n)
quiet_one_of m n a b (First s) (First t) v readiness token turn steps h = a s t v readiness token turn steps h
quiet_one_of m n a b (Other s) (Other t) v readiness token turn steps h = b s t v readiness token turn steps h
quiet_one_of m n a b (First s) (Other t) v readiness token turn steps h = absurd h
quiet_one_of m n a b (Other s) (First t) v readiness token turn steps h = absurd h

pub quiet_seen : {D A P X Q : Type 0} (see : D → A) (m : Meaning A P (Lent X Q)) → IsQuiet m → IsQuiet (seen_as see m)
quiet_seen see m quiet s t v readiness token turn steps h = quiet (see s) (see t) v readiness token turn steps h
