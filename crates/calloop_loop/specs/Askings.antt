-- What callbacks ask of the loop, and the answers. In calloop a callback holds a handle of its loop; here it writes requests,
-- which are carried out in order when its turn ends, each under a ticket that names its answer.
use Rattle.std.specs.Prelude.{
  ◌≡◌,
  ℕ,
  ◌+◌,
  ◌^◌,
  ◌-◌,
  ◌<◌,
  ◌⊎◌,
  List,
  [],
  ◌∷◌,
  ◌++◌,
  slice_get,
  filter,
  map,
  not,
  nat_eq,
  nat_le,
  nat_lt,
  length,
  ◌&&◌,
  ◌||◌,
  Bool,
  Option,
  Some,
  None,
  is_some,
  false,
  if◌then◌else◌,
}
use Rattle.std.specs.List.{remove}
use Rattle.std.proofs.Common.{refl, ◌∙◌, ap, sym}
use Rattle.calloop_slots.specs.declared.token.RegistrationToken.{RegistrationToken}
use Rattle.calloop_slots.specs.declared.error.Error.{Error}
use Rattle.calloop_slots.specs.declared.error.Error.TheVariants.{OutOfMemory, TooManyTickets}
use Rattle.calloop_loop.specs.declared.asks.Request.{Request}
use Rattle.calloop_loop.specs.declared.asks.Answer.{Answer}
use Rattle.calloop_loop.specs.declared.asks.Answer.TheVariants.{Done, Inserted, NotInserted, Removed, Refused}
use Rattle.calloop_loop.specs.declared.asks.Asked.{Asked}
use Rattle.calloop_loop.specs.declared.asks.Answered.{Answered}
use Rattle.calloop_loop.specs.declared.asks.Idling.{Idling}

pub record Asks (D I : Type 0) : Type 0 where
  -- the requests that weren't carried out yet, in their order
  pub written : List (Asked D I)
  -- the next ticket
  pub next : ℕ
  -- the answers that weren't handed out
  pub answers : List (Answered D)
  -- the idles of the next round, and those of this round that haven't run yet
  pub idles : List (Idling I)
  pub running : List (Idling I)
  -- the ticket of the request that is being carried out
  pub serving : Option ℕ
  -- the ticket of a source that asked for its own removal, which is answered when its turn is over
  pub owed : Option ℕ
  -- the next ticket when idles were last taken up
  pub taken_up_at : ℕ
  -- the next ticket when answers were last cleared
  pub cleared_at : ℕ
  -- the source in whose turn requests are lent, or were lent last; none in the round of idles
  pub turn : Option RegistrationToken

-- what callbacks do to requests: one is written under the next ticket, or the answer under a ticket is handed out
pub data AskStep (D I : Type 0) : Type 0 where
  Write : (request : Request D I) → AskStep D I
  Take : (ticket : ℕ) → AskStep D I

-- the answer under a ticket
abbrev pub answer_under : {D : Type 0} → ℕ → List (Answered D) → Option (Answer D)
answer_under ticket [] = None
answer_under ticket (a ∷ as') = if nat_eq a.ticket ticket then Some a.answer else answer_under ticket as'

abbrev pub without : {D : Type 0} → ℕ → List (Answered D) → List (Answered D)
without ticket [] = []
without ticket (a ∷ as') = if nat_eq a.ticket ticket then as' else a ∷ without ticket as'

-- the first answer under a ticket is at this position
abbrev pub StandsAt : {D : Type 0} → (ticket place : ℕ) → List (Answered D) → Type 0
StandsAt {D} ticket place answers =
    (a : Answered D) × (slice_get answers place ≡ Some a) × (remove answers place ≡ without ticket answers)
    × (answer_under ticket answers ≡ Some a.answer)

abbrev pub ask_after : {D I : Type 0} → Asks D I → AskStep D I → Asks D I
ask_after q (Write request) =
    record q { written = q.written ++ record { ticket = q.next; request = request } ∷ []; next = q.next + 1 }
ask_after q (Take ticket) = record q { answers = without ticket q.answers }

abbrev pub asks_after : {D I : Type 0} → Asks D I → List (AskStep D I) → Asks D I
asks_after q [] = q
asks_after q (s ∷ ss) = asks_after (ask_after q s) ss

-- the tickets whose answers are handed out: under a ticket, by a step, and by steps
abbrev pub taken_from : {D : Type 0} → ℕ → List (Answered D) → List ℕ
taken_from ticket [] = []
taken_from ticket (a ∷ as') = if nat_eq a.ticket ticket then ticket ∷ [] else taken_from ticket as'

abbrev pub handed_by : {D I : Type 0} → Asks D I → AskStep D I → List ℕ
handed_by q (Write request) = []
handed_by q (Take ticket) = taken_from ticket q.answers

abbrev pub all_handed : {D I : Type 0} → Asks D I → List (AskStep D I) → List ℕ
all_handed q [] = []
all_handed q (s ∷ ss) = handed_by q s ++ all_handed (ask_after q s) ss

-- what requests can become in a callback
pub record Reaches {D I : Type 0} (q r : Asks D I) : Type 0 where
  pub steps : List (AskStep D I)
  pub is : r ≡ asks_after q steps

-- from wherever the one is reached, so is the other: each call says so, and each function of a user that is lent requests
abbrev pub OnlyAsks : {D I : Type 0} → Asks D I → Asks D I → Type 0
OnlyAsks {D} {I} q r = (p : Asks D I) → Reaches p q → Reaches p r

-- this request was written, under this ticket
abbrev pub IsAsked : {D I : Type 0} → Request D I → (ticket : ℕ) → Asks D I → Asks D I → Type 0
IsAsked request ticket q r = (q.next < 2 ^ 64 - 1) × (ticket ≡ q.next) × (r ≡ ask_after q (Write request))

-- why no request was written: every ticket was given, or there is no memory
abbrev pub CannotAsk : {D I : Type 0} → Asks D I → Error → Type 0
CannotAsk q e = ((q.next ≡ 2 ^ 64 - 1) × (e ≡ TooManyTickets)) ⊎ ((q.next < 2 ^ 64 - 1) × (e ≡ OutOfMemory))

-- What the loop does to requests.

-- The answer to an insertion is kept for the source in whose turn it was asked for, until that source's next turn begins, or
-- it leaves the loop or is disabled. calloop's insert_source returns the token at once.

abbrev pub is_source : RegistrationToken → Option RegistrationToken → Bool
is_source token None = false
is_source token (Some t) = nat_eq t.slot token.slot && nat_eq t.version token.version

-- an answer isn't kept for this source any more
abbrev pub not_kept_for : {D : Type 0} → RegistrationToken → Answered D → Answered D
not_kept_for token a = record a { kept_for = if is_source token a.kept_for then None else a.kept_for }

abbrev pub none_kept_for : {D I : Type 0} → RegistrationToken → Asks D I → Asks D I
none_kept_for token q = record q { answers = map (not_kept_for token) q.answers }

-- the requests as they are lent in the turn of this source, for which no answer is kept from now on; calloop's callbacks
-- aren't told whose turn it is
abbrev pub of_turn : {D I : Type 0} → RegistrationToken → Asks D I → Asks D I
of_turn token q = record (none_kept_for token q) { turn = Some token }

-- for whom an answer is kept, if its request was written in this turn
abbrev pub keeper_of : {D : Type 0} → (turn : Option RegistrationToken) → Answer D → Option RegistrationToken
keeper_of turn (Inserted token) = turn
keeper_of turn (NotInserted refused) = turn
keeper_of turn Done = None
keeper_of turn (Removed source) = None
keeper_of turn (Refused error) = None

-- the first request is carried out from now on
abbrev pub begun_from : {D I : Type 0} → List (Asked D I) → Asks D I → Asks D I
begun_from [] q = q
begun_from (a ∷ as') q = record q { written = as'; serving = Some a.ticket }

abbrev pub after_begin : {D I : Type 0} → Asks D I → Asks D I
after_begin q = begun_from q.written q

abbrev pub request_of : {D I : Type 0} → List (Asked D I) → Option (Request D I)
request_of [] = None
request_of (a ∷ as') = Some a.request

abbrev pub answers_to : {D : Type 0} → Option ℕ → (turn : Option RegistrationToken) → Answer D → List (Answered D)
answers_to None turn answer = []
answers_to (Some ticket) turn answer = record { ticket = ticket; answer = answer; kept_for = keeper_of turn answer } ∷ []

-- the answer of the request that is carried out
abbrev pub with_answer : {D I : Type 0} → Answer D → Asks D I → Asks D I
with_answer answer q = record q { answers = q.answers ++ answers_to q.serving q.turn answer; serving = None }

-- the answer is deferred to the end of the turn; and what is owed is then answered
abbrev pub with_answer_owed : {D I : Type 0} → Asks D I → Asks D I
with_answer_owed q = record q { owed = q.serving; serving = None }

abbrev pub with_owed_answer : {D I : Type 0} → Answer D → Asks D I → Asks D I
with_owed_answer answer q = record q { answers = q.answers ++ answers_to q.owed q.turn answer; owed = None }

abbrev pub ticket_of : {I : Type 0} → Option (Idling I) → ℕ
ticket_of None = 0
ticket_of (Some i) = i.ticket

-- the ticket of the last idle that waits, or 0 if none does
abbrev pub last_ticket : {I : Type 0} → List (Idling I) → ℕ
last_ticket idles = ticket_of (slice_get idles (length idles - 1))

-- An answer stays if it is kept for a source. Another one stays if its request was written since idles were last taken up, and
-- either since answers were last cleared, or before the last idle that still waits, which may ask for it. In calloop a call of
-- the handle answers at once.
abbrev pub stays_on : {D : Type 0} → (taken_up_at cleared_at last : ℕ) → Answered D → Bool
stays_on taken_up_at cleared_at last a =
    is_some a.kept_for || (nat_le taken_up_at a.ticket && (nat_le cleared_at a.ticket || nat_lt a.ticket last))

-- the other answers are gone, if they weren't handed out
abbrev pub without_old : {D I : Type 0} → Asks D I → Asks D I
without_old q =
    record q { answers = filter (stays_on q.taken_up_at q.cleared_at (last_ticket q.idles)) q.answers; cleared_at = q.next }

-- Idles: calloop's insert_idle, Idle::cancel and dispatch_idles.

abbrev pub idle_under : {I : Type 0} → Option ℕ → I → List (Idling I)
idle_under None idle = []
idle_under (Some ticket) idle = record { ticket = ticket; idle = idle } ∷ []

-- the idle of the request that is being carried out is put at the end, and the request is answered
abbrev pub with_idle : {D I : Type 0} → I → Asks D I → Asks D I
with_idle idle q = with_answer Done (record q { idles = q.idles ++ idle_under q.serving idle })

-- an idle that no callback asked for
abbrev pub with_new_idle : {D I : Type 0} → I → Asks D I → Asks D I
with_new_idle idle q = record q { idles = q.idles ++ record { ticket = q.next; idle = idle } ∷ []; next = q.next + 1 }

abbrev pub is_other_idle : {I : Type 0} → (ticket : ℕ) → Idling I → Bool
is_other_idle ticket i = not (nat_eq i.ticket ticket)

-- a cancelled idle is in neither list
abbrev pub without_idle : {D I : Type 0} → (ticket : ℕ) → Asks D I → Asks D I
without_idle ticket q =
    record q { idles = filter (is_other_idle ticket) q.idles; running = filter (is_other_idle ticket) q.running }

-- a round begins: the list is taken whole, and no source is in its turn
abbrev pub taken_up : {D I : Type 0} → Asks D I → Asks D I
taken_up q = record q { idles = []; running = q.running ++ q.idles; taken_up_at = q.next; turn = None }

abbrev pub all_but_first : {A : Type 0} → List A → List A
all_but_first [] = []
all_but_first (a ∷ as') = as'

abbrev pub running_of : {I : Type 0} → List (Idling I) → Option I
running_of [] = None
running_of (i ∷ is) = Some i.idle

-- the first idle runs
abbrev pub idle_begun : {D I : Type 0} → Asks D I → Asks D I
idle_begun q = record q { running = all_but_first q.running }

-- what an idle may do: a relation of the idle, the data and the requests before it runs, and the data and the requests
-- after it; calloop's idle is a closure, of which nothing is known
abbrev pub Runs : (D I X : Type 0) → Type 1
Runs D I X = I → X → Asks D I → X → Asks D I → Type 0

abbrev pub no_asks : {D I : Type 0} → Asks D I
no_asks =
    record {
      written = [];
      next = 0;
      answers = [];
      idles = [];
      running = [];
      serving = None;
      owed = None;
      taken_up_at = 0;
      cleared_at = 0;
      turn = None;
    }

abbrev pub debt : Option ℕ → ℕ
debt None = 0
debt (Some ticket) = 1

-- The rest is proof that an impl cites.

asks_after-append : {D I : Type 0} (q : Asks D I) (l m : List (AskStep D I))
    → asks_after q (l ++ m) ≡ asks_after (asks_after q l) m
asks_after-append q [] m = refl
asks_after-append q (s ∷ ss) m = asks_after-append (ask_after q s) ss m

pub asks_nothing : {D I : Type 0} (q : Asks D I) → Reaches q q
asks_nothing q = record { steps = []; is = refl }

pub asks_on : {D I : Type 0} (q r s : Asks D I) → Reaches q r → Reaches r s → Reaches q s
asks_on {D} {I} q r s h k =
    record {
      steps = h.steps ++ k.steps;
      is = k.is ∙ ap (λ (x : Asks D I). asks_after x k.steps) h.is ∙ sym (asks_after-append q h.steps k.steps);
    }

pub asks_one : {D I : Type 0} (q r : Asks D I) (step : AskStep D I) → r ≡ ask_after q step → Reaches q r
asks_one q r step is = record { steps = step ∷ []; is = is }
