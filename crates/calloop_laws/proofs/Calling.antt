-- A cell at rest when a dispatch takes keys opens the turn of its event; a ring pending then stays so until that turn calls back.
use Rattle.std.proofs.Common.{◌≡◌, ◌≢◌, ℕ, ◌+◌, ◌-◌, ◌<◌, ◌≤◌, Bool, true, false, ◌&&◌, not, if◌then◌else◌, ◌⊎◌, inl, inr, Option, Some, None, Result, Ok, Err, List, [], ◌∷◌, ◌++◌, nat_eq, nat_lt, refl, sym, ◌∙◌, ap, subst, arith, append_assoc}
use Rattle.std.proofs.lemmas.Bool.Decides.{nat_tests}
use Rattle.calloop_slots.specs.declared.error.Error.{Error}
use Rattle.calloop_slots.specs.declared.list.Content.{Content}
use Rattle.calloop_slots.specs.declared.list.Content.TheVariants.{Source}
use Rattle.calloop_slots.specs.declared.token.Token.{Token}
use Rattle.calloop_slots.specs.Slots.{content_at}
use Rattle.calloop_slots.specs.Tokens.{registration_of, key_of}
use Rattle.calloop_wake.specs.declared.Tally.{Tally}
use Rattle.calloop_wake.specs.Boards.{is_marked, bound}
use Rattle.calloop_wake.specs.Cells.{Cell, CoreView, one, opens, takes, is_own, tally_after_open_turn}
use Rattle.calloop_wake.specs.Channels.{ChannelCell, after_take_of}
use Rattle.calloop_wake.specs.Passes.{Taken}
use Rattle.calloop_wake.specs.declared.notes.Note.{Note}
use Rattle.calloop_wake.specs.declared.notes.Note.TheVariants.{Counted, Unposted}
use Rattle.calloop_wake_laws.specs.Kinds.{First, Second, Born, every_kind, new_cell}
use Rattle.calloop_wake_laws.specs.PingKind.{Ring, Close, EndTurn}
use Rattle.calloop_wake_laws.specs.ChannelKind.{ChannelPast, ChannelStep, Ring as RingChannel, Close as CloseChannel, Pop, Take, EndTurn as EndChannel, Put, channel_needs, channel_after}
use Rattle.calloop_wake_laws.specs.ExecutorKind.{ExecutorPast, ExecutorStep, Put as PutTask, Wake, Pop as PopTask, EndTurn as EndExecutor, executor_needs, past_after}
use Rattle.calloop_wake_laws.specs.Wakes.{WakeWorld, At, ClearKey, SetKey, OpenTurn, OpenPlace, ClosePlace, Post, Back, Unpost, Look, Wakeup, Sleep, Return, after, start, with_cell, Bag, less_one}
use Rattle.calloop_wake_laws.proofs.BothLawful.{every_lawful}
use Rattle.calloop_wake_laws.proofs.Schedules.{with_cell_cases}
use Rattle.calloop_sources.specs.declared.sources.dispatch.Dispatcher.{Dispatcher}
use Rattle.calloop_sources.specs.declared.sources.source.PostAction.{PostAction}
use Rattle.calloop_sources.specs.sources.Calls.{CallbackCall, Calling, Becomes}
use Rattle.calloop_sources.specs.sources.Deeds.{Lent, Turned, lend}
use Rattle.calloop_sources.specs.sources.Meanings.{Meaning, IsHeld, with_callback}
use Rattle.calloop_poll.specs.declared.sys.poll.Pending.{Pending}
use Rattle.calloop_poll.specs.sys.Polls.{PollStep, posted_event, after_cut}
use Rattle.calloop_ends.specs.cell.CellSources.{OpenTurns, CellTurn, TurnFor, TurnWith, cell_meaning}
use Rattle.calloop_ends.specs.declared.ping.source.PingError.{PingError}
use Rattle.calloop_ends.specs.ping.Pings.{PingCalls, PingOpens, SamePing, ping_tally, ping_meaning, calls_of}
use Rattle.calloop_loop.specs.Askings.{Asks, of_turn, asks_after}
use Rattle.calloop_loop.specs.Machine.{View, Change}
use Rattle.calloop_loop.specs.Rules.{Serving, CutTo, after_changes}
use Rattle.calloop_laws.specs.Handed.{IsHandedOut}
use Rattle.calloop_laws.specs.Histories.{Happening, Unseen, Noted, IsHistory, end_of, notes_of}
use Rattle.calloop_laws.specs.Tied.{IsRung, Taking, world_at}
use Rattle.calloop_laws.specs.Called.{KeepsKey, IsAsked, IsPingsTurnIn, IsOpened, OpensEachTurn, CallsEachRing, world_behind_it, PingCalling}
use Rattle.calloop_laws.proofs.Histories.{history-append}

-- Worlds of every kind of cells.

abbrev Worlds : Type 0
Worlds = WakeWorld every_kind.Cell

abbrev History : Type 0
History = List (Happening every_kind.Own)

not_true : (b : Bool) → b ≡ true → b ≡ false → ⊥
not_true b y n = (let f : ◌≡◌ {A = Bool} true false = sym y ∙ n in cc)

-- A step of its own opens no turn of a cell.

take_quiet : (xs : List ℕ) (c : ChannelCell ℕ) → c.cell.draining ≡ false → (after_take_of xs c).cell.draining ≡ false
take_quiet [] c q = q
take_quiet (x ∷ xs) c q = q

channel_quiet : (s : ChannelStep) (p : ChannelPast) → channel_needs s p → p.now.cell.draining ≡ false → (channel_after s p).now.cell.draining ≡ false
channel_quiet RingChannel p needs q = q
channel_quiet CloseChannel p needs q = q
channel_quiet Pop p needs q = absurd (not_true p.now.cell.draining needs.0 q)
channel_quiet Take p needs q = take_quiet p.now.queue p.now q
channel_quiet EndChannel p needs q = absurd (not_true p.now.cell.draining needs.0 q)
channel_quiet (Put x) p needs q = q

executor_quiet : (s : ExecutorStep) (p : ExecutorPast) → executor_needs s p.now → p.now.draining ≡ false → (past_after s p).now.draining ≡ false
executor_quiet (PutTask slot home) p needs q = q
executor_quiet (Wake key) p needs q = q
executor_quiet (PopTask finished) p needs q = absurd (not_true p.now.draining needs.0 q)
executor_quiet (EndExecutor finished) p needs q = absurd (not_true p.now.draining needs.0 q)

own_quiet : (s : every_kind.Own) (c : every_kind.Cell) → every_kind.Needs s c → every_kind.draining c ≡ false
    → every_kind.draining (every_kind.after s c) ≡ false
own_quiet (First Ring) (First c) needs q = q
own_quiet (First Close) (First c) needs q = q
own_quiet (First EndTurn) (First c) needs q = refl
own_quiet (First s) (Second d) needs q = q
own_quiet (Second s) (First c) needs q = q
own_quiet (Second (First s)) (Second (First p)) needs q = channel_quiet s p needs q
own_quiet (Second (First s)) (Second (Second e)) needs q = q
own_quiet (Second (Second s)) (Second (First p)) needs q = q
own_quiet (Second (Second s)) (Second (Second e)) needs q = executor_quiet s e needs q

-- a cell at rest opens a turn with its key
own_opens : (k : ℕ) (own : Option ℕ) (draining : Bool) → own ≡ Some k → draining ≡ false → (is_own k own && not draining) ≡ true
own_opens k own draining keyed quiet =
    let same : nat_eq k k ≡ true = grind (arith, nat_tests) in
    rw keyed (rw quiet (rw same refl))

rest_opens : (k : ℕ) (c : every_kind.Cell) → every_kind.key c ≡ Some k → every_kind.draining c ≡ false → every_kind.opens k c ≡ true
rest_opens k (First c) keyed quiet = own_opens k c.key c.draining keyed quiet
rest_opens k (Second (First p)) keyed quiet = own_opens k p.now.cell.key p.now.cell.draining keyed quiet
rest_opens k (Second (Second e)) keyed quiet = own_opens k e.now.key e.now.draining keyed quiet

-- The passes of a key don't increase while nothing is taken.

less-few : (j k : ℕ) (bag : Bag) → less_one j bag k ≤ bag k
less-few j k bag = omega arith

either-few : (b : Bool) (j k : ℕ) (bag : Bag) → (if b then less_one j bag else bag) k ≤ bag k
either-few true j k bag = less-few j k bag
either-few false j k bag = omega arith

noted-once : (note : Note) (notes : List Note) → note ∷ notes ≡ [] → ⊥
noted-once note notes h = (let f : ◌≡◌ {A = List Note} (note ∷ notes) [] = h in cc)

-- what a quiet list begins with is quiet
quiet_front : (hs js : History) → notes_of (hs ++ js) ≡ [] → notes_of hs ≡ []
quiet_front [] js h = refl
quiet_front (Unseen s ∷ hs) js h = quiet_front hs js h
quiet_front (Noted note ∷ hs) js h = absurd (noted-once note (notes_of (hs ++ js)) h)

pub passes-fall : (w : Worlds) (hs : History) (k : ℕ) → IsHistory every_kind w hs → notes_of hs ≡ [] → (end_of every_kind w hs).passes k ≤ w.passes k
passes-fall w [] k h quiet = omega arith
passes-fall w (Unseen (At n s) ∷ hs) k h quiet = passes-fall (after every_kind w (At n s)) hs k h.1 quiet
passes-fall w (Unseen (ClearKey n by_drop) ∷ hs) k h quiet = passes-fall (after every_kind w (ClearKey n by_drop)) hs k h.1 quiet
passes-fall w (Unseen (SetKey n j) ∷ hs) k h quiet = passes-fall (after every_kind w (SetKey n j)) hs k h.1 quiet
passes-fall w (Unseen (OpenTurn n j) ∷ hs) k h quiet =
    let few = either-few (every_kind.opens j (w.cells n)) j k w.passes in
    omega (arith, passes-fall (after every_kind w (OpenTurn n j)) hs k h.1 quiet, few)
passes-fall w (Unseen (OpenPlace j) ∷ hs) k h quiet = passes-fall (after every_kind w (OpenPlace j)) hs k h.1 quiet
passes-fall w (Unseen (ClosePlace j) ∷ hs) k h quiet = passes-fall (after every_kind w (ClosePlace j)) hs k h.1 quiet
passes-fall w (Unseen (Post j) ∷ hs) k h quiet = passes-fall (after every_kind w (Post j)) hs k h.1 quiet
passes-fall w (Unseen (Back j) ∷ hs) k h quiet =
    let few = less-few j k w.passes in
    omega (arith, passes-fall (after every_kind w (Back j)) hs k h.1 quiet, few)
passes-fall w (Unseen (Unpost below) ∷ hs) k h quiet = absurd h.0.0
passes-fall w (Unseen Look ∷ hs) k h quiet = absurd h.0.0
passes-fall w (Unseen Wakeup ∷ hs) k h quiet = passes-fall (after every_kind w Wakeup) hs k h.1 quiet
passes-fall w (Unseen Sleep ∷ hs) k h quiet = passes-fall (after every_kind w Sleep) hs k h.1 quiet
passes-fall w (Unseen Return ∷ hs) k h quiet = passes-fall (after every_kind w Return) hs k h.1 quiet
passes-fall w (Noted note ∷ hs) k h quiet = absurd (noted-once note (notes_of hs) quiet)

-- once the pass is spent no turn is opened with it later
spent_before : (w : Worlds) (hs later : History) (n k : ℕ) → IsHistory every_kind w (hs ++ Unseen (OpenTurn n k) ∷ later) → notes_of hs ≡ [] → w.passes k ≡ 0 → ⊥
spent_before w hs later n k h quiet none =
    let parts = history-append every_kind w hs (Unseen (OpenTurn n k) ∷ later) h in
    let needs : 0 < (end_of every_kind w hs).passes k = parts.1.0.1 in
    omega (arith, passes-fall w hs k parts.0 quiet, needs, none)

spent : (k j : ℕ) (bag : Bag) → j ≡ k → bag k ≤ 1 → less_one j bag k ≡ 0
spent k j bag same few =
    let one_less : less_one k bag k ≡ bag k - 1 = grind (arith, nat_tests) in
    let none : less_one k bag k ≡ 0 = omega (arith, one_less, few) in
    rw same none

same_key : (j k : ℕ) → ◌≡◌ {A = Option ℕ} (Some k) (Some j) → j ≡ k
same_key j k h = (let e : k ≡ j = cc in sym e)

-- What a cell at rest is beside that, and its own steps leave so, stays up to the turn that spends the one pass of its key.
module _ (Also : every_kind.Cell → Type 0)
    (stays : (s : every_kind.Own) (c : every_kind.Cell) → Also c → Also (every_kind.after s c)) where
  pub record IsReady (k : ℕ) (c : every_kind.Cell) : Type 0 where
    pub keyed : every_kind.key c ≡ Some k
    pub quiet : every_kind.draining c ≡ false
    pub also : Also c

  after_own : (k : ℕ) (s : every_kind.Own) (c : every_kind.Cell) → every_kind.Needs s c → IsReady k c → IsReady k (every_kind.after s c)
  after_own k s c needs r =
      record { keyed = every_lawful.own_key s c ∙ r.keyed; quiet = own_quiet s c needs r.quiet; also = stays s c r.also }

  -- in the place of the cell of this number, or beside it
  at_own : (n m k : ℕ) (c : every_kind.Cell) (w : Worlds) → IsReady k (w.cells n) → (IsReady k (w.cells m) → IsReady k c)
      → IsReady k (with_cell m c w.cells n)
  at_own n m k c w r f = with_cell_cases (IsReady k) m n c w.cells (λ same. f (subst (λ (j : ℕ). IsReady k (w.cells j)) same r)) (λ other. r)

  at_other : (n m k : ℕ) (c : every_kind.Cell) (w : Worlds) → IsReady k (w.cells n) → m ≢ n → IsReady k (with_cell m c w.cells n)
  at_other n m k c w r d = with_cell_cases (IsReady k) m n c w.cells (λ same. absurd (d (sym same))) (λ other. r)

  -- it is ready, or the pass is spent
  turn_so : (n m k j : ℕ) (w : Worlds) (b : Bool) → (b ≡ true → every_kind.opens j (w.cells m) ≡ true) → IsReady k (w.cells n) → w.passes k ≤ 1
      → IsReady k (with_cell m (if b then every_kind.opened (w.cells m) else w.cells m) w.cells n)
      ⊎ ((if b then less_one j w.passes else w.passes) k ≡ 0)
  turn_so n m k j w false opened r few = inl (at_own n m k (w.cells m) w r (λ c. c))
  turn_so n m k j w true opened r few =
      with_cell_cases (λ c. IsReady k c ⊎ (less_one j w.passes k ≡ 0)) m n (every_kind.opened (w.cells m)) w.cells
      (λ same.
      (let here = subst (λ (i : ℕ). IsReady k (w.cells i)) same r in
      inr (spent k j w.passes (same_key j k (sym here.keyed ∙ every_lawful.opens_own j (w.cells m) (opened refl))) few)))
      (λ other. inl r)

  turn_stays : (w : Worlds) (n m k j : ℕ) → IsReady k (w.cells n) → w.passes k ≤ 1
      → IsReady k ((after every_kind w (OpenTurn m j)).cells n) ⊎ ((after every_kind w (OpenTurn m j)).passes k ≡ 0)
  turn_stays w n m k j r few = turn_so n m k j w (every_kind.opens j (w.cells m)) (λ is. is) r few

  pub stands : (w : Worlds) (hs later : History) (n k : ℕ) → IsHistory every_kind w (hs ++ Unseen (OpenTurn n k) ∷ later) → KeepsKey n hs
      → notes_of hs ≡ [] → IsReady k (w.cells n) → w.passes k ≤ 1 → IsReady k ((end_of every_kind w hs).cells n)
  stands w [] later n k h keeps quiet r few = r
  stands w (Unseen (At m s) ∷ hs) later n k h keeps quiet r few =
      stands (after every_kind w (At m s)) hs later n k h.1 keeps quiet
      (at_own n m k (every_kind.after s (w.cells m)) w r (λ c. after_own k s (w.cells m) h.0.1 c)) few
  stands w (Unseen (ClearKey m by_drop) ∷ hs) later n k h keeps quiet r few =
      stands (after every_kind w (ClearKey m by_drop)) hs later n k h.1 keeps.1 quiet
      (at_other n m k (every_kind.unkeyed by_drop (w.cells m)) w r keeps.0) few
  stands w (Unseen (SetKey m j) ∷ hs) later n k h keeps quiet r few =
      stands (after every_kind w (SetKey m j)) hs later n k h.1 keeps.1 quiet
      (at_other n m k (every_kind.keyed j (w.cells m)) w r keeps.0) few
  stands w (Unseen (OpenTurn m j) ∷ hs) later n k h keeps quiet r few =
      let fewer = either-few (every_kind.opens j (w.cells m)) j k w.passes in
      elim (turn_stays w n m k j r few) [
        | inl ready ↦ stands (after every_kind w (OpenTurn m j)) hs later n k h.1 keeps quiet ready (omega (arith, fewer, few))
        | inr none ↦ absurd (spent_before (after every_kind w (OpenTurn m j)) hs later n k h.1 quiet none)
      ]
  stands w (Unseen (OpenPlace j) ∷ hs) later n k h keeps quiet r few = stands (after every_kind w (OpenPlace j)) hs later n k h.1 keeps quiet r few
  stands w (Unseen (ClosePlace j) ∷ hs) later n k h keeps quiet r few = stands (after every_kind w (ClosePlace j)) hs later n k h.1 keeps quiet r few
  stands w (Unseen (Post j) ∷ hs) later n k h keeps quiet r few = stands (after every_kind w (Post j)) hs later n k h.1 keeps quiet r few
  stands w (Unseen (Back j) ∷ hs) later n k h keeps quiet r few =
      let fewer = less-few j k w.passes in
      stands (after every_kind w (Back j)) hs later n k h.1 keeps quiet r (omega (arith, fewer, few))
  stands w (Unseen (Unpost below) ∷ hs) later n k h keeps quiet r few = absurd h.0.0
  stands w (Unseen Look ∷ hs) later n k h keeps quiet r few = absurd h.0.0
  stands w (Unseen Wakeup ∷ hs) later n k h keeps quiet r few = stands (after every_kind w Wakeup) hs later n k h.1 keeps quiet r few
  stands w (Unseen Sleep ∷ hs) later n k h keeps quiet r few = stands (after every_kind w Sleep) hs later n k h.1 keeps quiet r few
  stands w (Unseen Return ∷ hs) later n k h keeps quiet r few = stands (after every_kind w Return) hs later n k h.1 keeps quiet r few
  stands w (Noted note ∷ hs) later n k h keeps quiet r few = absurd (noted-once note (notes_of hs) quiet)

  -- so it is at the moment at which the cell is asked
  pub ready_there : (w : Worlds) (hs : History) (n k : ℕ) → IsHistory every_kind w hs → notes_of hs ≡ [] → IsReady k (w.cells n)
      → w.passes k ≤ 1 → (a : IsAsked hs n k) → IsReady k ((end_of every_kind w a.earlier).cells n)
  ready_there w hs n k h quiet r few a =
      let parts : IsHistory every_kind w (a.earlier ++ Unseen (OpenTurn n k) ∷ a.later) = subst (λ (l : History). IsHistory every_kind w l) a.is h in
      stands w a.earlier a.later n k parts a.same_key (quiet_front a.earlier (Unseen (OpenTurn n k) ∷ a.later) (subst (λ (l : History). notes_of l ≡ []) a.is quiet)) r few

-- beside being at rest, nothing; or a rung ping
abbrev pub IsAny : every_kind.Cell → Type 0
IsAny c = Unit {0}

any_stays : (s : every_kind.Own) (c : every_kind.Cell) → IsAny c → IsAny (every_kind.after s c)
any_stays s c a = tt

pub record IsRungPing (c : every_kind.Cell) : Type 0 where
  pub ping : Cell
  pub is : c ≡ First ping
  pub rung : ping.rung ≡ true

rung_own : (s : every_kind.Own) (ping : Cell) → ping.rung ≡ true → IsRungPing (every_kind.after s (First ping))
rung_own (First Ring) ping r = record { ping = record ping { rung = true; pinged = true }; is = refl; rung = refl }
rung_own (First Close) ping r = record { ping = record ping { senders = 0; closed = true; pinged = true }; is = refl; rung = r }
rung_own (First EndTurn) ping r = record { ping = record ping { draining = false }; is = refl; rung = r }
rung_own (Second s) ping r = record { ping = ping; is = refl; rung = r }

rung_stays : (s : every_kind.Own) (c : every_kind.Cell) → IsRungPing c → IsRungPing (every_kind.after s c)
rung_stays s c r = subst (λ (d : every_kind.Cell). IsRungPing (every_kind.after s d)) (sym r.is) (rung_own s r.ping r.rung)

-- A dispatch, and the moment of its taking.

one-few : (b : Bool) → one b ≤ 1
one-few true = omega arith
one-few false = omega arith

-- the history after a taking begins at the taking of its keys
behind_it : (w : Worlds) (before : List Note) (hs : History) (t : Taking before hs) → IsHistory every_kind w hs
    → IsHistory every_kind (world_behind_it every_kind w hs t) t.behind
behind_it w before hs t h =
    let upto = t.ahead ++ Noted (Counted t.places) ∷ t.between in
    let rest = Noted (Unposted t.places t.keys) ∷ t.behind in
    let same : hs ≡ upto ++ rest = t.is ∙ sym (append_assoc t.ahead (Noted (Counted t.places) ∷ t.between) rest) in
    (history-append every_kind w upto rest (subst (λ (l : History). IsHistory every_kind w l) same h)).1.1

few_behind : (w : Worlds) (below k : ℕ) → w.passes k ≡ 0 → (after every_kind w (Unpost below)).passes k ≤ 1
few_behind w below k none =
    let few = one-few (is_marked k w.board && nat_lt k below) in
    omega (arith, none, few)

-- A turn that the tally counts is one that the cell opened.

no_more_turns : (n : ℕ) → n ≡ n + 1 → ⊥
no_more_turns n h = omega (arith, h)

module _ {S E M T : Type 0} (tally : S → Tally) (Opens : OpenTurns S E M T) where
  counts_none : (s t : S) → (tally t).turns ≡ (tally s).turns + 1 → t ≡ s → ⊥
  counts_none s t more same = no_more_turns (tally s).turns (sym (ap (λ (x : S). (tally x).turns) same) ∙ more)

  -- its answer, and that the cell opened it
  pub record OpenedTurn {Cause : Type 0} (s t : S) (calls : List (CallbackCall E M T)) (answer : Result PostAction Cause) : Type 0 where
    pub action : PostAction
    pub is : answer ≡ Ok action
    pub opened : Opens s calls action t

  module _ {P : Type 0} where
    with_pass : (pass : Option Taken) (s t : S) (calls : List (CallbackCall E M T)) (action : PostAction) (steps : List (PollStep P))
        → TurnWith tally Opens pass s calls action steps t → (tally t).turns ≡ (tally s).turns + 1 → Opens s calls action t
    with_pass None s t calls action steps h turns = absurd (counts_none s t turns h.3)
    with_pass (Some p) s t calls action steps (inl h) turns = h.0
    with_pass (Some p) s t calls action steps (inr h) turns = absurd (counts_none s t turns h.3)

    for_own : (is_own : Bool) (pass : Option Taken) (s t : S) (calls : List (CallbackCall E M T)) (action : PostAction) (steps : List (PollStep P))
        → TurnFor tally Opens is_own pass s calls action steps t → (tally t).turns ≡ (tally s).turns + 1 → Opens s calls action t
    for_own true pass s t calls action steps h turns = with_pass pass s t calls action steps h turns
    for_own false pass s t calls action steps h turns = absurd (counts_none s t turns h.3)

    pub turn_opened : {Cause : Type 0} (s t : S) (token : Token) (pass : Option Taken) (calls : List (CallbackCall E M T))
        (answer : Result PostAction Cause) (steps : List (PollStep P))
        → CellTurn tally Opens s token pass calls answer steps t → (tally t).turns ≡ (tally s).turns + 1 → OpenedTurn s t calls answer
    turn_opened s t token pass calls (Ok action) steps h turns =
        record { action = action; is = refl; opened = for_own (is_own (key_of token) (tally s).key) pass s t calls action steps h turns }
    turn_opened s t token pass calls (Err e) steps h turns = absurd h

-- the loop gets the result that the source returned
answered : {Cause : Type 0} (becomes : Cause → Error → Type 0) (inner : Result PostAction Cause) (action : PostAction) (answer : Result PostAction Error)
    → inner ≡ Ok action → Becomes becomes inner answer → answer ≡ Ok action
answered {Cause} becomes inner action answer is told = subst (λ (r : Result PostAction Cause). Becomes becomes r answer) is told

module _ {D I P X S F E M T Cause : Type 0} (tally : S → Tally) (Same : S → S → Type 0) (Opens : OpenTurns S E M T)
    (may : Calling F E M T X (Asks D I)) (reaches : Asks D I → Asks D I → Type 0) (becomes : Cause → Error → Type 0)
    (held : Dispatcher S F → D) (L : Meaning D P (Lent X (Asks D I)))
    (means : IsHeld held (with_callback (cell_meaning tally Same Opens) may reaches becomes) L) where
  -- of an event that was handed out to a source whose tally counts a turn
  pub opened : (v : View D I P) (css : List (List (Change D I P))) (e : Pending) (h : IsHandedOut L v css e) (before : Dispatcher S F)
      → content_at (after_changes v h.ahead).slots (registration_of e.token) ≡ Source (held before)
      → ((after : Dispatcher S F) (answer : Result PostAction Error) (x : X)
      → h.next ≡ Serving (registration_of e.token) (held after) answer x
      → (tally after.source).turns ≡ (tally before.source).turns + 1)
      → IsOpened Opens may reaches held L v css e h before
  opened v css e h before stood told =
      let view = after_changes v h.ahead in
      let cut : CutTo L e (Source (held before)) (after_changes v h.ahead) h.x h.changes h.next =
      subst (λ (c : Content D). CutTo L e c (after_changes v h.ahead) h.x h.changes h.next) stood h.cut in
      let did = (means.does before (after_cut view.poll)
      (Turned e.readiness e.token (lend h.x (of_turn (registration_of e.token) view.held.asks) cut.1 cut.3 (asks_after (of_turn (registration_of e.token) view.held.asks) cut.4)))
      cut.2 cut.0).0 cut.5 in
      let served : h.next ≡ Serving (registration_of e.token) (held did.0) cut.1 cut.3 =
      cut.7 ∙ ap (λ (d : D). Serving (registration_of e.token) d cut.1 cut.3) did.1 in
      let turn = turn_opened tally Opens before.source did.0.source e.token (after_cut view.poll).pass did.2.inner.calls did.2.inner.answer cut.2 did.2.turned
      (told did.0 cut.1 cut.3 served) in
      record {
        after = did.0;
        calls = did.2.inner.calls;
        action = turn.action;
        x = cut.3;
        asked = asks_after (of_turn (registration_of e.token) view.held.asks) cut.4;
        opened = turn.opened;
        next = served ∙ ap (λ (r : Result PostAction Error). Serving (registration_of e.token) (held did.0) r cut.3) (answered becomes did.2.inner.answer turn.action cut.1 turn.is did.2.told);
        went = did.2.went;
      }

  -- of a cell at rest, whose turn is in the history
  pub rest_opened : (v : View D I P) (css : List (List (Change D I P))) → OpensEachTurn tally Opens may reaches held L v css
  rest_opened v css born hs is t n k rest h before stood told =
      let w = start (λ n. new_cell (born n)) in
      let u = world_at every_kind (start (λ n. new_cell (born n))) hs t in
      opened v css (posted_event k) h before stood (λ after answer x next.
      (let turn = told after answer x next in
      let there = ready_there IsAny any_stays (world_behind_it every_kind (start (λ n. new_cell (born n))) hs t) t.behind n k
      (behind_it w v.poll.watch.notes hs t is) t.over (record { keyed = rest.keyed; quiet = rest.no_turn; also = tt })
      (few_behind u (bound t.places u.board) k rest.no_pass) turn.asked in
      turn.counted ∙ ap (λ (b : Bool). (tally before.source).turns + one b)
      (rest_opens k ((end_of every_kind (world_behind_it every_kind (start (λ n. new_cell (born n))) hs t) turn.asked.earlier).cells n) there.keyed there.quiet)))

-- Pings: a turn that counts a ring has called back.

ring_calls : (rang : Bool) (n m : ℕ) (calls : PingCalls) → calls ≡ calls_of rang → m ≡ n + one rang → m ≡ n + 1 → calls ≡ calls_of true
ring_calls true n m calls are counted one_more = are
ring_calls false n m calls are counted one_more = absurd (omega (arith, counted, one_more))

takes_so : (k : ℕ) (c : Cell) → opens k c ≡ true → c.rung ≡ true → takes k c ≡ 1
takes_so k c opened rung = ap (λ (b : Bool). one (b && c.rung)) opened ∙ ap (λ (b : Bool). one b) rung

record CountedBoth (before after : Tally) : Type 0 where
  turns : after.turns ≡ before.turns + 1
  number : after.number ≡ before.number + 1

counted_so : (k : ℕ) (c : CoreView) (before after : Tally) → after ≡ tally_after_open_turn k c before → opens k c.cell ≡ true → c.cell.rung ≡ true
    → CountedBoth before after
counted_so k c before after counted opened rung =
    record {
      turns = ap (λ (x : Tally). x.turns) counted ∙ ap (λ (b : Bool). before.turns + one b) opened;
      number = ap (λ (x : Tally). x.number) counted ∙ ap (λ (i : ℕ). before.number + i) (takes_so k c.cell opened rung);
    }

same_ping : (c d : Cell) → ◌≡◌ {A = every_kind.Cell} (First c) (First d) → c ≡ d
same_ping c d h = (let e : c ≡ d = cc in e)

-- of a rung ping at rest, at its turn
ready_counted : (k : ℕ) (c : every_kind.Cell) (before after : Tally) (core : CoreView) → IsReady IsRungPing rung_stays k c → c ≡ First core.cell
    → after ≡ tally_after_open_turn k core before → CountedBoth before after
ready_counted k c before after core r there counted =
    let same : r.also.ping ≡ core.cell = same_ping r.also.ping core.cell (sym r.also.is ∙ there) in
    let opened : opens k core.cell ≡ true = subst (λ (d : every_kind.Cell). every_kind.opens k d ≡ true) there (rest_opens k c r.keyed r.quiet) in
    counted_so k core before after counted opened (ap (λ (d : Cell). d.rung) (sym same) ∙ r.also.rung)

-- a rung ping is ready after the taking
ready_behind : (w : Worlds) (below n k : ℕ) (r : IsRung w n k) → r.ping.rung ≡ true
    → IsReady IsRungPing rung_stays k ((after every_kind w (Unpost below)).cells n)
ready_behind w below n k r rung =
    record {
      keyed = ap (λ (c : every_kind.Cell). every_kind.key c) r.is ∙ r.keyed;
      quiet = ap (λ (c : every_kind.Cell). every_kind.draining c) r.is ∙ r.no_turn;
      also = record { ping = r.ping; is = r.is; rung = rung };
    }

module _ {D I P X F : Type 0} (may : PingCalling F X (Asks D I)) (reaches : Asks D I → Asks D I → Type 0) (becomes : PingError → Error → Type 0)
    (held : Dispatcher Tally F → D) (L : Meaning D P (Lent X (Asks D I)))
    (means : IsHeld held (with_callback ping_meaning may reaches becomes) L) where
  -- what a history gives of the ping's tally
  both_counted : (born : ℕ → Born) (notes : List Note) (hs : List (Happening every_kind.Own))
      → IsHistory every_kind (start (λ n. new_cell (born n))) hs
      → (t : Taking notes hs) (n k : ℕ) (rung : IsRung (world_at every_kind (start (λ n. new_cell (born n))) hs t) n k)
      → rung.ping.rung ≡ true → (before after : Tally)
      → IsPingsTurnIn (world_behind_it every_kind (start (λ n. new_cell (born n))) hs t) t.behind n k before after
      → CountedBoth before after
  both_counted born notes hs is t n k rung rings before after turn =
      let w = start (λ n. new_cell (born n)) in
      let u = world_at every_kind (start (λ n. new_cell (born n))) hs t in
      let there = ready_there IsRungPing rung_stays (world_behind_it every_kind (start (λ n. new_cell (born n))) hs t) t.behind n k
      (behind_it w notes hs t is) t.over (ready_behind u (bound t.places u.board) n k rung rings)
      (few_behind u (bound t.places u.board) k rung.no_pass) turn.asked in
      ready_counted k ((end_of every_kind (world_behind_it every_kind (start (λ n. new_cell (born n))) hs t) turn.asked.earlier).cells n)
      before after turn.core there turn.there turn.counted

  pub ring_called : (v : View D I P) (css : List (List (Change D I P))) → CallsEachRing may reaches held L v css
  ring_called v css born hs is t n k rung rings h before stood told =
      let turn = opened ping_tally SamePing PingOpens may reaches becomes held L means v css (posted_event k) h before stood
      (λ after answer x next. (both_counted born v.poll.watch.notes hs is t n k rung rings before.source after.source (told after answer x next)).turns) in
      let counted = both_counted born v.poll.watch.notes hs is t n k rung rings before.source turn.after.source (told turn.after (Ok turn.action) turn.x turn.next) in
      (turn, ring_calls turn.opened.0 before.source.number turn.after.source.number turn.calls turn.opened.2 (ap (λ (x : Tally). x.number) turn.opened.4) counted.number)
