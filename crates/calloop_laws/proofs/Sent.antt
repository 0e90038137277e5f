-- What was put into a channel stays put, and is handed out by the time the queue is empty.
use Rattle.std.proofs.Common.{◌≡◌, ℕ, Bool, true, false, if◌then◌else◌, List, [], ◌∷◌, ◌++◌, refl, sym, ◌∙◌, ap, subst, append_assoc}
use Rattle.std.proofs.lemmas.List.{append-nil}
use Rattle.calloop_wake.specs.Boards.{bound}
use Rattle.calloop_wake.specs.Channels.{is_item, popped_of, pop_answer, tells_close}
use Rattle.calloop_wake.specs.declared.notes.Note.TheVariants.{Counted, Looked, Unposted, Marked}
use Rattle.calloop_wake_laws.specs.ChannelKind.{ChannelPast, ChannelStep, Ring, Close, Pop, Take, EndTurn, Put, IsStandingPast, channel_after}
use Rattle.calloop_wake_laws.specs.Kinds.{First, Second, Born, every_kind, new_cell}
use Rattle.calloop_wake_laws.specs.Wakes.{WakeWorld, At, ClearKey, SetKey, OpenTurn, OpenPlace, ClosePlace, Post, Back, Unpost, Look, Wakeup, Sleep, Return, after, start, with_cell}
use Rattle.calloop_wake_laws.proofs.Schedules.{with_cell_cases}
use Rattle.calloop_laws.specs.Histories.{Happening, Unseen, Noted, IsHistory, end_of}
use Rattle.calloop_laws.specs.Sent.{IsBeginningOf, WhatWasSentIsGiven}
use Rattle.calloop_laws.specs.Tied.{world_at}
use Rattle.calloop_laws.specs.Called.{world_behind_it}
use Rattle.calloop_laws.proofs.Histories.{history-append, end-append}
use Rattle.calloop_laws.proofs.Tying.{covered}

abbrev Worlds : Type 0
Worlds = WakeWorld every_kind.Cell

abbrev History : Type 0
History = List (Happening every_kind.Own)

-- the cell is a channel into which these were put, and then more
record IsGrown (put : List ℕ) (c : every_kind.Cell) : Type 0 where
  channel : ChannelPast
  is : c ≡ Second (First channel)
  more : List ℕ
  taken : channel.taken ≡ put ++ more

-- steps of the channel alone
grown_by : (put : List ℕ) (s : ChannelStep) (p : ChannelPast) (more : List ℕ) → p.taken ≡ put ++ more → IsGrown put (Second (First (channel_after s p)))
grown_by put Ring p more t = record { channel = channel_after Ring p; is = refl; more = more; taken = t }
grown_by put Close p more t = record { channel = channel_after Close p; is = refl; more = more; taken = t }
grown_by put Pop p more t = record { channel = channel_after Pop p; is = refl; more = more; taken = t }
grown_by put Take p more t = record { channel = channel_after Take p; is = refl; more = more; taken = t }
grown_by put EndTurn p more t = record { channel = channel_after EndTurn p; is = refl; more = more; taken = t }
grown_by put (Put x) p more t =
    record {
      channel = channel_after (Put x) p;
      is = refl;
      more = more ++ x ∷ [];
      taken = ap (λ (l : List ℕ). l ++ x ∷ []) t ∙ append_assoc put more (x ∷ []);
    }

own_grown : (put : List ℕ) (s : every_kind.Own) (p : ChannelPast) (more : List ℕ) → p.taken ≡ put ++ more → IsGrown put (every_kind.after s (Second (First p)))
own_grown put (First s) p more t = record { channel = p; is = refl; more = more; taken = t }
own_grown put (Second (First s)) p more t = grown_by put s p more t
own_grown put (Second (Second s)) p more t = record { channel = p; is = refl; more = more; taken = t }

-- a change of the cell that leaves what was put as it is
changed : (put : List ℕ) (f : every_kind.Cell → every_kind.Cell) (c : every_kind.Cell)
    → ((p : ChannelPast) (more : List ℕ) → p.taken ≡ put ++ more → IsGrown put (f (Second (First p)))) → IsGrown put c → IsGrown put (f c)
changed put f c g h = subst (λ (d : every_kind.Cell). IsGrown put (f d)) (sym h.is) (g h.channel h.more h.taken)

-- of the cell of this number, in its place or beside the one that changes
in_place : (put : List ℕ) (n m : ℕ) (f : every_kind.Cell → every_kind.Cell) (w : Worlds)
    → ((p : ChannelPast) (more : List ℕ) → p.taken ≡ put ++ more → IsGrown put (f (Second (First p)))) → IsGrown put (w.cells n)
    → IsGrown put (with_cell m (f (w.cells m)) w.cells n)
in_place put n m f w g h =
    with_cell_cases (IsGrown put) m n (f (w.cells m)) w.cells
    (λ same. changed put f (w.cells m) g (subst (λ (j : ℕ). IsGrown put (w.cells j)) same h)) (λ other. h)

turned : (put : List ℕ) (b : Bool) (p : ChannelPast) (more : List ℕ) → p.taken ≡ put ++ more
    → IsGrown put (if b then every_kind.opened (Second (First p)) else Second (First p))
turned put true p more t = record { channel = _; is = refl; more = more; taken = t }
turned put false p more t = record { channel = p; is = refl; more = more; taken = t }

grows : (put : List ℕ) (w : Worlds) (hs : History) (n : ℕ) → IsGrown put (w.cells n) → IsGrown put ((end_of every_kind w hs).cells n)
grows put w [] n h = h
grows put w (Unseen (At m s) ∷ hs) n h =
    grows put (after every_kind w (At m s)) hs n (in_place put n m (λ c. every_kind.after s c) w (λ p more t. own_grown put s p more t) h)
grows put w (Unseen (ClearKey m by_drop) ∷ hs) n h =
    grows put (after every_kind w (ClearKey m by_drop)) hs n
    (in_place put n m (λ c. every_kind.unkeyed by_drop c) w (λ p more t. record { channel = _; is = refl; more = more; taken = t }) h)
grows put w (Unseen (SetKey m k) ∷ hs) n h =
    grows put (after every_kind w (SetKey m k)) hs n
    (in_place put n m (λ c. every_kind.keyed k c) w (λ p more t. record { channel = _; is = refl; more = more; taken = t }) h)
grows put w (Unseen (OpenTurn m k) ∷ hs) n h =
    grows put (after every_kind w (OpenTurn m k)) hs n
    (in_place put n m (λ c. if every_kind.opens k c then every_kind.opened c else c) w (λ p more t. turned put (every_kind.opens k (Second (First p))) p more t) h)
grows put w (Unseen (OpenPlace k) ∷ hs) n h = grows put (after every_kind w (OpenPlace k)) hs n h
grows put w (Unseen (ClosePlace k) ∷ hs) n h = grows put (after every_kind w (ClosePlace k)) hs n h
grows put w (Unseen (Post k) ∷ hs) n h = grows put (after every_kind w (Post k)) hs n h
grows put w (Unseen (Back k) ∷ hs) n h = grows put (after every_kind w (Back k)) hs n h
grows put w (Unseen (Unpost below) ∷ hs) n h = grows put (after every_kind w (Unpost below)) hs n h
grows put w (Unseen Look ∷ hs) n h = grows put (after every_kind w Look) hs n h
grows put w (Unseen Wakeup ∷ hs) n h = grows put (after every_kind w Wakeup) hs n h
grows put w (Unseen Sleep ∷ hs) n h = grows put (after every_kind w Sleep) hs n h
grows put w (Unseen Return ∷ hs) n h = grows put (after every_kind w Return) hs n h
grows put w (Noted (Counted number) ∷ hs) n h = grows put w hs n h
grows put w (Noted (Looked found) ∷ hs) n h = grows put (after every_kind w Look) hs n h
grows put w (Noted (Unposted room keys) ∷ hs) n h = grows put (after every_kind w (Unpost (bound room w.board))) hs n h
grows put w (Noted (Marked marks) ∷ hs) n h = grows put w hs n h

-- a pop that finds no message finds the queue empty
empty_so : (xs : List ℕ) (tells : Bool) → is_item (popped_of xs tells) ≡ false → xs ≡ []
empty_so [] tells h = refl
empty_so (x ∷ xs) tells h = absurd (let f : ◌≡◌ {A = Bool} true false = h in cc)

same_channel : (p q : ChannelPast) → ◌≡◌ {A = every_kind.Cell} (Second (First p)) (Second (First q)) → p ≡ q
same_channel p q h = (let e : p ≡ q = cc in e)

-- of a channel that stands, whose queue is empty
all_given : (q : ChannelPast) → IsStandingPast q → is_item (pop_answer q.now) ≡ false → q.given ≡ q.taken
all_given q stands none =
    let empty = empty_so q.now.queue (tells_close q.now.cell) none in
    sym (stands.in_order ∙ ap (λ (l : List ℕ). q.given ++ l) empty ∙ append-nil q.given)

given_so : (put : List ℕ) (q : ChannelPast) → IsGrown put (Second (First q)) → IsStandingPast q → is_item (pop_answer q.now) ≡ false
    → IsBeginningOf put q.given
given_so put q h stands none =
    let same : h.channel ≡ q = same_channel h.channel q (sym h.is) in
    record { more = h.more; is = all_given q stands none ∙ ap (λ (c : ChannelPast). c.taken) (sym same) ∙ h.taken }

pub sent_is_given : (born : ℕ → Born) (hs : History) → IsHistory every_kind (start (λ n. new_cell (born n))) hs → WhatWasSentIsGiven born hs
sent_is_given born hs is before t n p there pop =
    let w = start (λ n. new_cell (born n)) in
    let u = world_at every_kind (start (λ n. new_cell (born n))) hs t in
    let v = world_behind_it every_kind (start (λ n. new_cell (born n))) hs t in
    let upto = t.ahead ++ Noted (Counted t.places) ∷ t.between in
    let front = upto ++ Noted (Unposted t.places t.keys) ∷ pop.earlier in
    let rest = Unseen (At n (Second (First Pop))) ∷ pop.later in
    let whole : hs ≡ front ++ rest =
    t.is ∙ ap (λ (l : History). t.ahead ++ Noted (Counted t.places) ∷ (t.between ++ Noted (Unposted t.places t.keys) ∷ l)) pop.is
    ∙ sym (append_assoc t.ahead (Noted (Counted t.places) ∷ t.between) (Noted (Unposted t.places t.keys) ∷ (pop.earlier ++ rest)))
    ∙ sym (append_assoc upto (Noted (Unposted t.places t.keys) ∷ pop.earlier) rest) in
    let first = (history-append every_kind w front rest (subst (λ (l : History). IsHistory every_kind (start (λ n. new_cell (born n))) l) whole is)).0 in
    let ends : end_of every_kind w front ≡ end_of every_kind v pop.earlier = end-append every_kind w upto (Noted (Unposted t.places t.keys) ∷ pop.earlier) in
    let cell : (end_of every_kind w front).cells n ≡ Second (First pop.channel) = ap (λ (x : Worlds). x.cells n) ends ∙ pop.there in
    let stands : IsStandingPast pop.channel = subst (λ (c : every_kind.Cell). every_kind.IsStanding c) cell ((covered born front first).standing n) in
    let begun : IsGrown p.taken (v.cells n) = record { channel = p; is = there; more = []; taken = sym (append-nil p.taken) } in
    let grown : IsGrown p.taken (Second (First pop.channel)) = subst (λ (c : every_kind.Cell). IsGrown p.taken c) pop.there (grows p.taken v pop.earlier n begun) in
    given_so p.taken pop.channel grown stands pop.none
