-- The cells of channels are a lawful kind: each step keeps pinged what mustn't be lost, the messages in order, and the tellings
-- counted.
use Rattle.std.proofs.Common.{◌≡◌, ℕ, ◌+◌, ◌<◌, ◌≤◌, Bool, true, false, ◌&&◌, ◌||◌, not, List, [], ◌∷◌, ◌++◌, length, Option, Some, None, IfSome, refl, sym, ◌∙◌, ap, subst, arith, ltb-true, length-append, append_assoc, append-nil}
use Rattle.std.proofs.Math.Bool.{or-true}
use Rattle.calloop_wake.specs.Cells.{Cell, one, is_own, after_close, after_set_key, after_clear_key}
use Rattle.calloop_wake.specs.Bells.{after_ping, after_end}
use Rattle.calloop_wake.specs.Channels.{ChannelCell, fresh_channel, with_bell, is_below, pops, after_put, after_pop_of, after_take_of, popped_of, tells_close, is_close, is_early, after_end_turn, IsPingedIfDue, IsLitChannel, IsSoundChannel, IsStandingChannel}
use Rattle.calloop_wake_laws.specs.ChannelKind.{Telling, ChannelPast, unused_channel, ChannelStep, Ring, Close, Pop, Take, EndTurn, Put, behind_pop, channel_kind, item_of, told_by, AllOfEmpty, IsStandingPast}
use Rattle.calloop_wake_laws.proofs.Lawful.{own-is, and-left}
use Rattle.calloop_wake_laws.proofs.Schedules.{IsLawful, IsFresh}

-- what holds of a channel's cell, whenever nobody is within a step
pub record IsLitPast (p : ChannelPast) : Type 0 where
  pub lit : IsLitChannel p.now
  pub sound : IsSoundChannel p.now
  pub in_order : p.taken ≡ p.given ++ p.now.queue
  pub counted : length p.tellings ≡ one p.now.cell.told
  pub of_empty : AllOfEmpty p.tellings
  pub bounded : p.turn.left ≤ pops p.now.bound

quiet-pinged : (c : ChannelCell ℕ) → c.cell.pinged ≡ true → IsPingedIfDue c
quiet-pinged c h = record { queue = λ _. h; close = λ _. h }

lit-pinged : (c : ChannelCell ℕ) → c.cell.pinged ≡ true → IsLitChannel c
lit-pinged c h = record { at_rest = λ _. quiet-pinged c h; in_turn = λ _. quiet-pinged c h }

-- a step that changes the bell alone
lit-bell : (b : Cell) (p : ChannelPast) → IsLitChannel (with_bell b p.now) → (b.told ≡ true → b.closed ≡ true) → b.told ≡ p.now.cell.told → IsLitPast p → IsLitPast (record p { now = with_bell b p.now })
lit-bell b p lit told same l = record {
  lit = lit;
  sound = record { told = told; room = l.sound.room };
  in_order = l.in_order;
  counted = l.counted ∙ ap one (sym same);
  of_empty = l.of_empty;
  bounded = l.bounded;
}

-- a bell that differs in key and in who is there
lit-same : (b : Cell) (c : ChannelCell ℕ) → b.pinged ≡ c.cell.pinged → b.draining ≡ c.cell.draining → b.closed ≡ c.cell.closed → b.told ≡ c.cell.told → IsLitChannel c → IsLitChannel (with_bell b c)
lit-same b c pinged draining closed told l =
    let quiet : IsPingedIfDue c → IsPingedIfDue (with_bell b c) = λ q. record {
      queue = λ h. pinged ∙ q.queue h;
      close = λ h. pinged ∙ q.close (ap (λ t. c.cell.closed && not t) (sym told) ∙ (ap (λ x. x && not b.told) (sym closed) ∙ h));
    } in
    record { at_rest = λ h. quiet (l.at_rest (sym draining ∙ h)); in_turn = λ h. quiet (l.in_turn h) }

quiet-ended : (c : ChannelCell ℕ) (early : Bool) → is_early c.last ≡ early → IsLitChannel c
    → IsPingedIfDue {T = ℕ} (record { cell = after_end early c.cell; queue = c.queue; bound = c.bound; last = c.last })
quiet-ended c true is l = record { queue = λ _. refl; close = λ _. refl }
quiet-ended c false is l = let q = l.in_turn is in record { queue = q.queue; close = q.close }

lit-ended : (p : ChannelPast) → IsLitPast p → IsLitPast (record p { now = after_end_turn p.now })
lit-ended p l =
    let q = quiet-ended p.now (is_early p.now.last) refl l.lit in
    record {
      lit = record { at_rest = λ _. q; in_turn = λ _. q };
      sound = record { told = l.sound.told; room = l.sound.room };
      in_order = l.in_order;
      counted = l.counted;
      of_empty = l.of_empty;
      bounded = l.bounded;
    }

room-more : (x : ℕ) (queue : List ℕ) (bound : Option ℕ) → is_below (length queue) bound ≡ true → IfSome bound (λ b. length (queue ++ x ∷ []) ≤ b)
room-more x queue None h = tt
room-more x queue (Some b) h = let lt : length queue < b = ltb-true (length queue) b h in let e = length-append queue (x ∷ []) in omega arith

lit-put : (x : ℕ) (p : ChannelPast) → is_below (length p.now.queue) p.now.bound ≡ true → IsLitPast p → IsLitPast (record p { now = after_put x p.now; taken = p.taken ++ x ∷ [] })
lit-put x p room l = record {
  lit = lit-pinged (after_put x p.now) refl;
  sound = record { told = l.sound.told; room = room-more x p.now.queue p.now.bound room };
  in_order = ap (λ xs. xs ++ x ∷ []) l.in_order ∙ append_assoc p.given p.now.queue (x ∷ []);
  counted = l.counted;
  of_empty = l.of_empty;
  bounded = l.bounded;
}

room-none : (bound : Option ℕ) → IfSome bound (λ b. length {A = ℕ} [] ≤ b)
room-none None = tt
room-none (Some b) = omega arith

room-less : (x : ℕ) (xs : List ℕ) (bound : Option ℕ) → IfSome bound (λ b. length (x ∷ xs) ≤ b) → IfSome bound (λ b. length xs ≤ b)
room-less x xs None h = tt
room-less x xs (Some b) h = omega arith

told-once : (closed told : Bool) → (closed && not (closed || told)) ≡ true → ⊥
told-once true told h = cc
told-once false told h = cc

told-closed : (closed told : Bool) → (told ≡ true → closed ≡ true) → (closed || told) ≡ true → closed ≡ true
told-closed true told h e = refl
told-closed false told h e = h e

of-empty-more : (ts : List Telling) (t : Telling) → AllOfEmpty ts → t.closed ≡ true → t.left ≡ 0 → AllOfEmpty (ts ++ t ∷ [])
of-empty-more [] t all closed left = (closed, left, tt)
of-empty-more (s ∷ ts) t all closed left = (all.0, all.1, of-empty-more ts t all.2 closed left)

-- a pop, by what the queue is and whether the close has to be told
abbrev popped_from : List ℕ → (tells : Bool) → ChannelPast → ChannelPast
popped_from queue told p = record {
  now = after_pop_of queue p.now;
  turn = behind_pop (popped_of queue told) p.turn;
  taken = p.taken;
  given = p.given ++ item_of (popped_of queue told);
  tellings = p.tellings ++ told_by (is_close (popped_of queue told)) p.now;
}

quiet-empty : (c : ChannelCell ℕ) → IsPingedIfDue (after_pop_of [] c)
quiet-empty c = record { queue = λ h. absurd (omega arith); close = λ h. absurd (told-once c.cell.closed c.cell.told h) }

sound-empty : (c : ChannelCell ℕ) → IsSoundChannel c → IsSoundChannel (after_pop_of [] c)
sound-empty c s = record { told = told-closed c.cell.closed c.cell.told s.told; room = room-none c.bound }

-- how many tellings there are, after one that may be the first
counted-more : (n : ℕ) (closed told : Bool) → (told ≡ true → closed ≡ true) → n ≡ one told → n + one (closed && not told) ≡ one (closed || told)
counted-more n true true sound e = omega arith
counted-more n true false sound e = omega arith
counted-more n false true sound e = absurd (let x = sound refl in cc)
counted-more n false false sound e = omega arith

lit-found : (p : ChannelPast) (x : ℕ) (xs : List ℕ) (told : Bool) → p.now.queue ≡ x ∷ xs → IsLitPast p → IsLitPast (popped_from (x ∷ xs) told p)
lit-found p x xs told is l = record {
  lit = record {
    at_rest = λ h. let q = l.lit.at_rest h in record { queue = λ lt. q.queue (let e = ap length is in omega arith); close = q.close };
    in_turn = λ h. absurd (cc);
  };
  sound = record { told = l.sound.told; room = let R : List ℕ → Type 0 = λ ys. IfSome p.now.bound (λ b. length ys ≤ b) in room-less x xs p.now.bound (subst R is l.sound.room) };
  in_order = l.in_order ∙ (ap (λ q. p.given ++ q) is ∙ sym (append_assoc p.given (x ∷ []) xs));
  counted = ap length (append-nil p.tellings) ∙ l.counted;
  of_empty = subst AllOfEmpty (sym (append-nil p.tellings)) l.of_empty;
  bounded = let b = l.bounded in omega arith;
}

lit-empty : (p : ChannelPast) (is : Bool) → p.now.queue ≡ [] → tells_close p.now.cell ≡ is → IsLitPast p → IsLitPast (popped_from [] is p)
lit-empty p true none is l = record {
  lit = record { at_rest = λ _. quiet-empty p.now; in_turn = λ _. quiet-empty p.now };
  sound = sound-empty p.now l.sound;
  in_order = l.in_order ∙ (ap (λ q. p.given ++ q) none ∙ sym (append-nil (p.given ++ [])));
  counted =
      let e = length-append p.tellings (record { closed = p.now.cell.closed; left = length p.now.queue } ∷ []) in
      let m = counted-more (length p.tellings) p.now.cell.closed p.now.cell.told l.sound.told l.counted in
      let o = ap one is in
      omega arith;
  of_empty = of-empty-more p.tellings (record { closed = p.now.cell.closed; left = length p.now.queue }) l.of_empty (and-left p.now.cell.closed (not p.now.cell.told) is) (ap length none);
  bounded = let b = l.bounded in omega arith;
}
lit-empty p false none is l = record {
  lit = record { at_rest = λ _. quiet-empty p.now; in_turn = λ _. quiet-empty p.now };
  sound = sound-empty p.now l.sound;
  in_order = l.in_order ∙ (ap (λ q. p.given ++ q) none ∙ sym (append-nil (p.given ++ [])));
  counted =
      let e = ap length (append-nil p.tellings) in
      let m = counted-more (length p.tellings) p.now.cell.closed p.now.cell.told l.sound.told l.counted in
      let o = ap one is in
      omega arith;
  of_empty = subst AllOfEmpty (sym (append-nil p.tellings)) l.of_empty;
  bounded = let b = l.bounded in omega arith;
}

lit-popped : (p : ChannelPast) (queue : List ℕ) (is : Bool) → p.now.queue ≡ queue → tells_close p.now.cell ≡ is → IsLitPast p → IsLitPast (popped_from queue is p)
lit-popped p [] is none told l = lit-empty p is none told l
lit-popped p (x ∷ xs) is some told l = lit-found p x xs is some l

-- a call receives, if there is a message
lit-taken : (p : ChannelPast) (queue : List ℕ) (is : Bool) → p.now.queue ≡ queue → 0 < length queue → IsLitPast p → IsLitPast (record p { now = after_take_of queue p.now; given = p.given ++ item_of (popped_of queue is) })
lit-taken p [] is none some l = absurd (omega arith)
lit-taken p (x ∷ xs) is found some l =
    let k = lit-found p x xs is found l in
    record { lit = record { at_rest = k.lit.at_rest; in_turn = λ h. absurd (cc) }; sound = k.sound; in_order = k.in_order; counted = l.counted; of_empty = l.of_empty; bounded = l.bounded }

take-key : (c : ChannelCell ℕ) (queue : List ℕ) → ((after_take_of queue c).cell.key ≡ c.cell.key)
take-key c [] = refl
take-key c (x ∷ xs) = refl

pop-key : (c : ChannelCell ℕ) (queue : List ℕ) → ((after_pop_of queue c).cell.key ≡ c.cell.key)
pop-key c [] = refl
pop-key c (x ∷ xs) = refl

own_key : (s : ChannelStep) (p : ChannelPast) → channel_kind.key (channel_kind.after s p) ≡ channel_kind.key p
own_key Ring p = refl
own_key Close p = refl
own_key Pop p = pop-key p.now p.now.queue
own_key Take p = take-key p.now p.now.queue
own_key EndTurn p = refl
own_key (Put x) p = refl

own_lit : (s : ChannelStep) (p : ChannelPast) → channel_kind.Needs s p → IsLitPast p → IsLitPast (channel_kind.after s p)
own_lit Ring p need l = lit-bell (after_ping p.now.cell) p (lit-pinged (with_bell (after_ping p.now.cell) p.now) refl) l.sound.told refl l
own_lit Close p need l = lit-bell (after_close p.now.cell) p (lit-pinged (with_bell (after_close p.now.cell) p.now) refl) (λ _. refl) refl l
own_lit Pop p need l = lit-popped p p.now.queue (tells_close p.now.cell) refl refl l
own_lit Take p need l = lit-taken p p.now.queue (tells_close p.now.cell) refl need l
own_lit EndTurn p need l = lit-ended p l
own_lit (Put x) p need l = lit-put x p need.1 l

lit-opened : (p : ChannelPast) → IsLitPast p → IsLitPast (channel_kind.opened p)
lit-opened p l = record {
  lit = record { at_rest = λ h. absurd (cc); in_turn = λ h. absurd (cc) };
  sound = record { told = l.sound.told; room = l.sound.room };
  in_order = l.in_order;
  counted = l.counted;
  of_empty = l.of_empty;
  bounded = omega arith;
}

standing-quiet : (c : ChannelCell ℕ) (draining : Bool) → c.cell.draining ≡ draining → IsLitChannel c → IsStandingChannel c
standing-quiet c true is l = record { queue = λ h. ap (λ d. c.cell.pinged || d) is ∙ or-true c.cell.pinged; close = λ h. ap (λ d. c.cell.pinged || d) is ∙ or-true c.cell.pinged }
standing-quiet c false is l =
    let q = l.at_rest is in
    record { queue = λ h. ap (λ b. b || c.cell.draining) (q.queue h); close = λ h. ap (λ b. b || c.cell.draining) (q.close h) }

one-most : (b : Bool) → one b ≤ 1
one-most true = omega arith
one-most false = omega arith

standing-lit : (p : ChannelPast) → IsLitPast p → IsStandingPast p
standing-lit p l = record {
  standing = standing-quiet p.now p.now.cell.draining refl l.lit;
  sound = l.sound;
  in_order = l.in_order;
  once = let e = l.counted in let m = one-most p.now.cell.told in omega arith;
  of_empty = l.of_empty;
  bounded = l.bounded;
}

pub channel_lawful : IsLawful channel_kind
channel_lawful = record {
  IsLit = IsLitPast;
  own_key = own_key;
  own_lit = own_lit;
  keyed_key = λ k p. refl;
  keyed_pinged = λ k p. refl;
  keyed_lit = λ k p l. let b = after_set_key k p.now.cell in lit-bell b p (lit-same b p.now refl refl refl refl l.lit) l.sound.told refl l;
  unkeyed_key = λ d p. refl;
  unkeyed_lit = λ d p l. let b = after_clear_key d p.now.cell in lit-bell b p (lit-same b p.now refl refl refl refl l.lit) l.sound.told refl l;
  opens_own = λ k p h. own-is k p.now.cell.key (and-left (is_own k p.now.cell.key) (not p.now.cell.draining) h);
  opened_key = λ p. refl;
  opened_pinged = λ p. refl;
  opened_lit = λ k p o l. lit-opened p l;
  standing = standing-lit;
}

pub channel_lit : (p : ChannelPast) → channel_lawful.IsLit p → IsLitPast p
unfolding channel_lawful
channel_lit p l = l

pub unused_is : (bound : Option ℕ) → IsFresh channel_kind channel_lawful (unused_channel bound)
unfolding channel_lawful
unused_is bound =
    let q : IsPingedIfDue {T = ℕ} (fresh_channel bound) = record { queue = λ h. absurd (omega arith); close = λ h. absurd (cc) } in
    record {
      lit = record {
        lit = record { at_rest = λ _. q; in_turn = λ h. absurd (cc) };
        sound = record { told = λ h. absurd (cc); room = room-none bound };
        in_order = refl;
        counted = refl;
        of_empty = tt;
        bounded = omega arith;
      };
      quiet = refl;
      unkeyed = refl;
    }
