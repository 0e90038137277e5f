-- What a history of a board leaves of its posted keys.
use Rattle.std.proofs.Common.{◌≡◌, ℕ, zero, suc, ◌-◌, ◌^◌, ◌<◌, ◌≤◌, Bool, true, false, ◌&&◌, ◌||◌, not, cond, if◌then◌else◌, ◌⊎◌, inl, inr, List, [], ◌∷◌, ◌++◌, nat_eq, nat_lt, map, filter, length, refl, sym, ◌∙◌, ap, arith}
use Rattle.std.proofs.lemmas.Bool.Decides.{nat_tests}
use Rattle.std.specs.List.{Contains}
use Rattle.std.proofs.lemmas.List.Elements.{Contains-append_right}
use Rattle.calloop_wake.specs.Boards.{place, is_open, is_marked, after_open_place, after_close_place, after_post, after_unpost, is_taken, bound, keys_within, taken_keys}
use Rattle.calloop_wake_laws.specs.Wakes.{Kind, WakeWorld, WakeStep, At, ClearKey, SetKey, OpenTurn, OpenPlace, ClosePlace, Post, Back, Unpost, Look, Wakeup, Sleep, Return, after, IsSchedule, after_all}
use Rattle.calloop_laws.specs.Histories.{Happening, Unseen, Noted, IsUnseen, world_behind, IsHistory, end_of, schedule_of, notes_of, OpensNone, IsMadeIn}
use Rattle.calloop_wake.specs.declared.board.Place.{Place}
use Rattle.calloop_wake.specs.declared.notes.Note.{Note}
use Rattle.calloop_wake.specs.declared.notes.Note.TheVariants.{Counted, Looked, Unposted, Marked}
use Rattle.calloop_wake.proofs.BoardSteps.{is_marked-after_open, is_marked-after_close, is_marked-after_post, is_marked-after_unpost}

-- Boards.

-- each key is a token's
abbrev pub AllTokens : List Place → Type 0
AllTokens [] = Unit {0}
AllTokens (p ∷ ps) = (p.key < 2 ^ 64 - 1) × AllTokens ps

tokens-open : (k : ℕ) (ps : List Place) → k < 2 ^ 64 - 1 → AllTokens ps → AllTokens (after_open_place k ps)
tokens-open k [] lt h = (lt, tt)
tokens-open k (p ∷ ps) lt h =
    elim (nat_lt k p.key) as (λ b. AllTokens (if b then place k ∷ p ∷ ps else p ∷ after_open_place k ps)) [ true ↦ (lt, h) | false ↦ (h.0, tokens-open k ps lt h.1) ]

tokens-filter : (t : Place → Bool) (ps : List Place) → AllTokens ps → AllTokens (filter t ps)
tokens-filter t [] h = tt
tokens-filter t (p ∷ ps) h =
    elim (t p) as (λ b. AllTokens (cond b (p ∷ filter t ps) (filter t ps))) [ true ↦ (h.0, tokens-filter t ps h.1) | false ↦ tokens-filter t ps h.1 ]

tokens-post : (k : ℕ) (ps : List Place) → AllTokens ps → AllTokens (after_post k ps)
tokens-post k [] h = tt
tokens-post k (p ∷ ps) h = (h.0, tokens-post k ps h.1)

tokens-unpost : (b : ℕ) (ps : List Place) → AllTokens ps → AllTokens (after_unpost b ps)
tokens-unpost b [] h = tt
tokens-unpost b (p ∷ ps) h = (h.0, tokens-unpost b ps h.1)

filter-few : (t : Place → Bool) (ps : List Place) → length (filter t ps) ≤ length ps
filter-few t [] = omega arith
filter-few t (p ∷ ps) =
    elim (t p) as (λ b. length (cond b (p ∷ filter t ps) (filter t ps)) ≤ length (p ∷ ps)) [ true ↦ omega (arith, filter-few t ps) | false ↦ omega (arith, filter-few t ps) ]

post-many : (k : ℕ) (ps : List Place) → length (after_post k ps) ≡ length ps
post-many k [] = refl
post-many k (p ∷ ps) = ap (λ n. suc n) (post-many k ps)

unpost-many : (b : ℕ) (ps : List Place) → length (after_unpost b ps) ≡ length ps
unpost-many b [] = refl
unpost-many b (p ∷ ps) = ap (λ n. suc n) (unpost-many b ps)

-- with room for all places there is no bound
unbounded : (room : ℕ) (ps : List Place) → length ps ≤ room → bound room ps ≡ 2 ^ 64 - 1
unbounded room [] h = refl
unbounded zero (p ∷ ps) h = absurd (omega (arith, h))
unbounded (suc room) (p ∷ ps) h =
    elim p.marked as (λ b. (if b then bound room ps else bound (suc room) ps) ≡ 2 ^ 64 - 1) [ true ↦ unbounded room ps (omega (arith, h)) | false ↦ unbounded (suc room) ps (omega (arith, h)) ]

-- and each posted key is taken
taken-all : (k : ℕ) (ps : List Place) → AllTokens ps → is_marked k ps ≡ true → Contains (taken_keys (2 ^ 64 - 1) ps) k
taken-all k [] h is = absurd (let f : ◌≡◌ {A = Bool} false true = is in cc)
taken-all k (p ∷ ps) h is =
    let below : nat_lt p.key (2 ^ 64 - 1) ≡ true = (let lt = h.0 in grind (arith, nat_tests)) in
    elim p.marked as (λ b. p.marked ≡ b → Contains (map (λ (q : Place). q.key) (cond (b && nat_lt p.key (2 ^ 64 - 1)) (p ∷ filter (is_taken (2 ^ 64 - 1)) ps) (filter (is_taken (2 ^ 64 - 1)) ps))) k) [
      | true ↦ λ m.
          (elim (nat_eq p.key k) as (λ b. nat_eq p.key k ≡ b → Contains (map (λ (q : Place). q.key) (cond (true && nat_lt p.key (2 ^ 64 - 1)) (p ∷ filter (is_taken (2 ^ 64 - 1)) ps) (filter (is_taken (2 ^ 64 - 1)) ps))) k) [
            | true ↦ λ e. rw below (0, omega arith, (let same : p.key ≡ k = grind (arith, nat_tests) in same))
            | false ↦ λ e. rw below (Contains-append_right (p.key ∷ []) (taken_keys (2 ^ 64 - 1) ps) k (taken-all k ps h.1 (let later : is_marked k ps ≡ true = grind arith in later)))
          ] refl)
      | false ↦ λ m. taken-all k ps h.1 (let later : is_marked k ps ≡ true = grind arith in later)
    ] refl

pub all_within : (k room : ℕ) (ps : List Place) → AllTokens ps → length ps ≤ room → is_marked k ps ≡ true → Contains (keys_within room ps) k
all_within k room ps h few is = rw (unbounded room ps few) (taken-all k ps h is)

-- and none is left
marked-token : (k : ℕ) (ps : List Place) → AllTokens ps → is_marked k ps ≡ true → k < 2 ^ 64 - 1
marked-token k [] h is = absurd (let f : ◌≡◌ {A = Bool} false true = is in cc)
marked-token k (p ∷ ps) h is =
    elim (nat_eq p.key k) as (λ b. nat_eq p.key k ≡ b → k < 2 ^ 64 - 1) [
      | true ↦ λ e. (let same : p.key ≡ k = grind (arith, nat_tests) in omega (arith, same, h.0))
      | false ↦ λ e. marked-token k ps h.1 (let later : is_marked k ps ≡ true = grind arith in later)
    ] refl

pub none_left : (k room : ℕ) (ps : List Place) → AllTokens ps → length ps ≤ room → is_marked k (after_unpost (bound room ps) ps) ≡ false
none_left k room ps h few =
    let m = is_marked-after_unpost k (bound room ps) ps in
    let b = unbounded room ps few in
    elim (is_marked k ps) as (λ b. is_marked k ps ≡ b → is_marked k (after_unpost (bound room ps) ps) ≡ false) [
      | true ↦ λ is. (let lt = marked-token k ps h is in let n : nat_lt k (bound room ps) ≡ true = rw b (grind (arith, nat_tests)) in grind arith)
      | false ↦ λ is. grind arith
    ] refl

-- Histories.

module _ (K : Kind) where
  pub history-append : (w : WakeWorld K.Cell) (hs js : List (Happening K.Own)) → IsHistory K w (hs ++ js) → IsHistory K w hs × IsHistory K (end_of K w hs) js
  history-append w [] js h = (tt, h)
  history-append w (x ∷ hs) js h = (let k = history-append (world_behind K w x) hs js h.1 in ((h.0, k.0), k.1))

  pub end-append : (w : WakeWorld K.Cell) (hs js : List (Happening K.Own)) → end_of K w (hs ++ js) ≡ end_of K (end_of K w hs) js
  end-append w [] js = refl
  end-append w (x ∷ hs) js = end-append (world_behind K w x) hs js

  -- a history is a schedule, and leaves the same world
  pub is_schedule : (w : WakeWorld K.Cell) (hs : List (Happening K.Own)) → IsHistory K w hs → IsSchedule K w (schedule_of K w hs)
  is_schedule w [] h = tt
  is_schedule w (Unseen s ∷ hs) h = (h.0.1, is_schedule (after K w s) hs h.1)
  is_schedule w (Noted (Counted number) ∷ hs) h = is_schedule w hs h.1
  is_schedule w (Noted (Looked found) ∷ hs) h = (h.0.1, is_schedule (after K w Look) hs h.1)
  is_schedule w (Noted (Unposted room keys) ∷ hs) h = (tt, is_schedule (after K w (Unpost (bound room w.board))) hs h.1)
  is_schedule w (Noted (Marked marks) ∷ hs) h = is_schedule w hs h.1

  pub same_end : (w : WakeWorld K.Cell) (hs : List (Happening K.Own)) → after_all K w (schedule_of K w hs) ≡ end_of K w hs
  same_end w [] = refl
  same_end w (Unseen s ∷ hs) = same_end (after K w s) hs
  same_end w (Noted (Counted number) ∷ hs) = same_end w hs
  same_end w (Noted (Looked found) ∷ hs) = same_end (after K w Look) hs
  same_end w (Noted (Unposted room keys) ∷ hs) = same_end (after K w (Unpost (bound room w.board))) hs
  same_end w (Noted (Marked marks) ∷ hs) = same_end w hs

  -- the keys of a board stay tokens'
  tokens-step : (w : WakeWorld K.Cell) (s : WakeStep K.Own) → IsUnseen s → AllTokens w.board → AllTokens (after K w s).board
  tokens-step w (At n s) u h = h
  tokens-step w (ClearKey n by_drop) u h = h
  tokens-step w (SetKey n k) u h = h
  tokens-step w (OpenTurn n k) u h = h
  tokens-step w (OpenPlace k) u h = tokens-open k w.board u h
  tokens-step w (ClosePlace k) u h = tokens-filter (λ (p : Place). not (nat_eq p.key k)) w.board h
  tokens-step w (Post k) u h = tokens-post k w.board h
  tokens-step w (Back k) u h = h
  tokens-step w (Unpost below) u h = absurd u
  tokens-step w Look u h = absurd u
  tokens-step w Wakeup u h = h
  tokens-step w Sleep u h = h
  tokens-step w Return u h = h

  pub tokens-end : (w : WakeWorld K.Cell) (hs : List (Happening K.Own)) → IsHistory K w hs → AllTokens w.board → AllTokens (end_of K w hs).board
  tokens-end w [] h t = t
  tokens-end w (Unseen s ∷ hs) h t = tokens-end (after K w s) hs h.1 (tokens-step w s h.0.0 t)
  tokens-end w (Noted (Counted number) ∷ hs) h t = tokens-end w hs h.1 t
  tokens-end w (Noted (Looked found) ∷ hs) h t = tokens-end (after K w Look) hs h.1 t
  tokens-end w (Noted (Unposted room keys) ∷ hs) h t = tokens-end (after K w (Unpost (bound room w.board))) hs h.1 (tokens-unpost (bound room w.board) w.board t)
  tokens-end w (Noted (Marked marks) ∷ hs) h t = tokens-end w hs h.1 t

  -- if none is opened there are no more places
  pub no_more : (w : WakeWorld K.Cell) (hs : List (Happening K.Own)) → OpensNone hs → length (end_of K w hs).board ≤ length w.board
  no_more w [] o = omega arith
  no_more w (Unseen (At n s) ∷ hs) o = no_more (after K w (At n s)) hs o
  no_more w (Unseen (ClearKey n by_drop) ∷ hs) o = no_more (after K w (ClearKey n by_drop)) hs o
  no_more w (Unseen (SetKey n k) ∷ hs) o = no_more (after K w (SetKey n k)) hs o
  no_more w (Unseen (OpenTurn n k) ∷ hs) o = no_more (after K w (OpenTurn n k)) hs o
  no_more w (Unseen (OpenPlace k) ∷ hs) o = absurd o
  no_more w (Unseen (ClosePlace k) ∷ hs) o = omega (arith, no_more (after K w (ClosePlace k)) hs o, filter-few (λ (p : Place). not (nat_eq p.key k)) w.board)
  no_more w (Unseen (Post k) ∷ hs) o = omega (arith, no_more (after K w (Post k)) hs o, post-many k w.board)
  no_more w (Unseen (Back k) ∷ hs) o = no_more (after K w (Back k)) hs o
  no_more w (Unseen (Unpost below) ∷ hs) o = omega (arith, no_more (after K w (Unpost below)) hs o, unpost-many below w.board)
  no_more w (Unseen Look ∷ hs) o = no_more (after K w Look) hs o
  no_more w (Unseen Wakeup ∷ hs) o = no_more (after K w Wakeup) hs o
  no_more w (Unseen Sleep ∷ hs) o = no_more (after K w Sleep) hs o
  no_more w (Unseen Return ∷ hs) o = no_more (after K w Return) hs o
  no_more w (Noted (Counted number) ∷ hs) o = no_more w hs o
  no_more w (Noted (Looked found) ∷ hs) o = no_more (after K w Look) hs o
  no_more w (Noted (Unposted room keys) ∷ hs) o = omega (arith, no_more (after K w (Unpost (bound room w.board))) hs o, unpost-many (bound room w.board) w.board)
  no_more w (Noted (Marked marks) ∷ hs) o = no_more w hs o

  -- a key that is posted at the end was posted at the beginning, or since
  made_later : (s t : WakeStep K.Own) (h : Happening K.Own) (hs : List (Happening K.Own)) → IsMadeIn s hs → IsMadeIn s (h ∷ hs)
  made_later s t h hs m = (h ∷ m.0, m.1, ap (λ l. h ∷ l) m.2)

  or_posted : (a b c : Bool) → (a || (b && c)) ≡ true → (a ≡ true) ⊎ (b ≡ true)
  or_posted true b c h = inl refl
  or_posted false true c h = inr refl
  or_posted false false c h = absurd (cc)

  and_first : (a b : Bool) → (a && b) ≡ true → a ≡ true
  and_first true b h = refl
  and_first false b h = h

  posted-first : (j k : ℕ) (hs : List (Happening K.Own)) → nat_eq k j ≡ true → IsMadeIn (Post k) (Unseen (Post j) ∷ hs)
  posted-first j k hs e = ([], hs, (let same : k ≡ j = grind (arith, nat_tests) in ap (λ (i : ℕ). Unseen (Post i) ∷ hs) (sym same)))

  -- as after these steps, which don't post this key
  as_before : (k : ℕ) (w v : WakeWorld K.Cell) (x : Happening K.Own) (hs : List (Happening K.Own)) → (is_marked k v.board ≡ true → is_marked k w.board ≡ true)
      → (is_marked k v.board ≡ true) ⊎ IsMadeIn (Post k) hs → (is_marked k w.board ≡ true) ⊎ IsMadeIn (Post k) (x ∷ hs)
  as_before k w v x hs same (inl h) = inl (same h)
  as_before k w v x hs same (inr h) = inr (made_later (Post k) (Post k) x hs h)

  as_posted : (k j : ℕ) (w : WakeWorld K.Cell) (hs : List (Happening K.Own))
      → (is_marked k (after_post j w.board) ≡ true) ⊎ IsMadeIn (Post k) hs → (is_marked k w.board ≡ true) ⊎ IsMadeIn (Post k) (Unseen (Post j) ∷ hs)
  as_posted k j w hs (inl h) =
      elim (or_posted (is_marked k w.board) (nat_eq k j) (is_open k w.board) (sym (is_marked-after_post k j w.board) ∙ h)) [ inl m ↦ inl m | inr e ↦ inr (posted-first j k hs e) ]
  as_posted k j w hs (inr h) = inr (made_later (Post k) (Post k) (Unseen (Post j)) hs h)

  closed-marked : (k j : ℕ) (ps : List Place) → is_marked k (after_close_place j ps) ≡ true → is_marked k ps ≡ true
  closed-marked k j ps h = and_first (is_marked k ps) (not (nat_eq k j)) (sym (is_marked-after_close k j ps) ∙ h)

  unposted-marked : (k b : ℕ) (ps : List Place) → is_marked k (after_unpost b ps) ≡ true → is_marked k ps ≡ true
  unposted-marked k b ps h = and_first (is_marked k ps) (not (nat_lt k b)) (sym (is_marked-after_unpost k b ps) ∙ h)

  pub marks_come : (k : ℕ) (w : WakeWorld K.Cell) (hs : List (Happening K.Own)) → is_marked k (end_of K w hs).board ≡ true → (is_marked k w.board ≡ true) ⊎ IsMadeIn (Post k) hs
  marks_come k w [] h = inl h
  marks_come k w (Unseen (At n s) ∷ hs) h = as_before k w (after K w (At n s)) _ hs (λ m. m) (marks_come k (after K w (At n s)) hs h)
  marks_come k w (Unseen (ClearKey n by_drop) ∷ hs) h = as_before k w (after K w (ClearKey n by_drop)) _ hs (λ m. m) (marks_come k (after K w (ClearKey n by_drop)) hs h)
  marks_come k w (Unseen (SetKey n j) ∷ hs) h = as_before k w (after K w (SetKey n j)) _ hs (λ m. m) (marks_come k (after K w (SetKey n j)) hs h)
  marks_come k w (Unseen (OpenTurn n j) ∷ hs) h = as_before k w (after K w (OpenTurn n j)) _ hs (λ m. m) (marks_come k (after K w (OpenTurn n j)) hs h)
  marks_come k w (Unseen (OpenPlace j) ∷ hs) h = as_before k w (after K w (OpenPlace j)) _ hs (λ m. sym (is_marked-after_open k j w.board) ∙ m) (marks_come k (after K w (OpenPlace j)) hs h)
  marks_come k w (Unseen (ClosePlace j) ∷ hs) h = as_before k w (after K w (ClosePlace j)) _ hs (closed-marked k j w.board) (marks_come k (after K w (ClosePlace j)) hs h)
  marks_come k w (Unseen (Post j) ∷ hs) h = as_posted k j w hs (marks_come k (after K w (Post j)) hs h)
  marks_come k w (Unseen (Back j) ∷ hs) h = as_before k w (after K w (Back j)) _ hs (λ m. m) (marks_come k (after K w (Back j)) hs h)
  marks_come k w (Unseen (Unpost below) ∷ hs) h = as_before k w (after K w (Unpost below)) _ hs (unposted-marked k below w.board) (marks_come k (after K w (Unpost below)) hs h)
  marks_come k w (Unseen Look ∷ hs) h = as_before k w (after K w Look) _ hs (λ m. m) (marks_come k (after K w Look) hs h)
  marks_come k w (Unseen Wakeup ∷ hs) h = as_before k w (after K w Wakeup) _ hs (λ m. m) (marks_come k (after K w Wakeup) hs h)
  marks_come k w (Unseen Sleep ∷ hs) h = as_before k w (after K w Sleep) _ hs (λ m. m) (marks_come k (after K w Sleep) hs h)
  marks_come k w (Unseen Return ∷ hs) h = as_before k w (after K w Return) _ hs (λ m. m) (marks_come k (after K w Return) hs h)
  marks_come k w (Noted (Counted number) ∷ hs) h = as_before k w w _ hs (λ m. m) (marks_come k w hs h)
  marks_come k w (Noted (Looked found) ∷ hs) h = as_before k w (after K w Look) _ hs (λ m. m) (marks_come k (after K w Look) hs h)
  marks_come k w (Noted (Unposted room keys) ∷ hs) h = as_before k w (after K w (Unpost (bound room w.board))) _ hs (unposted-marked k (bound room w.board) w.board) (marks_come k (after K w (Unpost (bound room w.board))) hs h)
  marks_come k w (Noted (Marked marks) ∷ hs) h = as_before k w w _ hs (λ m. m) (marks_come k w hs h)

-- The position of a note.

pub record NoteFound {O : Type 0} (hs : List (Happening O)) (note : Note) (front rest : List Note) : Type 0 where
  pub ahead : List (Happening O)
  pub behind : List (Happening O)
  pub is : hs ≡ ahead ++ Noted note ∷ behind
  pub notes_ahead : notes_of ahead ≡ front
  pub notes_behind : notes_of behind ≡ rest

pub note_found : {O : Type 0} (hs : List (Happening O)) (note : Note) (front rest : List Note) → notes_of hs ≡ front ++ note ∷ rest → NoteFound hs note front rest
note_found [] note [] rest h = absurd (let f : ◌≡◌ {A = List Note} [] (note ∷ rest) = h in cc)
note_found [] note (n ∷ front) rest h = absurd (let f : ◌≡◌ {A = List Note} [] (n ∷ (front ++ note ∷ rest)) = h in cc)
note_found {O} (Unseen s ∷ hs) note front rest h =
    let f = note_found hs note front rest h in
    record { ahead = Unseen s ∷ f.ahead; behind = f.behind; is = ap (λ (l : List (Happening O)). Unseen s ∷ l) f.is; notes_ahead = f.notes_ahead; notes_behind = f.notes_behind }
note_found {O} (Noted m ∷ hs) note [] rest h =
    let a : m ≡ note = cc in
    let b : notes_of hs ≡ rest = cc in
    record { ahead = []; behind = hs; is = ap (λ (n : Note). Noted n ∷ hs) a; notes_ahead = refl; notes_behind = b }
note_found {O} (Noted m ∷ hs) note (n ∷ front) rest h =
    let a : m ≡ n = cc in
    let b : notes_of hs ≡ front ++ note ∷ rest = cc in
    let f = note_found hs note front rest b in
    record { ahead = Noted m ∷ f.ahead; behind = f.behind; is = ap (λ (l : List (Happening O)). Noted m ∷ l) f.is; notes_ahead = ap (λ (l : List Note). m ∷ l) f.notes_ahead ∙ ap (λ (x : Note). x ∷ front) a; notes_behind = f.notes_behind }

-- a history that is cut after its first notes
pub record NotesFound {O : Type 0} (hs : List (Happening O)) (front rest : List Note) : Type 0 where
  pub ahead : List (Happening O)
  pub behind : List (Happening O)
  pub is : hs ≡ ahead ++ behind
  pub notes_ahead : notes_of ahead ≡ front
  pub notes_behind : notes_of behind ≡ rest

pub notes_found : {O : Type 0} (hs : List (Happening O)) (front rest : List Note) → notes_of hs ≡ front ++ rest → NotesFound hs front rest
notes_found hs [] rest h = record { ahead = []; behind = hs; is = refl; notes_ahead = refl; notes_behind = h }
notes_found [] (n ∷ front) rest h = absurd (let f : ◌≡◌ {A = List Note} [] (n ∷ (front ++ rest)) = h in cc)
notes_found {O} (Unseen s ∷ hs) (n ∷ front) rest h =
    let f = notes_found hs (n ∷ front) rest h in
    record { ahead = Unseen s ∷ f.ahead; behind = f.behind; is = ap (λ (l : List (Happening O)). Unseen s ∷ l) f.is; notes_ahead = f.notes_ahead; notes_behind = f.notes_behind }
notes_found {O} (Noted m ∷ hs) (n ∷ front) rest h =
    let a : m ≡ n = cc in
    let b : notes_of hs ≡ front ++ rest = cc in
    let f = notes_found hs front rest b in
    record { ahead = Noted m ∷ f.ahead; behind = f.behind; is = ap (λ (l : List (Happening O)). Noted m ∷ l) f.is; notes_ahead = ap (λ (l : List Note). m ∷ l) f.notes_ahead ∙ ap (λ (x : Note). x ∷ front) a; notes_behind = f.notes_behind }

-- the keys of the last taking in these notes, or these if there is none
abbrev pub keys_from : List ℕ → List Note → List ℕ
keys_from ks [] = ks
keys_from ks (Counted number ∷ ns) = keys_from ks ns
keys_from ks (Looked found ∷ ns) = keys_from ks ns
keys_from ks (Unposted room js ∷ ns) = keys_from js ns
keys_from ks (Marked marks ∷ ns) = keys_from ks ns

pub last_keys : (ks : List ℕ) (ns : List Note) (room : ℕ) (js : List ℕ) → keys_from ks (ns ++ Unposted room js ∷ []) ≡ js
last_keys ks [] room js = refl
last_keys ks (Counted number ∷ ns) room js = last_keys ks ns room js
last_keys ks (Looked found ∷ ns) room js = last_keys ks ns room js
last_keys ks (Unposted r is ∷ ns) room js = last_keys is ns room js
last_keys ks (Marked marks ∷ ns) room js = last_keys ks ns room js

pub notes-append : {O : Type 0} (hs js : List (Happening O)) → notes_of (hs ++ js) ≡ notes_of hs ++ notes_of js
notes-append [] js = refl
notes-append (Unseen s ∷ hs) js = notes-append hs js
notes-append (Noted note ∷ hs) js = ap (λ (l : List Note). note ∷ l) (notes-append hs js)

append_assoc : {A : Type 0} (a b c : List A) → (a ++ b) ++ c ≡ a ++ (b ++ c)
append_assoc [] b c = refl
append_assoc (x ∷ xs) b c = rw (append_assoc xs b c) refl

-- the keys of a history that ends after a taking
pub keys_taken : {O : Type 0} (ahead between behind : List (Happening O)) (places : ℕ) (keys : List ℕ) → notes_of behind ≡ []
    → keys_from [] (notes_of (ahead ++ Noted (Counted places) ∷ (between ++ Noted (Unposted places keys) ∷ behind))) ≡ keys
keys_taken ahead between behind places keys over =
    let rest : notes_of (between ++ Noted (Unposted places keys) ∷ behind) ≡ notes_of between ++ Unposted places keys ∷ [] =
    notes-append between (Noted (Unposted places keys) ∷ behind) ∙ ap (λ (l : List Note). notes_of between ++ Unposted places keys ∷ l) over in
    let all : notes_of (ahead ++ Noted (Counted places) ∷ (between ++ Noted (Unposted places keys) ∷ behind)) ≡ (notes_of ahead ++ Counted places ∷ notes_of between) ++ Unposted places keys ∷ [] =
    notes-append ahead (Noted (Counted places) ∷ (between ++ Noted (Unposted places keys) ∷ behind))
    ∙ ap (λ (l : List Note). notes_of ahead ++ Counted places ∷ l) rest
    ∙ sym (append_assoc (notes_of ahead) (Counted places ∷ notes_of between) (Unposted places keys ∷ [])) in
    ap (λ (l : List Note). keys_from [] l) all ∙ last_keys [] (notes_of ahead ++ Counted places ∷ notes_of between) places keys
