-- The keys of the passes that an unpost returned, and of the events that a gathering appends.
use Rattle.std.proofs.Common.{◌≡◌, ℕ, zero, suc, ◌<◌, ◌-◌, ◌^◌, get_or, ◌≤◌, arith, List, [], ◌∷◌, ◌++◌, length, length-append, map, filter, drop, refl, ap, sym, append-nil, ◌∙◌}
use Rattle.std.proofs.lemmas.List.{map-append}
use Rattle.std.proofs.lemmas.List.Elements.{filter-append}
use Rattle.std.proofs.Math.Seq.{drop-append_seam}
use Rattle.calloop_wake.specs.Boards.{fresh_pass, AllGreater, IsRising}
use Rattle.logbook.specs.Pages.{Book}
use Rattle.calloop_wake.specs.Passes.{Taken}
use Rattle.calloop_slots.specs.Tokens.{key_of, token_of}
use Rattle.calloop_slots.specs.declared.wheel.Entry.{Entry}
use Rattle.calloop_slots.specs.declared.token.Token.{Token}
use Rattle.calloop_poll.specs.declared.sys.Readiness.{Readiness}
use Rattle.calloop_poll.specs.declared.sys.poll.Pending.{Pending}
use Rattle.calloop_poll.specs.sys.Batches.{key_of_pass, posted_keys, last_polled, IsInStep}
use Rattle.calloop_poll.specs.sys.Polls.{posted_events, own_events, polled_event, polled_events, timer_events, is_for_a_token}

keys-taken : (board : Book) (keys : List ℕ) → map key_of_pass (map (fresh_pass board) keys) ≡ keys
keys-taken board [] = refl
keys-taken board (k ∷ ks) = ap (λ l. k ∷ l) (keys-taken board ks)

-- behind the passes that were there before, the new ones have the keys that were posted
pub keys-new : (board : Book) (before after : List Taken) (keys : List ℕ) (n : ℕ) → n ≡ length before → after ≡ before ++ map (fresh_pass board) keys → map key_of_pass (drop n after) ≡ keys
keys-new board before after keys n first is =
    ap (λ k. map key_of_pass (drop k after)) first ∙ ap (λ l. map key_of_pass (drop (length before) l)) is ∙ ap (λ l. map key_of_pass l) (drop-append_seam before (map (fresh_pass board) keys)) ∙ keys-taken board keys

below-own : (k : ℕ) (ks : List ℕ) → AllGreater k ks → k < 2 ^ 64 - 1
below-own k [] h = h
below-own k (j ∷ js) h = below-own k js h.1

-- of ascending keys the first is a token's, and the others ascend
pub rising-at : (passes : List Taken) (i : ℕ) (d : Taken) → i < length passes → IsRising (map key_of_pass (drop i passes)) → ((get_or passes i d).key < 2 ^ 64 - 1) × IsRising (map key_of_pass (drop (suc i) passes))
rising-at [] i d lt h = absurd (omega arith)
rising-at (p ∷ ps) zero d lt h = (below-own p.key (map key_of_pass ps) h.0, h.1)
rising-at (p ∷ ps) (suc i) d lt h = rising-at ps i d (omega arith) h

key-back : (k : ℕ) → key_of (token_of k) ≡ k
key-back k = omega arith

posted_keys-append : (xs ys : List Pending) → posted_keys (xs ++ ys) ≡ posted_keys xs ++ posted_keys ys
posted_keys-append xs ys =
    ap (λ (es : List Pending). map (λ e. key_of e.token) es) (filter-append (λ e. e.posted) xs ys)
    ∙ map-append (λ e. key_of e.token) (filter (λ e. e.posted) xs) (filter (λ e. e.posted) ys)

keys-posted : (keys : List ℕ) → posted_keys (posted_events keys) ≡ keys
keys-posted [] = refl
keys-posted (k ∷ ks) = ap (λ n. n ∷ posted_keys (posted_events ks)) (key-back k) ∙ ap (λ l. k ∷ l) (keys-posted ks)

none-polled : (given : List (ℕ × Readiness)) → posted_keys (map polled_event given) ≡ []
none-polled [] = refl
none-polled (g ∷ gs) = none-polled gs

none-of-timers : (entries : List Entry) → posted_keys (timer_events entries) ≡ []
none-of-timers [] = refl
none-of-timers (e ∷ es) = none-of-timers es

-- a gathering appends a pass for each posted event, in their order
pub step-gathered : (board : Book) (events : List Pending) (passes : List Taken) (keys : List ℕ) (given : List (ℕ × Readiness)) (entries : List Entry)
    → IsInStep events passes → IsInStep (((events ++ posted_events keys) ++ polled_events given) ++ timer_events entries) (passes ++ map (fresh_pass board) keys)
step-gathered board events passes keys given entries h =
    map-append key_of_pass passes (map (fresh_pass board) keys)
    ∙ rw (
      h,
      keys-taken board keys,
      posted_keys-append ((events ++ posted_events keys) ++ polled_events given) (timer_events entries),
      none-of-timers entries,
      posted_keys-append (events ++ posted_events keys) (polled_events given),
      none-polled (filter is_for_a_token given),
      posted_keys-append events (posted_events keys),
      keys-posted keys,
      append-nil (posted_keys events ++ keys),
      append-nil (posted_keys events ++ keys),
    ) refl

-- the events that the three parts of a gathering append, of keys whose passes were appended
pub events-gathered : (board : Book) (e₀ e₁ e₂ e₃ : List Pending) (before after : List Taken) (keys : List ℕ) (n : ℕ) (given : List (ℕ × Readiness)) (entries : List Entry) → n ≡ length before
    → after ≡ before ++ map (fresh_pass board) keys → e₁ ≡ e₀ ++ posted_events (map key_of_pass (drop n after)) → e₂ ≡ e₁ ++ polled_events given → e₃ ≡ e₂ ++ timer_events entries
    → e₃ ≡ ((e₀ ++ posted_events keys) ++ polled_events given) ++ timer_events entries
events-gathered board e₀ e₁ e₂ e₃ before after keys n given entries first is one two three =
    let posted = keys-new board before after keys n first is in
    rw (three, two, one, posted) refl

-- and the same up to the last event of the poller
pub events-polled : (board : Book) (e₀ e₁ e₂ : List Pending) (before after : List Taken) (keys : List ℕ) (n : ℕ) (given : List (ℕ × Readiness)) → n ≡ length before → after ≡ before ++ map (fresh_pass board) keys
    → e₁ ≡ e₀ ++ posted_events (map key_of_pass (drop n after)) → e₂ ≡ e₁ ++ polled_events given → e₂ ≡ (e₀ ++ posted_events keys) ++ polled_events given
events-polled board e₀ e₁ e₂ before after keys n given first is one two = let posted = keys-new board before after keys n first is in rw (two, one, posted) refl

-- the poller's last event is among the waiting events
pub last_within : (before : ℕ) (given : List (ℕ × Readiness)) (events posted polled due : List Pending) → before ≤ length events → last_polled before given (length ((events ++ posted) ++ polled)) ≤ length (((events ++ posted) ++ polled) ++ due)
last_within before [] events posted polled due h = rw (length-append ((events ++ posted) ++ polled) due, length-append (events ++ posted) polled, length-append events posted) (omega arith)
last_within before (g ∷ gs) events posted polled due h = rw (length-append ((events ++ posted) ++ polled) due) (omega arith)

-- no event that a source asks for is posted
own_posts_none : (given : List (Readiness × Token)) → posted_keys (own_events given) ≡ []
own_posts_none [] = refl
own_posts_none (e ∷ es) = own_posts_none es

-- so the batch stays in step when such events join it
pub joined_in_step : (events : List Pending) (passes : List Taken) (given : List (Readiness × Token)) → IsInStep events passes → IsInStep (events ++ own_events given) passes
joined_in_step events passes given h =
    h ∙ sym (posted_keys-append events (own_events given) ∙ ap (λ l. posted_keys events ++ l) (own_posts_none given) ∙ append-nil (posted_keys events))
