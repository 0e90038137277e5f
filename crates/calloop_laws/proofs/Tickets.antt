-- Each ticket is at most at one place, and its answer is handed out at most once.
use Rattle.std.proofs.Common.{◌≡◌, ℕ, ◌+◌, ◌≤◌, List, [], ◌∷◌, ◌++◌, map, refl, arith, Some, None, Option, true, false, if◌then◌else◌, nat_eq, nat_lt}
use Rattle.std.proofs.lemmas.Bool.Decides.{nat_tests}
use Rattle.calloop_sources.specs.sources.Deeds.{Lent}
use Rattle.calloop_sources.specs.sources.Meanings.{Meaning}
use Rattle.calloop_poll.specs.sys.Pollers.{Outside}
use Rattle.calloop_loop.specs.declared.LoopCall.{LoopCall}
use Rattle.calloop_loop.specs.declared.LoopAnswer.{LoopAnswer}
use Rattle.calloop_loop.specs.declared.asks.Answer.{Answer}
use Rattle.calloop_loop.specs.declared.asks.Answer.TheVariants.{Done}
use Rattle.calloop_loop.specs.declared.asks.Answered.{Answered}
use Rattle.calloop_loop.specs.declared.asks.Asked.{Asked}
use Rattle.calloop_slots.specs.declared.token.RegistrationToken.{RegistrationToken}
use Rattle.calloop_loop.specs.Askings.{Asks, AskStep, Write, Take, Runs, ask_after, asks_after, all_handed, handed_by, without, taken_from, answers_to, begun_from, last_ticket, none_kept_for, not_kept_for, of_turn, stays_on}
use Rattle.calloop_loop.specs.Held.{Held, HeldStep, Listed, Unlisted, Pend, Asking, AskingIn, Begun, Told, Owe, Paid, Cleared, Warned, StopNoted, IdleIn, IdleNew, IdleOut, IdlesTaken, IdleBegun, held_after}
use Rattle.calloop_loop.specs.Machine.{World, IsNew, Change, Put, Claim, Swapped, Polls, Polling, Watching, Counting, Gathered, Appended, Holds, Cut, Ended, world_after, world_after_all, handed_in}
use Rattle.calloop_loop.specs.Rules.{Run, all_traced}
use Rattle.calloop_laws.specs.Laws.{how_many, is_number, is_asked_as, is_answered_as, stands_as, times_standing, IsTicketed}
use Rattle.calloop_laws.proofs.Counting.{counted-append, counted-filter, next_number}

-- with as many handed out
abbrev pub IsTallied : {D I : Type 0} → Asks D I → List ℕ → Type 0
IsTallied q handed = (n : ℕ) → times_standing n q + how_many (is_number n) handed ≤ (if nat_lt n q.next then 1 else 0)

counted-without : {D : Type 0} (n ticket : ℕ) (as' : List (Answered D)) → how_many (is_answered_as n) as' ≡ how_many (is_answered_as n) (without ticket as') + how_many (is_number n) (taken_from ticket as')
counted-without n ticket [] = refl
counted-without {D} n ticket (a ∷ as') =
    elim (nat_eq a.ticket ticket) as (λ b. nat_eq a.ticket ticket ≡ b → how_many (is_answered_as n) (a ∷ as') ≡ how_many (is_answered_as n) (if b then as' else a ∷ without ticket as') + how_many (is_number n) (if b then ticket ∷ [] else taken_from ticket as'))
    [ true ↦ λ e. (let same : a.ticket ≡ ticket = grind (arith, nat_tests) in rw (← same) (omega arith)) | false ↦ λ e. omega (arith, counted-without n ticket as') ] refl

counted-answering : {D : Type 0} (n : ℕ) (o : Option ℕ) (turn : Option RegistrationToken) (answer : Answer D) → how_many (is_answered_as n) (answers_to o turn answer) ≡ stands_as n o
counted-answering n None turn answer = refl
counted-answering n (Some ticket) turn answer = omega arith

counted-kept : {D : Type 0} (n : ℕ) (token : RegistrationToken) (as' : List (Answered D)) → how_many (is_answered_as n) (map (not_kept_for token) as') ≡ how_many (is_answered_as n) as'
counted-kept n token [] = refl
counted-kept n token (a ∷ as') = rw (counted-kept n token as') refl

tallied_kept : {D I : Type 0} (token : RegistrationToken) (q : Asks D I) (handed : List ℕ) → IsTallied q handed → IsTallied (none_kept_for token q) handed
tallied_kept token q handed h n = omega (arith, h n, counted-kept n token q.answers)

tallied_ask : {D I : Type 0} (q : Asks D I) (handed : List ℕ) (s : AskStep D I) → IsTallied q handed → IsTallied (ask_after q s) (handed ++ handed_by q s)
tallied_ask {D} {I} q handed (Write request) h n =
    omega (arith, h n, next_number n q.next, counted-append (is_number n) handed [], counted-append (is_asked_as n) q.written (record { ticket = q.next; request = request } ∷ []))
tallied_ask q handed (Take ticket) h n = omega (arith, h n, counted-append (is_number n) handed (taken_from ticket q.answers), counted-without n ticket q.answers)

append_assoc : {A : Type 0} (a b c : List A) → (a ++ b) ++ c ≡ a ++ (b ++ c)
append_assoc [] b c = refl
append_assoc (x ∷ xs) b c = rw (append_assoc xs b c) refl

append_nil : {A : Type 0} (a : List A) → a ++ [] ≡ a
append_nil [] = refl
append_nil (x ∷ xs) = rw (append_nil xs) refl

tallied_asks : {D I : Type 0} (q : Asks D I) (handed : List ℕ) (ss : List (AskStep D I)) → IsTallied q handed → IsTallied (asks_after q ss) (handed ++ all_handed q ss)
tallied_asks q handed [] h = rw (append_nil handed) h
tallied_asks q handed (s ∷ ss) h = rw (← append_assoc handed (handed_by q s) (all_handed (ask_after q s) ss)) (tallied_asks (ask_after q s) (handed ++ handed_by q s) ss (tallied_ask q handed s h))

tallied_begun : {D I : Type 0} (q : Asks D I) (as' : List (Asked D I)) (handed : List ℕ) → q.written ≡ as' → IsTallied q handed → IsTallied (begun_from as' q) handed
tallied_begun q [] handed is h n = h n
tallied_begun q (a ∷ as') handed is h n = (let g = h n in omega (arith, rw is at g))

tallied_step : {D I : Type 0} (k : Held D I) (handed : List ℕ) (s : HeldStep D I) → IsTallied k.asks handed → IsTallied (held_after k s).asks (handed ++ handed_in k s)
tallied_step k handed (Asking steps) h = tallied_asks k.asks handed steps h
tallied_step k handed (AskingIn token steps) h = tallied_asks (of_turn token k.asks) handed steps (tallied_kept token k.asks handed h)
tallied_step k handed (Listed needed token) h = rw (append_nil handed) h
tallied_step k handed (Unlisted token) h = rw (append_nil handed) (tallied_kept token k.asks handed h)
tallied_step k handed (Pend action) h = rw (append_nil handed) h
tallied_step k handed Begun h = rw (append_nil handed) (tallied_begun k.asks k.asks.written handed refl h)
tallied_step k handed (Told answer) h = rw (append_nil handed) (λ n. omega (arith, h n, counted-append (is_answered_as n) k.asks.answers (answers_to k.asks.serving k.asks.turn answer), counted-answering n k.asks.serving k.asks.turn answer))
tallied_step k handed Owe h = rw (append_nil handed) (λ n. omega (arith, h n))
tallied_step k handed (Paid answer) h = rw (append_nil handed) (λ n. omega (arith, h n, counted-append (is_answered_as n) k.asks.answers (answers_to k.asks.owed k.asks.turn answer), counted-answering n k.asks.owed k.asks.turn answer))
tallied_step k handed Cleared h = rw (append_nil handed) (λ n. omega (arith, h n, counted-filter (is_answered_as n) (stays_on k.asks.taken_up_at k.asks.cleared_at (last_ticket k.asks.idles)) k.asks.answers))
tallied_step k handed (Warned kept told) h = rw (append_nil handed) h
tallied_step k handed (StopNoted note) h = rw (append_nil handed) h
tallied_step {D} k handed (IdleIn idle) h = rw (append_nil handed) (λ n. omega (arith, h n, counted-append (is_answered_as n) k.asks.answers (answers_to k.asks.serving k.asks.turn Done), counted-answering {D = D} n k.asks.serving k.asks.turn Done))
tallied_step k handed (IdleNew idle) h = rw (append_nil handed) (λ n. omega (arith, h n, next_number n k.asks.next))
tallied_step k handed (IdleOut ticket) h = rw (append_nil handed) h
tallied_step k handed IdlesTaken h = rw (append_nil handed) h
tallied_step k handed IdleBegun h = rw (append_nil handed) h

ticketed_done : {D I P : Type 0} (w : World D I P) (c : Change D I P) → IsTicketed w → IsTicketed (world_after w c)
ticketed_done w (Put slot content) h = h
ticketed_done w (Swapped slot old new) h = h
ticketed_done w (Claim source) h = h
ticketed_done w (Polls steps) h = h
ticketed_done w (Polling poller) h = h
ticketed_done w (Watching watch) h = h
ticketed_done w (Counting places) h = h
ticketed_done w (Gathered posted given now) h = h
ticketed_done w (Appended event) h = h
ticketed_done w (Holds step) h = tallied_step w.held w.handed step h
ticketed_done w (Cut slot) h = h
ticketed_done w Ended h = h

ticketed_all : {D I P : Type 0} (w : World D I P) (cs : List (Change D I P)) → IsTicketed w → IsTicketed (world_after_all w cs)
ticketed_all w [] h = h
ticketed_all w (c ∷ cs) h = ticketed_all (world_after w c) cs (ticketed_done w c h)

ticketed_traced : {D I P : Type 0} (w : World D I P) (css : List (List (Change D I P))) → IsTicketed w → IsTicketed (all_traced w css)
ticketed_traced w [] h = h
ticketed_traced w (cs ∷ css) h = ticketed_traced (world_after_all w cs) css (ticketed_all w cs h)

module _ {D I P X : Type 0} (M : Meaning D P (Lent X (Asks D I))) (runs : Runs D I X) (O : Outside P) where
  pub run_ticketed : (calls : List (LoopCall D P X I)) (answers : List (LoopAnswer D P X I)) (csss : List (List (List (Change D I P)))) (w w' : World D I P) → Run M runs O calls answers csss w w' → IsTicketed w → IsTicketed w'
  run_ticketed [] [] [] w w' run h = rw run h
  run_ticketed (call ∷ calls) (answer ∷ answers) (css ∷ csss) w w' run h = run_ticketed calls answers csss (all_traced w css) w' run.1 (ticketed_traced w css h)
  run_ticketed calls answers csss w w' run h = absurd run

pub new_ticketed : {D I P : Type 0} (w : World D I P) → IsNew w → IsTicketed w
new_ticketed w h = rw (h.held, h.handed) (λ n. omega arith)
