-- The existing kinds of cells can be delivered.
use Rattle.std.proofs.Common.{◌≡◌, ℕ, zero, suc, ◌+◌, ◌-◌, ◌≤◌, Bool, true, false, ◌&&◌, ◌||◌, not, inl, inr, List, [], ◌∷◌, length, Option, Some, None, refl, ◌∙◌, ap, arith, eq-eqb}
use Rattle.std.proofs.Math.Bool.{or-true}
use Rattle.calloop_wake.specs.declared.tasks.TaskKey.{TaskKey}
use Rattle.calloop_wake.specs.Cells.{Cell, is_own}
use Rattle.calloop_wake.specs.Channels.{ChannelCell, after_pop_of, after_take_of, is_early, pops}
use Rattle.calloop_wake.specs.Executors.{ExecutorCell, after_poll_of, taken_of, after_poll}
use Rattle.calloop_wake.specs.Tasks.{is_idle, phase_at}
use Rattle.calloop_wake_laws.specs.Wakes.{Kind, WakeStep, start, after_all, IsSchedule}
use Rattle.calloop_wake_laws.specs.PingKind as ping
use Rattle.calloop_wake_laws.specs.PingKind.{PingStep, ping_kind}
use Rattle.calloop_wake_laws.specs.ChannelKind as channel
use Rattle.calloop_wake_laws.specs.ChannelKind.{ChannelPast, ChannelStep, channel_kind, channel_after}
use Rattle.calloop_wake_laws.specs.ExecutorKind as executor
use Rattle.calloop_wake_laws.specs.ExecutorKind.{ExecutorPast, ExecutorStep, executor_kind, past_after, executor_after}
use Rattle.calloop_wake_laws.specs.Kinds.{First, Second, either_kind, every_kind, Born, new_cell}
use Rattle.calloop_wake_laws.specs.Delivery.{CanBeDelivered}
use Rattle.calloop_wake_laws.proofs.Lawful.{ping_lawful}
use Rattle.calloop_wake_laws.proofs.ChannelLawful.{channel_lawful, channel_lit}
use Rattle.calloop_wake_laws.proofs.ExecutorLawful.{executor_lawful, executor_lit, pop-pops}
use Rattle.calloop_wake_laws.proofs.BothLawful.{either_lawful, first_lit, second_lit, queues_lawful, every_lawful, born_is}
use Rattle.calloop_wake_laws.proofs.Schedules.{IsLawful, kept-after_all, kept-start}
use Rattle.calloop_wake_laws.proofs.Delivery.{own_all, AllMet, AllOfTurn, CanEnd, one_step, more_steps, IsDelivered, delivered}

-- a cell's own key opens a turn if none is open
opens-own : (k : ℕ) (o : Option ℕ) (draining : Bool) → o ≡ Some k → draining ≡ false → (is_own k o && not draining) ≡ true
opens-own k o draining is quiet =
    ap (λ d. is_own k o && not d) quiet ∙ (ap (λ x. is_own k x && true) is ∙ ap (λ b. b && true) (eq-eqb k k refl))

-- Pings.

ping_pinged : (s : PingStep) (c : Cell) → c.pinged ≡ true → (ping_kind.after s c).pinged ≡ true
ping_pinged ping.Ring c h = refl
ping_pinged ping.Close c h = refl
ping_pinged ping.EndTurn c h = h

ping_delivered : IsDelivered ping_kind ping_lawful
ping_delivered = record {
  own_pinged = ping_pinged;
  opens_it = λ k c is quiet. opens-own k c.key c.draining is quiet;
  opened_draining = λ c. refl;
  ends = λ c lit stands. one_step ping_kind ping.EndTurn c 1025 (omega arith) tt stands refl;
}

-- Channels.

pop-pinged : (q : List ℕ) (c : ChannelCell ℕ) → (after_pop_of q c).cell.pinged ≡ c.cell.pinged
pop-pinged [] c = refl
pop-pinged (x ∷ xs) c = refl

pop-draining : (q : List ℕ) (c : ChannelCell ℕ) → (after_pop_of q c).cell.draining ≡ c.cell.draining
pop-draining [] c = refl
pop-draining (x ∷ xs) c = refl

take-pinged : (q : List ℕ) (c : ChannelCell ℕ) → (after_take_of q c).cell.pinged ≡ c.cell.pinged
take-pinged [] c = refl
take-pinged (x ∷ xs) c = refl

channel_pinged : (s : ChannelStep) (p : ChannelPast) → p.now.cell.pinged ≡ true → (channel_after s p).now.cell.pinged ≡ true
channel_pinged channel.Ring p h = refl
channel_pinged channel.Close p h = refl
channel_pinged channel.Pop p h = pop-pinged p.now.queue p.now ∙ h
channel_pinged channel.Take p h = take-pinged p.now.queue p.now ∙ h
channel_pinged channel.EndTurn p h = ap (λ b. is_early p.now.last || b) h ∙ or-true (is_early p.now.last)
channel_pinged (channel.Put x) p h = refl

-- the turn ends if its last pop found no message; else it makes another one, as long as it may
channel_ends : (n : ℕ) (p : ChannelPast) → p.turn.left ≡ n → p.now.cell.draining ≡ true → CanEnd channel_kind (suc n) p
channel_ends zero p left stands = one_step channel_kind channel.EndTurn p 1 (omega arith) tt (stands, inl left) refl
channel_ends (suc n) p left stands =
    elim p.turn.done as (λ b. p.turn.done ≡ b → CanEnd channel_kind (suc (suc n)) p) [
      | true ↦ λ done. one_step channel_kind channel.EndTurn p (suc (suc n)) (omega arith) tt (stands, inr done) refl
      | false ↦ λ more.
          more_steps channel_kind channel.Pop p (suc n) tt (stands, omega arith)
          (channel_ends n (channel_after channel.Pop p) (omega arith) (pop-draining p.now.queue p.now ∙ stands))
    ] refl

few_pops : (bound : Option ℕ) → pops bound ≤ 1024
few_pops None = omega arith
few_pops (Some b) = grind arith

wider : {most wide : ℕ} (K : Kind) (c : K.Cell) → most ≤ wide → CanEnd K most c → CanEnd K wide c
wider K c le e = record { steps = e.steps; of_turn = e.of_turn; few = (let f = e.few in omega arith); met = e.met; over = e.over }

channel_delivered : IsDelivered channel_kind channel_lawful
channel_delivered = record {
  own_pinged = channel_pinged;
  opens_it = λ k p is quiet. opens-own k p.now.cell.key p.now.cell.draining is quiet;
  opened_draining = λ p. refl;
  ends = λ p lit stands. wider channel_kind p (let b = (channel_lit p lit).bounded in let f = few_pops p.now.bound in omega arith) (channel_ends p.turn.left p refl stands);
}

-- Executors.

after_poll-pinged : (o : Option TaskKey) (finished : Bool) (c : ExecutorCell) → (after_poll_of o finished c).pinged ≡ c.pinged
after_poll-pinged None finished c = refl
after_poll-pinged (Some key) true c = refl
after_poll-pinged (Some key) false c = refl

after_poll-draining : (o : Option TaskKey) (finished : Bool) (c : ExecutorCell) → (after_poll_of o finished c).draining ≡ c.draining
after_poll-draining None finished c = refl
after_poll-draining (Some key) true c = refl
after_poll-draining (Some key) false c = refl

taken-pinged : (q : List ℕ) (c : ExecutorCell) → (taken_of q c).pinged ≡ c.pinged
taken-pinged [] c = refl
taken-pinged (slot ∷ rest) c = refl

taken-draining : (q : List ℕ) (c : ExecutorCell) → (taken_of q c).draining ≡ c.draining
taken-draining [] c = refl
taken-draining (slot ∷ rest) c = refl

executor_pinged : (s : ExecutorStep) (c : ExecutorCell) → c.pinged ≡ true → (executor_after s c).pinged ≡ true
executor_pinged (executor.Put slot home) c h = refl
executor_pinged (executor.Wake key) c h = ap (λ b. is_idle (phase_at key c.tasks) || b) h ∙ or-true (is_idle (phase_at key c.tasks))
executor_pinged (executor.Pop finished) c h = taken-pinged _ (after_poll finished c) ∙ (after_poll-pinged c.progress.polled finished c ∙ h)
executor_pinged (executor.EndTurn finished) c h =
    ap (λ b. b || not (after_poll finished c).progress.dry) (after_poll-pinged c.progress.polled finished c ∙ h)

executor_ends : (n : ℕ) (p : ExecutorPast) → n + p.now.progress.pops ≡ 1024 → p.now.draining ≡ true → CanEnd executor_kind (suc n) p
executor_ends zero p all stands =
    let done : p.now.progress.pops ≡ 1024 = omega arith in
    one_step executor_kind (executor.EndTurn false) p 1 (omega arith) tt (stands, inr done, λ e. absurd (cc)) refl
executor_ends (suc n) p all stands =
    elim p.now.progress.dry as (λ b. p.now.progress.dry ≡ b → CanEnd executor_kind (suc (suc n)) p) [
      | true ↦ λ dry. one_step executor_kind (executor.EndTurn false) p (suc (suc n)) (omega arith) tt (stands, inl dry, λ e. absurd (cc)) refl
      | false ↦ λ wet.
          more_steps executor_kind (executor.Pop false) p (suc n) tt (stands, wet, omega arith, λ e. absurd (cc))
          (executor_ends n (past_after (executor.Pop false) p) (let e = pop-pops false p.now in omega arith)
          (taken-draining _ (after_poll false p.now) ∙ (after_poll-draining p.now.progress.polled false p.now ∙ stands)))
    ] refl

executor_delivered : IsDelivered executor_kind executor_lawful
executor_delivered = record {
  own_pinged = λ s p h. executor_pinged s p.now h;
  opens_it = λ k p is quiet. opens-own k p.now.key p.now.draining is quiet;
  opened_draining = λ p. refl;
  ends = λ p lit stands. wider executor_kind p (omega arith) (executor_ends (1024 - p.now.progress.pops) p (let f = (executor_lit p lit).few in omega arith) stands);
}

-- Two kinds together.

module _ (K L : Kind) (k_law : IsLawful K) (l_law : IsLawful L) (k_more : IsDelivered K k_law) (l_more : IsDelivered L l_law) where
  abbrev firsts : List K.Own → List (either_kind K L).Own
  firsts [] = []
  firsts (s ∷ ss) = First s ∷ firsts ss

  abbrev seconds : List L.Own → List (either_kind K L).Own
  seconds [] = []
  seconds (s ∷ ss) = Second s ∷ seconds ss

  firsts_of : (ss : List K.Own) → AllOfTurn K ss → AllOfTurn (either_kind K L) (firsts ss)
  firsts_of [] h = tt
  firsts_of (s ∷ ss) h = (h.0, firsts_of ss h.1)

  seconds_of : (ss : List L.Own) → AllOfTurn L ss → AllOfTurn (either_kind K L) (seconds ss)
  seconds_of [] h = tt
  seconds_of (s ∷ ss) h = (h.0, seconds_of ss h.1)

  firsts_long : (ss : List K.Own) → length (firsts ss) ≡ length ss
  firsts_long [] = refl
  firsts_long (s ∷ ss) = ap (λ n. suc n) (firsts_long ss)

  seconds_long : (ss : List L.Own) → length (seconds ss) ≡ length ss
  seconds_long [] = refl
  seconds_long (s ∷ ss) = ap (λ n. suc n) (seconds_long ss)

  firsts_met : (c : K.Cell) (ss : List K.Own) → AllMet K c ss → AllMet (either_kind K L) (First c) (firsts ss)
  firsts_met c [] h = tt
  firsts_met c (s ∷ ss) h = (h.0, firsts_met (K.after s c) ss h.1)

  seconds_met : (d : L.Cell) (ss : List L.Own) → AllMet L d ss → AllMet (either_kind K L) (Second d) (seconds ss)
  seconds_met d [] h = tt
  seconds_met d (s ∷ ss) h = (h.0, seconds_met (L.after s d) ss h.1)

  firsts_are : (c : K.Cell) (ss : List K.Own) → own_all (either_kind K L) (First c) (firsts ss) ≡ First (own_all K c ss)
  firsts_are c [] = refl
  firsts_are c (s ∷ ss) = firsts_are (K.after s c) ss

  seconds_are : (d : L.Cell) (ss : List L.Own) → own_all (either_kind K L) (Second d) (seconds ss) ≡ Second (own_all L d ss)
  seconds_are d [] = refl
  seconds_are d (s ∷ ss) = seconds_are (L.after s d) ss

  first_ends : (c : K.Cell) (most : ℕ) → CanEnd K most c → CanEnd (either_kind K L) most (First c)
  first_ends c most e = record {
    steps = firsts e.steps;
    of_turn = firsts_of e.steps e.of_turn;
    few = (let f = e.few in let l = firsts_long e.steps in omega arith);
    met = firsts_met c e.steps e.met;
    over = ap (either_kind K L).draining (firsts_are c e.steps) ∙ e.over;
  }

  second_ends : (d : L.Cell) (most : ℕ) → CanEnd L most d → CanEnd (either_kind K L) most (Second d)
  second_ends d most e = record {
    steps = seconds e.steps;
    of_turn = seconds_of e.steps e.of_turn;
    few = (let f = e.few in let l = seconds_long e.steps in omega arith);
    met = seconds_met d e.steps e.met;
    over = ap (either_kind K L).draining (seconds_are d e.steps) ∙ e.over;
  }

  own_pinged : (s : (either_kind K L).Own) (c : (either_kind K L).Cell) → (either_kind K L).pinged c ≡ true → (either_kind K L).pinged ((either_kind K L).after s c) ≡ true
  own_pinged (First s) (First c) h = k_more.own_pinged s c h
  own_pinged (First s) (Second d) h = h
  own_pinged (Second s) (First c) h = h
  own_pinged (Second s) (Second d) h = l_more.own_pinged s d h

  opens_it : (k : ℕ) (c : (either_kind K L).Cell) → (either_kind K L).key c ≡ Some k → (either_kind K L).draining c ≡ false → (either_kind K L).opens k c ≡ true
  opens_it k (First c) is quiet = k_more.opens_it k c is quiet
  opens_it k (Second d) is quiet = l_more.opens_it k d is quiet

  opened_draining : (c : (either_kind K L).Cell) → (either_kind K L).draining ((either_kind K L).opened c) ≡ true
  opened_draining (First c) = k_more.opened_draining c
  opened_draining (Second d) = l_more.opened_draining d

  either_ends : (c : (either_kind K L).Cell) → (either_lawful K L k_law l_law).IsLit c → (either_kind K L).draining c ≡ true → CanEnd (either_kind K L) 1025 c
  either_ends (First c) lit stands = first_ends c 1025 (k_more.ends c (first_lit K L k_law l_law c lit) stands)
  either_ends (Second d) lit stands = second_ends d 1025 (l_more.ends d (second_lit K L k_law l_law d lit) stands)

  either_delivered : IsDelivered (either_kind K L) (either_lawful K L k_law l_law)
  either_delivered = record { own_pinged = own_pinged; opens_it = opens_it; opened_draining = opened_draining; ends = either_ends }

queues_delivered : IsDelivered (either_kind channel_kind executor_kind) queues_lawful
queues_delivered = either_delivered channel_kind executor_kind channel_lawful executor_lawful channel_delivered executor_delivered

every_delivered : IsDelivered every_kind every_lawful
every_delivered = either_delivered ping_kind (either_kind channel_kind executor_kind) ping_lawful queues_lawful ping_delivered queues_delivered

pub delivered-cells : (born : ℕ → Born) (ss : List (WakeStep every_kind.Own)) → IsSchedule every_kind (start (λ n. new_cell (born n))) ss → (n k : ℕ)
    → every_kind.pinged ((after_all every_kind (start (λ m. new_cell (born m))) ss).cells n) ≡ true → every_kind.key ((after_all every_kind (start (λ m. new_cell (born m))) ss).cells n) ≡ Some k
    → CanBeDelivered every_kind (after_all every_kind (start (λ m. new_cell (born m))) ss) n k
delivered-cells born ss met n k pinged key =
    delivered every_kind every_lawful every_delivered (after_all every_kind (start (λ m. new_cell (born m))) ss) n k
    (kept-after_all every_kind every_lawful (start (λ m. new_cell (born m))) ss met (kept-start every_kind every_lawful (λ m. new_cell (born m)) (λ m. born_is (born m)))) pinged key
