-- Turns that pop as often as they may: what each of their rounds finds and leaves.
use Rattle.std.proofs.Common.{◌≡◌, ℕ, zero, suc, ◌+◌, ◌<◌, true, false, [], ◌∷◌, ◌++◌, Option, Some, None, refl, sym, ◌∙◌, ap, subst, arith, inl, inr}
use Rattle.std.specs.Prelude.{IsSome}
use Rattle.calloop_wake.specs.declared.tasks.Phase.TheVariants.{Polling, Queued, Woken}
use Rattle.calloop_wake.specs.declared.tasks.Task.{Task}
use Rattle.calloop_wake.specs.declared.tasks.TaskKey.{TaskKey}
use Rattle.calloop_wake.specs.Channels.{after_pop_of, has_room, is_below}
use Rattle.calloop_wake_laws.specs.ChannelKind as channel
use Rattle.calloop_wake_laws.specs.ChannelKind.{ChannelPast, ChannelStep, channel_kind, channel_needs, channel_after}
use Rattle.calloop_wake.specs.Executors.{ExecutorCell, after_poll_of, taken_of, after_take, after_pop, after_wake, key_in, in_its_poll}
use Rattle.calloop_wake.specs.Tasks.{is_woken, is_idle, phase_if, after_step, phase_after_pending, woken_phase, slot_if}
use Rattle.calloop_wake_laws.specs.ExecutorKind as executor
use Rattle.calloop_wake_laws.specs.ExecutorKind.{ExecutorPast, ExecutorStep, executor_kind, executor_needs, past_after}
use Rattle.calloop_wake_laws.specs.PingKind.{ping_kind}
use Rattle.calloop_wake_laws.specs.Kinds.{First, Second, either_kind, either_needs, either_after, every_kind}
use Rattle.calloop_wake_laws.specs.Wakes.{WakeWorld, WakeStep, At, Needs, after, IsSchedule}
use Rattle.calloop_wake_laws.specs.ExampleSchedules.{repeat}

-- A step of the channel, or of the executor, that is cell 0.

of_channel : ChannelStep → WakeStep every_kind.Own
of_channel s = At 0 (Second (First s))

of_executor : ExecutorStep → WakeStep every_kind.Own
of_executor s = At 0 (Second (Second s))

channel_met : (w : WakeWorld every_kind.Cell) (p : ChannelPast) (s : ChannelStep) → w.cells 0 ≡ Second (First p) → channel_needs s p → Needs every_kind w (At 0 (Second (First s)))
channel_met w p s is h = subst (λ (c : every_kind.Cell). either_needs ping_kind (either_kind channel_kind executor_kind) (Second (First s)) c) (sym is) h

channel_done : (w : WakeWorld every_kind.Cell) (p : ChannelPast) (s : ChannelStep) → w.cells 0 ≡ Second (First p) → (after every_kind w (At 0 (Second (First s)))).cells 0 ≡ Second (First (channel_after s p))
channel_done w p s is = ap (λ (c : every_kind.Cell). either_after ping_kind (either_kind channel_kind executor_kind) (Second (First s)) c) is

executor_met : (w : WakeWorld every_kind.Cell) (p : ExecutorPast) (s : ExecutorStep) → w.cells 0 ≡ Second (Second p) → executor_needs s p.now → Needs every_kind w (At 0 (Second (Second s)))
executor_met w p s is h = subst (λ (c : every_kind.Cell). either_needs ping_kind (either_kind channel_kind executor_kind) (Second (Second s)) c) (sym is) h

executor_done : (w : WakeWorld every_kind.Cell) (p : ExecutorPast) (s : ExecutorStep) → w.cells 0 ≡ Second (Second p) → (after every_kind w (At 0 (Second (Second s)))).cells 0 ≡ Second (Second (past_after s p))
executor_done w p s is = ap (λ (c : every_kind.Cell). either_after ping_kind (either_kind channel_kind executor_kind) (Second (Second s)) c) is

-- an open turn that may make so many further pops, and message 5 is there
pub record HasFive (left : ℕ) (p : ChannelPast) : Type 0 where
  pub draining : p.now.cell.draining ≡ true
  pub gone : p.now.cell.gone ≡ false
  pub queue : p.now.queue ≡ 5 ∷ []
  pub bound : p.now.bound ≡ None
  pub left_are : p.turn.left ≡ left

five_behind : (n : ℕ) (p : ChannelPast) → HasFive (suc n) p → HasFive n (channel_after (channel.Put 5) (channel_after channel.Pop p))
five_behind n p h =
    record {
      draining = ap (λ q. (after_pop_of q p.now).cell.draining) h.queue ∙ h.draining;
      gone = ap (λ q. (after_pop_of q p.now).cell.gone) h.queue ∙ h.gone;
      queue = ap (λ q. (after_pop_of q p.now).queue ++ 5 ∷ []) h.queue;
      bound = ap (λ q. (after_pop_of q p.now).bound) h.queue ∙ h.bound;
      left_are = let e = h.left_are in omega arith;
    }

room_behind : (n : ℕ) (p : ChannelPast) → HasFive (suc n) p → channel_needs (channel.Put 5) (channel_after channel.Pop p)
room_behind n p h = (
  ap (λ q. (after_pop_of q p.now).cell.gone) h.queue ∙ h.gone,
  ap (λ q. has_room (after_pop_of q p.now)) h.queue ∙ ap (λ b. is_below 0 b) h.bound,
)

pub rounds_of_pops : (n : ℕ) (w : WakeWorld every_kind.Cell) (p : ChannelPast) → w.cells 0 ≡ Second (First p) → HasFive n p
    → IsSchedule every_kind w (repeat n (At 0 (Second (First channel.Pop)) ∷ At 0 (Second (First (channel.Put 5))) ∷ []) (At 0 (Second (First channel.EndTurn)) ∷ []))
rounds_of_pops zero w p is h = (channel_met w p channel.EndTurn is (h.draining, inl h.left_are), tt)
rounds_of_pops (suc n) w p is h =
    let popped : ChannelPast = channel_after channel.Pop p in
    let behind : WakeWorld every_kind.Cell = after every_kind w (At 0 (Second (First channel.Pop))) in
    let at = channel_done w p channel.Pop is in
    let left : 0 < p.turn.left = (let e = h.left_are in omega arith) in (
      channel_met w p channel.Pop is (h.draining, left),
      (
        channel_met behind popped (channel.Put 5) at (room_behind n p h),
        rounds_of_pops n (after every_kind behind (At 0 (Second (First (channel.Put 5))))) (channel_after (channel.Put 5) popped) (channel_done behind popped (channel.Put 5) at) (five_behind n p h),
      ),
    )

-- The same of a task that is woken in each of its polls.

first_task : TaskKey
first_task = record { slot = 3; number = 0 }

-- an open turn that popped so often, last the first task, which was woken in its poll
pub record IsPolled (pops : ℕ) (c : ExecutorCell) : Type 0 where
  pub draining : c.draining ≡ true
  pub dry : c.progress.dry ≡ false
  pub pops_are : c.progress.pops ≡ pops
  pub queue : c.queue ≡ []
  pub polled : c.progress.polled ≡ Some (record { slot = 3; number = 0 })
  pub task : c.tasks 3 ≡ Some (record { number = 0; phase = Woken; home = 0 })

-- the task is queued again, and popped
popped_again : (m : ℕ) (c : ExecutorCell) → IsPolled m c → IsPolled (m + 1) (after_wake (record { slot = 3; number = 0 }) (after_pop false c))
popped_again m c h =
    let ended : ExecutorCell = after_poll_of (Some (record { slot = 3; number = 0 })) false c in
    let same : after_pop false c ≡ taken_of ended.queue ended = ap (λ o. after_take (after_poll_of o false c)) h.polled in
    let queued : ended.queue ≡ 3 ∷ [] =
    ap (λ q. q ++ slot_if (is_woken (phase_if 0 (c.tasks 3))) 3) h.queue ∙ ap (λ (t : Option Task). slot_if (is_woken (phase_if 0 t)) 3) h.task in
    let there : ended.tasks 3 ≡ Some (record { number = 0; phase = Queued; home = 0 }) = ap (λ (t : Option Task). after_step phase_after_pending 0 t) h.task in
    let taken : ExecutorCell = taken_of (3 ∷ []) ended in
    let is : after_pop false c ≡ taken = same ∙ ap (λ q. taken_of q ended) queued in
    let running : taken.tasks 3 ≡ Some (record { number = 0; phase = Polling; home = 0 }) = ap in_its_poll there in
    subst (λ (d : ExecutorCell). IsPolled (m + 1) (after_wake (record { slot = 3; number = 0 }) d)) (sym is)
    (record {
      draining = h.draining;
      dry = refl;
      pops_are = ap (λ n. n + 1) h.pops_are;
      queue = ap (λ (t : Option Task). slot_if (is_idle (phase_if 0 t)) 3) running;
      polled = ap (λ (t : Option Task). key_in 3 t) there;
      task = ap (λ (t : Option Task). after_step woken_phase 0 t) running;
    })

pub rounds_of_polls : (n m : ℕ) (w : WakeWorld every_kind.Cell) (p : ExecutorPast) → n + m ≡ 1024 → w.cells 0 ≡ Second (Second p) → IsPolled m p.now
    → IsSchedule every_kind w
    (repeat n (At 0 (Second (Second (executor.Pop false))) ∷ At 0 (Second (Second (executor.Wake (record { slot = 3; number = 0 })))) ∷ []) (At 0 (Second (Second (executor.EndTurn true))) ∷ []))
rounds_of_polls zero m w p all is h =
    let done : p.now.progress.pops ≡ 1024 = (let e = h.pops_are in omega arith) in
    (executor_met w p (executor.EndTurn true) is (h.draining, inr done, λ _. subst (λ (o : Option TaskKey). IsSome o) (sym h.polled) refl), tt)
rounds_of_polls (suc n) m w p all is h =
    let popped : ExecutorPast = past_after (executor.Pop false) p in
    let behind : WakeWorld every_kind.Cell = after every_kind w (At 0 (Second (Second (executor.Pop false)))) in
    let at = executor_done w p (executor.Pop false) is in
    let few : p.now.progress.pops < 1024 = (let e = h.pops_are in omega arith) in
    let woken : ExecutorStep = executor.Wake (record { slot = 3; number = 0 }) in (
      executor_met w p (executor.Pop false) is (h.draining, h.dry, few, λ e. absurd (cc)),
      (
        executor_met behind popped woken at tt,
        rounds_of_polls n (m + 1) (after every_kind behind (At 0 (Second (Second woken)))) (past_after woken popped) (omega arith) (executor_done behind popped woken at) (popped_again m p.now h),
      ),
    )
