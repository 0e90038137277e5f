use Rattle.std.proofs.Common.{◌<◌, [], ◌∷◌, true, false, refl, arith}
use Rattle.calloop_wake_laws.specs.ChannelKind as channel
use Rattle.calloop_wake_laws.specs.ExecutorKind as executor
use Rattle.calloop_wake_laws.specs.ExampleSchedules.{opens_channel, opens_executor, repeat}
use Rattle.calloop_wake_laws.specs.Kinds.{First, Second, every_kind}
use Rattle.calloop_wake_laws.specs.Lost.{of_channels, of_executors}
use Rattle.calloop_wake_laws.specs.Wakes.{At, IsSchedule, after_all}
use Rattle.calloop_wake_laws.proofs.Delivery.{schedule-append}
use Rattle.calloop_wake_laws.proofs.Turns.{rounds_of_pops, rounds_of_polls}
use Rattle.calloop_wake_laws.proofs.turns_that_end_at_their_bound.Goals as goal

one_more : 0 < 1
one_more = omega arith

opens_met : IsSchedule every_kind of_channels opens_channel
opens_met = (refl, (one_more, ((refl, refl), (one_more, (tt, (one_more, tt))))))

polls_met : IsSchedule every_kind of_executors opens_executor
polls_met = (refl, (one_more, ((refl, refl), (one_more, (tt, (one_more, ((refl, refl, omega arith, λ e. absurd (cc)), (tt, tt))))))))

pub returns-clause-pops : goal.returns-clause-pops
returns-clause-pops c =
    schedule-append every_kind of_channels opens_channel
    (repeat 1024 (At 0 (Second (First channel.Pop)) ∷ At 0 (Second (First (channel.Put 5))) ∷ []) (At 0 (Second (First channel.EndTurn)) ∷ [])) opens_met
    (rounds_of_pops 1024 (after_all every_kind of_channels opens_channel) _ refl (record { draining = refl; gone = refl; queue = refl; bound = refl; left_are = refl }))

pub returns-clause-polls : goal.returns-clause-polls
returns-clause-polls c =
    schedule-append every_kind of_executors opens_executor
    (repeat 1023 (At 0 (Second (Second (executor.Pop false))) ∷ At 0 (Second (Second (executor.Wake (record { slot = 3; number = 0 })))) ∷ [])
    (At 0 (Second (Second (executor.EndTurn true))) ∷ [])) polls_met
    (rounds_of_polls 1023 1 (after_all every_kind of_executors opens_executor) _ (omega arith) refl
    (record { draining = refl; dry = refl; pops_are = refl; queue = refl; polled = refl; task = refl }))
