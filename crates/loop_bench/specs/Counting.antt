-- What the callbacks of the rows do.
use Rattle.std.specs.Prelude.{◌≡◌, ℕ, ◌+◌, ◌-◌, ◌^◌, min, Result, Ok, MatchResult}
use Rattle.calloop_slots.specs.declared.wheel.Instant.{Instant}
use Rattle.calloop_sources.specs.declared.timer.TimeoutAction.{TimeoutAction}
use Rattle.calloop_sources.specs.declared.timer.TimeoutAction.TheVariants.{Drop}
use Rattle.calloop_ends.specs.declared.channel.Event.{Event}
use Rattle.loop_bench.specs.declared.bench.Counts.{Counts}
use Rattle.std.specs.declared.io.Error.{Error as Cause}
use Rattle.calloop_poll.specs.declared.sys.Readiness.{Readiness}
use Rattle.calloop_sources.specs.declared.sources.source.PostAction.{PostAction}
use Rattle.calloop_sources.specs.declared.sources.source.PostAction.TheVariants.{Continue}
use Rattle.calloop_sources.specs.declared.generic.NoIoDrop.{NoIoDrop}

-- another call, up to the greatest number of 64 bits
abbrev pub one_call_more : ℕ → ℕ
one_call_more calls = min (calls + 1) (2 ^ 64 - 1)

-- each call is counted in the data that the dispatch lends
abbrev pub counts : {Q : Type 0} → Counts → Unit {0} → Unit {0} → ℕ → Q → Unit {0}
    → Counts → Unit {0} → ℕ → Q → Type 0
counts callback event metadata calls asked answer after metadata' calls' asked' = calls' ≡ one_call_more calls

-- each message, too
abbrev pub counts_events : {Q : Type 0} → Counts → Event ℕ → Unit {0} → ℕ → Q → Unit {0}
    → Counts → Unit {0} → ℕ → Q → Type 0
counts_events callback event metadata calls asked answer after metadata' calls' asked' = calls' ≡ one_call_more calls

-- each call of a timer, too, which then leaves the loop
abbrev pub counts_and_leaves : {Q : Type 0} → Counts → Instant → Unit {0} → ℕ → Q → TimeoutAction
    → Counts → Unit {0} → ℕ → Q → Type 0
counts_and_leaves callback deadline metadata calls asked answer after metadata' calls' asked' =
    (answer ≡ Drop) × (calls' ≡ one_call_more calls)

-- each call of a socket, too, which goes on, and is left as it is
abbrev pub counts_and_stays : {I Q : Type 0} → Counts → Readiness → NoIoDrop I → ℕ → Q → Result PostAction Cause
    → Counts → NoIoDrop I → ℕ → Q → Type 0
counts_and_stays callback readiness io calls asked answer after io' calls' asked' =
    (answer ≡ Ok Continue) × (io' ≡ io) × (calls' ≡ one_call_more calls)

-- each call of a socket whose byte is read, too, which goes on; if it can't be read, nothing is counted. What becomes of the
-- socket isn't said
abbrev pub counts_and_reads : {B I Q : Type 0} → B → Readiness → NoIoDrop I → ℕ → Q → Result PostAction Cause
    → B → NoIoDrop I → ℕ → Q → Type 0
counts_and_reads callback readiness io calls asked answer after io' calls' asked' =
    MatchResult answer (λ action. (action ≡ Continue) × (calls' ≡ one_call_more calls)) (λ _. calls' ≡ calls)
