-- How a source is registered, and the calls that change its registration.
use Rattle.calloop_slots.specs.declared.token.TokenFactory.{TokenFactory}
use Rattle.calloop_slots.specs.declared.token.RegistrationToken.{RegistrationToken}
use Rattle.calloop_sources.specs.sources.Deeds.{Deed, Registered, Reregistered}
use Rattle.calloop_loop.specs.declared.LoopCall.{LoopCall}
use Rattle.calloop_loop.specs.declared.LoopCall.TheVariants.{Enable as EnableCall, Update as UpdateCall, Disable as DisableCall}
use Rattle.calloop_loop.specs.declared.LoopAnswer.{LoopAnswer}
use Rattle.calloop_loop.specs.declared.LoopAnswer.TheVariants.{Enabled, Updated, Disabled}
use Rattle.calloop_loop.specs.declared.asks.Request.{Request}
use Rattle.calloop_loop.specs.declared.asks.Request.TheVariants.{Enable as AskEnable, Update as AskUpdate, Disable as AskDisable}
use Rattle.calloop_loop.specs.declared.registering.Registering.{Registering}
use Rattle.calloop_loop.specs.declared.registering.Registering.TheVariants.{First, Anew}
use Rattle.calloop_loop.specs.declared.registering.RegistrationCall.{RegistrationCall}
use Rattle.calloop_loop.specs.declared.registering.RegistrationCall.TheVariants.{Enable, Update, Disable}
use Rattle.calloop_loop.specs.Rules.{Outcome}

-- the call of the source for such a registration
abbrev pub deed_of : {T : Type 0} → Registering → TokenFactory → Outcome → TokenFactory → Deed T
deed_of First = Registered
deed_of Anew = Reregistered

-- such a change as a call of the loop, and its answer
abbrev pub loop_call_of : {D P X I : Type 0} → RegistrationCall → RegistrationToken → LoopCall D P X I
loop_call_of Enable token = EnableCall token
loop_call_of Update token = UpdateCall token
loop_call_of Disable token = DisableCall token

abbrev pub loop_answer_of : {D P X I : Type 0} → RegistrationCall → Outcome → LoopAnswer D P X I
loop_answer_of Enable answer = Enabled answer
loop_answer_of Update answer = Updated answer
loop_answer_of Disable answer = Disabled answer

-- such a change as a request
abbrev pub request_for : {D I : Type 0} → RegistrationCall → RegistrationToken → Request D I
request_for Enable token = AskEnable token
request_for Update token = AskUpdate token
request_for Disable token = AskDisable token
