use Rattle.std.proofs.Common.{ℕ, List, length, ap}
use Rattle.calloop_laws.proofs.Refuting.{one_two, zero_one, nine_seven, false_true, first_key}
use Rattle.calloop_laws.proofs.wrong_histories_are_ruled_out.Goals as goal

pub returns-clause-left_out : goal.returns-clause-left_out
returns-clause-left_out c = λ h. one_two (ap (λ (l : List ℕ). length l) h.0)

pub returns-clause-backwards : goal.returns-clause-backwards
returns-clause-backwards c = λ h. nine_seven (ap first_key h.0)

pub returns-clause-later : goal.returns-clause-later
returns-clause-later c = λ h. zero_one (ap (λ (l : List ℕ). length l) h.1.0)

pub returns-clause-count : goal.returns-clause-count
returns-clause-count c = λ h. one_two h.0

pub returns-clause-look : goal.returns-clause-look
returns-clause-look c = λ h. false_true h.0.0
