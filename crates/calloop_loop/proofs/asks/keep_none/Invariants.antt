use Rattle.std.proofs.Common.{◌≡◌}
use Rattle.calloop_loop.specs.Askings.{not_kept_for}
use Rattle.calloop_loop.proofs.Keeping.{partly}
use Rattle.std.specs.Prelude.{vec_len, vec_capacity}
use Rattle.calloop_loop.proofs.asks.keep_none.Given as goal

abbrev pub invariant-loop-place : goal.invariant-loop-place
invariant-loop-place g l = (l.answers.items ≡ partly (not_kept_for l.token) l.place l.initial.answers.items) × (vec_len l.answers ≡ vec_len l.initial.answers) × (vec_capacity l.answers ≡ vec_capacity l.initial.answers)
