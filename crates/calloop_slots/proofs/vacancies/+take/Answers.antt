use Rattle.std.proofs.Common.{◌≡◌, suc, length, ap, arith}
use Rattle.calloop_slots.proofs.Levels.{takes-slot, takes-none, takes-kept, takes-cleared}
use Rattle.calloop_slots.proofs.vacancies.+take.Goals as goal

pub returns-in_default-clause-some : goal.returns-in_default-clause-some
returns-in_default-clause-some t c = λ vacant are. takes-slot vacant c.args.place c.args.levels.now c.in_default.ensures.cases

pub returns-in_default-take-clause-none : goal.returns-in_default-take-clause-none
returns-in_default-take-clause-none t c =
    takes-none c.args.levels.now c.in-Some.level.now c.args.place c.read-word.result c.in-Some.below.now c.take.new.levels c.in-Some.ensures.cases.0 c.read-word.ensures.value (omega arith) c.read-word.type_inv c.in_default-take.ensures.none

pub returns-then-not-taken-clause-some : goal.returns-then-not-taken-clause-some
returns-then-not-taken-clause-some t c = λ vacant.
    takes-kept vacant c.args.levels.now c.in-Some.level.now c.args.place c.read-word.result c.in-Some-take.taken c.in-Some.below.now c.take.new.levels c.in-Some.ensures.cases.0 c.read-word.ensures.value (omega arith) c.read-word.type_inv c.if-not-taken.true
    (c.in-Some-take.ensures.some vacant)

pub returns-clause-some : goal.returns-clause-some
returns-clause-some t c = λ vacant.
    takes-cleared vacant c.args.levels.now c.in-Some.level.now c.write.new.self c.args.place c.read-word.result c.in-Some-take.taken c.in-Some.below.now c.take.new.levels c.in-Some.ensures.cases.0 c.read-word.ensures.value (c.read-word.ensures.within (omega arith)).0 (omega arith) c.read-word.type_inv c.write.ensures c.if-not-taken.false
    (c.in-Some-take.ensures.some vacant)

pub returns-then-word-eq0-clause-steps : goal.returns-then-word-eq0-clause-steps
returns-then-word-eq0-clause-steps t c =
    let long : length c.args.levels.now ≡ suc (length c.in-Some.below.now) =
    ap (λ l. length l) c.in-Some.ensures.cases.0 in
    omega arith
