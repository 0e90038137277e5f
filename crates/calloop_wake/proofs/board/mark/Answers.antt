use Rattle.std.proofs.Common.{◌∙◌, ◌≡◌, sym, arith, vec_capacity, Some, None}
use Rattle.calloop_wake.specs.Posts.{standing_at}
use Rattle.calloop_wake.proofs.Posted.{quiet_is, not_anew, marked, wakes-places, room_left}
use Rattle.calloop_wake.proofs.board.mark.Goals as goal

pub returns-then-not-is_quiet-clause-wakes : goal.returns-then-not-is_quiet-clause-wakes
returns-then-not-is_quiet-clause-wakes c = sym (wakes-places c.args.key c.args.places.now c.requires.ascending ∙ sym c.is_quiet.ensures.value ∙ c.if-not-is_quiet.true)

pub returns-then-not-is_quiet-clause-places : goal.returns-then-not-is_quiet-clause-places
returns-then-not-is_quiet-clause-places c = not_anew c.args.key c.args.places.now c.requires.ascending (sym c.is_quiet.ensures.value ∙ c.if-not-is_quiet.true)

pub push_reserved-requires : goal.push_reserved-requires
push_reserved-requires c =
    let quiet : standing_at c.args.key c.args.places.now ≡ Some None = quiet_is _ (sym c.is_quiet.ensures.value ∙ c.if-not-is_quiet.false) in
    let left = room_left c.args.key c.args.places.now c.args.posted.now.items _ c.requires quiet in
    omega (arith, left, c.requires.room, c.args.posted.now.ok.0)

pub returns-clause-wakes : goal.returns-clause-wakes
returns-clause-wakes c = sym (wakes-places c.args.key c.args.places.now c.requires.ascending ∙ sym c.is_quiet.ensures.value ∙ c.if-not-is_quiet.false)

pub returns-clause-places : goal.returns-clause-places
returns-clause-places c =
    let quiet : standing_at c.args.key c.args.places.now ≡ Some None = quiet_is _ (sym c.is_quiet.ensures.value ∙ c.if-not-is_quiet.false) in
    (marked c.args.key c.len.result c.args.places.now c.note.new.self c.args.posted.now.items c.push_reserved.new.self.items _ (vec_capacity c.push_reserved.new.self) c.requires quiet (omega (arith, c.len.ensures, c.args.posted.now.ok.0))
    c.note.ensures.updates c.note.ensures.keys c.note.ensures.len c.push_reserved.ensures.items (omega (arith, c.push_reserved.ensures.capacity))).0

pub returns-clause-board : goal.returns-clause-board
returns-clause-board c =
    let quiet : standing_at c.args.key c.args.places.now ≡ Some None = quiet_is _ (sym c.is_quiet.ensures.value ∙ c.if-not-is_quiet.false) in
    (marked c.args.key c.len.result c.args.places.now c.note.new.self c.args.posted.now.items c.push_reserved.new.self.items _ (vec_capacity c.push_reserved.new.self) c.requires quiet (omega (arith, c.len.ensures, c.args.posted.now.ok.0))
    c.note.ensures.updates c.note.ensures.keys c.note.ensures.len c.push_reserved.ensures.items (omega (arith, c.push_reserved.ensures.capacity))).1
