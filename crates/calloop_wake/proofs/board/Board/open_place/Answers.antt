use Rattle.std.proofs.Common.{◌≡◌, ◌∙◌, ◌≤◌, sym, ap, List, false, true, None, length, arith}
use Rattle.std.specs.Vec.{vec_capacity}
use Rattle.calloop_wake.specs.Boards.{is_open, after_open_place}
use Rattle.calloop_wake.specs.Posts.{standing_at}
use Rattle.calloop_wake.specs.Watches.{Watched, with_places}
use Rattle.calloop_wake.specs.declared.board.Place.{Place}
use Rattle.calloop_wake.proofs.Posted.{opened, is_open-places, no_place}
use Rattle.calloop_wake.proofs.board.Board.open_place.Goals as goal

pub returns-then-is_open-clause-shut : goal.returns-then-is_open-clause-shut
returns-then-is_open-clause-shut c = λ shut. (let is : true ≡ false = sym c.if-is_open.true ∙ c.is_open.ensures.value ∙ sym (is_open-places c.args.key c.self.inside.places) ∙ ap (λ (w : Watched). is_open c.args.key w.places) c.self.view_is ∙ shut in absurd (cc))

pub returns-in_err-make_room-clause-open : goal.returns-in_err-make_room-clause-open
returns-in_err-make_room-clause-open c = λ shown. (let is : false ≡ true = sym c.if-is_open.false ∙ c.is_open.ensures.value ∙ sym (is_open-places c.args.key c.self.inside.places) ∙ ap (λ (w : Watched). is_open c.args.key w.places) c.self.view_is ∙ shown in absurd (cc))

pub returns-in_err-open-clause-open : goal.returns-in_err-open-clause-open
returns-in_err-open-clause-open c = λ shown. (let is : false ≡ true = sym c.if-is_open.false ∙ c.is_open.ensures.value ∙ sym (is_open-places c.args.key c.self.inside.places) ∙ ap (λ (w : Watched). is_open c.args.key w.places) c.self.view_is ∙ shown in absurd (cc))

pub returns-clause-open : goal.returns-clause-open
returns-clause-open c = λ shown. (let is : false ≡ true = sym c.if-is_open.false ∙ c.is_open.ensures.value ∙ sym (is_open-places c.args.key c.self.inside.places) ∙ ap (λ (w : Watched). is_open c.args.key w.places) c.self.view_is ∙ shown in absurd (cc))

pub invariant_of-self-2 : goal.invariant_of-self-2
invariant_of-self-2 c =
    let none : standing_at c.args.key c.self.inside.places ≡ None = no_place _ (sym c.is_open.ensures.value ∙ c.if-is_open.false) in
    let room : length c.open.new.self ≤ vec_capacity c.make_room.new.posted = omega (arith, c.open.ensures.len, c.len.ensures.len, c.in_ok-make_room.ensures.ok) in
    rw c.make_room.ensures.items (opened c.args.key c.self.inside.places c.open.new.self c.self.inside.posted.items _ _ c.self.invariant c.requires none c.in_ok-open.ensures.ok.0 c.in_ok-open.ensures.ok.1 room).1

pub returns-clause-board : goal.returns-clause-board
returns-clause-board c =
    let none : standing_at c.args.key c.self.inside.places ≡ None = no_place _ (sym c.is_open.ensures.value ∙ c.if-is_open.false) in
    let room : length c.open.new.self ≤ vec_capacity c.make_room.new.posted = omega (arith, c.open.ensures.len, c.len.ensures.len, c.in_ok-make_room.ensures.ok) in
    let after = (opened c.args.key c.self.inside.places c.open.new.self c.self.inside.posted.items _ _ c.self.invariant c.requires none c.in_ok-open.ensures.ok.0 c.in_ok-open.ensures.ok.1 room).0 in
    ap (λ (l : List Place). record { places = l; name = c.self.inside.name }) after ∙ ap (λ (w : Watched). with_places (after_open_place c.args.key w.places) w) c.self.view_is
