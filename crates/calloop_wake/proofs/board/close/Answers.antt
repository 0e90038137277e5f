use Rattle.std.proofs.Common.{◌<◌, ◌≤◌, sym, arith, length}
use Rattle.calloop_wake.proofs.Posted.{out, not_posted, closed_quiet, closed_last, closed_moved, closed_posted, moved_stands, is_there}
use Rattle.calloop_wake.proofs.board.close.Goals as goal

pub returns-then-at-len-clause-places : goal.returns-then-at-len-clause-places
returns-then-at-len-clause-places c =
    let o = out c.args.places.now c.args.posted.now.items c.swap_remove.new.self.items _ c.args.key c.in-Some.at c.swap_remove.result _ _ c.requires (sym c.in-Some.ensures.value) c.swap_remove.ensures.value c.swap_remove.ensures.items c.swap_remove.new.self.ok.0 c.args.posted.now.ok.0 c.swap_remove.ensures.len c.swap_remove.ensures.by_index.0 c.swap_remove.ensures.by_index.1 in
    let lt : c.in-Some.at < length c.swap_remove.new.self.items = omega (arith, c.if-at-len.true, c.len.ensures, c.swap_remove.new.self.ok.0) in
    let stands = moved_stands c.args.key c.in-Some.at c.index.result.now c.args.places.now c.close.new.self c.args.posted.now.items c.swap_remove.new.self.items _ c.requires o c.close.ensures.entries lt (sym c.index.ensures) in
    (closed_moved c.args.key c.in-Some.at c.index.result.now c.args.places.now c.close.new.self c.note.new.self c.args.posted.now.items c.swap_remove.new.self.items _ c.requires o c.close.ensures.entries c.close.ensures.updates c.close.ensures.len lt (sym c.index.ensures)
    (c.note.ensures.updates (is_there _ stands)) c.note.ensures.keys c.note.ensures.len).0

pub returns-then-at-len-clause-board : goal.returns-then-at-len-clause-board
returns-then-at-len-clause-board c =
    let o = out c.args.places.now c.args.posted.now.items c.swap_remove.new.self.items _ c.args.key c.in-Some.at c.swap_remove.result _ _ c.requires (sym c.in-Some.ensures.value) c.swap_remove.ensures.value c.swap_remove.ensures.items c.swap_remove.new.self.ok.0 c.args.posted.now.ok.0 c.swap_remove.ensures.len c.swap_remove.ensures.by_index.0 c.swap_remove.ensures.by_index.1 in
    rw c.swap_remove.ensures.capacity (
    let lt : c.in-Some.at < length c.swap_remove.new.self.items = omega (arith, c.if-at-len.true, c.len.ensures, c.swap_remove.new.self.ok.0) in
    let stands = moved_stands c.args.key c.in-Some.at c.index.result.now c.args.places.now c.close.new.self c.args.posted.now.items c.swap_remove.new.self.items _ c.requires o c.close.ensures.entries lt (sym c.index.ensures) in
    (closed_moved c.args.key c.in-Some.at c.index.result.now c.args.places.now c.close.new.self c.note.new.self c.args.posted.now.items c.swap_remove.new.self.items _ c.requires o c.close.ensures.entries c.close.ensures.updates c.close.ensures.len lt (sym c.index.ensures)
    (c.note.ensures.updates (is_there _ stands)) c.note.ensures.keys c.note.ensures.len).1)

pub returns-else-at-len-clause-places : goal.returns-else-at-len-clause-places
returns-else-at-len-clause-places c =
    let o = out c.args.places.now c.args.posted.now.items c.swap_remove.new.self.items _ c.args.key c.in-Some.at c.swap_remove.result _ _ c.requires (sym c.in-Some.ensures.value) c.swap_remove.ensures.value c.swap_remove.ensures.items c.swap_remove.new.self.ok.0 c.args.posted.now.ok.0 c.swap_remove.ensures.len c.swap_remove.ensures.by_index.0 c.swap_remove.ensures.by_index.1 in
    (closed_posted c.args.key c.in-Some.at c.args.places.now c.close.new.self c.args.posted.now.items c.swap_remove.new.self.items _ c.requires o c.close.ensures.entries).0

pub returns-else-at-len-clause-board : goal.returns-else-at-len-clause-board
returns-else-at-len-clause-board c =
    let o = out c.args.places.now c.args.posted.now.items c.swap_remove.new.self.items _ c.args.key c.in-Some.at c.swap_remove.result _ _ c.requires (sym c.in-Some.ensures.value) c.swap_remove.ensures.value c.swap_remove.ensures.items c.swap_remove.new.self.ok.0 c.args.posted.now.ok.0 c.swap_remove.ensures.len c.swap_remove.ensures.by_index.0 c.swap_remove.ensures.by_index.1 in
    let end : length c.swap_remove.new.self.items ≤ c.in-Some.at = omega (arith, c.if-at-len.false, c.len.ensures, c.swap_remove.new.self.ok.0) in
    rw c.swap_remove.ensures.capacity (closed_last c.args.key c.in-Some.at c.args.places.now c.close.new.self c.args.posted.now.items c.swap_remove.new.self.items _ c.requires o c.close.ensures.entries c.close.ensures.updates c.close.ensures.len end)

pub returns-in_default-clause-places : goal.returns-in_default-clause-places
returns-in_default-clause-places c =
    (closed_quiet c.args.key c.args.places.now c.close.new.self c.args.posted.now.items _ c.requires (not_posted _ (sym c.in_default.ensures.value)) c.close.ensures.entries c.close.ensures.updates c.close.ensures.len).0

pub returns-in_default-clause-board : goal.returns-in_default-clause-board
returns-in_default-clause-board c =
    (closed_quiet c.args.key c.args.places.now c.close.new.self c.args.posted.now.items _ c.requires (not_posted _ (sym c.in_default.ensures.value)) c.close.ensures.entries c.close.ensures.updates c.close.ensures.len).1
