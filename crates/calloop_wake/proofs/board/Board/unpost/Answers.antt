use Rattle.std.proofs.Common.{◌≡◌, ◌∙◌, sym, ap, subst, List, ℕ, min, length, take, map, ◌++◌, ◌+◌, deque_len}
use Rattle.std.specs.Ordering.{nat_cmp}
use Rattle.std.specs.List.Sorted.{IsPermutation, IsSorted}
use Rattle.calloop_wake.specs.Boards.{bound, after_unpost, keys_within, fresh_pass}
use Rattle.calloop_wake.specs.Posts.{places_of, posted_keys}
use Rattle.calloop_wake.specs.Watches.{Watched, with_places}
use Rattle.calloop_wake.specs.declared.board.Place.{Place}
use Rattle.calloop_wake.proofs.BoardSteps.{taken_keys-rising, keys-within}
use Rattle.calloop_wake.proofs.Posted.{unposted, taken_are, listed_open, sorted_once, sorted_is}
use Rattle.calloop_wake.proofs.board.Board.unpost.Goals as goal

pub renumber-requires-clause-open : goal.renumber-requires-clause-open
renumber-requires-clause-open c =
    let s = c.deref.result.now in
    let moves : IsPermutation c.self.inside.posted.items s = subst (λ (l : List ℕ). IsPermutation c.self.inside.posted.items l) (sym c.deref.ensures.value) c.sort_unstable.ensures.permutation in
    listed_open c.self.inside.places c.self.inside.posted.items s _ c.self.invariant moves

pub renumber-requires-clause-once : goal.renumber-requires-clause-once
renumber-requires-clause-once c =
    let s = c.deref.result.now in
    let moves : IsPermutation c.self.inside.posted.items s = subst (λ (l : List ℕ). IsPermutation c.self.inside.posted.items l) (sym c.deref.ensures.value) c.sort_unstable.ensures.permutation in
    sorted_once c.self.inside.places c.self.inside.posted.items s _ c.self.invariant moves

pub invariant_of-self : goal.invariant_of-self
invariant_of-self c =
    let s = c.deref.result.now in
    let moves : IsPermutation c.self.inside.posted.items s = subst (λ (l : List ℕ). IsPermutation c.self.inside.posted.items l) (sym c.deref.ensures.value) c.sort_unstable.ensures.permutation in
    let sorted : IsSorted nat_cmp s = subst (λ (l : List ℕ). IsSorted nat_cmp l) (sym c.deref.ensures.value) c.sort_unstable.ensures.sorted in
    let gone : c.min-gone.result ≡ min c.args.room (length s) = c.min-gone.ensures ∙ ap (λ n. min c.args.room n) (c.len.ensures ∙ c.sort_unstable.new.self.ok.0 ∙ ap (λ (l : List ℕ). length l) (sym c.deref.ensures.value)) in
    let after = unposted c.args.room c.min-gone.result c.self.inside.places c.renumber.new.places c.self.inside.posted.items s _ c.self.invariant moves sorted c.renumber.ensures.standing c.renumber.ensures.keys gone in
    rw (c.drop_first.ensures.items, c.drop_first.ensures.capacity, c.sort_unstable.ensures.capacity, ← c.deref.ensures.value) after.1

pub returns-clause-board : goal.returns-clause-board
returns-clause-board c =
    let s = c.deref.result.now in
    let moves : IsPermutation c.self.inside.posted.items s = subst (λ (l : List ℕ). IsPermutation c.self.inside.posted.items l) (sym c.deref.ensures.value) c.sort_unstable.ensures.permutation in
    let sorted : IsSorted nat_cmp s = subst (λ (l : List ℕ). IsSorted nat_cmp l) (sym c.deref.ensures.value) c.sort_unstable.ensures.sorted in
    let gone : c.min-gone.result ≡ min c.args.room (length s) = c.min-gone.ensures ∙ ap (λ n. min c.args.room n) (c.len.ensures ∙ c.sort_unstable.new.self.ok.0 ∙ ap (λ (l : List ℕ). length l) (sym c.deref.ensures.value)) in
    let after = unposted c.args.room c.min-gone.result c.self.inside.places c.renumber.new.places c.self.inside.posted.items s _ c.self.invariant moves sorted c.renumber.ensures.standing c.renumber.ensures.keys gone in
    ap (λ (l : List Place). record { places = l; name = c.self.inside.name }) after.0 ∙ ap (λ (w : Watched). with_places (after_unpost (bound c.args.room w.places) w.places) w) c.self.view_is

pub returns-clause-gives : goal.returns-clause-gives
returns-clause-gives c =
    let s = c.deref.result.now in
    let moves : IsPermutation c.self.inside.posted.items s = subst (λ (l : List ℕ). IsPermutation c.self.inside.posted.items l) (sym c.deref.ensures.value) c.sort_unstable.ensures.permutation in
    let sorted : IsSorted nat_cmp s = subst (λ (l : List ℕ). IsSorted nat_cmp l) (sym c.deref.ensures.value) c.sort_unstable.ensures.sorted in
    let gone : c.min-gone.result ≡ min c.args.room (length s) = c.min-gone.ensures ∙ ap (λ n. min c.args.room n) (c.len.ensures ∙ c.sort_unstable.new.self.ok.0 ∙ ap (λ (l : List ℕ). length l) (sym c.deref.ensures.value)) in
    let keys : take c.min-gone.result c.deref-2.result.now ≡ keys_within c.args.room c.args.self.now.places =
    ap (λ (l : List ℕ). take c.min-gone.result l) (c.deref-2.ensures.value ∙ sym c.deref.ensures.value)
    ∙ taken_are c.args.room c.min-gone.result c.self.inside.places c.self.inside.posted.items s _ c.self.invariant moves sorted gone ∙ ap (λ (w : Watched). keys_within c.args.room w.places) c.self.view_is in
    c.give.ensures.items ∙ ap (λ (l : List ℕ). c.args.passes.now.items ++ map (fresh_pass c.self.inside.name) l) keys ∙ ap (λ (w : Watched). c.args.passes.now.items ++ map (fresh_pass w.name) (keys_within c.args.room c.args.self.now.places)) c.self.view_is

pub returns-clause-len : goal.returns-clause-len
returns-clause-len c =
    let s = c.deref.result.now in
    let moves : IsPermutation c.self.inside.posted.items s = subst (λ (l : List ℕ). IsPermutation c.self.inside.posted.items l) (sym c.deref.ensures.value) c.sort_unstable.ensures.permutation in
    let sorted : IsSorted nat_cmp s = subst (λ (l : List ℕ). IsSorted nat_cmp l) (sym c.deref.ensures.value) c.sort_unstable.ensures.sorted in
    let gone : c.min-gone.result ≡ min c.args.room (length s) = c.min-gone.ensures ∙ ap (λ n. min c.args.room n) (c.len.ensures ∙ c.sort_unstable.new.self.ok.0 ∙ ap (λ (l : List ℕ). length l) (sym c.deref.ensures.value)) in
    let keys : take c.min-gone.result c.deref-2.result.now ≡ keys_within c.args.room c.args.self.now.places =
    ap (λ (l : List ℕ). take c.min-gone.result l) (c.deref-2.ensures.value ∙ sym c.deref.ensures.value)
    ∙ taken_are c.args.room c.min-gone.result c.self.inside.places c.self.inside.posted.items s _ c.self.invariant moves sorted gone ∙ ap (λ (w : Watched). keys_within c.args.room w.places) c.self.view_is in
    c.give.ensures.len ∙ ap (λ (l : List ℕ). deque_len c.args.passes.now + length l) keys

pub returns-clause-rising : goal.returns-clause-rising
returns-clause-rising c = rw (← c.self.view_is) (taken_keys-rising (bound c.args.room (places_of c.self.inside.places)) (places_of c.self.inside.places) c.self.invariant.ascending)

pub returns-clause-few : goal.returns-clause-few
returns-clause-few c = rw (← c.self.view_is) (keys-within c.args.room (places_of c.self.inside.places) c.self.invariant.ascending)

pub returns-clause-steps : goal.returns-clause-steps
returns-clause-steps c =
    let s = c.deref.result.now in
    let moves : IsPermutation c.self.inside.posted.items s = subst (λ (l : List ℕ). IsPermutation c.self.inside.posted.items l) (sym c.deref.ensures.value) c.sort_unstable.ensures.permutation in
    let sorted : IsSorted nat_cmp s = subst (λ (l : List ℕ). IsSorted nat_cmp l) (sym c.deref.ensures.value) c.sort_unstable.ensures.sorted in
    let gone : c.min-gone.result ≡ min c.args.room (length s) = c.min-gone.ensures ∙ ap (λ n. min c.args.room n) (c.len.ensures ∙ c.sort_unstable.new.self.ok.0 ∙ ap (λ (l : List ℕ). length l) (sym c.deref.ensures.value)) in
    c.renumber.ensures.steps ∙ ap (λ (l : List ℕ). length l) (sorted_is c.self.inside.places c.self.inside.posted.items s _ c.self.invariant moves sorted) ∙ ap (λ (w : Watched). length (posted_keys w.places)) c.self.view_is
