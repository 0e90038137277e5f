use Rattle.std.proofs.Common.{◌≡◌, ◌∙◌, ◌<◌, ◌+◌, ℕ, Some, Option, IsSome, refl, length, get_or, subst, sym, ap, arith, nat_eq, if◌then◌else◌}
use Rattle.calloop_wake.specs.Posts.{standing_at, place_after}
use Rattle.calloop_wake.proofs.Posted.{noted_more, fresh_at, member_at, left_by}
use Rattle.calloop_wake.proofs.board.renumber.Goals as goal

pub loop-i-preserved : goal.loop-i-preserved
loop-i-preserved c =
    let s = c.args.posted.now in
    let i = c.loop-i.i in
    let lt : i < length s = omega arith in
    let key = get_or s i 0 in
    let before : standing_at key c.loop-i.places ≡ standing_at key c.args.places.now =
    c.loop-i.invariant.standing key ∙ ap (λ (o : Option ℕ). place_after c.args.gone o (standing_at key c.args.places.now)) (fresh_at s i 0 c.requires.once lt) in
    let there : IsSome (standing_at key c.loop-i.places) = subst (λ (o : Option (Option ℕ)). IsSome o) (sym before) (c.requires.open key (member_at s i key 0 lt refl)) in
    let at = left_by c.checked_sub.result c.args.gone i c.checked_sub.ensures in
    record {
      standing = λ q. c.note.ensures.updates there q ∙ ap (λ (o : Option (Option ℕ)). if nat_eq (get_or s i 0) q then Some c.checked_sub.result else o) (c.loop-i.invariant.standing q)
          ∙ noted_more c.args.gone i q 0 c.checked_sub.result s (standing_at q c.args.places.now) c.requires.once lt at;
      keys = c.note.ensures.keys ∙ c.loop-i.invariant.keys;
      steps = c.note.ensures.steps ∙ ap (λ n. n + 1) c.loop-i.invariant.steps;
    }
