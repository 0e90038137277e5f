use Rattle.std.proofs.Common.{◌≡◌, ℕ, take}
use Rattle.std.specs.Map.{keys_of}
use Rattle.calloop_wake.specs.Posts.{standing_at, index_of, place_after}
use Rattle.calloop_wake.proofs.board.renumber.Given as goal

abbrev pub invariant-loop-i : goal.invariant-loop-i
invariant-loop-i l = record {
  standing : (key : ℕ) → standing_at key l.places ≡ place_after l.gone (index_of key (take l.i l.posted)) (standing_at key l.initial.places);
  keys : keys_of l.places ≡ keys_of l.initial.places;
  steps : l.steps ≡ l.i;
}
