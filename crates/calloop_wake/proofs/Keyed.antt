-- Keys and passes of a board.
use Rattle.std.proofs.Common.{◌≡◌, ℕ, Option, Some, None, is_some, true, List, [], ◌∷◌, ◌++◌, map, refl, sym, ap}
use Rattle.logbook.specs.Pages.{Book}
use Rattle.calloop_wake.specs.Passes.{Keyed, Taken, AreOf, on}
use Rattle.calloop_wake.specs.Boards.{fresh_pass}

-- a value with a key of this board belongs to it, and there was a key
pub of-on : (board : Book) (key : Option ℕ) (k : Keyed) → on board key ≡ Some k → (k.board ≡ board) × (is_some key ≡ true)
of-on board None k h = absurd (cc)
of-on board (Some n) k h = let same : record { key = n; board = board } ≡ k = cc in (sym (ap (λ (x : Keyed). x.board) same), refl)

-- passes of this board, with those of further keys of it
pub are_of-taken : (board : Book) (passes : List Taken) (keys : List ℕ) → AreOf board passes → AreOf board (passes ++ map (fresh_pass board) keys)
are_of-taken board [] [] h = tt
are_of-taken board [] (k ∷ ks) h = (refl, are_of-taken board [] ks tt)
are_of-taken board (p ∷ ps) keys h = (h.0, are_of-taken board ps keys h.1)
