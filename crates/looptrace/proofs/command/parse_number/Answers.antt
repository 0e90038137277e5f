use Rattle.std.specs.Bool.{◌==◌}
use Rattle.std.proofs.Common.{◌≡◌, ◌&&◌, arith, refl, List, ℕ, [], ◌∷◌, length, nat_eq, nat_lt, slice_index_or, true, false}
use Rattle.looptrace.specs.Commands.{number_of, digits_from}
use Rattle.looptrace.proofs.command.parse_number.Goals as goal

-- a word that doesn't begin with a zero, or is one, is read digit by digit
begins : (w : List ℕ) → nat_lt 0 (length w) ≡ true → (nat_eq (slice_index_or w 0 0) 48 && nat_lt 1 (length w)) ≡ false
    → number_of w ≡ digits_from 0 w
begins [] any short = absurd (cc)
begins (b ∷ bs) any short =
    let brief : (b == 48 && nat_lt 0 (length bs)) ≡ false = grind arith in
    rw brief refl

pub loop-b-init : goal.loop-b-init
loop-b-init c =
    let any : nat_lt 0 (length c.args.word.now) ≡ true = grind arith in
    let short : (nat_eq (slice_index_or c.args.word.now 0 0) 48 && nat_lt 1 (length c.args.word.now)) ≡ false = grind arith in
    begins c.args.word.now any short
