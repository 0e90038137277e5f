-- Proofs that a line of more than `longest` bytes has no command, so that it can't be carried out. They define nothing; they
-- stand here since the impls of runners cite them.
use Rattle.std.proofs.Common.{◌≡◌, ℕ, zero, suc, ◌+◌, ◌-◌, ◌*◌, ◌^◌, ◌≤◌, ◌<◌, Bool, true, false, ◌&&◌, List, [], ◌∷◌, length, take, drop, Option, Some, None, ⊎_elim, nat_lt, nat_le, nat_eq, ◌==◌, cond, refl, sym, ap, subst, ◌∙◌, arith, length-take, length-drop, ne_eqb, true≢false}
use Rattle.std.proofs.Math.Nat.{pow-le-pow_right, pow-suc}
use Rattle.std.proofs.lemmas.Bool.{cases_lt}
use Rattle.std.specs.Option.{option_map}
use Rattle.std.specs.Prelude.{codes}
use Rattle.std.specs.List.{starts_with, position}
use Rattle.std.specs.Cmp.Lexicographic.{pointwise, as_long, unequal}
use Rattle.looptrace.specs.Lines.{longest}
use Rattle.looptrace.specs.declared.command.Command.TheVariants.{Ping, Ring, Close, Clock, Dispatch}
use Rattle.looptrace.specs.Commands.{is_digit, is_name, name_of, digits_from, number_of, timeout_of, timer_with, timer_parted, is_space, remove_with, remove_parted, readiness_of, answer_with, answer_parted, dispatch_of, other_of, command_of}
use Rattle.looptrace.specs.Runs.{State, trace_step, Carried}

abbrev IsThere : {A : Type 0} → Option A → Type 0
IsThere None = ⊥
IsThere (Some a) = Unit {0}

-- If a `cond` yields a value, so does the branch that its test chooses.

by_test : {A N : Type 0} (b : Bool) (o p : Option A) → (b ≡ true → IsThere o → N) → (b ≡ false → IsThere p → N) → IsThere (cond b o p) → N
by_test true o p f g h = f refl h
by_test false o p f g h = g refl h

of_if : {A : Type 0} (b : Bool) (o : Option A) → IsThere (cond b o None) → (b ≡ true) × IsThere o
of_if true o h = (refl, h)
of_if false o h = absurd h

of_else : {A : Type 0} (b : Bool) (o : Option A) → IsThere (cond b None o) → (b ≡ false) × IsThere o
of_else true o h = absurd h
of_else false o h = (refl, h)

of_map : {A B : Type 0} (f : A → B) (o : Option A) → IsThere (option_map f o) → IsThere o
of_map f (Some a) h = tt
of_map f None h = absurd h

nothing : {A : Type 0} (o : Option A) → (IsThere o → ⊥) → o ≡ None
nothing (Some a) h = absurd (h tt)
nothing None h = refl

-- Numbers.

few_digits : (k : ℕ) → 10 ^ k < 2 ^ 64 → k ≤ 19
few_digits k small = ⊎_elim (λ few. omega (arith, few)) (λ many. omega (arith, small, pow-le-pow_right {n = 10} (omega arith) {i = 20} {j = k} many)) (cases_lt k 20)

digits_fit : (bs : List ℕ) (value k : ℕ) → 10 ^ k ≤ value → value < 2 ^ 64 → IsThere (digits_from value bs) → k + length bs ≤ 19
digits_fit [] value k most fits h = omega (arith, few_digits k (omega arith))
digits_fit (b ∷ bs) value k most fits h =
    let got = of_if (is_digit b && nat_lt (value * 10 + (b - 48)) (2 ^ 64)) (digits_from (value * 10 + (b - 48)) bs) h in
    let more : 10 ^ suc k ≤ value * 10 + (b - 48) = omega (arith, pow-suc 10 k) in
    let within : value * 10 + (b - 48) < 2 ^ 64 = grind (arith, got.0) in
    omega (arith, digits_fit bs (value * 10 + (b - 48)) (suc k) more within got.1)

number_short : (w : List ℕ) → IsThere (number_of w) → length w ≤ 20
number_short [] h = absurd h
number_short (b ∷ []) h = omega arith
number_short (b ∷ c ∷ cs) h =
    let first = of_else (b == 48 && nat_lt 0 (length (c ∷ cs))) (digits_from 0 (b ∷ c ∷ cs)) h in
    let got = of_if (is_digit b && nat_lt (0 * 10 + (b - 48)) (2 ^ 64)) (digits_from (0 * 10 + (b - 48)) (c ∷ cs)) first.1 in
    let some : 10 ^ 0 ≤ 0 * 10 + (b - 48) = grind (arith, got.0, first.0) in
    let within : 0 * 10 + (b - 48) < 2 ^ 64 = grind (arith, got.0) in
    omega (arith, digits_fit (c ∷ cs) (0 * 10 + (b - 48)) 0 some within got.1)

-- Words.

name_short : (w : List ℕ) → IsThere (name_of w) → length w ≤ 32
name_short w h = let got = of_if (is_name w) (Some w) h in grind (arith, got.0)

timeout_short : (w : List ℕ) → IsThere (timeout_of w) → length w ≤ 20
timeout_short w h =
    by_test (pointwise nat_eq w (codes "-")) (Some None) (option_map Some (number_of w))
    (λ same _. omega (arith, as_long nat_eq w (codes "-") same)) (λ _ some. number_short w (of_map Some (number_of w) some)) h

readiness_short : (w : List ℕ) → IsThere (readiness_of w) → length w ≤ 2
readiness_short w h =
    by_test (pointwise nat_eq w (codes "r")) _ _ (λ same _. omega (arith, as_long nat_eq w (codes "r") same))
    (λ _ some. by_test (pointwise nat_eq w (codes "w")) _ _ (λ same _. omega (arith, as_long nat_eq w (codes "w") same))
    (λ _ some. omega (arith, as_long nat_eq w (codes "rw") (of_if (pointwise nat_eq w (codes "rw")) _ some).0)) some) h

-- Two words, and the space between them.

parted_short : (space : ℕ) (words : List ℕ) (m n : ℕ) → length (take space words) ≤ m → length (drop (space + 1) words) ≤ n → length words ≤ m + 1 + n
parted_short space words m n front back = omega (arith, length-take space words, length-drop (space + 1) words)

timer_both : (name : Option (List ℕ)) (deadline : Option ℕ) → IsThere (timer_with name deadline) → IsThere name × IsThere deadline
timer_both None deadline h = absurd h
timer_both (Some name) None h = absurd h
timer_both (Some name) (Some deadline) h = (tt, tt)

timer_parted_short : (space : Option ℕ) (words : List ℕ) → IsThere (timer_parted space words) → length words ≤ 53
timer_parted_short None words h = absurd h
timer_parted_short (Some space) words h =
    let both = timer_both (name_of (take space words)) (number_of (drop (space + 1) words)) h in
    parted_short space words 32 20 (name_short (take space words) both.0) (number_short (drop (space + 1) words) both.1)

remove_both : (slot version : Option ℕ) → IsThere (remove_with slot version) → IsThere slot × IsThere version
remove_both None version h = absurd h
remove_both (Some slot) None h = absurd h
remove_both (Some slot) (Some version) h = (tt, tt)

remove_parted_short : (space : Option ℕ) (words : List ℕ) → IsThere (remove_parted space words) → length words ≤ 41
remove_parted_short None words h = absurd h
remove_parted_short (Some space) words h =
    let both = remove_both (number_of (take space words)) (number_of (drop (space + 1) words)) h in
    parted_short space words 20 20 (number_short (take space words) both.0) (number_short (drop (space + 1) words) both.1)

answer_both : (word : List ℕ) (key : Option ℕ) → IsThere (answer_with key (readiness_of word)) → IsThere key × IsThere (readiness_of word)
answer_both word None h = absurd h
answer_both word (Some key) h = elim (readiness_of word) as (λ o. IsThere (answer_with (Some key) o) → Unit {0} × IsThere o) [ None ↦ (λ h. absurd h) | Some readiness ↦ (λ h. (tt, tt)) ] h

answer_parted_short : (space : Option ℕ) (words : List ℕ) → IsThere (answer_parted space words) → length words ≤ 23
answer_parted_short None words h = absurd h
answer_parted_short (Some space) words h =
    let both = answer_both (drop (space + 1) words) (number_of (take space words)) h in
    parted_short space words 20 2 (number_short (take space words) both.0) (readiness_short (drop (space + 1) words) both.1)

-- Lines.

behind : (n m : ℕ) (line : List ℕ) → length (drop n line) ≤ m → n + m ≤ longest → length line ≤ longest
behind n m line short fits = omega (arith, length-drop n line)

dispatch_short : (line : List ℕ) → IsThere (dispatch_of line) → length line ≤ longest
dispatch_short line h =
    let got = of_if (starts_with nat_eq line (codes "dispatch ")) (option_map Dispatch (timeout_of (drop 9 line))) h in
    behind 9 20 line (timeout_short (drop 9 line) (of_map Dispatch (timeout_of (drop 9 line)) got.1)) (omega arith)

other_short : (line : List ℕ) → IsThere (other_of line) → length line ≤ longest
unfolding other_of
other_short line h =
    by_test (starts_with nat_eq line (codes "remove ")) _ _ (λ _ some. behind 7 41 line (remove_parted_short (position is_space (drop 7 line)) (drop 7 line) some) (omega arith))
    (λ _ some. by_test (starts_with nat_eq line (codes "answer ")) _ _ (λ _ some. behind 7 23 line (answer_parted_short (position is_space (drop 7 line)) (drop 7 line) some) (omega arith))
    (λ _ some. dispatch_short line some) some) h

empty_short : (n : ℕ) → (n == 0) ≡ true → n ≤ longest
empty_short zero h = omega arith
empty_short (suc n) h = absurd (true≢false (sym h ∙ ne_eqb (suc n) 0 (λ e. omega (arith, e))))

command_short : (line : List ℕ) → IsThere (command_of line) → length line ≤ longest
command_short line h =
    by_test (length line == 0) _ _ (λ none _. empty_short (length line) none)
    (λ _ some. by_test (starts_with nat_eq line (codes "ping ")) _ _ (λ _ some. behind 5 32 line (name_short (drop 5 line) (of_map Ping (name_of (drop 5 line)) some)) (omega arith))
    (λ _ some. by_test (starts_with nat_eq line (codes "ring ")) _ _ (λ _ some. behind 5 32 line (name_short (drop 5 line) (of_map Ring (name_of (drop 5 line)) some)) (omega arith))
    (λ _ some. by_test (starts_with nat_eq line (codes "close ")) _ _ (λ _ some. behind 6 32 line (name_short (drop 6 line) (of_map Close (name_of (drop 6 line)) some)) (omega arith))
    (λ _ some. by_test (starts_with nat_eq line (codes "timer ")) _ _ (λ _ some. behind 6 53 line (timer_parted_short (position is_space (drop 6 line)) (drop 6 line) some) (omega arith))
    (λ _ some. by_test (starts_with nat_eq line (codes "clock ")) _ _ (λ _ some. behind 6 20 line (number_short (drop 6 line) (of_map Clock (number_of (drop 6 line)) some)) (omega arith))
    (λ _ some. by_test (pointwise nat_eq line (codes "fault")) _ _ (λ same _. omega (arith, as_long nat_eq line (codes "fault") same))
    (λ _ some. other_short line some) some) some) some) some) some) some) h

-- a longer line has no command
pub no_command : (line : List ℕ) → longest < length line → command_of line ≡ None
no_command line long = nothing (command_of line) (λ some. omega (arith, command_short line some))

-- so nobody carries it out
pub none_carried : (s : State) (line : List ℕ) → longest < length line → trace_step s line None
none_carried s line long = subst (λ command. Carried s command None) (sym (no_command line long)) refl

-- a longer line isn't a word of at most `longest` bytes either
pub no_longer_word : {A : Type 0} (line word : List ℕ) (o : Option A) → nat_le (length word) longest ≡ true → longest < length line → None ≡ cond (pointwise nat_eq line word) o None
no_longer_word line word o short long = ap (λ b. cond b o None) (sym (unequal nat_eq line word (λ same. grind (arith, same, short, long))))
