use Rattle.std.proofs.Common.{Bool, true, false, ◌≡◌, ◌≤◌, ◌<◌, ℕ, List, [], ◌∷◌, ◌++◌, length, Option, Some, None, IfSome, refl, sym, ◌∙◌, ap, subst, inl, inr, ⊎_elim, true≢false}
use Rattle.std.proofs.lemmas.Bool.{cases_lt}
use Rattle.std.proofs.lemmas.List.{append_assoc, append-nil}
use Rattle.std.specs.Bool.{MatchBool}
use Rattle.std.specs.Io.KnownBytes.{Appends}
use Rattle.std.specs.Io.BufRead.{drop_through}
use Rattle.looptrace.specs.Lines.{longest, lines_of, first_of}
use Rattle.looptrace.specs.Texts.{next_number, error_text}
use Rattle.looptrace.specs.Traces.{Written, LineStep, Writes, before}
use Rattle.looptrace.proofs.LineLemmas.{IsWhole, IsBeginning, lines-long, long-first}

-- what was written so far and what the rest may write are what all may write
abbrev pub Ran : {S : Type 0} → LineStep S → S → Option (List ℕ) → Option (List ℕ) → Option (List ℕ) → Option (List ℕ) → S → ℕ → Type 0
Ran step start first now out0 out state number =
    IfSome first (λ all. (rest : List ℕ) × (said : List ℕ) × (now ≡ Some rest) × Appends out0 out said
    × ((later : Written) → Writes step state number (lines_of rest) later → Writes step start 1 (lines_of all) (before said later)))

-- a whole run wrote what its lines may write
abbrev pub RanAll : {S : Type 0} → LineStep S → S → Option (List ℕ) → Option (List ℕ) → Option (List ℕ) → Option (List ℕ) → Option (List ℕ) → ℕ → Type 0
RanAll step start first out0 out err0 err status =
    IfSome first (λ all. (w : Written) × Writes step start 1 (lines_of all) w × Appends out0 out w.out × Appends err0 err w.err × (status ≡ w.status))

appends-on : (a b c : Option (List ℕ)) (xs ys : List ℕ) → Appends a b xs → Appends b c ys → Appends a c (xs ++ ys)
appends-on None b c xs ys p q = tt
appends-on (Some a) None c xs ys p q = absurd p
appends-on (Some a) (Some b) None xs ys p q = absurd q
appends-on (Some a) (Some b) (Some c) xs ys p q = q ∙ ap (λ l. l ++ ys) p ∙ append_assoc a xs ys

pub appends-nil : (a : Option (List ℕ)) → Appends a a []
appends-nil None = tt
appends-nil (Some a) = sym (append-nil a)

before-on : (xs ys : List ℕ) (w : Written) → before xs (before ys w) ≡ before (xs ++ ys) w
before-on xs ys w = ap (λ l. record { out = l; err = w.err; status = w.status }) (sym (append_assoc xs ys w.out))

-- what was carried out isn't long
pub short-first : (line whole : List ℕ) (read : Bool) → (longest < length line → read ≡ false) → read ≡ true → line ≡ first_of whole → length (first_of whole) ≤ longest
short-first line whole read refused is_read is_line =
    ⊎_elim (λ long. absurd (true≢false (sym is_read ∙ refused (subst (λ l. longest < length l) (sym is_line) long)))) (λ short. short) (cases_lt longest (length (first_of whole)))

module _ (S : Type 0) (step : LineStep S) (start : S) where
  -- what a runner's answer to one line said
  abbrev pub Answered : S → S → List ℕ → List ℕ → List ℕ → Bool → Type 0
  Answered state after line text0 text read =
      MatchBool read ((said : List ℕ) × (text ≡ text0 ++ said) × step state line (Some (after, said))) (step state line None)

  -- the line was carried out, and all the text is its own
  pub answered-true : (state after : S) (line whole text0 text : List ℕ) (read : Bool) → Answered state after line text0 text read
      → read ≡ true → line ≡ first_of whole → text0 ≡ [] → step state (first_of whole) (Some (after, text))
  answered-true state after line whole text0 text read answered is_read is_line is_empty =
      let got = subst (λ b. Answered state after line text0 text b) is_read answered in
      let text_is : text ≡ got.0 = got.1 ∙ ap (λ l. l ++ got.0) is_empty in
      subst (λ l. step state l (Some (after, text))) is_line (subst (λ l. step state line (Some (after, l))) (sym text_is) got.2)

  -- the line can't be read
  pub answered-false : (state after : S) (line whole text0 text : List ℕ) (read : Bool) → Answered state after line text0 text read
      → read ≡ false → line ≡ first_of whole → step state (first_of whole) None
  answered-false state after line whole text0 text read answered is_refused is_line =
      subst (λ l. step state l None) is_line (subst (λ b. Answered state after line text0 text b) is_refused answered)

  -- nothing is read yet
  pub ran-start : (first out : Option (List ℕ)) → Ran step start first first out out start 1
  ran-start None out = tt
  ran-start (Some all) out = (all, [], refl, appends-nil out, λ later h. h)

  -- one line is carried out
  pub ran-on : (first now later out0 out out' : Option (List ℕ)) (state after : S) (number higher : ℕ) (more : Bool) (line text : List ℕ)
      → Ran step start first now out0 out state number
      → IsWhole now later more line → more ≡ true → length (first_of line) ≤ longest
      → step state (first_of line) (Some (after, text)) → Appends out out' text → higher ≡ next_number number
      → Ran step start first later out0 out' after higher
  ran-on None now later out0 out out' state after number higher more line text ran read there short stepped wrote rises = tt
  ran-on (Some all) now later out0 out out' state after number higher more line text ran read there short stepped wrote rises =
      let rest = ran.0 in
      let said = ran.1 in
      let got = subst (λ o. IsWhole o later more line) ran.2 read there short in
      let later_lines = lines_of (drop_through 10 rest) in (
        drop_through 10 rest,
        said ++ text,
        got.1,
        appends-on out0 out out' said text ran.3 wrote,
        λ w h. subst (λ v. Writes step start 1 (lines_of all) v) (before-on said text w)
            (ran.4 (before text w) (subst (λ ls. Writes step state number ls (before text w)) (sym got.0)
            (inr (after, text, w, stepped, subst (λ n. Writes step after n later_lines w) rises h, refl)))),
      )

  -- the input is at its end
  pub ran-end : (first now out0 out err0 err : Option (List ℕ)) (state : S) (number : ℕ) (more : Bool)
      → Ran step start first now out0 out state number
      → IfSome now (λ xs. more ≡ false → xs ≡ []) → more ≡ false → Appends err0 err []
      → RanAll step start first out0 out err0 err 0
  ran-end None now out0 out err0 err state number more ran ended none silent = tt
  ran-end (Some all) now out0 out err0 err state number more ran ended none silent =
      let said = ran.1 in
      let no_rest : ran.0 ≡ [] = subst (λ o. IfSome o (λ xs. more ≡ false → xs ≡ [])) ran.2 ended none in
      let nothing : Written = record { out = []; err = []; status = 0 } in (
        before said nothing,
        ran.4 nothing (subst (λ xs. Writes step state number (lines_of xs) nothing) (sym no_rest) refl),
        subst (Appends out0 out) (sym (append-nil said)) ran.3,
        silent,
        refl,
      )

  -- a line of more bytes than a command can have can't be read
  abbrev pub Refuses : Type 0
  Refuses = (state : S) (line : List ℕ) → longest < length line → step state line None

  -- The first line, or the beginning of a long one, can't be read.
  first_refused : (state : S) (later : Option (List ℕ)) (more : Bool) (line rest : List ℕ) → Refuses → step state (first_of line) None
      → IsWhole (Some rest) later more line → IsBeginning (Some rest) line → more ≡ true
      → (first : List ℕ) × step state first None × (lines_of rest ≡ first ∷ lines_of (drop_through 10 rest))
  first_refused state later more line rest refuses stepped whole beginning there =
      ⊎_elim
      (λ long. let is_long = long-first line (first_of rest) (beginning long) long in (first_of rest, refuses state (first_of rest) is_long, lines-long rest is_long))
      (λ short. (first_of line, stepped, (whole there short).0))
      (cases_lt longest (length (first_of line)))

  -- one line can't be read
  pub ran-refused : (first now later out0 out err0 err err' : Option (List ℕ)) (state : S) (number : ℕ) (more : Bool) (line : List ℕ)
      → Refuses → Ran step start first now out0 out state number
      → IsWhole now later more line → IsBeginning now line → more ≡ true
      → step state (first_of line) None → Appends err0 err [] → Appends err err' (error_text number)
      → RanAll step start first out0 out err0 err' 2
  ran-refused None now later out0 out err0 err err' state number more line refuses ran whole beginning there stepped silent wrote = tt
  ran-refused (Some all) now later out0 out err0 err err' state number more line refuses ran whole beginning there stepped silent wrote =
      let rest = ran.0 in
      let said = ran.1 in
      let got = first_refused state later more line rest refuses stepped (subst (λ o. IsWhole o later more line) ran.2 whole)
      (subst (λ o. IsBeginning o line) ran.2 beginning) there in
      let refusal : Written = record { out = []; err = error_text number; status = 2 } in (
        before said refusal,
        ran.4 refusal (subst (λ ls. Writes step state number ls refusal) (sym got.2) (inl (got.1, refl))),
        subst (Appends out0 out) (sym (append-nil said)) ran.3,
        appends-on err0 err err' [] _ silent wrote,
        refl,
      )
