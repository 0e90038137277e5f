-- A head that doesn't fit stays so, whatever bytes follow.
use Rattle.std.proofs.Common.{◌≡◌, ℕ, ◌<◌, ◌≤◌, List, ◌++◌, length, take, drop, sym, ap, ◌∙◌, inl, inr, arith}
use Rattle.std.proofs.lemmas.List.{take-append-le, take-append-drop}
use Rattle.std.proofs.lemmas.Bool.{cases_lt}
use Rattle.std.proofs.Math.Seq.{take-append_seam}
use Rattle.httparse.specs.Grammar.{RequestHead, ReadsRequest, HasNoRequest, print_request}
use Rattle.httparse.proofs.GrammarLemmas.{request_prefix_free}
use Rattle.http_hello.specs.Requests.{NeverFits}

-- a list that another one begins with, and that is no longer than its first part, begins that part
pub front_of_part : (a b front rest : List ℕ) → a ++ b ≡ front ++ rest → length front ≤ length a
    → a ≡ front ++ drop (length front) a
front_of_part a b front rest same short =
    let same_front : take (length front) a ≡ front =
    sym (take-append-le (length front) a b short)
    ∙ ap (take (length front)) same ∙ take-append_seam front rest in
    sym (take-append-drop (length front) a) ∙ ap (λ xs. xs ++ drop (length front) a) same_front

-- so many bytes without a whole head
pub NeverFits-partial : (buffer : List ℕ) → 4096 ≤ length buffer → HasNoRequest buffer → NeverFits buffer
NeverFits-partial buffer long none = λ more head rest reads.
    elim (cases_lt 4096 (length (print_request head))) [
      | inl longer ↦ inl longer
      | inr short ↦ absurd (none head (drop (length (print_request head)) buffer)
          (reads.0, front_of_part buffer more (print_request head) rest reads.1 (omega (arith, short, long))))
    ]

-- a whole head that is too long
pub NeverFits-long : (buffer rest : List ℕ) (found : RequestHead) → ReadsRequest buffer found rest
    → 4096 < length (print_request found) → NeverFits buffer
NeverFits-long buffer rest found reads_found long = λ more head later reads.
    let same = (request_prefix_free buffer more found head rest later reads_found reads).0 in
    inl (rw (sym same) long)
