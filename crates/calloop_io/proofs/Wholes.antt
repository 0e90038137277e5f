-- What several polls did, from what each of them did.
use Rattle.std.proofs.Common.{◌≡◌, ◌≢◌, ◌⊎◌, ◌++◌, ◌∷◌, ◌+◌, ◌∙◌, [], ℕ, List, Option, Some, None, Result, Ok, Err, refl, sym, ap, subst, inl, inr, arith, length, take, drop, append_assoc, ◌≤◌}
use Rattle.std.specs.Prelude.{IsSomeAnd, IfSome, IfNone, sum_by, All}
use Rattle.std.specs.Global.{Vec}
use Rattle.std.specs.Io.{StartsWith}
use Rattle.std.specs.List.{last_or}
use Rattle.std.proofs.Math.Seq.{drop-append_seam}
use Rattle.std.proofs.lemmas.List.{append-nil, take-take, take_all}
use Rattle.std.proofs.lemmas.List.Sums.{sum_by-append}
use Rattle.std.specs.declared.io.Error.{Error as Cause}
use Rattle.std.specs.declared.io.ErrorKind.TheVariants.{WriteZero}
use Rattle.std.specs.IoError.{error_kind}
use Rattle.calloop_poll.specs.declared.sys.Interest.{Interest}
use Rattle.calloop_ends.specs.declared.futures.task.Poll.{Poll}
use Rattle.calloop_ends.specs.declared.futures.task.Poll.TheVariants.{Ready, Pending}
use Rattle.calloop_io.specs.declared.state.PollTally.{PollTally}
use Rattle.calloop_io.specs.declared.notes.PollNote.{PollNote}
use Rattle.calloop_io.specs.declared.notes.PollNote.TheVariants.{Refused, Waits, Tried}
use Rattle.calloop_io.specs.AdapterNotes.{with_poll_note}
use Rattle.calloop_io.specs.AsyncPolls.{Polls, AnswersWith, WouldNotBlock, to_read, to_write}
use Rattle.calloop_io.specs.WholePolls.{notes_since, HasMoreNotes, moved_by, moved_in, moved, last_since, count_of, FailsSo, WriteFailsSo, HasNoRoom, ReadsMore, IsLonger, HasEnded, TakesLine, WaitsForLine, LineFailsSo, tries_by, tries_since}

abbrev pub with_notes : PollTally → List PollNote → PollTally
with_notes s ys = record s { notes = s.notes ++ ys }

pub grown : (s t : PollTally) (ys : List PollNote) → t ≡ with_notes s ys → HasMoreNotes s t × (notes_since s t ≡ ys)
grown s t ys is =
    let seam : notes_since s (with_notes s ys) ≡ ys = drop-append_seam s.notes ys in
    let Grown : PollTally → Type 0 = λ u. HasMoreNotes s u × (notes_since s u ≡ ys) in
    subst Grown (sym is) (ap (with_notes s) (sym seam), seam)

-- what the last note says, by the answer of a poll
abbrev pub LastSays : Interest → Poll (Result ℕ Cause) → Option PollNote → Type 0
LastSays wanted (Ready (Ok count)) last = last ≡ Some (Tried (Ok count))
LastSays wanted (Ready (Err cause)) last = IsSomeAnd last (FailsSo cause)
LastSays wanted Pending last = last ≡ Some (Waits wanted)

-- a try with a count was one
abbrev pub TriesOnce : Poll (Result ℕ Cause) → ℕ → Type 0
TriesOnce (Ready (Ok count)) tries = tries ≡ 1
TriesOnce (Ready (Err cause)) tries = Unit {0}
TriesOnce Pending tries = Unit {0}

-- what one read or write did
abbrev pub Did : Interest → PollTally → Poll (Result ℕ Cause) → PollTally → Type 0
Did wanted s result t =
    HasMoreNotes s t × (moved s t ≡ count_of result) × LastSays wanted result (last_since s t) × TriesOnce result (tries_since s t)

did : (wanted : Interest) (s : PollTally) (result : Poll (Result ℕ Cause)) (t : PollTally) (ys : List PollNote) → t ≡ with_notes s ys
    → moved_in ys ≡ count_of result → LastSays wanted result (last_or None ys) → TriesOnce result (sum_by tries_by ys)
    → Did wanted s result t
did wanted s result t ys is count last once =
    let grew = grown s t ys is in
    let Says : List PollNote → Type 0 = λ notes. LastSays wanted result (last_or None notes) × TriesOnce result (sum_by tries_by notes) in
    let said = subst Says (sym grew.1) (last, once) in
    (grew.0, ap moved_in grew.1 ∙ count, said.0, said.1)

two : (s t : PollTally) (a b : PollNote) → t ≡ with_poll_note b (with_poll_note a s) → t ≡ with_notes s (a ∷ b ∷ [])
two s t a b is = is ∙ ap (λ (notes : List PollNote). record s { notes = notes }) (append_assoc s.notes (a ∷ []) (b ∷ []))

three : (s t : PollTally) (a b c : PollNote) → t ≡ with_poll_note c (with_poll_note b (with_poll_note a s)) → t ≡ with_notes s (a ∷ b ∷ c ∷ [])
three s t a b c is =
    is ∙ ap (with_poll_note c) (two s (with_poll_note b (with_poll_note a s)) a b refl)
    ∙ ap (λ (notes : List PollNote). record s { notes = notes }) (append_assoc s.notes (a ∷ b ∷ []) (c ∷ []))

tried : (wanted : Interest) (s : PollTally) (answer : Result ℕ Cause) (t : PollTally)
    → WouldNotBlock answer → t ≡ with_poll_note (Tried answer) (with_poll_note (Refused None) s) → Did wanted s (Ready answer) t
tried wanted s (Ok count) t flows is = did wanted s (Ready (Ok count)) t (Refused None ∷ Tried (Ok count) ∷ []) (two s t _ _ is) (omega arith) refl refl
tried wanted s (Err cause) t flows is = did wanted s (Ready (Err cause)) t (Refused None ∷ Tried (Err cause) ∷ []) (two s t _ _ is) refl (inl (refl, flows)) tt

answered : (wanted : Interest) (s : PollTally) (answer : Result ℕ Cause) (result : Poll (Result ℕ Cause)) (t : PollTally)
    → AnswersWith wanted answer (with_poll_note (Tried answer) (with_poll_note (Refused None) s)) result t → Did wanted s result t
answered wanted s answer (Ready given) t h =
    elim h [
      | inl k ↦ let DidSo : Result ℕ Cause → Type 0 = λ given. Did wanted s (Ready given) t in subst DidSo (sym k.0) (tried wanted s answer t k.1 k.2)
      | inr k ↦
          let DidSo : Result ℕ Cause → Type 0 = λ given. Did wanted s (Ready given) t in
          let wrote : with_poll_note (Tried answer) (with_poll_note (Refused None) s) ≡ with_poll_note (Tried (Err k.0)) (with_poll_note (Refused None) s) =
          ap (λ (a : Result ℕ Cause). with_poll_note (Tried a) (with_poll_note (Refused None) s)) k.2 in
          subst DidSo (sym k.4) (elim k.6 [
            | inl same ↦ did wanted s (Ready (Err k.1)) t (Refused None ∷ Tried (Err k.0) ∷ []) (two s t _ _ (same ∙ wrote)) refl (inr (k.3, k.5)) tt
            | inr more ↦ did wanted s (Ready (Err k.1)) t (Refused None ∷ Tried (Err k.0) ∷ Waits wanted ∷ []) (three s t _ _ _ (more ∙ ap (with_poll_note (Waits wanted)) wrote)) refl k.5 tt
          ])
    ]
answered wanted s answer Pending t h =
    let wrote : with_poll_note (Tried answer) (with_poll_note (Refused None) s) ≡ with_poll_note (Tried (Err h.0)) (with_poll_note (Refused None) s) =
    ap (λ (a : Result ℕ Cause). with_poll_note (Tried a) (with_poll_note (Refused None) s)) h.1 in
    did wanted s Pending t (Refused None ∷ Tried (Err h.0) ∷ Waits wanted ∷ []) (three s t _ _ _ (h.3 ∙ ap (with_poll_note (Waits wanted)) wrote)) refl refl tt

-- what one read or write did, by its contract
pub polled : (wanted : Interest) (s : PollTally) (result : Poll (Result ℕ Cause)) (t : PollTally) → Polls wanted Tried s result t → Did wanted s result t
polled wanted s result t h =
    elim h [
      | inl k ↦
          let DidSo : Poll (Result ℕ Cause) → Type 0 = λ r. Did wanted s r t in
          subst DidSo (sym k.3) (did wanted s (Ready (Err k.1)) t (Refused (Some k.0) ∷ []) k.4 refl k.2 tt)
      | inr k ↦ answered wanted s k.0 result t k.1
    ]

-- one after the other
pub chained : (s t u : PollTally) → HasMoreNotes s t → HasMoreNotes t u → HasMoreNotes s u × (notes_since s u ≡ notes_since s t ++ notes_since t u)
chained s t u first second =
    grown s u (notes_since s t ++ notes_since t u)
    (second ∙ ap (λ (v : PollTally). with_notes v (notes_since t u)) first
    ∙ ap (λ (notes : List PollNote). record s { notes = notes }) (append_assoc s.notes (notes_since s t) (notes_since t u)))

pub moved-chained : (s t u : PollTally) → HasMoreNotes s t → HasMoreNotes t u → moved s u ≡ moved s t + moved t u
moved-chained s t u first second = ap moved_in (chained s t u first second).1 ∙ sum_by-append moved_by (notes_since s t) (notes_since t u)

last_or-cons : {X : Type 0} (o : Option X) (xs : List X) (y : X) (ys : List X) → last_or o (xs ++ y ∷ ys) ≡ last_or (Some y) ys
last_or-cons o [] y ys = refl
last_or-cons o (x ∷ xs) y ys = last_or-cons (Some x) xs y ys

says-later : (wanted : Interest) (result : Poll (Result ℕ Cause)) (xs ys : List PollNote) → LastSays wanted result (last_or None ys)
    → LastSays wanted result (last_or None (xs ++ ys))
says-later wanted (Ready (Ok count)) xs [] h = cc
says-later wanted (Ready (Err cause)) xs [] h = absurd h
says-later wanted Pending xs [] h = cc
says-later wanted result xs (y ∷ ys) h = let Says : Option PollNote → Type 0 = LastSays wanted result in subst Says (sym (last_or-cons None xs y ys)) h

-- what the last of several polls says
pub last-chained : (wanted : Interest) (result : Poll (Result ℕ Cause)) (s t u : PollTally) → HasMoreNotes s t → Did wanted t result u
    → LastSays wanted result (last_since s u)
last-chained wanted result s t u first second =
    let Says : List PollNote → Type 0 = λ notes. LastSays wanted result (last_or None notes) in
    subst Says (sym (chained s t u first second.0).1) (says-later wanted result (notes_since s t) (notes_since t u) second.2)

-- before the first poll
pub no_notes : (s : PollTally) → HasMoreNotes s s × (notes_since s s ≡ [])
no_notes s = grown s s [] (ap (λ (notes : List PollNote). record s { notes = notes }) (sym (append-nil s.notes)))

-- what was written until now
pub record Wrote (s : PollTally) (before : List ℕ) (t : PollTally) (left : List ℕ) : Type 0 where
  pub more : HasMoreNotes s t
  pub rest : left ≡ drop (moved s t) before
  pub count : length before ≡ moved s t + length left

-- what one read of more did
abbrev pub DidRead : PollTally → Poll (Result ℕ Cause) → PollTally → Type 0
DidRead s result t =
    HasMoreNotes s t × (moved s t ≡ count_of result) × (HasNoRoom result ⊎ LastSays to_read result (last_since s t)) × TriesOnce result (tries_since s t)

roomless : (result : Poll (Result ℕ Cause)) (tries : ℕ) → HasNoRoom result → (0 ≡ count_of result) × TriesOnce result tries
roomless (Ready (Ok count)) tries h = absurd h
roomless (Ready (Err cause)) tries h = (refl, tt)
roomless Pending tries h = absurd h

pub read_more : (s : PollTally) (result : Poll (Result ℕ Cause)) (t : PollTally) → ReadsMore s result t → DidRead s result t
read_more s result t h =
    elim h [
      | inl k ↦
          let Grown : PollTally → Type 0 = λ u. HasMoreNotes s u × (moved s u ≡ count_of result) in
          let grew = subst Grown (sym k.1) ((no_notes s).0, ap moved_in (no_notes s).1 ∙ (roomless result 0 k.0).0) in
          (grew.0, grew.1, inl k.0, (roomless result (tries_since s t) k.0).1)
      | inr k ↦ let grew = polled to_read s result t k in (grew.0, grew.1, inr grew.2, grew.3)
    ]

-- what was read until now
pub record HasRead (s : PollTally) (before : List ℕ) (t : PollTally) (buffer : List ℕ) : Type 0 where
  pub more : HasMoreNotes s t
  pub bytes : IsLonger before (moved s t) buffer

front_of_front : (xs ys zs : List ℕ) → StartsWith ys xs → StartsWith zs ys → length xs ≤ length ys → StartsWith zs xs
front_of_front xs ys zs one two short =
    let inner : take (length xs) (take (length ys) zs) ≡ take (length xs) zs = take-take (length xs) (length ys) zs short in
    sym inner ∙ ap (λ (l : List ℕ). take (length xs) l) two ∙ one

pub read-more : (s : PollTally) (before : List ℕ) (t : PollTally) (buffer : List ℕ) (result : Poll (Result ℕ Cause)) (u : PollTally) (after : List ℕ)
    → HasRead s before t buffer → ReadsMore t result u → StartsWith after buffer → length after ≡ length buffer + count_of result
    → HasRead s before u after
read-more s before t buffer result u after h reads front count =
    let last = read_more t result u reads in
    let all : moved s u ≡ moved s t + count_of result = moved-chained s t u h.more last.0 ∙ ap (λ (n : ℕ). moved s t + n) last.1 in
    record {
      more = (chained s t u h.more last.0).0;
      bytes = (front_of_front before buffer after h.bytes.0 front (omega (arith, h.bytes.1)), omega (arith, all, count, h.bytes.1));
    }

-- the end of the stream was read last
pub read-end : (s : PollTally) (before : List ℕ) (t : PollTally) (buffer : List ℕ) (u : PollTally) → HasRead s before t buffer → ReadsMore t (Ready (Ok 0)) u
    → HasEnded s u
read-end s before t buffer u h reads =
    let last = read_more t (Ready (Ok 0)) u reads in
    elim last.2 [
      | inl k ↦ absurd k
      | inr k ↦ last-chained to_read (Ready (Ok 0)) s t u h.more (last.0, last.1, k, last.3)
    ]

-- nothing was read
unchanged : (before after : List ℕ) → StartsWith after before → length after ≡ length before + 0 → after ≡ before
unchanged before after front count = let short : length after ≤ length before = omega (arith, count) in sym (take_all (length before) after short) ∙ front

-- what a pending read of more means for a line
pub line-waits : (s t u : PollTally) (buffer after : List ℕ) → HasMoreNotes s t → ReadsMore t Pending u → StartsWith after buffer
    → length after ≡ length buffer + 0 → All (λ (byte : ℕ). byte ≢ 10) buffer → WaitsForLine s u after
line-waits s t u buffer after first reads front count feedless =
    let last = read_more t Pending u reads in
    let Feedless : List ℕ → Type 0 = λ bytes. All (λ (byte : ℕ). byte ≢ 10) bytes in
    elim last.2 [
      | inl k ↦ absurd k
      | inr k ↦ inl (last-chained to_read Pending s t u first (last.0, last.1, k, tt), subst Feedless (sym (unchanged buffer after front count)) feedless)
    ]

-- what a failed one means
pub line-fails : (s t u : PollTally) (answer : Result ℕ Cause) (cause : Cause) → HasMoreNotes s t → ReadsMore t (Ready answer) u → answer ≡ Err cause
    → LineFailsSo s cause u
line-fails s t u answer cause first reads is =
    let ReadsSo : Result ℕ Cause → Type 0 = λ a. ReadsMore t (Ready a) u in
    let last = read_more t (Ready (Err cause)) u (subst ReadsSo is reads) in
    elim last.2 [
      | inl k ↦ inl k
      | inr k ↦ inr (last-chained to_read (Ready (Err cause)) s t u first (last.0, last.1, k, tt))
    ]

-- what is left at the end of the stream is the last line
pub line-ends : (s t u : PollTally) (before buffer after rest : List ℕ) (answer : Result ℕ Cause) (line : Option (Vec ℕ)) → HasRead s before t buffer
    → ReadsMore t (Ready answer) u → answer ≡ Ok 0 → StartsWith after buffer → length after ≡ length buffer + count_of (Ready answer)
    → IfSome line (λ (l : Vec ℕ). (l.items ≡ after) × (l.items ≢ [])) → IfNone line (after ≡ []) → rest ≡ [] → TakesLine s before (Ready (Ok line)) u rest
line-ends s t u before buffer after rest answer None h reads is front count some none no_rest =
    let ReadsSo : Result ℕ Cause → Type 0 = λ a. ReadsMore t (Ready a) u in
    let read = read-more s before t buffer (Ready answer) u after h reads front count in
    let Longer : List ℕ → Type 0 = λ bytes. IsLonger before (moved s u) bytes in
    (read-end s before t buffer u h (subst ReadsSo is reads), subst Longer none read.bytes, no_rest)
line-ends s t u before buffer after rest answer (Some line) h reads is front count some none no_rest =
    let ReadsSo : Result ℕ Cause → Type 0 = λ a. ReadsMore t (Ready a) u in
    let read = read-more s before t buffer (Ready answer) u after h reads front count in
    let Longer : List ℕ → Type 0 = λ bytes. IsLonger before (moved s u) bytes in
    inr (read-end s before t buffer u h (subst ReadsSo is reads), some.1, subst Longer (sym some.0) read.bytes, no_rest)

-- and has no line feed
pub last-feedless : (buffer after : List ℕ) (answer : Result ℕ Cause) (line : Option (Vec ℕ)) → answer ≡ Ok 0 → StartsWith after buffer
    → length after ≡ length buffer + count_of (Ready answer) → IfSome line (λ (l : Vec ℕ). (l.items ≡ after) × (l.items ≢ []))
    → All (λ (byte : ℕ). byte ≢ 10) buffer → IfSome line (λ (l : Vec ℕ). All (λ (byte : ℕ). byte ≢ 10) l.items)
last-feedless buffer after answer None is front count some feedless = tt
last-feedless buffer after answer (Some line) is front count some feedless =
    let Feedless : List ℕ → Type 0 = λ bytes. All (λ (byte : ℕ). byte ≢ 10) bytes in
    let none = count ∙ ap (λ (a : Result ℕ Cause). length buffer + count_of (Ready a)) is in
    subst Feedless (sym (some.0 ∙ unchanged buffer after front none)) feedless

some-and : {X : Type 0} (P Q : X → Type 0) (o : Option X) → ((x : X) → P x → Q x) → IsSomeAnd o P → IsSomeAnd o Q
some-and P Q None more h = absurd h
some-and P Q (Some x) more h = more x h

-- what a pending write means for a whole one
pub write-waits : (s t u : PollTally) → HasMoreNotes s t → Polls to_write Tried t Pending u → last_since s u ≡ Some (Waits to_write)
write-waits s t u first wrote = last-chained to_write Pending s t u first (polled to_write t Pending u wrote)

-- what a failed one means
pub write-fails : (s t u : PollTally) (answer : Result ℕ Cause) (cause : Cause) → HasMoreNotes s t → Polls to_write Tried t (Ready answer) u
    → answer ≡ Err cause → IsSomeAnd (last_since s u) (WriteFailsSo cause)
write-fails s t u answer cause first wrote is =
    let PollsSo : Result ℕ Cause → Type 0 = λ a. Polls to_write Tried t (Ready a) u in
    let last = last-chained to_write (Ready (Err cause)) s t u first (polled to_write t (Ready (Err cause)) u (subst PollsSo is wrote)) in
    some-and (FailsSo cause) (WriteFailsSo cause) (last_since s u) (λ x h. inl h) last

-- what a write of nothing means
pub write-nothing : (s t u : PollTally) (answer : Result ℕ Cause) (cause : Cause) → HasMoreNotes s t → Polls to_write Tried t (Ready answer) u
    → answer ≡ Ok 0 → error_kind cause ≡ WriteZero → IsSomeAnd (last_since s u) (WriteFailsSo cause)
write-nothing s t u answer cause first wrote is kind =
    let PollsSo : Result ℕ Cause → Type 0 = λ a. Polls to_write Tried t (Ready a) u in
    let last = last-chained to_write (Ready (Ok 0)) s t u first (polled to_write t (Ready (Ok 0)) u (subst PollsSo is wrote)) in
    let Says : Option PollNote → Type 0 = λ o. IsSomeAnd o (WriteFailsSo cause) in
    subst Says (sym last) (inr (refl, kind))
