-- What holds of one source's steps beside another source's counters, and of steps one after another. The proofs for a
-- source made of sources; they define nothing but what two sources hold together, and the impl cites them.
use Rattle.std.proofs.Common.{◌≡◌, ◌≢◌, ◌⊎◌, inl, inr, ℕ, ◌+◌, ◌<◌, ◌++◌, List, [], ◌∷◌, refl, sym, ◌∙◌}
use Rattle.std.proofs.Common.{ap, true, false, nat_eq, if◌then◌else◌, arith}
use Rattle.std.proofs.lemmas.Bool.Decides.{nat_tests}
use Rattle.calloop_poll.specs.sys.Polls.{
  PollView,
  PollStep,
  TakePass,
  PutBack,
  Arm,
  ArmAgain,
  Cancel,
  Call,
  ReadClock,
  Socket,
  Fault,
}
use Rattle.calloop_poll.specs.sys.Polls.{polls_after}
use Rattle.calloop_slots.specs.declared.token.RegistrationToken.{RegistrationToken}
use Rattle.calloop_sources.specs.sources.Deeds.{Deed}
use Rattle.calloop_poll.specs.sys.Keys.{AllActFor}
use Rattle.calloop_sources.specs.sources.Meanings.{Meaning, KeepsCounters}
use Rattle.calloop_sources.specs.sources.Holdings.{Holding, Free, Spent, Standing, IsWithin, IsBelow, Keeps, with_hold}

-- no counter is held by both
abbrev pub IsApart : (ℕ → Holding) → (ℕ → Holding) → Type 0
IsApart h o = (c : ℕ) → (h c ≡ Free) ⊎ (o c ≡ Free)

-- what two hold together
abbrev pub join_hold : Holding → Holding → Holding
join_hold Free h = h
join_hold Spent h = Spent
join_hold (Standing deadline) h = Standing deadline

abbrev pub beside : (ℕ → Holding) → (ℕ → Holding) → ℕ → Holding
beside h k c = join_hold (h c) (k c)

-- Proofs from here on.

join_free : (h : Holding) → join_hold h Free ≡ h
join_free Free = refl
join_free Spent = refl
join_free (Standing deadline) = refl

pub join_swap : (h k : Holding) → (h ≡ Free) ⊎ (k ≡ Free) → join_hold h k ≡ join_hold k h
join_swap h k (inl e) = rw e (sym (join_free k))
join_swap h k (inr e) = rw e (join_free h)

other_is_free : (h k : Holding) → (h ≡ Free) ⊎ (k ≡ Free) → h ≢ Free → k ≡ Free
other_is_free h k (inl e) held = absurd (held e)
other_is_free h k (inr e) held = e

free_at : (n : ℕ) (k : Holding) → (k ≢ Free → n < n) → k ≡ Free
free_at n Free h = refl
free_at n Spent h = absurd (let lt = h (λ e. cc) in omega (arith, lt))
free_at n (Standing deadline) h = absurd (let lt = h (λ e. cc) in omega (arith, lt))

spent_held : (h : Holding) → h ≡ Spent → h ≢ Free
spent_held h e f = cc

standing_held : (h : Holding) (deadline : _) → h ≡ Standing deadline → h ≢ Free
standing_held h deadline e f = cc

join_held : (h k : Holding) → h ≢ Free → join_hold h k ≡ h
join_held Free k held = absurd (held refl)
join_held Spent k held = refl
join_held (Standing deadline) k held = refl

within_held : (x y : Holding) → IsWithin x y → x ≢ Free → y ≢ Free
within_held Free y h held = absurd (held refl)
within_held Spent y h held = λ e. cc
within_held (Standing deadline) y h held = λ e. cc

within_free : (x y : Holding) → IsWithin x y → y ≡ Free → x ≡ Free
within_free Free y h e = refl
within_free Spent y h e = (let f : y ≡ Spent = h in cc)
within_free (Standing deadline) y h e = (let f : y ≡ Standing deadline = h in cc)

pub within_itself : (h : Holding) → IsWithin h h
within_itself Free = tt
within_itself Spent = refl
within_itself (Standing deadline) = refl

within_join : (x y k : Holding) → (y ≡ Free) ⊎ (k ≡ Free) → IsWithin x y → IsWithin (join_hold x k) (join_hold y k)
within_join Free y Free apart h = tt
within_join Free y Spent (inl e) h = rw e refl
within_join Free y Spent (inr e) h = (let f = e in cc)
within_join Free y (Standing deadline) (inl e) h = rw e refl
within_join Free y (Standing deadline) (inr e) h = (let f = e in cc)
within_join Spent y k apart h = rw h refl
within_join (Standing deadline) y k apart h = rw h refl

-- g holds what h and k hold together
abbrev pub Together : (h k g : ℕ → Holding) → Type 0
Together h k g = (c : ℕ) → g c ≡ join_hold (h c) (k c)

together_with : (n : ℕ) (x : Holding) (h k g : ℕ → Holding) → k n ≡ Free → Together h k g
    → Together (with_hold n x h) k (with_hold n x g)
together_with n x h k g free is c =
    elim (nat_eq c n) as (λ b. nat_eq c n ≡ b → (if b then x else g c) ≡ join_hold (if b then x else h c) (k c)) [
      | true ↦ λ e. (let same : c ≡ n = grind (arith, nat_tests) in rw (ap k same ∙ free) (sym (join_free x)))
      | false ↦ λ e. is c
    ] refl

apart_with : (n : ℕ) (x : Holding) (h k : ℕ → Holding) → k n ≡ Free → IsApart h k → IsApart (with_hold n x h) k
apart_with n x h k free a c =
    elim (nat_eq c n) as (λ b. nat_eq c n ≡ b → ((if b then x else h c) ≡ Free) ⊎ (k c ≡ Free))
    [ true ↦ λ e. (let same : c ≡ n = grind (arith, nat_tests) in inr (ap k same ∙ free)) | false ↦ λ e. a c ] refl

below_with : (n m : ℕ) (x : Holding) (h : ℕ → Holding) → n < m → IsBelow m h → IsBelow m (with_hold n x h)
below_with n m x h lt b c =
    elim (nat_eq c n) as (λ t. nat_eq c n ≡ t → (if t then x else h c) ≢ Free → c < m) [
      | true ↦ λ e held. (let same : c ≡ n = grind (arith, nat_tests) in omega (arith, same, lt))
      | false ↦ λ e held. b c held
    ] refl

below_more : (m : ℕ) (h : ℕ → Holding) → IsBelow m h → IsBelow (m + 1) h
below_more m h b c held = let lt = b c held in omega (arith, lt)

-- the next counter after these steps
abbrev pub next_after : {P : Type 0} → ℕ → List (PollStep P) → ℕ
next_after next [] = next
next_after next (Arm deadline token ∷ ss) = next_after (next + 1) ss
next_after next (ArmAgain counter deadline token ∷ ss) = next_after next ss
next_after next (Cancel counter ∷ ss) = next_after next ss
next_after next (Call counter deadline ∷ ss) = next_after next ss
next_after next (TakePass ∷ ss) = next_after next ss
next_after next (PutBack pass ∷ ss) = next_after next ss
next_after next (ReadClock now after ∷ ss) = next_after next ss
next_after next (Socket edit after ∷ ss) = next_after next ss
next_after next (Fault call cause after ∷ ss) = next_after next ss

pub next_is : {P : Type 0} (v : PollView P) (l : List (PollStep P))
    → (polls_after v l).deadlines.next ≡ next_after v.deadlines.next l
next_is v [] = refl
next_is v (Arm deadline token ∷ ss) = next_is (polls_after v (Arm deadline token ∷ [])) ss
next_is v (ArmAgain counter deadline token ∷ ss) = next_is (polls_after v (ArmAgain counter deadline token ∷ [])) ss
next_is v (Cancel counter ∷ ss) = next_is (polls_after v (Cancel counter ∷ [])) ss
next_is v (Call counter deadline ∷ ss) = next_is v ss
next_is v (TakePass ∷ ss) = next_is (polls_after v (TakePass ∷ [])) ss
next_is v (PutBack pass ∷ ss) = next_is (polls_after v (PutBack pass ∷ [])) ss
next_is v (ReadClock now after ∷ ss) = next_is (polls_after v (ReadClock now after ∷ [])) ss
next_is v (Socket edit after ∷ ss) = next_is (polls_after v (Socket edit after ∷ [])) ss
next_is v (Fault call cause after ∷ ss) = next_is (polls_after v (Fault call cause after ∷ [])) ss

-- what one source's steps keep beside another source's counters
pub record IsBeside {P : Type 0} (next : ℕ) (l : List (PollStep P)) (h h' k g g' : ℕ → Holding) : Type 0 where
  pub keeps : Keeps g next l g'
  pub apart : IsApart h' k
  pub below : IsBelow (next_after next l) h'
  pub other : IsBelow (next_after next l) k

pub keeps_beside : {P : Type 0} (next : ℕ) (l : List (PollStep P)) (h h' k g g' : ℕ → Holding) → Keeps h next l h'
    → IsApart h k
    → IsBelow next h → IsBelow next k → Together h k g → (IsApart h' k → Together h' k g') → IsBeside next l h h' k g g'
keeps_beside next [] h h' k g g' kept apart below other is is' =
    let apart' : IsApart h' k = λ c.
    elim (apart c) [ inl e ↦ inl (within_free (h' c) (h c) (kept c) e) | inr e ↦ inr e ] in
    record {
      keeps = λ c. rw (is c, is' apart' c) (within_join (h' c) (h c) (k c) (apart c) (kept c));
      apart = apart';
      below = λ c held. below c (within_held (h' c) (h c) (kept c) held);
      other = other;
    }
keeps_beside next (Arm deadline token ∷ ss) h h' k g g' kept apart below other is is' =
    let free : k next ≡ Free = free_at next (k next) (other next) in
    let r = keeps_beside (next + 1) ss (with_hold next (Standing deadline) h) h' k
    (with_hold next (Standing deadline) g) g' kept
    (apart_with next (Standing deadline) h k free apart)
    (below_with next (next + 1) (Standing deadline) h (omega arith) (below_more next h below)) (below_more next k other)
    (together_with next (Standing deadline) h k g free is) is' in
    record { keeps = r.keeps; apart = r.apart; below = r.below; other = r.other }
keeps_beside next (ArmAgain n deadline token ∷ ss) h h' k g g' kept apart below other is is' =
    let mine : h n ≢ Free = spent_held (h n) kept.0 in
    let free : k n ≡ Free = other_is_free (h n) (k n) (apart n) mine in
    let r = keeps_beside next ss (with_hold n (Standing deadline) h) h' k (with_hold n (Standing deadline) g) g' kept.1
    (apart_with n (Standing deadline) h k free apart)
    (below_with n next (Standing deadline) h (below n mine) below) other
    (together_with n (Standing deadline) h k g free is) is' in
    record {
      keeps = (is n ∙ join_held (h n) (k n) mine ∙ kept.0, r.keeps);
      apart = r.apart;
      below = r.below;
      other = r.other;
    }
keeps_beside next (Cancel n ∷ ss) h h' k g g' kept apart below other is is' =
    let mine : h n ≢ Free = kept.0 in
    let free : k n ≡ Free = other_is_free (h n) (k n) (apart n) mine in
    let r = keeps_beside next ss (with_hold n Free h) h' k (with_hold n Free g) g' kept.1
    (apart_with n Free h k free apart)
    (below_with n next Free h (below n mine) below) other (together_with n Free h k g free is) is' in
    record {
      keeps = (λ e. mine (sym (is n ∙ join_held (h n) (k n) mine) ∙ e), r.keeps);
      apart = r.apart;
      below = r.below;
      other = r.other;
    }
keeps_beside next (Call n deadline ∷ ss) h h' k g g' kept apart below other is is' =
    let mine : h n ≢ Free = standing_held (h n) deadline kept.0 in
    let free : k n ≡ Free = other_is_free (h n) (k n) (apart n) mine in
    let r = keeps_beside next ss (with_hold n Spent h) h' k (with_hold n Spent g) g' kept.1
    (apart_with n Spent h k free apart)
    (below_with n next Spent h (below n mine) below) other (together_with n Spent h k g free is) is' in
    record {
      keeps = (is n ∙ join_held (h n) (k n) mine ∙ kept.0, r.keeps);
      apart = r.apart;
      below = r.below;
      other = r.other;
    }
keeps_beside next (TakePass ∷ ss) h h' k g g' kept apart below other is is' =
    let r = keeps_beside next ss h h' k g g' kept apart below other is is' in
    record { keeps = r.keeps; apart = r.apart; below = r.below; other = r.other }
keeps_beside next (PutBack pass ∷ ss) h h' k g g' kept apart below other is is' =
    let r = keeps_beside next ss h h' k g g' kept apart below other is is' in
    record { keeps = r.keeps; apart = r.apart; below = r.below; other = r.other }
keeps_beside next (ReadClock now after ∷ ss) h h' k g g' kept apart below other is is' =
    let r = keeps_beside next ss h h' k g g' kept apart below other is is' in
    record { keeps = r.keeps; apart = r.apart; below = r.below; other = r.other }
keeps_beside next (Socket edit after ∷ ss) h h' k g g' kept apart below other is is' =
    let r = keeps_beside next ss h h' k g g' kept apart below other is is' in
    record { keeps = r.keeps; apart = r.apart; below = r.below; other = r.other }
keeps_beside next (Fault call cause after ∷ ss) h h' k g g' kept apart below other is is' =
    let r = keeps_beside next ss h h' k g g' kept apart below other is is' in
    record { keeps = r.keeps; apart = r.apart; below = r.below; other = r.other }

within_is : (x y z : Holding) → z ≢ Free → IsWithin x y → x ≡ z → y ≡ z
within_is Free y z held h e = absurd (held (sym e))
within_is Spent y z held h e = h ∙ e
within_is (Standing deadline) y z held h e = h ∙ e

within_with : (n c : ℕ) (x : Holding) (g f : ℕ → Holding) → ((c : ℕ) → IsWithin (g c) (f c))
    → IsWithin (with_hold n x g c) (with_hold n x f c)
within_with n c x g f w =
    elim (nat_eq c n) as (λ b. IsWithin (if b then x else g c) (if b then x else f c))
    [ true ↦ within_itself x | false ↦ w c ]

pub within_twice : (x y z : Holding) → IsWithin x y → IsWithin y z → IsWithin x z
within_twice Free y z h k = tt
within_twice Spent y z h k = within_is y z Spent (λ e. cc) k h
within_twice (Standing deadline) y z h k = within_is y z (Standing deadline) (λ e. cc) k h

-- a source that holds more can make the same steps
keeps_more : {P : Type 0} (next : ℕ) (l : List (PollStep P)) (g f h : ℕ → Holding) → ((c : ℕ) → IsWithin (g c) (f c))
    → Keeps g next l h → Keeps f next l h
keeps_more next [] g f h w k = λ c. within_twice (h c) (g c) (f c) (k c) (w c)
keeps_more next (Arm deadline token ∷ ss) g f h w k = keeps_more (next + 1) ss (with_hold next (Standing deadline) g)
    (with_hold next (Standing deadline) f) h (λ c. within_with next c (Standing deadline) g f w) k
keeps_more next (ArmAgain n deadline token ∷ ss) g f h w k = (
  within_is (g n) (f n) Spent (λ e. cc) (w n) k.0,
  keeps_more next ss (with_hold n (Standing deadline) g)
      (with_hold n (Standing deadline) f) h (λ c. within_with n c (Standing deadline) g f w) k.1,
)
keeps_more next (Cancel n ∷ ss) g f h w k = (
  within_held (g n) (f n) (w n) k.0,
  keeps_more next ss (with_hold n Free g) (with_hold n Free f) h
      (λ c. within_with n c Free g f w) k.1,
)
keeps_more next (Call n deadline ∷ ss) g f h w k = (
  within_is (g n) (f n) (Standing deadline) (λ e. cc) (w n) k.0,
  keeps_more next ss (with_hold n Spent g)
      (with_hold n Spent f) h (λ c. within_with n c Spent g f w) k.1,
)
keeps_more next (TakePass ∷ ss) g f h w k = keeps_more next ss g f h w k
keeps_more next (PutBack pass ∷ ss) g f h w k = keeps_more next ss g f h w k
keeps_more next (ReadClock now after ∷ ss) g f h w k = keeps_more next ss g f h w k
keeps_more next (Socket edit after ∷ ss) g f h w k = keeps_more next ss g f h w k
keeps_more next (Fault call cause after ∷ ss) g f h w k = keeps_more next ss g f h w k

-- steps, and then others from the holding that those led to
pub keeps_then : {P : Type 0} (next : ℕ) (l m : List (PollStep P)) (f g h : ℕ → Holding) → Keeps f next l g → Keeps g
    (next_after next l) m h → Keeps f next (l ++ m) h
keeps_then next [] m f g h a b = keeps_more next m g f h a b
keeps_then next (Arm deadline token ∷ ss) m f g h a b =
    keeps_then (next + 1) ss m (with_hold next (Standing deadline) f) g h a b
keeps_then next (ArmAgain n deadline token ∷ ss) m f g h a b =
    (a.0, keeps_then next ss m (with_hold n (Standing deadline) f) g h a.1 b)
keeps_then next (Cancel n ∷ ss) m f g h a b = (a.0, keeps_then next ss m (with_hold n Free f) g h a.1 b)
keeps_then next (Call n deadline ∷ ss) m f g h a b = (a.0, keeps_then next ss m (with_hold n Spent f) g h a.1 b)
keeps_then next (TakePass ∷ ss) m f g h a b = keeps_then next ss m f g h a b
keeps_then next (PutBack pass ∷ ss) m f g h a b = keeps_then next ss m f g h a b
keeps_then next (ReadClock now after ∷ ss) m f g h a b = keeps_then next ss m f g h a b
keeps_then next (Socket edit after ∷ ss) m f g h a b = keeps_then next ss m f g h a b
keeps_then next (Fault call cause after ∷ ss) m f g h a b = keeps_then next ss m f g h a b

pub left_held : (h k : Holding) → h ≢ Free → join_hold h k ≢ Free
left_held Free k held = absurd (held refl)
left_held Spent k held = λ e. cc
left_held (Standing deadline) k held = λ e. cc

pub right_held : (h k : Holding) → k ≢ Free → join_hold h k ≢ Free
right_held Free k held = held
right_held Spent k held = λ e. cc
right_held (Standing deadline) k held = λ e. cc

pub apart_sym : (h k : ℕ → Holding) → IsApart h k → IsApart k h
apart_sym h k a c = elim (a c) [ inl e ↦ inr e | inr e ↦ inl e ]

-- these steps also lead to any holding that is less
pub keeps_less : {P : Type 0} (next : ℕ) (l : List (PollStep P)) (f g h : ℕ → Holding) → ((c : ℕ) → IsWithin (h c) (g c))
    → Keeps f next l g → Keeps f next l h
keeps_less next [] f g h w k = λ c. within_twice (h c) (g c) (f c) (w c) (k c)
keeps_less next (Arm deadline token ∷ ss) f g h w k =
    keeps_less (next + 1) ss (with_hold next (Standing deadline) f) g h w k
keeps_less next (ArmAgain n deadline token ∷ ss) f g h w k =
    (k.0, keeps_less next ss (with_hold n (Standing deadline) f) g h w k.1)
keeps_less next (Cancel n ∷ ss) f g h w k = (k.0, keeps_less next ss (with_hold n Free f) g h w k.1)
keeps_less next (Call n deadline ∷ ss) f g h w k = (k.0, keeps_less next ss (with_hold n Spent f) g h w k.1)
keeps_less next (TakePass ∷ ss) f g h w k = keeps_less next ss f g h w k
keeps_less next (PutBack pass ∷ ss) f g h w k = keeps_less next ss f g h w k
keeps_less next (ReadClock now after ∷ ss) f g h w k = keeps_less next ss f g h w k
keeps_less next (Socket edit after ∷ ss) f g h w k = keeps_less next ss f g h w k
keeps_less next (Fault call cause after ∷ ss) f g h w k = keeps_less next ss f g h w k

pub within_right : (h k : Holding) → (h ≡ Free) ⊎ (k ≡ Free) → IsWithin k (join_hold h k)
within_right h k (inl e) = rw e (within_itself k)
within_right h k (inr e) = rw e tt

either_held : (h k : Holding) → join_hold h k ≢ Free → (h ≢ Free) ⊎ (k ≢ Free)
either_held Free k held = inr held
either_held Spent k held = inl (λ e. cc)
either_held (Standing deadline) k held = inl (λ e. cc)

pub below_both : (next : ℕ) (a b : ℕ → Holding) → IsBelow next a → IsBelow next b → IsBelow next (beside a b)
below_both next a b x y c held = elim (either_held (a c) (b c) held) [ inl h ↦ x c h | inr h ↦ y c h ]

-- A source in one call, beside what another one holds.

pub left_moves : {S P T : Type 0} (m : Meaning S P T) → KeepsCounters m
    → (s t : S) (b : ℕ → Holding) (v : PollView P) (deed : Deed T) (l : List (PollStep P))
    → m.fits s → IsApart (m.holds s) b → IsBelow v.deadlines.next (beside (m.holds s) b) → m.does s v deed l t
    → m.fits t
    × IsBeside v.deadlines.next l (m.holds s) (m.holds t) b (beside (m.holds s) b) (beside (m.holds t) b)
left_moves m k s t b v deed l fits apart below d =
    let next = v.deadlines.next in
    let a = m.holds s in
    let a' = m.holds t in
    let below_a : IsBelow next a = λ c held. below c (left_held (a c) (b c) held) in
    let below_b : IsBelow next b = λ c held. below c (right_held (a c) (b c) held) in
    let x = k s t v deed l fits below_a d in
    (x.0, keeps_beside next l a a' b (beside a b) (beside a' b) x.1 apart below_a below_b (λ c. refl) (λ _ c. refl))

pub right_moves : {S P T : Type 0} (m : Meaning S P T) → KeepsCounters m
    → (s t : S) (a : ℕ → Holding) (v : PollView P) (deed : Deed T) (l : List (PollStep P))
    → m.fits s → IsApart a (m.holds s) → IsBelow v.deadlines.next (beside a (m.holds s)) → m.does s v deed l t
    → m.fits t
    × IsBeside v.deadlines.next l (m.holds s) (m.holds t) a (beside a (m.holds s)) (beside a (m.holds t))
right_moves m k s t a v deed l fits apart below d =
    let next = v.deadlines.next in
    let b = m.holds s in
    let b' = m.holds t in
    let below_a : IsBelow next a = λ c held. below c (left_held (a c) (b c) held) in
    let below_b : IsBelow next b = λ c held. below c (right_held (a c) (b c) held) in
    let x = k s t v deed l fits below_b d in (
      x.0,
      keeps_beside next l b b' a (beside a b) (beside a b') x.1 (apart_sym a b apart) below_b below_a
          (λ c. join_swap (a c) (b c) (apart c)) (λ held c. join_swap (a c) (b' c) (apart_sym b' a held c)),
    )

-- Of keys.

pub acts_then : {P : Type 0} (r : RegistrationToken) (l m : List (PollStep P)) → AllActFor r l → AllActFor r m
    → AllActFor r (l ++ m)
acts_then r [] m a b = b
acts_then r (s ∷ ss) m a b = (a.0, acts_then r ss m a.1 b)
