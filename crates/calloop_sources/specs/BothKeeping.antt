-- Two sources with their callbacks as one keep the laws if both do. The impl cites these proofs, so they are here.
use Rattle.std.specs.Prelude.{◌≡◌, ◌<◌, ◌++◌, [], ◌∷◌, List, Option, None, Some, Result, Ok, Err}
use Rattle.std.proofs.Common.{inl, inr, refl, sym, ap, ◌∙◌}
use Rattle.calloop_slots.specs.Widths.{parts}
use Rattle.calloop_slots.specs.declared.error.Error.{Error}
use Rattle.calloop_slots.specs.declared.token.Token.{Token}
use Rattle.calloop_slots.specs.declared.token.TokenFactory.{TokenFactory}
use Rattle.calloop_slots.specs.declared.token.RegistrationToken.{RegistrationToken}
use Rattle.calloop_poll.specs.declared.sys.Readiness.{Readiness}
use Rattle.calloop_sources.specs.declared.sources.source.PostAction.{PostAction}
use Rattle.calloop_sources.specs.declared.both.Both.{Both}
use Rattle.calloop_sources.specs.sources.Actions.{either}
use Rattle.calloop_poll.specs.sys.Polls.{PollView, PollStep, polls_after}
use Rattle.calloop_sources.specs.sources.Calls.{IsOfSource}
use Rattle.calloop_sources.specs.sources.Deeds.{Deed, Registered, Reregistered, Unregistered, Turned, Slept, Noticed, Lent, lend}
use Rattle.calloop_sources.specs.sources.Lawful.{silent}
use Rattle.calloop_sources.specs.sources.Holdings.{IsBelow, Keeps}
use Rattle.calloop_poll.specs.sys.Keys.{IsFactoryOf, AllActFor}
use Rattle.calloop_sources.specs.sources.Meanings.{Meaning, IsKeeping, KeepsCounters, KeepsHome, IsAtHome, BeginsIn, IsAsking}
use Rattle.calloop_sources.specs.sources.Meanings.{FailsAsSource}
use Rattle.calloop_sources.specs.sources.Quiet.{IsQuiet}
use Rattle.calloop_sources.specs.sources.Beside.{
  within_itself,
  keeps_then,
  apart_sym,
  next_after,
  next_is,
  below_both,
  left_moves,
  right_moves,
  acts_then,
}
use Rattle.calloop_sources.specs.Boths.{
  MayDo,
  AsksBoth,
  Followed,
  FollowedBy,
  JoinedAs,
  TurnedBy,
  UnregistersBoth,
  ThenAnew,
  IsBoth,
  both_holds,
  both_fits,
  both_meaning,
}

polls_append : {P : Type 0} (v : PollView P) (l k : List (PollStep P))
    → polls_after v (l ++ k) ≡ polls_after (polls_after v l) k
polls_append v [] k = refl
polls_append v (s ∷ ss) k = polls_append (polls_after v (s ∷ [])) ss k

module _ {A B P X Q : Type 0} (m : Meaning A P (Lent X Q)) (n : Meaning B P (Lent X Q))
    (j : IsKeeping m) (k : IsKeeping n) where
  -- what a sequence of calls keeps
  pub record IsRow (s : Both A B) (v : PollView P) (l : List (PollStep P)) (t : Both A B) : Type 0 where
    pub fits : both_fits m n t
    pub keeps : Keeps (both_holds m n s) v.deadlines.next l (both_holds m n t)
    pub below : IsBelow (polls_after v l).deadlines.next (both_holds m n t)

  rest_row : (s : Both A B) (v : PollView P) → both_fits m n s → IsBelow v.deadlines.next (both_holds m n s) → IsRow s v [] s
  rest_row s v fits below = record { fits = fits; keeps = λ c. within_itself (both_holds m n s c); below = below }

  then_row : (s u t : Both A B) (v : PollView P) (l l' : List (PollStep P)) → IsRow s v l u
      → IsRow u (polls_after v l) l' t → IsRow s v (l ++ l') t
  then_row s u t v l l' x y =
      let at : (polls_after v l).deadlines.next ≡ next_after v.deadlines.next l = next_is v l in
      let kept : Keeps (both_holds m n u) (next_after v.deadlines.next l) l' (both_holds m n t) = rw at at y.keeps in
      record {
        fits = y.fits;
        keeps = keeps_then v.deadlines.next l l' (both_holds m n s) (both_holds m n u) (both_holds m n t) x.keeps kept;
        below = rw (polls_append v l l') y.below;
      }

  first_row : (s t : Both A B) (v : PollView P) (deed : Deed (Lent X Q)) (l : List (PollStep P)) → t.second ≡ s.second
      → both_fits m n s → IsBelow v.deadlines.next (both_holds m n s) → m.does s.first v deed l t.first → IsRow s v l t
  first_row s t v deed l same fits below d =
      let x = left_moves m j.counters s.first t.first (n.holds s.second) v deed l fits.0 fits.2 below d in
      let at : (polls_after v l).deadlines.next ≡ next_after v.deadlines.next l = next_is v l in
      record {
        fits = rw same (x.0, fits.1, x.1.apart);
        keeps = rw same x.1.keeps;
        below = rw (same, at)
            (below_both (next_after v.deadlines.next l) (m.holds t.first) (n.holds s.second) x.1.below x.1.other);
      }

  second_row : (s t : Both A B) (v : PollView P) (deed : Deed (Lent X Q)) (l : List (PollStep P)) → t.first ≡ s.first
      → both_fits m n s → IsBelow v.deadlines.next (both_holds m n s) → n.does s.second v deed l t.second → IsRow s v l t
  second_row s t v deed l same fits below d =
      let x = right_moves n k.counters s.second t.second (m.holds s.first) v deed l fits.1 fits.2 below d in
      let at : (polls_after v l).deadlines.next ≡ next_after v.deadlines.next l = next_is v l in
      record {
        fits = rw same (fits.0, x.0, apart_sym (n.holds t.second) (m.holds s.first) x.1.apart);
        keeps = rw same x.1.keeps;
        below = rw (same, at)
            (below_both (next_after v.deadlines.next l) (m.holds s.first) (n.holds t.second) x.1.other x.1.below);
      }

  may_row : (s t : Both A B) (v : PollView P) (deed : Option (Deed (Lent X Q))) (l : List (PollStep P))
      → t.first ≡ s.first → both_fits m n s → IsBelow v.deadlines.next (both_holds m n s)
      → MayDo n s.second v deed l t.second → IsRow s v l t
  may_row s t v (Some deed) l same fits below d = second_row s t v deed l same fits below d
  may_row s t v None l same fits below d =
      record {
        fits = rw (same, d.1) fits;
        keeps = rw (d.0, same, d.1) (λ c. within_itself (both_holds m n s c));
        below = rw (d.0, same, d.1) below;
      }

  asks_row : (first : Deed (Lent X Q)) (second : Option (Deed (Lent X Q))) (s t : Both A B) (v : PollView P)
      (l : List (PollStep P)) → both_fits m n s → IsBelow v.deadlines.next (both_holds m n s)
      → AsksBoth m n first second s v l t → IsRow s v l t
  asks_row first second s t v l fits below h =
      let u : Both A B = record { first = t.first; second = s.second } in
      let x = first_row s u v first h.one refl fits below h.does in
      let y = may_row u t (polls_after v h.one) second h.more refl x.fits x.below h.may in
      rw h.steps_are (then_row s u t v h.one h.more x y)

  anew_row : (told a : Result (Unit {0}) Error) (s t : Both A B) (v : PollView P) (f g : TokenFactory)
      (l : List (PollStep P)) → both_fits m n s → IsBelow v.deadlines.next (both_holds m n s)
      → ThenAnew m n told s v f a g l t → IsRow s v l t
  anew_row (Ok u) a s t v f g l fits below h = asks_row (Reregistered f h.0 h.1) h.2 s t v l fits below h.4
  anew_row (Err e) a s t v f g l fits below h = rw (h.2, h.3) (rest_row s v fits below)

  both_row : (s t : Both A B) (v : PollView P) (deed : Deed (Lent X Q)) (l : List (PollStep P))
      → both_fits m n s → IsBelow v.deadlines.next (both_holds m n s) → IsBoth m n s v deed l t → IsRow s v l t
  both_row s t v (Registered f a g) l fits below h = asks_row (Registered f h.0 h.1) h.2 s t v l fits below h.4
  both_row s t v (Unregistered a) l fits below h = asks_row (Unregistered h.0) h.1 s t v l fits below h.3
  both_row s t v (Reregistered f a g) l fits below h =
      let x = asks_row (Unregistered h.leaves.0) h.leaves.1 s h.between v h.one fits below h.leaves.3 in
      let y = anew_row h.told a h.between t (polls_after v h.one) f g h.more x.fits x.below h.comes in
      rw h.steps_are (then_row s h.between t v h.one h.more x y)
  both_row s t v (Turned readiness token turn) l fits below h =
      asks_row (Turned readiness token h.0) h.1 s t v l fits below h.3
  both_row s t v (Slept gs a) l fits below h = rw (h.1, h.2) (rest_row s v fits below)
  both_row s t v (Noticed es) l fits below h = rw (h.0, h.1) (rest_row s v fits below)

  both_counts : KeepsCounters (both_meaning m n)
  both_counts s t v deed l fits below h = let x = both_row s t v deed l fits below h in (x.fits, x.keeps)

  -- Of keys.

  module _ (r : RegistrationToken) where
    abbrev HomeBoth : Both A B → Type 0
    HomeBoth s = IsAtHome m r s.first × IsAtHome n r s.second

    abbrev MayBegin : (home : Type 0) → Option (Deed (Lent X Q)) → Type 0
    MayBegin home None = home
    MayBegin home (Some deed) = BeginsIn home r deed

    may_home : (s t : B) (v : PollView P) (deed : Option (Deed (Lent X Q))) (l : List (PollStep P))
        → MayBegin (IsAtHome n r s) deed → MayDo n s v deed l t
        → IsAtHome n r t × (IsAtHome n r s → AllActFor r l)
    may_home s t v None l begins d = rw (d.0, d.1) (begins, λ home. tt)
    may_home s t v (Some deed) l begins d = k.home r s t v deed l begins d

    asks_home : (first : Deed (Lent X Q)) (second : Option (Deed (Lent X Q))) (s t : Both A B) (v : PollView P)
        (l : List (PollStep P)) → BeginsIn (IsAtHome m r s.first) r first → MayBegin (IsAtHome n r s.second) second
        → AsksBoth m n first second s v l t → HomeBoth t × (HomeBoth s → AllActFor r l)
    asks_home first second s t v l begins may h =
        let x = j.home r s.first t.first v first h.one begins h.does in
        let y = may_home s.second t.second (polls_after v h.one) second h.more may h.may in
        ((x.0, y.0), λ home. rw h.steps_are (acts_then r h.one h.more (x.1 home.0) (y.1 home.1)))

    -- a part's registration returns this if the whole's returns that
    begins_first : (home : Type 0) (f h g : TokenFactory) (told a : Result (Unit {0}) Error)
        (second : Option (Deed (Lent X Q)))
        → (a ≡ Ok tt → told ≡ Ok tt) → BeginsIn {T = Lent X Q} home r (Registered f a g)
        → BeginsIn {T = Lent X Q} home r (Registered f told h)
    begins_first home f h g (Ok u) (Ok w) second so begins = begins
    begins_first home f h g (Ok u) (Err e) second so begins = begins.1
    begins_first home f h g (Err e) (Ok w) second so begins = (let no = so refl in cc)
    begins_first home f h g (Err e) (Err e') second so begins = begins

    told_first : (deed : TokenFactory → Result (Unit {0}) Error → TokenFactory → Deed (Lent X Q)) (f h g : TokenFactory)
        (told a : Result (Unit {0}) Error) (second : Option (Deed (Lent X Q))) → FollowedBy deed f told h a g second
        → a ≡ Ok tt → told ≡ Ok tt
    told_first deed f h g (Ok u) a second by is = refl
    told_first deed f h g (Err e) a second by is = (let other = by.1 in let no : Ok tt ≡ Err e = sym is ∙ other in cc)

    passed : (f h : TokenFactory) → h.registration ≡ f.registration → h.given < parts → IsFactoryOf r f → IsFactoryOf r h
    passed f h same fits is = (same ∙ is.0, fits)

    begins_part : (whole part : Type 0) (f g : TokenFactory) (a : Result (Unit {0}) Error) → (whole → part)
        → BeginsIn {T = Lent X Q} whole r (Registered f a g) → BeginsIn {T = Lent X Q} part r (Registered f a g)
    begins_part whole part f g (Ok u) home begins = begins
    begins_part whole part f g (Err e) home begins = (home begins.0, begins.1)

    begins_second : (home : Type 0) (f h g : TokenFactory) (told a : Result (Unit {0}) Error)
        (second : Option (Deed (Lent X Q)))
        → FollowedBy (λ f a g. Registered f a g) f told h a g second
        → BeginsIn {T = Lent X Q} home r (Registered f a g) → MayBegin home second
    begins_second home f h g (Ok u) (Ok w) second (inl by) begins = (let no = by.2 in cc)
    begins_second home f h g (Ok u) (Ok w) second (inr by) begins = rw by.2 (passed f h by.0 by.1 begins)
    begins_second home f h g (Ok u) (Err e) second (inl by) begins = rw by.1 begins.0
    begins_second home f h g (Ok u) (Err e) second (inr by) begins = rw by.2 (begins.0, passed f h by.0 by.1 begins.1)
    begins_second home f h g (Err e) (Ok w) second by begins = (let no = by.1 in cc)
    begins_second home f h g (Err e) (Err e') second by begins = rw by.0 begins.0

    begins_anew : (home : Type 0) (f h g : TokenFactory) (told a : Result (Unit {0}) Error)
        (second : Option (Deed (Lent X Q)))
        → FollowedBy (λ f a g. Reregistered f a g) f told h a g second → home × IsFactoryOf r f → MayBegin home second
    begins_anew home f h g (Ok u) a second (inl by) begins = rw by.1 begins.0
    begins_anew home f h g (Ok u) a second (inr by) begins = rw by.2 (begins.0, passed f h by.0 by.1 begins.1)
    begins_anew home f h g (Err e) a second by begins = rw by.0 begins.0

    begins_leaving : (home : Type 0) (told a : Result (Unit {0}) Error) (second : Option (Deed (Lent X Q)))
        → Followed told a second → home → MayBegin home second
    begins_leaving home (Ok u) a second by begins = rw by begins
    begins_leaving home (Err e) a second by begins = rw by.0 begins

    begins_turning : (home : Type 0) (readiness : Readiness) (token : Token) (one turn : Lent X Q)
        (told : Result PostAction Error) (second : Option (Deed (Lent X Q)))
        → TurnedBy readiness token one told turn second → home → MayBegin home second
    begins_turning home readiness token one turn (Ok action) second by begins = rw by.1 begins
    begins_turning home readiness token one turn (Err e) second by begins = rw by.0 begins

    leaves_home : (s t : Both A B) (v : PollView P) (a : Result (Unit {0}) Error) (l : List (PollStep P)) → HomeBoth s
        → UnregistersBoth m n s v a l t → HomeBoth t × (HomeBoth s → AllActFor r l)
    leaves_home s t v a l home h =
        asks_home (Unregistered h.0) h.1 s t v l home.0 (begins_leaving (IsAtHome n r s.second) h.0 a h.1 h.2 home.1) h.3

    anew_home : (told a : Result (Unit {0}) Error) (s t : Both A B) (v : PollView P) (f g : TokenFactory)
        (l : List (PollStep P)) → HomeBoth s → IsFactoryOf r f → ThenAnew m n told s v f a g l t
        → HomeBoth t × (HomeBoth s → AllActFor r l)
    anew_home (Ok u) a s t v f g l home is h =
        asks_home (Reregistered f h.0 h.1) h.2 s t v l (home.0, is)
        (begins_anew (IsAtHome n r s.second) f h.1 g h.0 a h.2 h.3 (home.1, is)) h.4
    anew_home (Err e) a s t v f g l home is h = rw (h.2, h.3) (home, λ home. tt)

    -- keys of both, and of either
    apart_home : (s : Both A B) → IsAtHome (both_meaning m n) r s → HomeBoth s
    apart_home s home = (λ key held. home key (inl held), λ key held. home key (inr held))

    joined_home : (s : Both A B) → HomeBoth s → IsAtHome (both_meaning m n) r s
    joined_home s home key held = elim held [ inl x ↦ home.0 key x | inr x ↦ home.1 key x ]

    whole : (s t : Both A B) (l : List (PollStep P)) → HomeBoth t × (HomeBoth s → AllActFor r l)
        → IsAtHome (both_meaning m n) r t × (IsAtHome (both_meaning m n) r s → AllActFor r l)
    whole s t l x = (joined_home t x.0, λ home. x.1 (apart_home s home))

  both_stays : KeepsHome (both_meaning m n)
  both_stays r s t v (Registered f a g) l begins h =
      let start = begins_part r (IsAtHome (both_meaning m n) r s) (HomeBoth r s) f g a (apart_home r s) begins in
      let one = begins_part r (HomeBoth r s) (IsAtHome m r s.first) f g a (λ x. x.0) start in
      let other = begins_part r (HomeBoth r s) (IsAtHome n r s.second) f g a (λ x. x.1) start in
      let by = told_first r (λ f a g. Registered f a g) f h.1 g h.0 a h.2 h.3 in
      whole r s t l (
      asks_home r (Registered f h.0 h.1) h.2 s t v l
      (begins_first r (IsAtHome m r s.first) f h.1 g h.0 a h.2 by one)
      (begins_second r (IsAtHome n r s.second) f h.1 g h.0 a h.2 h.3 other) h.4)
  both_stays r s t v (Unregistered a) l begins h =
      whole r s t l (leaves_home r s t v a l (apart_home r s begins) h)
  both_stays r s t v (Reregistered f a g) l begins h =
      let x = leaves_home r s h.between v h.told h.one (apart_home r s begins.0) h.leaves in
      let y = anew_home r h.told a h.between t (polls_after v h.one) f g h.more x.0 begins.1 h.comes in
      whole r s t l (
        y.0,
        λ home. rw h.steps_are (acts_then r h.one h.more (x.1 home) (y.1 x.0)),
      )
  both_stays r s t v (Turned readiness token turn) l begins h =
      let home = apart_home r s begins in
      whole r s t l (
      asks_home r (Turned readiness token h.0) h.1 s t v l home.0
      (begins_turning r (IsAtHome n r s.second) readiness token h.0 turn h.0.answer h.1 h.2 home.1) h.3)
  both_stays r s t v (Slept gs a) l begins h = rw (h.1, h.2) (begins, λ home. tt)
  both_stays r s t v (Noticed es) l begins h = rw (h.0, h.1) (begins, λ home. tt)

  pub keeping_both : IsKeeping (both_meaning m n)
  keeping_both =
      record {
        counters = both_counts;
        home = both_stays;
        limit = silent (both_meaning m n) (λ s. refl) (λ s t v given answer steps h. h.0.0);
      }

joined_fails : (action : PostAction) (other answer : Result PostAction Error) (e : Error) → JoinedAs action other answer
    → answer ≡ Err e → other ≡ Err e
joined_fails action (Ok x) answer e by is = (let no : Ok (either action x) ≡ Err e = sym by ∙ is in cc)
joined_fails action (Err e') answer e by is = sym by ∙ is

module _ {A B P X Q : Type 0} (m : Meaning A P (Lent X Q)) (n : Meaning B P (Lent X Q)) where
  asks_turn : (reaches : Q → Q → Type 0) → ((q r s : Q) → reaches q r → reaches r s → reaches q s)
      → IsAsking reaches m → IsAsking reaches n → (told : Result PostAction Error)
      → (s t : Both A B) (v : PollView P) (readiness : Readiness) (token : Token) (one turn : Lent X Q)
      (second : Option (Deed (Lent X Q))) (l : List (PollStep P))
      → TurnedBy readiness token one told turn second → AsksBoth m n (Turned readiness token one) second s v l t
      → reaches turn.asked_before turn.asked_after
  asks_turn reaches goes_on x y (Ok action) s t v readiness token one turn second l by h =
      let first = x s.first t.first v readiness token one h.one h.does in
      let other = lend one.after one.asked_after by.0 turn.after turn.asked_after in
      let may : MayDo n s.second (polls_after v h.one) (Some (Turned readiness token other)) h.more t.second =
      rw (sym by.1) h.may in
      let then = y s.second t.second (polls_after v h.one) readiness token other h.more may in
      rw by.4 (goes_on one.asked_before one.asked_after turn.asked_after first then)
  asks_turn reaches goes_on x y (Err e) s t v readiness token one turn second l by h =
      rw by.1 (x s.first t.first v readiness token one h.one h.does)

  pub asking_both : (reaches : Q → Q → Type 0) → ((q r s : Q) → reaches q r → reaches r s → reaches q s)
      → IsAsking reaches m → IsAsking reaches n → IsAsking reaches (both_meaning m n)
  asking_both reaches goes_on x y s t v readiness token turn l h =
      asks_turn reaches goes_on x y h.0.answer s t v readiness token h.0 turn h.1 l h.2 h.3

  fails_turn : FailsAsSource m → FailsAsSource n → (told : Result PostAction Error)
      → (s t : Both A B) (v : PollView P) (readiness : Readiness) (token : Token) (one turn : Lent X Q)
      (second : Option (Deed (Lent X Q))) (l : List (PollStep P)) → one.answer ≡ told
      → TurnedBy readiness token one told turn second → AsksBoth m n (Turned readiness token one) second s v l t
      → (e : Error) → turn.answer ≡ Err e → IsOfSource e
  fails_turn x y (Ok action) s t v readiness token one turn second l was by h e is =
      let other = lend one.after one.asked_after by.0 turn.after turn.asked_after in
      let may : MayDo n s.second (polls_after v h.one) (Some (Turned readiness token other)) h.more t.second =
      rw (sym by.1) h.may in
      y s.second t.second (polls_after v h.one) readiness token other h.more may e
      (joined_fails action by.0 turn.answer e by.2 is)
  fails_turn x y (Err e') s t v readiness token one turn second l was by h e is =
      x s.first t.first v readiness token one h.one h.does e (ap (λ z. z.answer) (sym by.1) ∙ is)

  pub failing_both : FailsAsSource m → FailsAsSource n → FailsAsSource (both_meaning m n)
  failing_both x y s t v readiness token turn l h e is =
      fails_turn x y h.0.answer s t v readiness token h.0 turn h.1 l refl h.2 h.3 e is

  -- a turn asks for nothing if neither part's turn does
  pub quiet_both : IsQuiet m → IsQuiet n → IsQuiet (both_meaning m n)
  quiet_both x y = asking_both (λ q r. r ≡ q) (λ q r s first then. then ∙ first) x y
