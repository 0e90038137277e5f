-- What small lists of steps and of notes have.
use Rattle.std.proofs.Common.{◌≡◌, ℕ, Bool, true, false, ◌⊎◌, inl, inr, List, [], ◌∷◌, ◌++◌, ◌<◌, refl, ◌∙◌, ap, arith}
use Rattle.logbook.specs.Pages.{Book}
use Rattle.calloop_wake.specs.declared.notes.Note.TheVariants.{Looked, Marked}
use Rattle.calloop_wake_laws.specs.Wakes.{Wakeup}
use Rattle.calloop_poll.specs.declared.sys.poll.Pending.{Pending}
use Rattle.calloop_laws.specs.Examples.{with_a_source, history_of_a_ring, ring_before_it, turn_in_it, history_of_nothing, history_with_a_clearing, clearing_behind_it}
use Rattle.calloop_laws.specs.Histories.{Unseen, Noted}
use Rattle.calloop_laws.specs.Tied.{Taking}

pub no_nil : {A : Type 0} (c : A) (ahead behind : List A) → [] ≡ ahead ++ c ∷ behind → ⊥
no_nil {A} c [] behind h = (let f : ◌≡◌ {A = List A} [] (c ∷ behind) = h in cc)
no_nil {A} c (a ∷ ahead) behind h = (let f : ◌≡◌ {A = List A} [] (a ∷ (ahead ++ c ∷ behind)) = h in cc)

pub only_step : {A : Type 0} (c d : A) (ahead behind : List A) → c ∷ [] ≡ ahead ++ d ∷ behind → (ahead ≡ []) × (d ≡ c)
only_step {A} c d [] behind h = (refl, (let f : ◌≡◌ {A = List A} (c ∷ []) (d ∷ behind) = h in let e : d ≡ c = cc in e))
only_step {A} c d (a ∷ ahead) behind h =
    let f : ◌≡◌ {A = List A} (c ∷ []) (a ∷ (ahead ++ d ∷ behind)) = h in
    let r : [] ≡ ahead ++ d ∷ behind = cc in
    absurd (no_nil d ahead behind r)

pub first_or_second : {A : Type 0} (b c d : A) (ahead behind : List A) → b ∷ c ∷ [] ≡ ahead ++ d ∷ behind → (ahead ≡ []) ⊎ (ahead ≡ b ∷ [])
first_or_second b c d [] behind h = inl refl
first_or_second {A} b c d (a ∷ ahead) behind h =
    let f : ◌≡◌ {A = List A} (b ∷ c ∷ []) (a ∷ (ahead ++ d ∷ behind)) = h in
    let e : a ≡ b = cc in
    let r : c ∷ [] ≡ ahead ++ d ∷ behind = cc in
    inr (ap (λ (l : List A). a ∷ l) (only_step c d ahead behind r).0 ∙ ap (λ (x : A). x ∷ []) e)

pub one_two : ◌≡◌ {A = ℕ} 1 2 → ⊥
one_two e = omega arith

pub zero_one : ◌≡◌ {A = ℕ} 0 1 → ⊥
zero_one e = omega arith

pub two_five : ◌≡◌ {A = ℕ} 2 5 → ⊥
two_five e = omega arith

pub one_five : ◌≡◌ {A = ℕ} 1 5 → ⊥
one_five e = omega arith

pub nine_seven : ◌≡◌ {A = ℕ} 9 7 → ⊥
nine_seven e = omega arith

pub false_true : ◌≡◌ {A = Bool} false true → ⊥
false_true e = cc

abbrev pub first_key : List ℕ → ℕ
first_key [] = 0
first_key (k ∷ ks) = k

abbrev pub first_part : List Pending → ℕ
first_part [] = 0
first_part (e ∷ es) = e.token.sub_id

pub not_empty : (e : Pending) (es : List Pending) → [] ≡ e ∷ es → ⊥
not_empty e es h = (let f : ◌≡◌ {A = List Pending} [] (e ∷ es) = h in cc)

pub none_less : 0 < 0 → ⊥
none_less h = omega arith

-- if the key of the ring is taken
abbrev pub taking_of_a_ring : (name : Book) → Taking (with_a_source name).poll.watch.notes history_of_a_ring
taking_of_a_ring name =
    record {
      ahead = ring_before_it;
      between = Noted (Marked []) ∷ Noted (Looked true) ∷ Unseen Wakeup ∷ [];
      behind = turn_in_it;
      places = 1;
      keys = 0 ∷ [];
      is = refl;
      began = refl;
      over = refl;
    }

-- if nothing is taken
abbrev pub taking_of_nothing : (name : Book) → Taking (with_a_source name).poll.watch.notes history_of_nothing
taking_of_nothing name =
    record {
      ahead = [];
      between = Noted (Marked []) ∷ Noted (Looked false) ∷ [];
      behind = [];
      places = 0;
      keys = [];
      is = refl;
      began = refl;
      over = refl;
    }

-- or with a step after that
abbrev pub taking_before_a_clearing : (name : Book) → Taking (with_a_source name).poll.watch.notes history_with_a_clearing
taking_before_a_clearing name =
    record {
      ahead = [];
      between = Noted (Marked []) ∷ Noted (Looked false) ∷ [];
      behind = clearing_behind_it;
      places = 0;
      keys = [];
      is = refl;
      began = refl;
      over = refl;
    }
