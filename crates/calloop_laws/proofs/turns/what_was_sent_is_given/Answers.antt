use Rattle.std.proofs.Common.{◌≡◌, ℕ, List, [], ◌∷◌, refl, inr, true, arith}
use Rattle.calloop_wake_laws.specs.Wakes.{Loop, Awake, Asleep}
use Rattle.calloop_laws.specs.Histories.{Unseen, Noted}
use Rattle.calloop_laws.specs.Sent.{sent_before_it, read_in_it}
use Rattle.calloop_wake.specs.declared.notes.Note.TheVariants.{Looked, Marked}
use Rattle.calloop_wake_laws.specs.Wakes.{Wakeup, OpenTurn, At}
use Rattle.calloop_wake_laws.specs.Kinds.{First, Second}
use Rattle.calloop_wake_laws.specs.ChannelKind.{Pop}
use Rattle.calloop_laws.proofs.Sent.{sent_is_given}
use Rattle.calloop_laws.proofs.turns.what_was_sent_is_given.Goals as goal

pub returns-clause-given : goal.returns-clause-given
returns-clause-given c = λ born hs is. sent_is_given born hs is

awake : ◌≡◌ {A = Loop} Awake Asleep → ⊥
awake e = cc

pub returns-clause-history : goal.returns-clause-history
returns-clause-history c = (
  (omega arith, refl),
  (
    (tt, omega arith),
    (
      (tt, (refl, refl)),
      (
        (tt, omega arith),
        (
          refl,
          (
            tt,
            (
              (refl, λ e. awake e),
              (
                (tt, omega arith),
                (
                  refl,
                  (
                    (tt, omega arith),
                    (
                      (tt, (refl, omega arith)),
                      (
                        (tt, (refl, omega arith)),
                        ((tt, (refl, inr refl)), tt),
                      ),
                    ),
                  ),
                ),
              ),
            ),
          ),
        ),
      ),
    ),
  ),
)

pub returns-clause-met : goal.returns-clause-met
returns-clause-met c = (
  record {
    ahead = sent_before_it;
    between = Noted (Marked []) ∷ Noted (Looked true) ∷ Unseen Wakeup ∷ [];
    behind = read_in_it;
    places = 1;
    keys = 0 ∷ [];
    is = refl;
    began = refl;
    over = refl;
  },
  record {
    earlier = Unseen (OpenTurn 0 0) ∷ Unseen (At 0 (Second (First Pop))) ∷ [];
    later = _;
    is = refl;
    channel = _;
    there = refl;
    none = refl;
  },
  refl,
)

pub returns-clause-left_out : goal.returns-clause-left_out
returns-clause-left_out c = λ h. (let f : ◌≡◌ {A = List ℕ} [] (3 ∷ h.more) = h.is in cc)

four_three : ◌≡◌ {A = ℕ} 4 3 → ⊥
four_three e = omega arith

pub returns-clause-backwards : goal.returns-clause-backwards
returns-clause-backwards c = λ h.
    (let f : ◌≡◌ {A = List ℕ} (4 ∷ 3 ∷ []) (3 ∷ (4 ∷ h.more)) = h.is in
    let e : ◌≡◌ {A = ℕ} 4 3 = cc in
    four_three e)
