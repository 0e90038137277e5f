use Rattle.std.proofs.Common.{◌≡◌, [], ◌∷◌, refl, inl, true, false, arith}
use Rattle.calloop_wake.specs.declared.notes.Note.TheVariants.{Looked, Marked}
use Rattle.calloop_wake_laws.specs.ExecutorKind.{Pop}
use Rattle.calloop_wake_laws.specs.Kinds.{Second}
use Rattle.calloop_wake_laws.specs.Wakes.{Loop, Awake, Asleep, Wakeup, OpenTurn, At}
use Rattle.calloop_laws.specs.Histories.{Unseen, Noted}
use Rattle.calloop_laws.specs.Queued.{queued_before_it, polled_in_it}
use Rattle.calloop_laws.proofs.Queued.{queued_is_popped}
use Rattle.calloop_laws.proofs.turns.what_was_queued_is_popped.Goals as goal

pub returns-clause-popped : goal.returns-clause-popped
returns-clause-popped c = λ born hs is. queued_is_popped born hs

awake : ◌≡◌ {A = Loop} Awake Asleep → ⊥
awake e = cc

pub returns-clause-history : goal.returns-clause-history
returns-clause-history c = (
  (omega arith, refl),
  (
    (tt, omega arith),
    (
      (tt, (refl, refl)),
      (
        (tt, omega arith),
        (
          refl,
          (
            tt,
            (
              (refl, λ e. awake e),
              (
                (tt, omega arith),
                (
                  refl,
                  (
                    (tt, omega arith),
                    (
                      (tt, (refl, refl, omega arith, λ e. cc)),
                      (
                        (tt, (refl, refl, omega arith, λ e. refl)),
                        ((tt, (refl, inl refl, λ e. cc)), tt),
                      ),
                    ),
                  ),
                ),
              ),
            ),
          ),
        ),
      ),
    ),
  ),
)

pub returns-clause-met : goal.returns-clause-met
returns-clause-met c = (
  record {
    ahead = queued_before_it;
    between = Noted (Marked []) ∷ Noted (Looked true) ∷ Unseen Wakeup ∷ [];
    behind = polled_in_it;
    places = 1;
    keys = 0 ∷ [];
    is = refl;
    began = refl;
    over = refl;
  },
  record {
    earlier = Unseen (OpenTurn 0 0) ∷ Unseen (At 0 (Second (Second (Pop false)))) ∷ [];
    later = _;
    finished = true;
    is = refl;
    same_key = tt;
    executor = _;
    there = refl;
    none = refl;
  },
  refl,
)
