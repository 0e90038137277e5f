use Rattle.std.proofs.Common.{◌≡◌, refl, [], ◌∷◌, None, Some, Ok, inl, inr, true, arith}
use Rattle.std.proofs.lemmas.List.Sorted.{IsPermutation-refl}
use Rattle.calloop_slots.specs.declared.list.Content.TheVariants.{Source, InTurn}
use Rattle.calloop_wake.specs.Cells.{fresh}
use Rattle.calloop_wake_laws.specs.Kinds.{APing}
use Rattle.calloop_wake_laws.specs.Wakes.{Loop, Awake, Asleep}
use Rattle.calloop_wake.specs.Watches.{with_note}
use Rattle.calloop_wake.specs.declared.notes.Note.TheVariants.{Counted, Looked, Marked}
use Rattle.calloop_sources.specs.declared.sources.source.PostAction.TheVariants.{Continue}
use Rattle.calloop_loop.specs.Rules.{Settling, Sleeping, Waiting, Gathering, Noticing, Cutting, Serving, Ending, Returning, Idling, RunningIdles, Leaving}
use Rattle.calloop_laws.specs.Wrong.{first_registration}
use Rattle.calloop_laws.specs.Examples.{with_a_source, of_a_ring, history_of_a_ring, run_of_a_ring}
use Rattle.calloop_laws.proofs.Refuting.{none_less, taking_of_a_ring}
use Rattle.calloop_laws.proofs.dispatch_of_a_ring_that_there_is.Goals as goal

pub returns-clause-dispatch : goal.returns-clause-dispatch
returns-clause-dispatch c = λ name. inr (
  Settling None [] tt,
  (1, [], [], record { same = IsPermutation-refl []; order = λ place t u first second. cc }, refl, refl),
  (tt, (tt, (tt, tt))),
  (
    Sleeping None [] tt,
    (refl, refl),
    tt,
    (
      Waiting None tt,
      (refl, refl),
      tt,
      (
        Gathering 5 [] tt,
        (Ok 5, [], tt, with_note (Looked true) (record { name = name; notes = Counted 1 ∷ Marked [] ∷ [] }), (0, tt, tt, true, [], (tt, (refl, refl), tt), refl, refl), refl, refl),
        (tt, (tt, tt)),
        (
          Noticing 0 [] tt,
          (0 ∷ [], refl, refl),
          (((omega arith, tt), omega arith), tt),
          (
            Cutting tt,
            (refl, refl),
            tt,
            (
              Serving first_registration tt (Ok Continue) tt,
              (tt, Ok Continue, [], tt, [], tt, refl, refl),
              (tt, ((record { version = 0; content = Source tt }, refl, refl), (tt, (tt, (tt, tt))))),
              (
                Ending first_registration tt (Ok Continue) tt,
                (refl, refl),
                tt,
                (
                  Returning first_registration tt (Ok tt) tt,
                  (tt, Ok tt, (refl, refl, refl), refl),
                  (tt, tt),
                  (
                    Cutting tt,
                    (refl, refl),
                    ((record { version = 0; content = InTurn }, refl, refl), tt),
                    (
                      Idling tt,
                      (refl, refl),
                      tt,
                      (
                        RunningIdles tt,
                        (refl, refl),
                        (tt, tt),
                        (
                          Leaving (Ok tt) tt,
                          (refl, refl),
                          tt,
                          refl,
                        ),
                      ),
                    ),
                  ),
                ),
              ),
            ),
          ),
        ),
      ),
    ),
  ),
)

awake : ◌≡◌ {A = Loop} Awake Asleep → ⊥
awake e = cc

pub returns-clause-history : goal.returns-clause-history
returns-clause-history c = (
  (omega arith, refl),
  (
    (tt, omega arith),
    (
      (tt, tt),
      (
        (tt, omega arith),
        (
          refl,
          (
            tt,
            (
              (refl, λ e. awake e),
              (
                (tt, omega arith),
                (
                  refl,
                  (
                    (tt, omega arith),
                    (
                      (tt, refl),
                      tt,
                    ),
                  ),
                ),
              ),
            ),
          ),
        ),
      ),
    ),
  ),
)

pub returns-clause-room : goal.returns-clause-room
returns-clause-room c = (
  (omega arith, refl),
  (
    (tt, omega arith),
    (
      (tt, tt),
      (
        (tt, omega arith),
        (
          refl,
          (
            tt,
            (
              (omega arith, refl),
              (
                (tt, omega arith),
                (
                  (tt, tt),
                  (
                    (tt, omega arith),
                    (
                      (refl, λ e. awake e),
                      (
                        refl,
                        tt,
                      ),
                    ),
                  ),
                ),
              ),
            ),
          ),
        ),
      ),
    ),
  ),
)

-- the cell was pinged then, and its key neither owed nor held
pub returns-clause-handed_out : goal.returns-clause-handed_out
returns-clause-handed_out c = λ name law.
    let s = law None tt tt (with_a_source name) (of_a_ring name) (returns-clause-dispatch c name) (λ _. APing) history_of_a_ring (returns-clause-history c) refl in
    elim ((s.served (taking_of_a_ring name)).rung tt 0 0 (refl, refl)) [
      | inl out ↦ out
      | inr (inl owed) ↦ absurd (none_less owed)
      | inr (inr held) ↦ absurd (none_less held)
    ]

pub returns-clause-rung : goal.returns-clause-rung
returns-clause-rung c = λ name law.
    law None tt tt (with_a_source name) (of_a_ring name) (returns-clause-dispatch c name) (λ _. APing) history_of_a_ring (returns-clause-history c) refl (taking_of_a_ring name) tt 0 0
    (record { ping = record fresh { rung = true; pinged = true; key = Some 0 }; is = refl; due = refl; no_turn = refl; keyed = refl; no_debt = refl; no_pass = refl })

pub returns-clause-of_a_run : goal.returns-clause-of_a_run
returns-clause-of_a_run c = λ name law.
    let each = law (run_of_a_ring name) (returns-clause-dispatch c name, refl) refl (λ _. APing) history_of_a_ring (returns-clause-history c) refl in
    ((each.0.served history_of_a_ring [] refl refl).served (taking_of_a_ring name)).handed_out 0 (0, omega arith, refl)
